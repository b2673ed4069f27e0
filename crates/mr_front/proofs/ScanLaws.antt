-- Rows looked through for the first key, level by level and cost by cost.
use Rattle.std.proofs.Common.{◌≡◌, ◌≢◌, ℕ, suc, ◌+◌, ◌<◌, ◌≤◌, List, [], length, get_or, ◌⊎◌, inr, refl, sym, ◌∙◌, arith, subst, ⊎_elim}
use Rattle.std.specs.Prelude.{◌↔◌}
use Rattle.std.specs.List.{Contains}
use Rattle.std.specs.List.Sorted.{IsStrictlyIncreasing}
use Rattle.std.proofs.Math.ListN.{set}
use Rattle.std.proofs.lemmas.Bool.{cases_eq, cases_lt}
use Rattle.mr_eq.specs.Problems.{Loss}
use Rattle.mr_front.specs.Waiting.{mask_cost}
use Rattle.mr_front.specs.declared.row.Row.{Row}
use Rattle.mr_front.specs.declared.rows.Rows.{Rows}
use Rattle.mr_front.specs.PutOff.{Has, IsPutOff, IsLate}
use Rattle.mr_front.specs.Rows.{InRow, InList, StandsAt, InRows, LateIn, row_count}
use Rattle.mr_front.specs.Layers.{IsFirstLayer, IsFirstKey, HasLost}
use Rattle.mr_front.proofs.FrontierLaws.{contains-none}
use Rattle.mr_front.proofs.RowsLaws.{at-past, rows-past, rows-same, rows-only, row-cases, rows-cases, row-has, list-rows}

pub lost-none : (p : Loss) (most : ℕ) (waits : ℕ → ℕ → Type 0) → HasLost p most waits waits
lost-none p most waits = record { only = λ i u h. h; keeps = λ i u h le. h }

pub lost-more : (p : Loss) (most : ℕ) (waits middle later : ℕ → ℕ → Type 0)
    → HasLost p most waits middle → HasLost p most middle later → HasLost p most waits later
lost-more p most waits middle later a b = record {
  only = λ i u h. a.only i u (b.only i u h);
  keeps = λ i u h le. b.keeps i u (a.keeps i u h le) le;
}

-- how high levels are
pub in-level : (p : Loss) (r : Rows) (i u : ℕ) → InRows p r i u → i < row_count r
in-level p r i u h = omega (arith, rows-past p r.rows.items i u h, r.rows.ok.0)

pub late-level : (r : Rows) (k c v : ℕ) → LateIn r k c v → suc k < row_count r
late-level r k c v h = omega (arith, at-past (λ y. IsPutOff y.late.map c v) r.rows.items (suc k) h, r.rows.ok.0)

-- At this cost nothing waits below this level, and no mask is put off for a level below it. Nothing waits, and no mask
-- is put off, below this cost.
pub record IsScanned (p : Loss) (most : ℕ) (old now : Rows) (cost level : ℕ) : Type 0 where
  pub count : row_count now ≡ row_count old
  pub lost : HasLost p most (InRows p old) (InRows p now)
  pub least : (i u : ℕ) → InRows p now i u → cost ≤ mask_cost p u
  pub late : (k c v : ℕ) → LateIn now k c v → cost ≤ c
  pub least_here : (i u : ℕ) → i < level → InRows p now i u → cost < mask_cost p u
  pub late_here : (k c v : ℕ) → suc k < level → LateIn now k c v → cost < c

pub scanned-first : (p : Loss) (most : ℕ) (r : Rows) (cost : ℕ) → ((i u : ℕ) → InRows p r i u → cost ≤ mask_cost p u)
    → ((k c v : ℕ) → LateIn r k c v → cost ≤ c) → IsScanned p most r r cost 0
scanned-first p most r cost least late = record {
  count = refl;
  lost = lost-none p most (InRows p r);
  least = least;
  late = late;
  least_here = λ i u less. absurd (omega (arith, less));
  late_here = λ k c v less. absurd (omega (arith, less));
}

module _ (p : Loss) (most : ℕ) (old now later : Rows) (cost level : ℕ) (h : IsScanned p most old now cost level)
    (count : row_count later ≡ row_count now) (lost : HasLost p most (InRows p now) (InRows p later))
    (late : (k c v : ℕ) → LateIn later k c v → (cost < c) ⊎ (LateIn now k c v × (level ≡ suc k → c ≢ cost))) where
  scanned-past : (k c v : ℕ) → suc k < suc level → LateIn later k c v → cost < c
  scanned-past k c v less there = ⊎_elim
      (λ (past : cost < c). past)
      (λ (t : LateIn now k c v × (level ≡ suc k → c ≢ cost)). ⊎_elim
      (λ (same : level ≡ suc k).
      let low = h.late k c v t.0 in
      ⊎_elim (λ (e : c ≡ cost). absurd (t.1 same e)) (λ (apart : c ≢ cost). omega (arith, low, apart)) (cases_eq c cost))
      (λ (apart : level ≢ suc k). h.late_here k c v (omega (arith, less, apart)) t.0)
      (cases_eq level (suc k)))
      (late k c v there)

  scanned-late : (k c v : ℕ) → LateIn later k c v → cost ≤ c
  scanned-late k c v there = ⊎_elim (λ (past : cost < c). omega (arith, past))
      (λ (t : LateIn now k c v × (level ≡ suc k → c ≢ cost)). h.late k c v t.0) (late k c v there)

  -- where no mask of the level has the cost
  pub scanned-next : ((u : ℕ) → StandsAt p later.rows.items level u → mask_cost p u ≢ cost)
      → IsScanned p most old later cost (level + 1)
  scanned-next none = record {
    count = count ∙ h.count;
    lost = lost-more p most (InRows p old) (InRows p now) (InRows p later) h.lost lost;
    least = λ i u there. h.least i u (lost.only i u there);
    late = scanned-late;
    least_here = λ i u less there. ⊎_elim
        (λ (same : i ≡ level). ⊎_elim
        (λ (own : StandsAt p later.rows.items i u).
        let apart = none u (subst (λ j. StandsAt p later.rows.items j u) same own) in
        let low = h.least i u (lost.only i u there) in
        ⊎_elim (λ (e : mask_cost p u ≡ cost). absurd (apart e)) (λ (f : mask_cost p u ≢ cost). omega (arith, low, f))
        (cases_eq (mask_cost p u) cost))
        (λ (t : (k c v : ℕ) × (i ≡ suc k) × (c ≤ mask_cost p u) × LateIn later k c v).
        let low = scanned-past t.0 t.1 t.2 (omega (arith, t.3, same)) t.5 in omega (arith, low, t.4))
        (rows-cases p later.rows.items i u there))
        (λ (apart : i ≢ level). h.least_here i u (omega (arith, less, apart)) (lost.only i u there))
        (cases_eq i level);
    late_here = λ k c v less there. scanned-past k c v (omega (arith, less)) there;
  }

  -- where one has
  pub scanned-found : (u : ℕ) × StandsAt p later.rows.items level u × (mask_cost p u ≡ cost)
      → IsFirstKey p (InRows p later) (LateIn later) cost level
  scanned-found some = record {
    some = (some.0, list-rows p later.rows.items level some.0 some.1, some.2);
    least = λ i u there. (
      h.least i u (lost.only i u there),
      λ same. ⊎_elim
          (λ (less : i < level). let past = h.least_here i u less (lost.only i u there) in absurd (omega (arith, past, same)))
          (λ (le : level ≤ i). le) (cases_lt i level),
    );
    made = λ k c v there. (
      scanned-late k c v there,
      λ same. ⊎_elim
          (λ (less : k < level). let past = scanned-past k c v (omega (arith, less)) there in absurd (omega (arith, past, same)))
          (λ (le : level ≤ k). le) (cases_lt k level),
    );
  }

-- the empty mask joined the first row of rows in which nothing waits
pub started-rows : (p : Loss) (rs : List Row) (r later : Row) → 0 < length rs → r ≡ get_or rs 0 r → ((i u : ℕ) → InList p rs i u → ⊥)
    → ((u : ℕ) → InRow p 0 later u ↔ (InRow p 0 r u ⊎ (0 ≡ u))) → (i u : ℕ) → InList p (set rs 0 later) i u ↔ ((i ≡ 0) × (u ≡ 0))
started-rows p rs r later low is none put i u = (
  (λ h. ⊎_elim
      (λ (old : InList p rs i u). absurd (none i u old))
      (λ (new : (i ≡ 0) × (0 ≡ u)). (new.0, sym new.1))
      (rows-only p rs 0 r later low is (λ u. 0 ≡ u) (λ v there. (put v).0 there) i u h)),
  (λ t. subst (λ j. InList p (set rs 0 later) j u) (sym t.0) ((rows-same p rs 0 u later low).1 ((put u).1 (inr (sym t.1))))),
)

-- a list taken from a row in which no mask is put off to its cost
module _ (p : Loss) (cost i : ℕ) (r later : Row) (made : (k c v : ℕ) → i ≡ suc k → IsPutOff r.late.map c v → cost < c) where
  dear : (u : ℕ) → (k : ℕ) × (i ≡ suc k) × IsLate p k r.late.map u → mask_cost p u ≢ cost
  dear u t same = let low = made t.0 t.2.cost t.2.mask t.1 t.2.put_off in omega (arith, low, t.2.least, same)

  pub row-gives : (masks : List ℕ) → ((u : ℕ) → Contains masks u ↔ (Has p r.lists.map u × (mask_cost p u ≡ cost)))
      → (u : ℕ) → Contains masks u ↔ (InRow p i r u × (mask_cost p u ≡ cost))
  row-gives masks gives u = (
    (λ h. let t = (gives u).0 h in (row-has p i u r t.0, t.1)),
    (λ h. ⊎_elim
        (λ (own : Has p r.lists.map u). (gives u).1 (own, h.1))
        (λ (t : (k : ℕ) × (i ≡ suc k) × IsLate p k r.late.map u). absurd (dear u t h.1))
        (row-cases p i u r h.0)),
  )

  pub row-rest : later.late ≡ r.late → ((u : ℕ) → Has p later.lists.map u ↔ (Has p r.lists.map u × (mask_cost p u ≢ cost)))
      → (u : ℕ) → InRow p i later u ↔ (InRow p i r u × (mask_cost p u ≢ cost))
  row-rest same rest u = (
    (λ h. ⊎_elim
        (λ (own : Has p later.lists.map u). let t = (rest u).0 own in (row-has p i u r t.0, t.1))
        (λ (t : (k : ℕ) × (i ≡ suc k) × IsLate p k later.late.map u).
        let l : IsLate p t.0 r.late.map u = subst (λ vs. IsLate p t.0 vs.map u) same t.2 in
        (subst (λ j. InRow p j r u) (sym t.1) (inr l), dear u (t.0, t.1, l)))
        (row-cases p i u later h)),
    (λ h. ⊎_elim
        (λ (own : Has p r.lists.map u). row-has p i u later ((rest u).1 (own, h.1)))
        (λ (t : (k : ℕ) × (i ≡ suc k) × IsLate p k r.late.map u).
        subst (λ j. InRow p j later u) (sym t.1) (inr (subst (λ vs. IsLate p t.0 vs.map u) (sym same) t.2)))
        (row-cases p i u r h.0)),
  )

-- ---- the layer of the first key

-- no mask is put off that may have more masks of the layer
pub key-made : (p : Loss) (waits : ℕ → ℕ → Type 0) (late : ℕ → ℕ → ℕ → Type 0) (cost level : ℕ) → IsFirstKey p waits late cost level
    → (k c v : ℕ) → level ≡ suc k → late k c v → cost < c
key-made p waits late cost level first k c v same there =
    let t = first.made k c v there in
    ⊎_elim (λ (e : cost ≡ c). let le = t.1 e in absurd (omega (arith, le, same))) (λ (apart : cost ≢ c). omega (arith, t.0, apart)) (cases_eq cost c)

pub layer-of : (p : Loss) (waits : ℕ → ℕ → Type 0) (late : ℕ → ℕ → ℕ → Type 0) (cost level : ℕ) → IsFirstKey p waits late cost level
    → (empty list : List ℕ) → empty ≡ [] → ((u : ℕ) → Contains list u ↔ (Contains empty u ⊎ (waits level u × (mask_cost p u ≡ cost))))
    → (masks : List ℕ) → IsStrictlyIncreasing masks → ((u : ℕ) → Contains masks u ↔ Contains list u)
    → IsFirstLayer p waits (record { cost = cost; level = level; masks = masks })
layer-of p waits late cost level first empty list none taken masks rises same = record {
  sorted = rises;
  some = let there = (same first.some.0).1 ((taken first.some.0).1 (inr (first.some.1, first.some.2))) in omega (arith, there.1);
  masks = λ u. (
    (λ h. ⊎_elim (λ (old : Contains empty u). absurd (contains-none empty u none old)) (λ (new : waits level u × (mask_cost p u ≡ cost)). new) ((taken u).0 ((same u).0 h))),
    (λ h. (same u).1 ((taken u).1 (inr h))),
  );
  least = first.least;
}
