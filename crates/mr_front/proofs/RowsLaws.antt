-- The rows of a worker: one of them read or changed.
use Rattle.std.proofs.Common.{◌≡◌, ◌≢◌, ℕ, zero, suc, ◌+◌, ◌<◌, ◌≤◌, List, [], ◌∷◌, ◌++◌, length, get_or, ◌⊎◌, inl, inr, refl, sym, ◌∙◌, arith, ap, subst, ⊎_elim, add-one, Result, Ok, Err}
use Rattle.std.specs.Prelude.{◌↔◌, OnOk}
use Rattle.std.proofs.Math.ListN.{set}
use Rattle.std.proofs.lemmas.Bool.{cases_eq}
use Rattle.mr_eq.specs.Problems.{Loss}
use Rattle.mr_front.specs.Waiting.{mask_cost}
use Rattle.mr_front.specs.declared.row.Row.{Row}
use Rattle.mr_front.specs.PutOff.{Has, IsPutOff, IsLate}
use Rattle.mr_front.specs.Rows.{AtRow, InNext, InRow, InList, StandsAt, LateAt}

pub on_ok-map : {T E : Type 0} (r : Result T E) (P Q : Type 0) → (P → Q) → OnOk r P → OnOk r Q
on_ok-map (Ok x) P Q f h = f h
on_ok-map (Err e) P Q f h = tt

pub on_ok-both : {T E : Type 0} (r : Result T E) (P Q S : Type 0) → (P → Q → S) → OnOk r P → OnOk r Q → OnOk r S
on_ok-both (Ok x) P Q S f h k = f h k
on_ok-both (Err e) P Q S f h k = tt

pub on_ok-all : {T E : Type 0} (r : Result T E) (P Q R S : Type 0) → (P → Q → R → S) → OnOk r P → OnOk r Q → OnOk r R → OnOk r S
on_ok-all (Ok x) P Q R S f a b d = f a b d
on_ok-all (Err e) P Q R S f a b d = tt

-- ---- any property of a row

pub at-read : (Q : Row → Type 0) (rs : List Row) (k : ℕ) (r : Row) → k < length rs → r ≡ get_or rs k r → AtRow Q rs k ↔ Q r
unfolding AtRow
at-read Q [] k r low is = absurd (omega arith)
at-read Q (x ∷ rs) zero r low is = ((λ h. subst Q (sym is) h), (λ h. subst Q is h))
at-read Q (x ∷ rs) (suc k) r low is = at-read Q rs k r (omega (arith, low)) is

pub at-same : (Q : Row → Type 0) (rs : List Row) (k : ℕ) (r : Row) → k < length rs → AtRow Q (set rs k r) k ↔ Q r
unfolding AtRow
at-same Q [] k r low = absurd (omega arith)
at-same Q (x ∷ rs) zero r low = ((λ h. h), (λ h. h))
at-same Q (x ∷ rs) (suc k) r low = at-same Q rs k r (omega (arith, low))

pub at-other : (Q : Row → Type 0) (rs : List Row) (k i : ℕ) (r : Row) → i ≢ k → AtRow Q (set rs k r) i ↔ AtRow Q rs i
unfolding AtRow
at-other Q [] k i r apart = ((λ h. h), (λ h. h))
at-other Q (x ∷ rs) zero zero r apart = absurd (apart refl)
at-other Q (x ∷ rs) zero (suc i) r apart = ((λ h. h), (λ h. h))
at-other Q (x ∷ rs) (suc k) zero r apart = ((λ h. h), (λ h. h))
at-other Q (x ∷ rs) (suc k) (suc i) r apart = at-other Q rs k i r (λ e. apart (ap suc e))

pub at-past : (Q : Row → Type 0) (rs : List Row) (i : ℕ) → AtRow Q rs i → i < length rs
unfolding AtRow
at-past Q [] i h = absurd h
at-past Q (x ∷ rs) zero h = omega arith
at-past Q (x ∷ rs) (suc i) h = omega (arith, at-past Q rs i h)

pub at-map : (P Q : Row → Type 0) → ((r : Row) → P r → Q r) → (rs : List Row) (i : ℕ) → AtRow P rs i → AtRow Q rs i
unfolding AtRow
at-map P Q f [] i h = h
at-map P Q f (x ∷ rs) zero h = f x h
at-map P Q f (x ∷ rs) (suc i) h = at-map P Q f rs i h

pub at-split : (P Q S : Row → Type 0) → ((r : Row) → P r → Q r ⊎ S r) → (rs : List Row) (i : ℕ) → AtRow P rs i → AtRow Q rs i ⊎ AtRow S rs i
unfolding AtRow
at-split P Q S f [] i h = absurd h
at-split P Q S f (x ∷ rs) zero h = f x h
at-split P Q S f (x ∷ rs) (suc i) h = at-split P Q S f rs i h

pub at-push : (Q : Row → Type 0) (rs : List Row) (r : Row) (i : ℕ) → AtRow Q (rs ++ r ∷ []) i → AtRow Q rs i ⊎ Q r
unfolding AtRow
at-push Q [] r zero h = inr h
at-push Q [] r (suc i) h = absurd h
at-push Q (x ∷ rs) r zero h = inl h
at-push Q (x ∷ rs) r (suc i) h = at-push Q rs r i h

-- ---- what waits in a row

pub rows-read : (p : Loss) (rs : List Row) (k u : ℕ) (r : Row) → k < length rs → r ≡ get_or rs k r → InList p rs k u ↔ InRow p k r u
rows-read p rs k u r low is = at-read (λ y. InRow p k y u) rs k r low is

pub rows-same : (p : Loss) (rs : List Row) (k u : ℕ) (r : Row) → k < length rs → InList p (set rs k r) k u ↔ InRow p k r u
rows-same p rs k u r low = at-same (λ y. InRow p k y u) rs k r low

pub rows-other : (p : Loss) (rs : List Row) (k i u : ℕ) (r : Row) → i ≢ k → InList p (set rs k r) i u ↔ InList p rs i u
rows-other p rs k i u r apart = at-other (λ y. InRow p i y u) rs k i r apart

pub rows-past : (p : Loss) (rs : List Row) (i u : ℕ) → InList p rs i u → i < length rs
rows-past p rs i u h = at-past (λ y. InRow p i y u) rs i h

-- the row above a level
pub row-next : (p : Loss) (k i u : ℕ) (r : Row) → i ≡ k + 1 → InRow p i r u ↔ InNext p k r u
row-next p k i u r e =
    let same : i ≡ suc k = e ∙ add-one k in
    ((λ h. subst (λ j. InRow p j r u) same h), (λ h. subst (λ j. InRow p j r u) (sym same) h))

-- a mask of a row waits in it
pub row-has : (p : Loss) (i u : ℕ) (r : Row) → Has p r.lists.map u → InRow p i r u
row-has p zero u r h = h
row-has p (suc k) u r h = inl h

-- what waits in a row is a mask of it, or waits with a mask that was put off
pub row-cases : (p : Loss) (i u : ℕ) (r : Row) → InRow p i r u → Has p r.lists.map u ⊎ ((k : ℕ) × (i ≡ suc k) × IsLate p k r.late.map u)
row-cases p zero u r h = inl h
row-cases p (suc k) u r h = ⊎_elim (λ (own : Has p r.lists.map u). inl own) (λ (l : IsLate p k r.late.map u). inr (k, refl, l)) h

-- no mask is in the rows
abbrev pub RowsNone : List Row → Type 0
RowsNone rs = (p : Loss) (i u : ℕ) → InList p rs i u → ⊥

pub rows-first : RowsNone []
unfolding AtRow
rows-first p i u h = h

pub rows-more : (rs : List Row) (r : Row) → RowsNone rs → ((q : Loss) (u : ℕ) → Has q r.lists.map u → ⊥) → ((c v : ℕ) → IsPutOff r.late.map c v → ⊥) → RowsNone (rs ++ r ∷ [])
rows-more rs r none new late p i u h = ⊎_elim
    (λ (old : InList p rs i u). none p i u old)
    (λ (own : InRow p i r u). ⊎_elim (λ (there : Has p r.lists.map u). new p u there) (λ (t : (k : ℕ) × (i ≡ suc k) × IsLate p k r.late.map u). late t.2.cost t.2.mask t.2.put_off) (row-cases p i u r own))
    (at-push (λ y. InRow p i y u) rs r i h)

module _ (p : Loss) (rs : List Row) (k : ℕ) (r later : Row) (low : k < length rs) (is : r ≡ get_or rs k r) where
  pub rows-stays : ((u : ℕ) → InRow p k r u → InRow p k later u) → (i u : ℕ) → InList p rs i u → InList p (set rs k later) i u
  rows-stays more i u h = ⊎_elim
      (λ (same : i ≡ k). subst (λ j. InList p (set rs k later) j u) (sym same) ((rows-same p rs k u later low).1 (more u ((rows-read p rs k u r low is).0 (subst (λ j. InList p rs j u) same h)))))
      (λ (apart : i ≢ k). (rows-other p rs k i u later apart).1 h)
      (cases_eq i k)

  -- what waits within a bound stays
  pub rows-keeps : (most : ℕ) → ((u : ℕ) → InRow p k r u → mask_cost p u ≤ most → InRow p k later u) → (i u : ℕ) → InList p rs i u → mask_cost p u ≤ most → InList p (set rs k later) i u
  rows-keeps most more i u h le = ⊎_elim
      (λ (same : i ≡ k). subst (λ j. InList p (set rs k later) j u) (sym same) ((rows-same p rs k u later low).1 (more u ((rows-read p rs k u r low is).0 (subst (λ j. InList p rs j u) same h)) le)))
      (λ (apart : i ≢ k). (rows-other p rs k i u later apart).1 h)
      (cases_eq i k)

  pub rows-only : (P : ℕ → Type 0) → ((u : ℕ) → InRow p k later u → InRow p k r u ⊎ P u) → (i u : ℕ) → InList p (set rs k later) i u → InList p rs i u ⊎ ((i ≡ k) × P u)
  rows-only P back i u h = ⊎_elim
      (λ (same : i ≡ k). ⊎_elim
      (λ (old : InRow p k r u). inl (subst (λ j. InList p rs j u) (sym same) ((rows-read p rs k u r low is).1 old)))
      (λ (new : P u). inr (same, new))
      (back u ((rows-same p rs k u later low).0 (subst (λ j. InList p (set rs k later) j u) same h))))
      (λ (apart : i ≢ k). inl ((rows-other p rs k i u later apart).0 h))
      (cases_eq i k)

  -- a row that lost what passes, the others as they were
  pub rows-less : (P : ℕ → Type 0) → ((u : ℕ) → InRow p k later u ↔ (InRow p k r u × P u)) → (i u : ℕ) → InList p (set rs k later) i u ↔ (InList p rs i u × (i ≡ k → P u))
  rows-less P rest i u = ⊎_elim
      (λ (same : i ≡ k). (
        (λ h. let t = (rest u).0 ((rows-same p rs k u later low).0 (subst (λ j. InList p (set rs k later) j u) same h)) in
            (subst (λ j. InList p rs j u) (sym same) ((rows-read p rs k u r low is).1 t.0), λ _. t.1)),
        (λ h. subst (λ j. InList p (set rs k later) j u) (sym same) ((rows-same p rs k u later low).1 ((rest u).1 ((rows-read p rs k u r low is).0 (subst (λ j. InList p rs j u) same h.0), h.1 same)))),
      ))
      (λ (apart : i ≢ k). (
        (λ h. ((rows-other p rs k i u later apart).0 h, λ same. absurd (apart same))),
        (λ h. (rows-other p rs k i u later apart).1 h.0),
      ))
      (cases_eq i k)

split-rows : (p : Loss) (rs : List Row) (i j u : ℕ) → AtRow (λ r. InRow p i r u) rs j
    → AtRow (λ r. Has p r.lists.map u) rs j ⊎ ((k c v : ℕ) × (i ≡ suc k) × (c ≤ mask_cost p u) × AtRow (λ r. IsPutOff r.late.map c v) rs j)
unfolding AtRow
split-rows p [] i j u h = absurd h
split-rows p (x ∷ rs) i zero u h = ⊎_elim (λ (own : Has p x.lists.map u). inl own)
    (λ (t : (k : ℕ) × (i ≡ suc k) × IsLate p k x.late.map u). inr (t.0, t.2.cost, t.2.mask, t.1, t.2.least, t.2.put_off)) (row-cases p i u x h)
split-rows p (x ∷ rs) i (suc j) u h = split-rows p rs i j u h

-- what waits in rows is a mask of them, or waits with a mask that was put off
pub rows-cases : (p : Loss) (rs : List Row) (i u : ℕ) → InList p rs i u
    → StandsAt p rs i u ⊎ ((k c v : ℕ) × (i ≡ suc k) × (c ≤ mask_cost p u) × LateAt rs k c v)
rows-cases p rs i u h = ⊎_elim
    (λ (own : StandsAt p rs i u). inl own)
    (λ (t : (k c v : ℕ) × (i ≡ suc k) × (c ≤ mask_cost p u) × AtRow (λ r. IsPutOff r.late.map c v) rs i).
    inr (t.0, t.1, t.2, t.3, t.4, subst (λ j. AtRow (λ r. IsPutOff r.late.map t.1 t.2) rs j) t.3 t.5))
    (split-rows p rs i i u h)

pub list-rows : (p : Loss) (rs : List Row) (i u : ℕ) → StandsAt p rs i u → InList p rs i u
list-rows p rs i u h = at-map (λ r. Has p r.lists.map u) (λ r. InRow p i r u) (λ r own. row-has p i u r own) rs i h
