-- The children of a mask join lists by cost, one after another, and masks that were put off are taken again.
use Rattle.std.proofs.Common.{◌≡◌, ◌≢◌, ℕ, ◌+◌, ◌<◌, ◌≤◌, List, [], ◌∷◌, ◌++◌, length, get_or, take, map, min, ◌⊎◌, inl, inr, refl, sym, ◌∙◌, arith, ap, subst, ⊎_elim, add-one}
use Rattle.std.specs.Prelude.{◌↔◌, bit_or, nat_le, slice_index}
use Rattle.std.specs.List.{Contains}
use Rattle.std.proofs.Math.Seq.{take-suc}
use Rattle.std.proofs.lemmas.Bool.{cases_lt, cases_eq, le-leb, leb-true}
use Rattle.std.proofs.lemmas.List.{length_push, get_or_default}
use Rattle.std.proofs.lemmas.List.Elements.{Contains-append_left, Contains-push, Contains-push_cases}
use Rattle.mr_eq.specs.Problems.{Loss}
use Rattle.mr_eq.specs.Equations.{equations_at}
use Rattle.mr_front.specs.Waiting.{mask_cost}
use Rattle.mr_front.specs.declared.layers.Layer.{Layer}
use Rattle.mr_front.specs.Layers.{IsSomeChild, HasJoined}
use Rattle.mr_front.specs.Children.{unions_of, children_of, children}
use Rattle.mr_front.proofs.ChildLaws.{map-append, kept_unions, unions-keep, unions-drop}
use Rattle.mr_front.proofs.FrontierLaws.{contains-filter, filter-contains, contains-flat_map, flat_map-contains}
use Rattle.mr_front.specs.CostLists.{CostMap}
use Rattle.mr_front.specs.PutOff.{Has, IsPutOff, IsLate, Holds}

-- The unions of v with the first i equations joined, those that cost `from` to `most`, and at most `reach`. There are so many
-- that cost `from` to `most`, and the least cost known is that of one of them or `most`. Those that cost more than `reach` cost
-- at least `above`.
pub record IsJoined (p : Loss) (old now : CostMap) (v from reach most : ℕ) (es : List ℕ) (i children least above : ℕ) : Type 0 where
  pub row : (u : ℕ) → Has p now u ↔ (Has p old u ⊎ (Contains (map (bit_or v) (take i es)) u × (from ≤ mask_cost p u) × (mask_cost p u ≤ reach) × (mask_cost p u ≤ most)))
  pub count : from ≡ 0 → children ≡ length (kept_unions p v most (take i es))
  pub few : children ≤ i
  pub cheap : (least ≡ most) ⊎ ((u : ℕ) × Contains (map (bit_or v) (take i es)) u × (mask_cost p u ≡ least))
  pub later : (u : ℕ) → Contains (map (bit_or v) (take i es)) u → from ≤ mask_cost p u → mask_cost p u ≤ most → reach < mask_cost p u → (above ≤ mask_cost p u) × (above < 131072)
  pub past : (above ≡ 131072) ⊎ ((reach < above) × (from ≤ above))

pub join-first : (p : Loss) (vs : CostMap) (v from reach most : ℕ) (es : List ℕ) → IsJoined p vs vs v from reach most es 0 0 most 131072
join-first p vs v from reach most es = record {
  row = λ u. ((λ h. inl h), (λ h. ⊎_elim (λ (old : Has p vs u). old) (λ (new : Contains (map (bit_or v) (take 0 es)) u × (from ≤ mask_cost p u) × (mask_cost p u ≤ reach) × (mask_cost p u ≤ most)). absurd (none u new.0)) h));
  count = λ _. refl;
  few = omega arith;
  cheap = inl refl;
  later = λ u h. absurd (none u h);
  past = inl refl;
}
  where
    none : (u : ℕ) → Contains (map (bit_or v) (take 0 es)) u → ⊥
    none u h = omega (arith, h.1)

module _ (p : Loss) (old now : CostMap) (v from reach most : ℕ) (es : List ℕ) (i children least above : ℕ) (h : IsJoined p old now v from reach most es i children least above)
    (x : ℕ) (low : i < length es) (item : x ≡ get_or es i 0) (u cost : ℕ) (is : u ≡ bit_or v x) (price : cost ≡ mask_cost p u) where
  abbrev us : List ℕ
  us = map (bit_or v) (take i es)

  abbrev next : List ℕ
  next = map (bit_or v) (take (i + 1) es)

  more : next ≡ us ++ u ∷ []
  more = ap (map (bit_or v)) (ap (λ n. take n es) (add-one i) ∙ take-suc es i 0 low ∙ ap (λ y. take i es ++ y ∷ []) (sym item))
      ∙ map-append (bit_or v) (take i es) (x ∷ []) ∙ ap (λ y. us ++ y ∷ []) (sym is)

  before : (y : ℕ) → Contains us y → Contains next y
  before y there = subst (λ (vs : List ℕ). Contains vs y) (sym more) (Contains-append_left us (u ∷ []) y there)

  own : Contains next u
  own = subst (λ (vs : List ℕ). Contains vs u) (sym more) (Contains-push us u)

  cases : (y : ℕ) → Contains next y → Contains us y ⊎ (u ≡ y)
  cases y there = Contains-push_cases us u y (subst (λ (vs : List ℕ). Contains vs y) more there)

  cost-at : (y : ℕ) → u ≡ y → mask_cost p y ≡ cost
  cost-at y same = sym (price ∙ ap (mask_cost p) same)

  pub join-keep : (later : CostMap) (new a : ℕ) → from ≤ cost → cost ≤ most → cost < 131072 → new ≡ min least cost
      → ((y : ℕ) → Has p later y ↔ (Has p now y ⊎ ((u ≡ y) × (cost ≤ reach))))
      → (a ≤ above) × (reach < cost → a ≤ cost) × ((a ≡ above) ⊎ ((a ≡ cost) × (reach < cost)))
      → IsJoined p old later v from reach most es (i + 1) (children + 1) new a
  join-keep later new a high few short less put rises =
      let cheap : mask_cost p (bit_or v x) ≤ most = subst (λ y. mask_cost p y ≤ most) is (omega (arith, price, few)) in
      let kept = kept_unions p v most (take i es) in
      let grown : kept ++ u ∷ [] ≡ kept_unions p v most (take (i + 1) es) = ap (λ y. kept ++ y ∷ []) is ∙ unions-keep p v most es [] kept i x low item refl (i + 1) (add-one i) cheap in
      record {
        row = λ y. (
          (λ there. ⊎_elim
              (λ (mid : Has p now y). ⊎_elim (λ (first : Has p old y). inl first)
              (λ (t : Contains us y × (from ≤ mask_cost p y) × (mask_cost p y ≤ reach) × (mask_cost p y ≤ most)). inr (before y t.0, t.1, t.2, t.3)) ((h.row y).0 mid))
              (λ (t : (u ≡ y) × (cost ≤ reach)). inr (subst (λ z. Contains next z) t.0 own, omega (arith, cost-at y t.0, high), omega (arith, cost-at y t.0, t.1), omega (arith, cost-at y t.0, few)))
              ((put y).0 there)),
          (λ there. (put y).1 (⊎_elim
              (λ (first : Has p old y). inl ((h.row y).1 (inl first)))
              (λ (t : Contains next y × (from ≤ mask_cost p y) × (mask_cost p y ≤ reach) × (mask_cost p y ≤ most)). ⊎_elim
              (λ (mid : Contains us y). inl ((h.row y).1 (inr (mid, t.1, t.2, t.3))))
              (λ (same : u ≡ y). inr (same, omega (arith, cost-at y same, t.2)))
              (cases y t.0))
              there)),
        );
        count = λ e. ap (λ n. n + 1) (h.count e) ∙ sym (length_push kept u) ∙ ap length grown;
        few = omega (arith, h.few);
        cheap = ⊎_elim
            (λ (lower : cost < least). inr (u, own, omega (arith, price, less, lower)))
            (λ (higher : least ≤ cost). ⊎_elim
            (λ (none : least ≡ most). inl (omega (arith, less, higher, none)))
            (λ (some : (y : ℕ) × Contains us y × (mask_cost p y ≡ least)). inr (some.0, before some.0 some.1, omega (arith, some.2, less, higher)))
            h.cheap)
            (cases_lt cost least);
        later = λ y there ge le far. ⊎_elim
            (λ (mid : Contains us y). let t = h.later y mid ge le far in (omega (arith, t.0, rises.0), omega (arith, t.1, rises.0)))
            (λ (same : u ≡ y). let t = rises.1 (omega (arith, cost-at y same, far)) in (omega (arith, t, cost-at y same), omega (arith, t, short)))
            (cases y there);
        past = ⊎_elim
            (λ (same : a ≡ above). ⊎_elim (λ (none : above ≡ 131072). inl (same ∙ none)) (λ (t : (reach < above) × (from ≤ above)). inr (omega (arith, same, t.0), omega (arith, same, t.1))) h.past)
            (λ (t : (a ≡ cost) × (reach < cost)). inr (omega (arith, t.0, t.1), omega (arith, t.0, high)))
            rises.2;
      }

  pub join-drop : (cost < from) ⊎ (most < cost) → IsJoined p old now v from reach most es (i + 1) children least above
  join-drop out = record {
    row = λ y. (
      (λ there. ⊎_elim (λ (first : Has p old y). inl first)
          (λ (t : Contains us y × (from ≤ mask_cost p y) × (mask_cost p y ≤ reach) × (mask_cost p y ≤ most)). inr (before y t.0, t.1, t.2, t.3)) ((h.row y).0 there)),
      (λ there. (h.row y).1 (⊎_elim
          (λ (first : Has p old y). inl first)
          (λ (t : Contains next y × (from ≤ mask_cost p y) × (mask_cost p y ≤ reach) × (mask_cost p y ≤ most)). ⊎_elim
          (λ (mid : Contains us y). inr (mid, t.1, t.2, t.3))
          (λ (same : u ≡ y). absurd (omega (arith, out, cost-at y same, t.1, t.3)))
          (cases y t.0))
          there)),
    );
    count = λ e.
        let dear : most < mask_cost p (bit_or v x) = subst (λ y. most < mask_cost p y) is (omega (arith, price, out, e)) in
        h.count e ∙ ap length (unions-drop p v most es [] (kept_unions p v most (take i es)) i x low item refl (i + 1) (add-one i) dear);
    few = omega (arith, h.few);
    cheap = ⊎_elim (λ (none : least ≡ most). inl none) (λ (some : (y : ℕ) × Contains us y × (mask_cost p y ≡ least)). inr (some.0, before some.0 some.1, some.2)) h.cheap;
    later = λ y there ge le far. ⊎_elim
        (λ (mid : Contains us y). h.later y mid ge le far)
        (λ (same : u ≡ y). absurd (omega (arith, out, cost-at y same, ge, le)))
        (cases y there);
    past = h.past;
  }

-- what joined once all unions were seen, and the mask was put off at `above`
module _ (p : Loss) (level v from reach most i children least above : ℕ) (lists now late later : CostMap)
    (h : IsJoined p lists now v from reach most (equations_at p level) i children least above) (all : take i (equations_at p level) ≡ equations_at p level)
    (put : (m x : ℕ) → IsPutOff later m x ↔ (IsPutOff late m x ⊎ ((m ≡ above) × (above < 131072) × (v ≡ x)))) where
  whole : (u : ℕ) → Contains (unions_of p level v) u → Contains (map (bit_or v) (take i (equations_at p level))) u
  whole u there = subst (λ (es : List ℕ). Contains (map (bit_or v) es) u) (sym all) there

  part : (u : ℕ) → Contains (map (bit_or v) (take i (equations_at p level))) u → Contains (unions_of p level v) u
  part u there = subst (λ (es : List ℕ). Contains (map (bit_or v) es) u) all there

  pub joined-stays : (u : ℕ) → Holds p level lists late u → Holds p level now later u
  joined-stays u there = ⊎_elim
      (λ (first : Has p lists u). inl ((h.row u).1 (inl first)))
      (λ (l : IsLate p level late u). inr (record { cost = l.cost; mask = l.mask; put_off = (put l.cost l.mask).1 (inl l.put_off); least = l.least; union = l.union }))
      there

  pub joined-only : (u : ℕ) → Holds p level now later u → Holds p level lists late u ⊎ (Contains (unions_of p level v) u × (from ≤ mask_cost p u))
  joined-only u there = ⊎_elim
      (λ (mid : Has p now u). ⊎_elim (λ (first : Has p lists u). inl (inl first))
      (λ (t : Contains (map (bit_or v) (take i (equations_at p level))) u × (from ≤ mask_cost p u) × (mask_cost p u ≤ reach) × (mask_cost p u ≤ most)). inr (part u t.0, t.1))
      ((h.row u).0 mid))
      (λ (l : IsLate p level later u). ⊎_elim
      (λ (old : IsPutOff late l.cost l.mask). inl (inr (record { cost = l.cost; mask = l.mask; put_off = old; least = l.least; union = l.union })))
      (λ (t : (l.cost ≡ above) × (above < 131072) × (v ≡ l.mask)). inr (subst (λ (w : ℕ). Contains (unions_of p level w) u) (sym t.2) l.union, omega (arith, h.past, t.0, t.1, l.least)))
      ((put l.cost l.mask).0 l.put_off))
      there

  pub joined-joins : (u : ℕ) → Contains (unions_of p level v) u → from ≤ mask_cost p u → mask_cost p u ≤ most → Holds p level now later u
  joined-joins u there ge le = ⊎_elim
      (λ (far : reach < mask_cost p u).
      let t = h.later u (whole u there) ge le far in
      inr (record { cost = above; mask = v; put_off = (put above v).1 (inr (refl, t.1, refl)); least = t.0; union = there }))
      (λ (near : mask_cost p u ≤ reach). inl ((h.row u).1 (inr (whole u there, ge, near, le))))
      (cases_lt reach (mask_cost p u))

  pub joined-late : (m x : ℕ) → IsPutOff later m x → IsPutOff late m x ⊎ (reach < m)
  joined-late m x there = ⊎_elim
      (λ (old : IsPutOff late m x). inl old)
      (λ (t : (m ≡ above) × (above < 131072) × (v ≡ x)). inr (omega (arith, h.past, t.0, t.1)))
      ((put m x).0 there)

  pub joined-count : from ≡ 0 → children ≡ length (children_of p level most v)
  joined-count e = h.count e ∙ ap (λ (es : List ℕ). length (kept_unions p v most es)) all

  pub joined-least : (least ≡ most) ⊎ ((u : ℕ) × Contains (unions_of p level v) u × (mask_cost p u ≡ least))
  joined-least = subst (λ (es : List ℕ). (least ≡ most) ⊎ ((u : ℕ) × Contains (map (bit_or v) es) u × (mask_cost p u ≡ least))) all h.cheap

-- ---- masks that were put off

-- Of the masks that were put off at a cost, the first `place` were taken again.
pub record IsRecalling (p : Loss) (level : ℕ) (lists0 late0 lists late : CostMap) (masks : List ℕ) (cost most place : ℕ) : Type 0 where
  pub each : (v : ℕ) → Contains masks v → IsPutOff late0 cost v
  pub only : (u : ℕ) → Holds p level lists late u → Holds p level lists0 late0 u
  pub keeps : (u : ℕ) → Holds p level lists0 late0 u → mask_cost p u ≤ most
      → Holds p level lists late u ⊎ ((n : ℕ) × (place ≤ n) × (n < length masks) × Contains (unions_of p level (get_or masks n 0)) u × (cost ≤ mask_cost p u))
  pub puts : (m v : ℕ) → IsPutOff late m v → (cost < m) ⊎ (IsPutOff late0 m v × (m ≢ cost))

pub recalling-first : (p : Loss) (level : ℕ) (lists late0 late : CostMap) (masks : List ℕ) (cost most : ℕ)
    → ((v : ℕ) → Contains masks v ↔ IsPutOff late0 cost v) → ((m v : ℕ) → IsPutOff late m v ↔ (IsPutOff late0 m v × (m ≢ cost)))
    → IsRecalling p level lists late0 lists late masks cost most 0
recalling-first p level lists late0 late masks cost most taken rest = record {
  each = λ v there. (taken v).0 there;
  only = λ u there. ⊎_elim (λ (first : Has p lists u). inl first)
      (λ (l : IsLate p level late u). inr (record { cost = l.cost; mask = l.mask; put_off = ((rest l.cost l.mask).0 l.put_off).0; least = l.least; union = l.union })) there;
  keeps = λ u there le. ⊎_elim (λ (first : Has p lists u). inl (inl first))
      (λ (l : IsLate p level late0 u). ⊎_elim
      (λ (same : l.cost ≡ cost).
      let h = (taken l.mask).1 (subst (λ m. IsPutOff late0 m l.mask) same l.put_off) in
      inr (h.0, omega arith, h.1, subst (λ (w : ℕ). Contains (unions_of p level w) u) (sym (get_or_default masks h.0 0 l.mask h.1 ∙ h.2)) l.union, omega (arith, same, l.least)))
      (λ (apart : l.cost ≢ cost). inl (inr (record { cost = l.cost; mask = l.mask; put_off = (rest l.cost l.mask).1 (l.put_off, apart); least = l.least; union = l.union })))
      (cases_eq l.cost cost))
      there;
  puts = λ m v there. inr ((rest m v).0 there);
}

module _ (p : Loss) (level : ℕ) (lists0 late0 lists late : CostMap) (masks : List ℕ) (cost most place : ℕ) (h : IsRecalling p level lists0 late0 lists late masks cost most place) where
  pub recalling-next : (now later : CostMap) (x reach : ℕ) → place < length masks → x ≡ get_or masks place x → cost ≤ reach
      → ((u : ℕ) → Holds p level lists late u → Holds p level now later u)
      → ((u : ℕ) → Holds p level now later u → Holds p level lists late u ⊎ (Contains (unions_of p level x) u × (cost ≤ mask_cost p u)))
      → ((u : ℕ) → Contains (unions_of p level x) u → cost ≤ mask_cost p u → mask_cost p u ≤ most → Holds p level now later u)
      → ((m v : ℕ) → IsPutOff later m v → IsPutOff late m v ⊎ (reach < m))
      → IsRecalling p level lists0 late0 now later masks cost most (place + 1)
  recalling-next now later x reach low is far stays only joins put = record {
    each = h.each;
    only = λ u there. ⊎_elim (λ (mid : Holds p level lists late u). h.only u mid)
        (λ (t : Contains (unions_of p level x) u × (cost ≤ mask_cost p u)). inr (record { cost = cost; mask = x; put_off = h.each x (place, low, sym is); least = t.1; union = t.0 }))
        (only u there);
    keeps = λ u there le. ⊎_elim (λ (mid : Holds p level lists late u). inl (stays u mid))
        (λ (t : (n : ℕ) × (place ≤ n) × (n < length masks) × Contains (unions_of p level (get_or masks n 0)) u × (cost ≤ mask_cost p u)). ⊎_elim
        (λ (same : t.0 ≡ place).
        let mask : get_or masks t.0 0 ≡ x = ap (λ n. get_or masks n 0) same ∙ get_or_default masks place 0 x low ∙ sym is in
        inl (joins u (subst (λ (w : ℕ). Contains (unions_of p level w) u) mask t.3) t.4 le))
        (λ (apart : t.0 ≢ place). inr (t.0, omega (arith, t.1, apart), t.2, t.3, t.4))
        (cases_eq t.0 place))
        (h.keeps u there le);
    puts = λ m v there. ⊎_elim (λ (mid : IsPutOff late m v). h.puts m v mid) (λ (past : reach < m). inl (omega (arith, past, far))) (put m v there);
  }

  pub recalling-all : length masks ≤ place → (u : ℕ) → Holds p level lists0 late0 u → mask_cost p u ≤ most → Holds p level lists late u
  recalling-all «end» u there le = ⊎_elim (λ (mid : Holds p level lists late u). mid)
      (λ (t : (n : ℕ) × (place ≤ n) × (n < length masks) × Contains (unions_of p level (get_or masks n 0)) u × (cost ≤ mask_cost p u)). absurd (omega (arith, t.1, t.2, «end»)))
      (h.keeps u there le)

-- a union is a child within its own cost
pub union-child : (p : Loss) (level v u : ℕ) → Contains (unions_of p level v) u → Contains (children_of p level (mask_cost p u) v) u
union-child p level v u there = contains-filter (λ w. nat_le (mask_cost p w) (mask_cost p u)) (unions_of p level v) u (le-leb (mask_cost p u) (mask_cost p u) (omega arith)) there

-- a child within a bound is one within a greater bound
pub child-more : (p : Loss) (level a b v u : ℕ) → a ≤ b → Contains (children_of p level a v) u → Contains (children_of p level b v) u
child-more p level a b v u le h =
    let t = filter-contains (λ w. nat_le (mask_cost p w) a) (unions_of p level v) u h in
    contains-filter (λ w. nat_le (mask_cost p w) b) (unions_of p level v) u (le-leb (mask_cost p u) b (omega (arith, leb-true (mask_cost p u) a t.1, le))) t.0

-- a child is a union within the bound
pub child-union : (p : Loss) (level most v u : ℕ) → Contains (children_of p level most v) u → Contains (unions_of p level v) u
child-union p level most v u there = (filter-contains (λ w. nat_le (mask_cost p w) most) (unions_of p level v) u there).0

pub child-least : (p : Loss) (level most v u : ℕ) → Contains (children_of p level most v) u → mask_cost p u ≤ most
child-least p level most v u there = leb-true (mask_cost p u) most (filter-contains (λ w. nat_le (mask_cost p w) most) (unions_of p level v) u there).1

-- ---- the masks of a layer, one after another

pub mask-there : (xs : List ℕ) (n : ℕ) → n < length xs → Contains xs (slice_index xs n)
mask-there xs n low = (n, low, get_or_default xs n (get_or xs n 0) 0 low)

-- a child of the mask at a place
pub child-some : (p : Loss) (l : Layer) (most n u : ℕ) → n < length l.masks → Contains (children_of p l.level most (slice_index l.masks n)) u → IsSomeChild p l u
child-some p l most n u low h = (most, contains-flat_map (children_of p l.level most) l.masks (slice_index l.masks n) u (mask-there l.masks n low) h)

-- a union with the mask at a place
pub union-some : (p : Loss) (l : Layer) (n u : ℕ) → n < length l.masks → Contains (unions_of p l.level (slice_index l.masks n)) u → IsSomeChild p l u
union-some p l n u low h = child-some p l (mask_cost p u) n u low (union-child p l.level (slice_index l.masks n) u h)

-- a child of the layer is one of the mask at a place
pub child-place : (p : Loss) (l : Layer) (most u : ℕ) → Contains (children p l.level most l.masks) u
    → (n : ℕ) × (n < length l.masks) × Contains (children_of p l.level most (slice_index l.masks n)) u
child-place p l most u child =
    let t = flat_map-contains (children_of p l.level most) l.masks u child in
    let mask : slice_index l.masks t.1.0 ≡ t.0 = get_or_default l.masks t.1.0 0 t.0 t.1.1 ∙ t.1.2 in
    (t.1.0, t.1.1, subst (λ v. Contains (children_of p l.level most v) u) (sym mask) t.2)

-- what waits once the children of the first masks of a layer joined
pub record IsExpanded (p : Loss) (l : Layer) (most place : ℕ) (waits later : ℕ → ℕ → Type 0) : Type 0 where
  pub stays : (i u : ℕ) → waits i u → later i u
  pub only : (i u : ℕ) → later i u → waits i u ⊎ ((i ≡ l.level + 1) × IsSomeChild p l u)
  pub joins : (n u : ℕ) → n < place → Contains (children_of p l.level most (slice_index l.masks n)) u → later (l.level + 1) u

pub expanded-none : (p : Loss) (l : Layer) (most : ℕ) (waits : ℕ → ℕ → Type 0) → IsExpanded p l most 0 waits waits
expanded-none p l most waits = record { stays = λ i u h. h; only = λ i u h. inl h; joins = λ n u low. absurd (omega (arith, low)) }

pub expanded-next : (p : Loss) (l : Layer) (most place : ℕ) (waits middle later : ℕ → ℕ → Type 0) → place < length l.masks → IsExpanded p l most place waits middle
    → ((i u : ℕ) → middle i u → later i u)
    → ((i u : ℕ) → later i u → middle i u ⊎ ((i ≡ l.level + 1) × Contains (unions_of p l.level (slice_index l.masks place)) u))
    → ((u : ℕ) → Contains (children_of p l.level most (slice_index l.masks place)) u → later (l.level + 1) u)
    → IsExpanded p l most (place + 1) waits later
expanded-next p l most place waits middle later low h stays only joins = record {
  stays = λ i u old. stays i u (h.stays i u old);
  only = λ i u there. ⊎_elim
      (λ (mid : middle i u). h.only i u mid)
      (λ (new : (i ≡ l.level + 1) × Contains (unions_of p l.level (slice_index l.masks place)) u). inr (new.0, union-some p l place u low new.1))
      (only i u there);
  joins = λ n u less child. ⊎_elim
      (λ (same : n ≡ place). joins u (subst (λ k. Contains (children_of p l.level most (slice_index l.masks k)) u) same child))
      (λ (apart : n ≢ place). stays (l.level + 1) u (h.joins n u (omega (arith, less, apart)) child))
      (cases_eq n place);
}

pub expanded-all : (p : Loss) (l : Layer) (most place : ℕ) (waits later : ℕ → ℕ → Type 0) → length l.masks ≤ place → IsExpanded p l most place waits later
    → HasJoined p l most waits later
expanded-all p l most place waits later all h = record {
  stays = h.stays;
  only = h.only;
  joins = λ u child. let t = child-place p l most u child in h.joins t.0 u (omega (arith, t.1, all)) t.2;
}
