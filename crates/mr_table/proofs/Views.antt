-- What the rule says of passes: which are alone, and what the queue and all passes have.
use Rattle.std.proofs.Common.{◌≡◌, ℕ, zero, suc, ◌+◌, ◌<◌, ◌≤◌, ◌⊎◌, inl, inr, ⊎_elim, List, [], ◌∷◌, map, sum_by, sym, refl, ap, arith}
use Rattle.std.specs.List.{range_with_len}
use Rattle.std.proofs.lemmas.List.Sums.{sum_by-cons}
use mathlib.Core.Option.{some, some-injective, some-ne-none}
use lib.ListN.{get_elem?}
use Rattle.mr_counts.specs.Numbers.{WeighAsBelow}
use Rattle.mr_counts.proofs.Sums.{at-le-sum_by}
use Rattle.mr_table.specs.declared.view.JobView.{JobView}
use Rattle.mr_table.specs.Rule.{IsKept, IsLive, IsSpent, IsWhole, share_of}
use Rattle.mr_table.specs.Laws.{HaveAllParts}

-- ---- weights of the queue and of what the passes took

weighed_lists : (h : ℕ → ℕ) (views : List JobView)
    → sum_by (λ (l : List ℕ). sum_by h l) (map (λ (v : JobView). v.taken) views) ≡ sum_by (λ (v : JobView). sum_by h v.taken) views
weighed_lists h [] = refl
weighed_lists h (v ∷ views) = omega (
  arith,
  sum_by-cons (λ (l : List ℕ). sum_by h l) v.taken (map (λ (v : JobView). v.taken) views),
  sum_by-cons (λ (v : JobView). sum_by h v.taken) v views,
  weighed_lists h views,
)

-- the queue and what the passes took weigh together what the numbers below n weigh
abbrev pub Spreads : ℕ → List ℕ → List JobView → Type 0
Spreads n items views =
    (h : ℕ → ℕ) → sum_by h items + sum_by (λ (v : JobView). sum_by h v.taken) views ≡ sum_by h (range_with_len 0 n)

pub spread_of : (n : ℕ) (items : List ℕ) (views : List JobView)
    → WeighAsBelow (λ (l : List ℕ). l) (items ∷ map (λ (v : JobView). v.taken) views) n → Spreads n items views
spread_of n items views weigh h = omega (
  arith,
  weigh h,
  sum_by-cons (λ (l : List ℕ). sum_by h l) items (map (λ (v : JobView). v.taken) views),
  weighed_lists h views,
)

pub weigh_of : (n : ℕ) (items : List ℕ) (views : List JobView) → Spreads n items views
    → WeighAsBelow (λ (l : List ℕ). l) (items ∷ map (λ (v : JobView). v.taken) views) n
weigh_of n items views spread h = omega (
  arith,
  spread h,
  sum_by-cons (λ (l : List ℕ). sum_by h l) items (map (λ (v : JobView). v.taken) views),
  weighed_lists h views,
)

-- ---- passes that have a part

-- a pass with a part is not spent
pub live : (pushed : ℕ) (v : JobView) → 0 < v.parts → IsSpent v ⊎ IsLive pushed v → IsLive pushed v
live pushed v part fits = ⊎_elim (λ (spent : IsSpent v). absurd (omega (arith, part, spent.no_part))) (λ l. l) fits

-- and one without a share is
pub spent : (pushed : ℕ) (v : JobView) → share_of v ≡ 0 → IsSpent v ⊎ IsLive pushed v → IsSpent v
spent pushed v none fits = ⊎_elim (λ s. s) (λ (l : IsLive pushed v). absurd (omega (arith, l.has_part, none))) fits

module _ {X : Type 0} (f : X → ℕ) where
  -- two elements at two places have no more than all
  two-le-sum_by : (xs : List X) (i j : ℕ) (v w : X) → (j ≡ i → ⊥) → get_elem? xs i ≡ some v → get_elem? xs j ≡ some w → f v + f w ≤ sum_by f xs
  two-le-sum_by [] i j v w n e e' = absurd (some-ne-none v (sym e))
  two-le-sum_by (x ∷ xs) zero zero v w n e e' = absurd (n refl)
  two-le-sum_by (x ∷ xs) zero (suc j) v w n e e' = omega (arith, sum_by-cons f x xs, ap f (some-injective x v e), at-le-sum_by f xs j w e')
  two-le-sum_by (x ∷ xs) (suc i) zero v w n e e' = omega (arith, sum_by-cons f x xs, ap f (some-injective x w e'), at-le-sum_by f xs i v e)
  two-le-sum_by (x ∷ xs) (suc i) (suc j) v w n e e' =
      omega (arith, sum_by-cons f x xs, two-le-sum_by xs i j v w (λ (h : j ≡ i). n (ap suc h)) e e')

-- where one pass has all parts, each other is spent
pub alone : (pushed : ℕ) (items : List ℕ) (views : List JobView) → IsKept pushed items views
    → (id : ℕ) (v : JobView) → get_elem? views id ≡ some v → IsWhole v
    → (other : ℕ) (w : JobView) → (other ≡ id → ⊥) → get_elem? views other ≡ some w → IsSpent w
alone pushed items views k id v at whole other w apart at' =
    let two = two-le-sum_by share_of views id other v w apart at at' in
    spent pushed w (omega (arith, two, k.all_parts, whole)) (k.each_fits other w at')

pub parts_of : (pushed : ℕ) (items : List ℕ) (views : List JobView) → IsKept pushed items views → HaveAllParts views
parts_of pushed items views k = record {
  together = k.all_parts;
  each = λ id v at. ⊎_elim (λ (s : IsSpent v). inl s) (λ (l : IsLive pushed v). inr l.has_part) (k.each_fits id v at);
}
