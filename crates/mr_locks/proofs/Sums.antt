-- Weights that are added up, below a count and over the views of all callers.
use Rattle.std.proofs.Common.{◌≡◌, ◌≢◌, ℕ, zero, suc, ◌+◌, ◌≤◌, List, [], ◌∷◌, replicate, get_or, set, sum_by, sym, refl, ap, arith}
use Rattle.std.specs.Prelude.{nat_lt, if◌then◌else◌}
use Rattle.std.specs.List.{range_with_len}
use Rattle.std.proofs.lemmas.Bool.Decides.{nat_tests}
use Rattle.std.proofs.lemmas.List.Sums.{sum_by-cons}
use mathlib.Core.Option.{some, some-injective, some-ne-none}
use lib.ListN.{get_elem?}
use Rattle.mr_counts.proofs.NumberLaws.{sum_by-one_more}
use Rattle.mr_counts.proofs.Sums.{at-le-sum_by, sum_by-le-at, sum_by-set_at}
use Rattle.mr_model.specs.Search.{sum_below}
use Rattle.mr_history.specs.Histories.{one_at}

-- ---- below a count

abbrev pub below : (ℕ → ℕ) → ℕ → ℕ
below h n = sum_below n h

pub below-none : (h : ℕ → ℕ) → below h 0 ≡ 0
unfolding sum_below
below-none h = refl

pub below-more : (h : ℕ → ℕ) (n : ℕ) → below h (suc n) ≡ below h n + h n
unfolding sum_below
below-more h n = refl

-- 1 where x < n, and else 0
abbrev pub once_below : ℕ → ℕ → ℕ
once_below x n = if nat_lt x n then 1 else 0

pub below-one : (n : ℕ) → below (λ _. 1) n ≡ n
below-one zero = below-none (λ _. 1)
below-one (suc n) = omega (arith, below-more (λ _. 1) n, below-one n)

pub below-at : (x n : ℕ) → below (one_at x) n ≡ once_below x n
below-at x zero = let a = below-none (one_at x) in grind (arith, nat_tests)
below-at x (suc n) = let r = below-at x n in let a = below-more (one_at x) n in grind (arith, nat_tests)

pub once_below-0 : (x n : ℕ) → n ≤ x → once_below x n ≡ 0
once_below-0 x n h = grind (arith, nat_tests)

pub once_below-le : (x n : ℕ) → once_below x n ≤ 1
once_below-le x n = grind (arith, nat_tests)

pub at-same : (x : ℕ) → one_at x x ≡ 1
at-same x = grind (arith, nat_tests)

pub at-else : (x y : ℕ) → y ≢ x → one_at x y ≡ 0
at-else x y h = grind (arith, nat_tests)

-- the numbers below a count weigh as much as their list
pub below-range : (f : ℕ → ℕ) (m : ℕ) → sum_by f (range_with_len 0 m) ≡ below f m
below-range f zero = sym (below-none f)
below-range f (suc m) = omega (arith, sum_by-one_more f m, below-range f m, below-more f m)

pub zeros : (k i : ℕ) → get_or {A = ℕ} (replicate {A = ℕ} k 0) i 0 ≡ zero
zeros zero i = refl
zeros (suc k) zero = refl
zeros (suc k) (suc i) = zeros k i

-- ---- over a list

module _ {V : Type 0} where
  pub sum_by-two : (f : V → ℕ) (l : List V) (i j : ℕ) (v w : V) → j ≢ i → get_elem? l i ≡ some v → get_elem? l j ≡ some w → f v + f w ≤ sum_by f l
  sum_by-two f [] i j v w n e e' = absurd (some-ne-none v (sym e))
  sum_by-two f (x ∷ xs) zero zero v w n e e' = absurd (n refl)
  sum_by-two f (x ∷ xs) zero (suc j) v w n e e' =
      omega (arith, sum_by-cons f x xs, ap f (some-injective x v e), at-le-sum_by f xs j w e')
  sum_by-two f (x ∷ xs) (suc i) zero v w n e e' =
      omega (arith, sum_by-cons f x xs, ap f (some-injective x w e'), at-le-sum_by f xs i v e)
  sum_by-two f (x ∷ xs) (suc i) (suc j) v w n e e' =
      omega (arith, sum_by-cons f x xs, sum_by-two f xs i j v w (λ (h : j ≡ i). n (ap suc h)) e e')

  -- where f is at most g, and f is smaller by so much at one place, it is so in all
  pub sum_by-less : (f g : V → ℕ) (l : List V) (i : ℕ) (v : V) → ((j : ℕ) (w : V) → get_elem? l j ≡ some w → f w ≤ g w) → get_elem? l i ≡ some v → sum_by f l + g v ≤ sum_by g l + f v
  sum_by-less f g [] i v h e = absurd (some-ne-none v (sym e))
  sum_by-less f g (x ∷ xs) zero v h e =
      let same : x ≡ v = some-injective x v e in
      omega (arith, sum_by-cons f x xs, sum_by-cons g x xs, ap g same, ap f same, sum_by-le-at g f xs (λ j w e. h (suc j) w e))
  sum_by-less f g (x ∷ xs) (suc i) v h e =
      omega (arith, sum_by-cons f x xs, sum_by-cons g x xs, h 0 x refl, sum_by-less f g xs i v (λ j w e. h (suc j) w e) e)

  pub sum_by-same : (f : V → ℕ) (l : List V) (i : ℕ) (v w : V) → get_elem? l i ≡ some v → f w ≡ f v → sum_by f (set l i w) ≡ sum_by f l
  sum_by-same f l i v w e same = let a = sum_by-set_at f l i v w e in omega (arith, a, same)

  pub sum_by-plus : (f g : V → ℕ) (l : List V) → sum_by (λ v. f v + g v) l ≡ sum_by f l + sum_by g l
  sum_by-plus f g [] = refl
  sum_by-plus f g (x ∷ xs) = omega (arith, sum_by-cons (λ v. f v + g v) x xs, sum_by-cons f x xs, sum_by-cons g x xs, sum_by-plus f g xs)
