-- Sums over a list of which one element changes, or has all.
use Rattle.std.proofs.Common.{◌≡◌, ℕ, zero, suc, ◌+◌, ◌≤◌, List, [], ◌∷◌, set, sum_by, sym, refl, ap, arith}
use Rattle.std.proofs.lemmas.List.Sums.{sum_by-cons}
use mathlib.Core.Option.{some, some-injective, some-ne-none}
use lib.ListN.{get_elem?}

module _ {X : Type 0} (f : X → ℕ) where
  -- the sum after a change of one element
  pub sum_by-set_at : (xs : List X) (i : ℕ) (v w : X) → get_elem? xs i ≡ some v → sum_by f (set xs i w) + f v ≡ sum_by f xs + f w
  sum_by-set_at [] i v w e = absurd (some-ne-none v (sym e))
  sum_by-set_at (x ∷ xs) zero v w e = omega (arith, sum_by-cons f w xs, sum_by-cons f x xs, ap f (some-injective x v e))
  sum_by-set_at (x ∷ xs) (suc i) v w e =
      omega (arith, sum_by-cons f x (set xs i w), sum_by-cons f x xs, sum_by-set_at xs i v w e)

  -- no element has more than all
  pub at-le-sum_by : (xs : List X) (i : ℕ) (v : X) → get_elem? xs i ≡ some v → f v ≤ sum_by f xs
  at-le-sum_by [] i v e = absurd (some-ne-none v (sym e))
  at-le-sum_by (x ∷ xs) zero v e = omega (arith, sum_by-cons f x xs, ap f (some-injective x v e))
  at-le-sum_by (x ∷ xs) (suc i) v e = omega (arith, sum_by-cons f x xs, at-le-sum_by xs i v e)

module _ {X : Type 0} (p f : X → ℕ) where
  -- what is at most p at each element is at most p in all
  pub sum_by-le-at : (xs : List X) → ((j : ℕ) (u : X) → get_elem? xs j ≡ some u → f u ≤ p u) → sum_by f xs ≤ sum_by p xs
  sum_by-le-at [] h = omega arith
  sum_by-le-at (x ∷ xs) h =
      omega (arith, sum_by-cons f x xs, sum_by-cons p x xs, h 0 x refl, sum_by-le-at xs (λ j u. h (suc j) u))

  sum_none : (xs : List X) → sum_by p xs ≡ 0 → ((j : ℕ) (u : X) → get_elem? xs j ≡ some u → p u ≡ 0 → f u ≡ 0)
      → sum_by f xs ≡ 0
  sum_none [] z h = refl
  sum_none (x ∷ xs) z h =
      let here : p x ≡ 0 = omega (arith, sum_by-cons p x xs) in
      let rest : sum_by p xs ≡ 0 = omega (arith, sum_by-cons p x xs) in
      omega (arith, sum_by-cons f x xs, h 0 x refl here, sum_none xs rest (λ j u. h (suc j) u))

  -- where one element has all of p, and f is 0 wherever p is, it has all of f
  pub sum_by-only : (xs : List X) (i : ℕ) (v : X) → get_elem? xs i ≡ some v → sum_by p xs ≡ p v
      → ((j : ℕ) (u : X) → get_elem? xs j ≡ some u → p u ≡ 0 → f u ≡ 0) → sum_by f xs ≡ f v
  sum_by-only [] i v e all h = absurd (some-ne-none v (sym e))
  sum_by-only (x ∷ xs) zero v e all h =
      let rest : sum_by p xs ≡ 0 = omega (arith, sum_by-cons p x xs, ap p (some-injective x v e)) in
      omega (arith, sum_by-cons f x xs, ap f (some-injective x v e), sum_none xs rest (λ j u. h (suc j) u))
  sum_by-only (x ∷ xs) (suc i) v e all h =
      let here : p x ≡ 0 = omega (arith, sum_by-cons p x xs, at-le-sum_by p xs i v e) in
      let rest : sum_by p xs ≡ p v = omega (arith, sum_by-cons p x xs, at-le-sum_by p xs i v e) in
      omega (arith, sum_by-cons f x xs, h 0 x refl here, sum_by-only xs i v e rest (λ j u. h (suc j) u))
