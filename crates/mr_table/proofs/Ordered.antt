-- A list in order of numbers, of which each stands in it once.
use Rattle.std.proofs.Common.{◌≡◌, ℕ, zero, suc, ◌+◌, ◌<◌, ◌≤◌, ◌⊎◌, inl, inr, ⊎_elim, subst, cond, List, [], ◌∷◌, length, get_or, map, count_by, sym, refl, ap, ◌∙◌, arith, All}
use Rattle.std.specs.Prelude.{◌==◌}
use Rattle.std.specs.List.{range_with_len}
use Rattle.std.specs.List.Sorted.{IsPermutation, IsNonDecreasingBy}
use Rattle.std.proofs.lemmas.List.Sums.{sum_by-cons}
use Rattle.std.proofs.lemmas.List.Sorted.{sum_by-IsPermutation, All-permutation}
use Rattle.std.proofs.lemmas.Bool.Decides.{nat_tests}
use Rattle.mr_counts.specs.Numbers.{times, AreEachBelow}
use Rattle.mr_counts.proofs.NumberLaws.{times-range}

-- a number counts for itself
pub counts_itself : (m : ℕ) → 0 < cond (m == m) 1 0
counts_itself m = grind (arith, nat_tests)

-- what counts is the first, or one of the others
first_or_other : (m x n : ℕ) → 0 < cond (m == x) 1 0 + n → (m ≡ x) ⊎ (0 < n)
first_or_other m x zero h = inl (grind (arith, nat_tests))
first_or_other m x (suc n) h = inr (omega arith)

range-from : (a n x : ℕ) → 0 < times x (range_with_len a n) → a ≤ x
range-from a zero x h = absurd (omega arith)
range-from a (suc n) x h = ⊎_elim (λ (here : a ≡ x). omega (arith, here)) (λ there. let r = range-from (a + 1) n x there in omega arith)
    (first_or_other a x (times x (range_with_len (a + 1) n)) (subst (λ n. 0 < n) (sum_by-cons (λ y. cond (y == x) 1 0) a (range_with_len (a + 1) n)) h))

module _ {X : Type 0} (key : X → ℕ) where
  -- how many elements have this key
  abbrev keyed : ℕ → List X → ℕ
  keyed v xs = count_by (λ x. key x == v) xs

  place_of : (v : ℕ) (xs : List X) → 0 < keyed v xs → (i : ℕ) × (i < length xs) × ((d : X) → key (get_or xs i d) ≡ v)
  place_of v [] h = absurd (omega arith)
  place_of v (x ∷ xs) h = ⊎_elim (λ here. (0, omega arith, λ d. here)) (λ there. let r = place_of v xs there in (suc r.0, omega (arith, r.1), r.2))
      (first_or_other (key x) v (keyed v xs) (subst (λ n. 0 < n) (sum_by-cons (λ x. cond (key x == v) 1 0) x xs) h))

  -- where the keys are the numbers from a on, once each, and ascend, they stand in order
  pub ascending : (f : ℕ → X) (xs : List X) (a n : ℕ) → IsNonDecreasingBy key xs → All (λ x. x ≡ f (key x)) xs → ((v : ℕ) → keyed v xs ≡ times v (range_with_len a n)) → xs ≡ map f (range_with_len a n)
  ascending f [] a zero up is each = refl
  ascending f [] a (suc n) up is each = let one = sum_by-cons (λ y. cond (y == a) 1 0) a (range_with_len (a + 1) n) in absurd (omega (arith, each a, one, counts_itself a))
  ascending f (x ∷ xs) a zero up is each = let one = sum_by-cons (λ y. cond (key y == key x) 1 0) x xs in absurd (omega (arith, each (key x), one, counts_itself (key x)))
  ascending f (x ∷ xs) a (suc n) up is each =
      let rest = range_with_len (a + 1) n in
      let low : a ≤ key x = range-from a (suc n) (key x) (omega (arith, each (key x), sum_by-cons (λ y. cond (key y == key x) 1 0) x xs, counts_itself (key x))) in
      let at = place_of a (x ∷ xs) (omega (arith, each a, sum_by-cons (λ y. cond (y == a) 1 0) a rest, counts_itself a)) in
      let high : key x ≤ a = omega (arith, up 0 at.0 x (omega arith) at.1, at.2 x) in
      let first : key x ≡ a = omega arith in
      let more = ascending f xs (a + 1) n (λ i j d le lt. up (suc i) (suc j) d (omega arith) (omega arith)) (λ k d lt. is (suc k) d (omega arith))
      (λ v. omega (arith, each v, sum_by-cons (λ y. cond (key y == v) 1 0) x xs, sum_by-cons (λ y. cond (y == v) 1 0) a rest, ap {B = ℕ} (λ y. cond (y == v) 1 0) first)) in
      (λ i. (is 0 x (omega arith) ∙ ap f first) i ∷ more i)

  keyed-map : (f : ℕ → X) → ((v : ℕ) → key (f v) ≡ v) → (v : ℕ) (xs : List ℕ) → keyed v (map f xs) ≡ times v xs
  keyed-map f same v [] = refl
  keyed-map f same v (x ∷ xs) = omega (arith, sum_by-cons (λ y. cond (key y == v) 1 0) (f x) (map f xs), sum_by-cons (λ y. cond (y == v) 1 0) x xs, keyed-map f same v xs, ap {B = ℕ} (λ y. cond (y == v) 1 0) (same x))

  all_of : (f : ℕ → X) → ((v : ℕ) → key (f v) ≡ v) → (xs : List ℕ) → All (λ x. x ≡ f (key x)) (map f xs)
  all_of f same [] k d lt = absurd (omega arith)
  all_of f same (x ∷ xs) zero d lt = ap f (sym (same x))
  all_of f same (x ∷ xs) (suc k) d lt = all_of f same xs k d (omega arith)

  -- in order of the keys, what was made of the numbers below n, once each, is made of them in their order
  pub in_order : (f : ℕ → X) → ((v : ℕ) → key (f v) ≡ v) → (taken : List ℕ) (n : ℕ) (xs ys : List X) → AreEachBelow taken n → xs ≡ map f taken → IsPermutation xs ys → IsNonDecreasingBy key ys
      → ys ≡ map f (range_with_len 0 n)
  in_order f same taken n xs ys each is moved up = ascending f ys 0 n up (All-permutation (λ x. x ≡ f (key x)) xs ys moved (subst (λ (l : List X). All (λ x. x ≡ f (key x)) l) (sym is) (all_of f same taken)))
      (λ v. sum_by-IsPermutation (λ x. cond (key x == v) 1 0) xs ys moved ∙ ap (keyed v) is ∙ keyed-map f same v taken ∙ each v ∙ sym (times-range v n))
