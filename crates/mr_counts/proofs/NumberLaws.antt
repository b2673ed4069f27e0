-- The numbers below a count, how often a number stands in a list, and the least number above it.
use Rattle.std.proofs.Common.{◌≡◌, ℕ, zero, suc, ◌+◌, ◌-◌, ◌<◌, ◌≤◌, ◌⊎◌, inl, inr, ⊎_elim, subst, cond, List, [], ◌∷◌, ◌++◌, length, get_or, sum_by, max, sym, refl, ap, ◌∙◌, arith}
use Rattle.std.specs.Prelude.{Contains, nat_le, nat_lt, ◌==◌, if◌then◌else◌}
use Rattle.std.specs.List.{range_with_len}
use Rattle.std.proofs.lemmas.List.Sums.{sum_by-cons}
use Rattle.std.proofs.lemmas.List.FromFn.{length-range_with_len}
use Rattle.std.proofs.lemmas.Bool.Decides.{nat_tests}
use Rattle.mr_counts.specs.Numbers.{times, beyond, next_above, AreEachBelow, AreShared, WeighAsBelow}

-- ---- the numbers below a count

sum_by-range_more : (h : ℕ → ℕ) (a n : ℕ) → sum_by h (range_with_len a (suc n)) ≡ sum_by h (range_with_len a n) + h (a + n)
sum_by-range_more h a zero = let e : a ≡ a + 0 = omega arith in omega (arith, sum_by-cons h a [], ap h e)
sum_by-range_more h a (suc n) =
    let e : (a + 1) + n ≡ a + suc n = omega arith in
    omega (
      arith,
      sum_by-cons h a (range_with_len (a + 1) (suc n)),
      sum_by-cons h a (range_with_len (a + 1) n),
      sum_by-range_more h (a + 1) n,
      ap h e,
    )

-- one number more
pub sum_by-one_more : (h : ℕ → ℕ) (n : ℕ) → sum_by h (range_with_len 0 (suc n)) ≡ sum_by h (range_with_len 0 n) + h n
sum_by-one_more h n = let e : 0 + n ≡ n = omega arith in omega (arith, sum_by-range_more h 0 n, ap h e)

-- a list weighs its length where each number weighs 1
pub sum_by-one : {X : Type 0} (xs : List X) → sum_by (λ _. 1) xs ≡ length xs
sum_by-one [] = refl
sum_by-one (x ∷ xs) = omega (arith, sum_by-cons (λ _. 1) x xs, sum_by-one xs)

one_beyond : (least n : ℕ) → cond (nat_le least n) 1 0 + (n - least) ≡ suc n - least
one_beyond least n = grind (arith, nat_tests)

-- how many of the numbers below n are m or more
pub beyond-range : (m n : ℕ) → beyond m (range_with_len 0 n) ≡ n - m
beyond-range m zero = omega arith
beyond-range m (suc n) =
    omega (arith, sum_by-one_more (λ x. cond (nat_le m x) 1 0) n, beyond-range m n, one_beyond m n)

one_below : (x n : ℕ) → ◌≡◌ {A = ℕ} ((if nat_lt x n then 1 else 0) + cond (n == x) 1 0) (if nat_lt x (suc n) then 1 else 0)
one_below x n = grind (arith, nat_tests)

none_below : (x : ℕ) → ◌≡◌ {A = ℕ} 0 (if nat_lt x 0 then 1 else 0)
none_below x = grind (arith, nat_tests)

-- each number below n, once
pub times-range : (x n : ℕ) → times x (range_with_len 0 n) ≡ (if nat_lt x n then 1 else 0)
times-range x zero = none_below x
times-range x (suc n) =
    sum_by-one_more (λ y. cond (y == x) 1 0) n ∙ ap (λ m. m + cond (n == x) 1 0) (times-range x n) ∙ one_below x n

-- ---- the least number above a list

below : (n x m : ℕ) → cond (nat_le n x) 1 0 + m ≡ 0 → x < n
below n x m z = grind (arith, nat_tests)

-- it is at most n where no item is n or more
pub next_above-le : (n : ℕ) (ns : List ℕ) → beyond n ns ≡ 0 → next_above ns ≤ n
next_above-le n [] z = omega arith
next_above-le n (x ∷ xs) z =
    let split = sum_by-cons (λ y. cond (nat_le n y) 1 0) x xs in
    let first : x < n = below n x (beyond n xs) (sym split ∙ z) in
    let rest : beyond n xs ≡ 0 = omega (arith, split, z) in
    omega (arith, next_above-le n xs rest)

-- of a list with one item more
pub next_above-push : (ns : List ℕ) (n : ℕ) → next_above (ns ++ n ∷ []) ≡ max (next_above ns) (n + 1)
next_above-push [] n = omega arith
next_above-push (m ∷ ms) n = omega (arith, next_above-push ms n)

zero_beyond : (k m : ℕ) → m < k → ◌≡◌ {A = ℕ} (cond (nat_le k m) 1 0) 0
zero_beyond k m h = grind (arith, nat_tests)

-- where it is at most k no item is k or more
pub beyond-none : (k : ℕ) (ns : List ℕ) → next_above ns ≤ k → beyond k ns ≡ 0
beyond-none k [] h = refl
beyond-none k (m ∷ ms) h = omega (
  arith,
  sum_by-cons (λ n. cond (nat_le k n) 1 0) m ms,
  zero_beyond k m (omega (arith, h)),
  beyond-none k ms (omega (arith, h)),
)

-- ---- a number stands in a list where it stands there some times

if_same : (m x : ℕ) → 0 < cond (m == x) 1 0 → m ≡ x
if_same m x h = grind (arith, nat_tests)

if_self : (m : ℕ) → ◌≡◌ {A = ℕ} (cond (m == m) 1 0) 1
if_self m = grind (arith, nat_tests)

pub times-Contains : (x : ℕ) (ns : List ℕ) → 0 < times x ns → Contains ns x
times-Contains x [] h = absurd (omega arith)
times-Contains x (m ∷ ms) h = ⊎_elim
    (λ here. (0, omega arith, if_same m x here))
    (λ there. let r = times-Contains x ms there in (suc r.0, omega (arith, r.1), r.2))
    (which (cond (m == x) 1 0) (times x ms) (subst (λ n. 0 < n) (sum_by-cons (λ n. cond (n == x) 1 0) m ms) h))
  where
    which : (a b : ℕ) → 0 < a + b → (0 < a) ⊎ (0 < b)
    which zero b h = inr (omega arith)
    which (suc a) b h = inl (omega arith)

pub Contains-times : (x : ℕ) (ns : List ℕ) → Contains ns x → 0 < times x ns
Contains-times x [] h = absurd (omega (arith, h.1))
Contains-times x (m ∷ ms) h = go (Contains-times x ms) h.0 h.1 h.2
  where
    go : (Contains ms x → 0 < times x ms) → (k : ℕ) → k < length (m ∷ ms) → get_or (m ∷ ms) k x ≡ x → 0 < times x (m ∷ ms)
    go rest zero lt e =
        omega (arith, sum_by-cons (λ n. cond (n == x) 1 0) m ms, if_self x, ap {B = ℕ} (λ n. cond (n == x) 1 0) e)
    go rest (suc k) lt e = omega (arith, sum_by-cons (λ n. cond (n == x) 1 0) m ms, rest (k, omega arith, e))

below_of : (x n : ℕ) → 0 < (if nat_lt x n then 1 else 0) → x < n
below_of x n h = grind (arith, nat_tests)

one_of : (x n : ℕ) → x < n → 0 < (if nat_lt x n then 1 else 0)
one_of x n h = grind (arith, nat_tests)

-- where the list has each number below n once, a number that stands in it is below n
pub AreEachBelow-below : (ns : List ℕ) (n x : ℕ) → AreEachBelow ns n → Contains ns x → x < n
AreEachBelow-below ns n x all h = below_of x n (subst (λ m. 0 < m) (all x) (Contains-times x ns h))

-- and each number below n stands in it
pub AreEachBelow-Contains : (ns : List ℕ) (n x : ℕ) → AreEachBelow ns n → x < n → Contains ns x
AreEachBelow-Contains ns n x all lt = times-Contains x ns (subst (λ m. 0 < m) (sym (all x)) (one_of x n lt))

-- ---- lists that share the numbers below a count

module _ {V : Type 0} (list_of : V → List ℕ) where
  lengths : (vs : List V) → sum_by (λ v. length (list_of v)) vs ≡ sum_by (λ v. sum_by (λ _. 1) (list_of v)) vs
  lengths [] = refl
  lengths (v ∷ vs) = omega (
    arith,
    sum_by-cons (λ v. length (list_of v)) v vs,
    sum_by-cons (λ v. sum_by (λ _. 1) (list_of v)) v vs,
    sum_by-one (list_of v),
    lengths vs,
  )

  pub weighed-shared : (vs : List V) (n : ℕ) → WeighAsBelow list_of vs n → AreShared list_of vs n
  weighed-shared vs n h = record {
    count = lengths vs ∙ h (λ _. 1) ∙ sum_by-one (range_with_len 0 n) ∙ length-range_with_len 0 n;
    once = λ x. h (λ y. cond (y == x) 1 0) ∙ times-range x n;
  }
