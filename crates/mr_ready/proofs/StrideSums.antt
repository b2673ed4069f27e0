-- Numbers that are weighed stride by stride weigh what all of them weigh.
use Rattle.std.proofs.Common.{◌≡◌, ℕ, zero, suc, ◌+◌, ◌-◌, ◌*◌, ◌%◌, ◌<◌, ◌≤◌, ◌==◌, Bool, true, false, cond, List, [], ◌∷◌, length, get_or, map, refl, sym, ap, subst, ◌∙◌, arith, sum_by, eqb-true, ⊎_elim}
use Rattle.std.specs.Prelude.{nat_lt}
use Rattle.std.specs.List.{range_with_len}
use Rattle.std.proofs.lemmas.Bool.{cases_lt}
use Rattle.std.proofs.lemmas.Bool.Decides.{nat_tests}
use Rattle.std.proofs.lemmas.List.FromFn.{get_or-map-range_with_len}
use Rattle.std.proofs.lemmas.List.Sums.{sum_by-cons}
use Rattle.std.proofs.lemmas.Nat.{mod-mul-add, mod_below}
use Rattle.mr_counts.proofs.NumberLaws.{sum_by-one_more}
use Rattle.mr_mend.specs.Workers.{AreStrided}

-- ---- sums over the numbers below a count

range-zero : (n : ℕ) → sum_by (λ (r : ℕ). 0) (range_with_len 0 n) ≡ 0
range-zero zero = refl
range-zero (suc n) = omega (arith, sum_by-one_more (λ r. 0) n, range-zero n)

range-added : (f g : ℕ → ℕ) (n : ℕ) → sum_by (λ r. f r + g r) (range_with_len 0 n) ≡ sum_by f (range_with_len 0 n) + sum_by g (range_with_len 0 n)
range-added f g zero = refl
range-added f g (suc n) = omega (arith, sum_by-one_more (λ r. f r + g r) n, range-added f g n, sum_by-one_more f n, sum_by-one_more g n)

pub range-same : (f g : ℕ → ℕ) (n : ℕ) → ((r : ℕ) → r < n → f r ≡ g r) → sum_by f (range_with_len 0 n) ≡ sum_by g (range_with_len 0 n)
range-same f g zero same = refl
range-same f g (suc n) same =
    omega (arith, sum_by-one_more f n, sum_by-one_more g n, range-same f g n (λ r low. same r (omega (arith, low))), same n (omega arith))

-- ---- one weight in each of the strides

module _ (h : ℕ → ℕ) (m : ℕ) where
  -- the weight of x in the stride of r, of those that are m long
  part : ℕ → ℕ → ℕ
  part r x = cond (x % m == r) (h x) 0

  -- the weights of the numbers below n in the stride of r
  pub stride : ℕ → ℕ → ℕ
  stride n r = sum_by (part r) (range_with_len 0 n)

  stride-none : (r : ℕ) → stride 0 r ≡ 0
  unfolding stride
  stride-none r = refl

  stride-more : (n r : ℕ) → stride (suc n) r ≡ stride n r + part r n
  unfolding stride
  stride-more n r = sum_by-one_more (part r) n

  part-own : (r x : ℕ) → x % m ≡ r → part r x ≡ h x
  unfolding part
  part-own r x e = go (x % m == r) refl
    where
      go : (b : Bool) → (x % m == r) ≡ b → cond b (h x) 0 ≡ h x
      go true t = refl
      go false t = absurd (grind (arith, nat_tests))

  part-other : (r x : ℕ) → (x % m ≡ r → ⊥) → part r x ≡ 0
  unfolding part
  part-other r x ne = go (x % m == r) refl
    where
      go : (b : Bool) → (x % m == r) ≡ b → cond b (h x) 0 ≡ 0
      go true t = absurd (ne (eqb-true (x % m) r t))
      go false t = refl

  -- one of the first k strides has the number, where that of its rest is one of them
  picked-next : (x k : ℕ) → sum_by (λ r. part r x) (range_with_len 0 k) ≡ cond (nat_lt (x % m) k) (h x) 0 → sum_by (λ r. part r x) (range_with_len 0 (suc k)) ≡ cond (nat_lt (x % m) (suc k)) (h x) 0
  picked-next x k so_far = ⊎_elim
      (λ (here : x % m < k). before here)
      (λ (past : k ≤ x % m). ⊎_elim (λ (above : k < x % m). after above) (λ (low : x % m ≤ k). at (omega (arith, past, low))) (cases_lt k (x % m)))
      (cases_lt (x % m) k)
    where
      next : sum_by (λ r. part r x) (range_with_len 0 (suc k)) ≡ cond (nat_lt (x % m) k) (h x) 0 + part k x
      next = sum_by-one_more (λ r. part r x) k ∙ ap (λ n. n + part k x) so_far

      before : x % m < k → sum_by (λ r. part r x) (range_with_len 0 (suc k)) ≡ cond (nat_lt (x % m) (suc k)) (h x) 0
      before here =
          let was : nat_lt (x % m) k ≡ true = grind (arith, nat_tests) in
          let is : nat_lt (x % m) (suc k) ≡ true = grind (arith, nat_tests) in
          let none : part k x ≡ 0 = part-other k x (λ e. omega (arith, e, here)) in
          let own : cond (nat_lt (x % m) k) (h x) 0 ≡ h x = ap (λ b. cond b (h x) 0) was in
          let all : sum_by (λ r. part r x) (range_with_len 0 (suc k)) ≡ h x = omega (arith, next, none, own) in
          all ∙ sym (ap (λ b. cond b (h x) 0) is)

      at : x % m ≡ k → sum_by (λ r. part r x) (range_with_len 0 (suc k)) ≡ cond (nat_lt (x % m) (suc k)) (h x) 0
      at e =
          let was : nat_lt (x % m) k ≡ false = grind (arith, nat_tests) in
          let is : nat_lt (x % m) (suc k) ≡ true = grind (arith, nat_tests) in
          let none : cond (nat_lt (x % m) k) (h x) 0 ≡ 0 = ap (λ b. cond b (h x) 0) was in
          let all : sum_by (λ r. part r x) (range_with_len 0 (suc k)) ≡ h x = omega (arith, next, none, part-own k x e) in
          all ∙ sym (ap (λ b. cond b (h x) 0) is)

      after : k < x % m → sum_by (λ r. part r x) (range_with_len 0 (suc k)) ≡ cond (nat_lt (x % m) (suc k)) (h x) 0
      after above =
          let was : nat_lt (x % m) k ≡ false = grind (arith, nat_tests) in
          let is : nat_lt (x % m) (suc k) ≡ false = grind (arith, nat_tests) in
          let none : cond (nat_lt (x % m) k) (h x) 0 ≡ 0 = ap (λ b. cond b (h x) 0) was in
          let other : part k x ≡ 0 = part-other k x (λ e. omega (arith, e, above)) in
          let all : sum_by (λ r. part r x) (range_with_len 0 (suc k)) ≡ 0 = omega (arith, next, none, other) in
          all ∙ sym (ap (λ b. cond b (h x) 0) is)

  picked : (x k : ℕ) → sum_by (λ r. part r x) (range_with_len 0 k) ≡ cond (nat_lt (x % m) k) (h x) 0
  picked x zero = sym (ap (λ b. cond b (h x) 0) {x = nat_lt (x % m) 0} {y = false} (grind (arith, nat_tests)))
  picked x (suc k) = picked-next x k (picked x k)

  -- all strides weigh what the numbers below n weigh
  pub strides-all : (n : ℕ) → 0 < m → sum_by (stride n) (range_with_len 0 m) ≡ sum_by h (range_with_len 0 n)
  strides-all zero some = range-same (stride 0) (λ r. 0) m (λ r low. stride-none r) ∙ range-zero m
  strides-all (suc n) some =
      let test : nat_lt (n % m) m ≡ true = let low = mod_below n m some in grind (arith, nat_tests) in
      let one : sum_by (λ r. part r n) (range_with_len 0 m) ≡ h n = picked n m ∙ ap (λ b. cond b (h n) 0) test in
      let split : sum_by (stride (suc n)) (range_with_len 0 m) ≡ sum_by (stride n) (range_with_len 0 m) + sum_by (λ r. part r n) (range_with_len 0 m) =
      range-same (stride (suc n)) (λ r. stride n r + part r n) m (λ r low. stride-more n r) ∙ range-added (stride n) (λ r. part r n) m in
      omega (arith, split, one, strides-all n some, sum_by-one_more h n)

  -- ---- the numbers of one stride

  module _ (r : ℕ) (own : r < m) where
    mod-at : (k : ℕ) → (r + k * m) % m ≡ r
    mod-at k = ap (λ x. x % m) {x = r + k * m} {y = k * m + r} (omega arith) ∙ mod-mul-add k m r own

    mod-past : (k j : ℕ) → suc j < m → (r + k * m + suc j) % m ≡ r → ⊥
    mod-past k j few e = ⊎_elim
        (λ (low : r + suc j < m). let is = mod-mul-add k m (r + suc j) low in
        let same : (r + k * m + suc j) % m ≡ (k * m + (r + suc j)) % m = ap (λ x. x % m) (omega arith) in omega (arith, e, same, is))
        (λ (high : m ≤ r + suc j). let is = mod-mul-add (k + 1) m (r + suc j - m) (omega (arith, few, own, high)) in
        let same : (r + k * m + suc j) % m ≡ ((k + 1) * m + (r + suc j - m)) % m = ap (λ x. x % m) (omega (arith, high)) in omega (arith, e, same, is, high, few))
        (cases_lt (r + suc j) m)

    -- up to the next number of the stride
    up-to : (k j : ℕ) → j < m → stride (r + k * m + suc j) r ≡ stride (r + k * m) r + h (r + k * m)
    up-to k zero few = ap (λ n. stride n r) {x = r + k * m + 1} {y = suc (r + k * m)} (omega arith) ∙ stride-more (r + k * m) r ∙ ap (λ n. stride (r + k * m) r + n) (part-own r (r + k * m) (mod-at k))
    up-to k (suc j) few =
        let none : part r (r + k * m + suc j) ≡ 0 = part-other r (r + k * m + suc j) (mod-past k j few) in
        let more = stride-more (r + k * m + suc j) r in
        ap (λ n. stride n r) {x = r + k * m + suc (suc j)} {y = suc (r + k * m + suc j)} (omega arith) ∙ omega (arith, more, none, up-to k j (omega (arith, few)))

    before-first : (n : ℕ) → n ≤ r → stride n r ≡ 0
    before-first zero low = stride-none r
    before-first (suc n) low =
        let is : n % m ≡ n = ap (λ x. x % m) {x = n} {y = 0 * m + n} (omega arith) ∙ mod-mul-add 0 m n (omega (arith, low, own)) in
        let none : part r n ≡ 0 = part-other r n (λ e. omega (arith, e, is, low)) in
        omega (arith, stride-more n r, none, before-first n (omega (arith, low)))

    firsts : (k : ℕ) → stride (r + k * m) r ≡ sum_by (λ j. h (r + j * m)) (range_with_len 0 k)
    firsts zero = before-first (r + 0 * m) (omega arith)
    firsts (suc k) =
        let step : r + suc k * m ≡ r + k * m + suc (m - 1) = omega (arith, own) in
        ap (λ n. stride n r) step ∙ up-to k (m - 1) (omega (arith, own)) ∙ omega (arith, firsts k, sum_by-one_more (λ j. h (r + j * m)) k)

    of-count : (n l : ℕ) → n ≤ r + l * m → ((k : ℕ) → k < l → r + k * m < n) → stride n r ≡ sum_by (λ j. h (r + j * m)) (range_with_len 0 l)
    of-count n zero all low = before-first n (omega (arith, all))
    of-count n (suc l) all low =
        let last : r + l * m < n = low l (omega arith) in
        let far : n ≤ r + l * m + m = omega (arith, all) in
        let step : n ≡ r + l * m + suc (n - (r + l * m) - 1) = omega (arith, last) in
        ap (λ x. stride x r) step ∙ up-to l (n - (r + l * m) - 1) (omega (arith, last, far)) ∙ omega (arith, firsts l, sum_by-one_more (λ j. h (r + j * m)) l)

pub sum-mapped : {X Y : Type 0} (f : X → Y) (g : Y → ℕ) (xs : List X) → sum_by g (map f xs) ≡ sum_by (λ x. g (f x)) xs
sum-mapped f g [] = refl
sum-mapped f g (x ∷ xs) = omega (arith, sum_by-cons g (f x) (map f xs), sum_by-cons (λ x. g (f x)) x xs, sum-mapped f g xs)

-- the numbers of a stride weigh together what the stride weighs
pub strided-sum : (h : ℕ → ℕ) (m r n : ℕ) (numbers : List ℕ) → r < m → AreStrided r m n numbers → sum_by h numbers ≡ stride h m n r
strided-sum h m r n numbers own s =
    ap (sum_by h) s.are ∙ sum-mapped (λ k. r + k * m) h (range_with_len 0 (length numbers))
    ∙ sym (of-count h m r own n (length numbers) s.all (λ k low.
    let x : ℕ = r + k * m in
    let here : get_or numbers k x ≡ x = ap (λ xs. get_or xs k x) s.are ∙ get_or-map-range_with_len (λ k. r + k * m) 0 (length numbers) k k x low (omega arith) in
    subst (λ y. y < n) here (s.below k x low)))
