-- What all menders read together, by what all drew.
use Rattle.std.proofs.Common.{◌≡◌, ℕ, zero, suc, ◌+◌, ◌-◌, ◌*◌, ◌<◌, ◌≤◌, ◌==◌, Bool, true, false, cond, List, [], ◌∷◌, length, get_or, All, refl, sym, ap, subst, ◌∙◌, arith, sum_by, eqb-true, zero-mul, one-mul, add-zero}
use Rattle.std.specs.Prelude.{nat_lt, nat_le}
use Rattle.std.specs.List.{range_with_len}
use Rattle.std.proofs.Math.Nat.{add-mul}
use Rattle.std.proofs.lemmas.Bool.Decides.{nat_tests}
use Rattle.std.proofs.lemmas.List.Elements.{Contains-get_or}
use Rattle.std.proofs.lemmas.List.Sums.{sum_by-cons}
use Rattle.mr_model.specs.Search.{sum_below}
use Rattle.mr_counts.specs.Numbers.{times, beyond, AreEachBelow}
use Rattle.mr_counts.proofs.NumberLaws.{sum_by-one_more, beyond-range, AreEachBelow-below}
use Rattle.mr_image.specs.Images.{Layout}
use Rattle.mr_plan.specs.Plans.{PlanParts}
use Rattle.mr_mend.specs.Mending.{members_read}
use Rattle.mr_mend.specs.Menders.{reads_for, drawn_bytes}
use Rattle.mr_mend.proofs.Drawing.{reads-stripe, reads-beyond}

module _ (h : ℕ → ℕ) where
  -- the numbers below m, each weighed as often as it stands in the list
  abbrev weighed : List ℕ → ℕ → ℕ
  weighed ns m = sum_by (λ x. times x ns * h x) (range_with_len 0 m)

  weighed-more : (ns : List ℕ) (m : ℕ) → weighed ns (suc m) ≡ weighed ns m + times m ns * h m
  weighed-more ns m = sum_by-one_more (λ x. times x ns * h x) m

  weighed-none : (m : ℕ) → weighed [] m ≡ 0
  weighed-none zero = refl
  weighed-none (suc m) = let none : times m [] * h m ≡ 0 = zero-mul (h m) in omega (arith, weighed-more [] m, weighed-none m, none)

  step-last : (n m : ℕ) → cond (nat_lt n m) (h n) 0 + cond (n == m) 1 0 * h m ≡ cond (nat_lt n (suc m)) (h n) 0
  step-last n m = go (n == m) refl
    where
      go : (at : Bool) → (n == m) ≡ at → cond (nat_lt n m) (h n) 0 + cond (n == m) 1 0 * h m ≡ cond (nat_lt n (suc m)) (h n) 0
      go true e =
          let same : n ≡ m = eqb-true n m e in
          let none : nat_lt n m ≡ false = grind (arith, nat_tests) in
          let some : nat_lt n (suc m) ≡ true = grind (arith, nat_tests) in
          let here : 0 + 1 * h m ≡ h n = omega (arith, one-mul (h m), ap h same) in
          (λ i. cond (none i) (h n) 0 + cond (e i) 1 0 * h m) ∙ here ∙ sym (ap (λ b. cond b (h n) 0) some)
      go false e =
          let keeps : nat_lt n (suc m) ≡ nat_lt n m = grind (arith, nat_tests) in
          let here : cond (nat_lt n m) (h n) 0 + 0 * h m ≡ cond (nat_lt n m) (h n) 0 = omega (arith, zero-mul (h m)) in
          (λ i. cond (nat_lt n m) (h n) 0 + cond (e i) 1 0 * h m) ∙ here ∙ sym (ap (λ b. cond b (h n) 0) keeps)

  -- the list with one number more
  weighed-cons : (n : ℕ) (ns : List ℕ) (m : ℕ) → weighed (n ∷ ns) m ≡ weighed ns m + cond (nat_lt n m) (h n) 0
  weighed-cons n ns zero =
      let none : nat_lt n 0 ≡ false = grind (arith, nat_tests) in
      let own : cond (nat_lt n 0) (h n) 0 ≡ 0 = ap (λ b. cond b (h n) 0) none in
      omega (arith, own)
  weighed-cons n ns (suc m) =
      let one : times m (n ∷ ns) ≡ cond (n == m) 1 0 + times m ns = sum_by-cons (λ y. cond (y == m) 1 0) n ns in
      let split : times m (n ∷ ns) * h m ≡ cond (n == m) 1 0 * h m + times m ns * h m = ap (λ k. k * h m) one ∙ add-mul (cond (n == m) 1 0) (times m ns) (h m) in
      omega (arith, weighed-more (n ∷ ns) m, weighed-cons n ns m, weighed-more ns m, split, step-last n m)

  -- a list of numbers below m weighs as these
  list-weighed : (ns : List ℕ) (m : ℕ) → All (λ n. n < m) ns → sum_by h ns ≡ weighed ns m
  list-weighed [] m low = sym (weighed-none m)
  list-weighed (n ∷ ns) m low =
      let here : n < m = low 0 n (omega arith) in
      let test : nat_lt n m ≡ true = grind (arith, nat_tests) in
      let own : cond (nat_lt n m) (h n) 0 ≡ h n = ap (λ b. cond b (h n) 0) test in
      let rest = list-weighed ns m (λ k d less. low (suc k) d (omega (arith, less))) in
      omega (arith, rest, weighed-cons n ns m, own, sum_by-cons h n ns)

  once-weighed : (ns : List ℕ) (n m : ℕ) → AreEachBelow ns n → m ≤ n → weighed ns m ≡ sum_by h (range_with_len 0 m)
  once-weighed ns n zero are low = refl
  once-weighed ns n (suc m) are low =
      let test : nat_lt m n ≡ true = grind (arith, nat_tests) in
      let once : times m ns ≡ 1 = are m ∙ ap (λ b. cond b 1 0) test in
      let own : times m ns * h m ≡ h m = ap (λ k. k * h m) once ∙ one-mul (h m) in
      omega (arith, weighed-more ns m, once-weighed ns n m are (omega (arith, low)), own, sum_by-one_more h m)

  -- a list that has each number below n once, and no other, weighs as these
  pub each-below-sum : (ns : List ℕ) (n : ℕ) → AreEachBelow ns n → sum_by h ns ≡ sum_by h (range_with_len 0 n)
  each-below-sum ns n are =
      list-weighed ns n (λ k d low. subst (λ x. x < n) (default ns k d low) (AreEachBelow-below ns n (get_or ns k 0) are (Contains-get_or ns k 0 low)))
      ∙ once-weighed ns n n are (omega arith)
    where
      default : (xs : List ℕ) (k d : ℕ) → k < length xs → get_or xs k 0 ≡ get_or xs k d
      default [] k d low = absurd (omega (arith, low))
      default (x ∷ xs) zero d low = refl
      default (x ∷ xs) (suc k) d low = default xs k d (omega (arith, low))

module _ (l : Layout) (plans : List PlanParts) where
  reads-all : (k : ℕ) → k ≤ l.stripes → sum_by (reads_for l plans) (range_with_len 0 k) ≡ members_read plans k
  unfolding sum_below
  reads-all zero low = refl
  reads-all (suc k) low =
      sum_by-one_more (reads_for l plans) k ∙ (λ i. reads-all k (omega (arith, low)) i + reads-stripe l plans k (omega (arith, low)) i)

  reads-past : (k : ℕ) → sum_by (reads_for l plans) (range_with_len 0 (l.stripes + k)) ≡ members_read plans l.stripes
  reads-past zero = ap (λ n. sum_by (reads_for l plans) (range_with_len 0 n)) (add-zero l.stripes) ∙ reads-all l.stripes (omega arith)
  reads-past (suc k) =
      let next : l.stripes + suc k ≡ suc (l.stripes + k) = omega arith in
      ap (λ n. sum_by (reads_for l plans) (range_with_len 0 n)) next ∙ sum_by-one_more (reads_for l plans) (l.stripes + k) ∙ omega (arith, reads-past k, reads-beyond l plans (l.stripes + k) (omega arith))

  -- Where all menders together drew each number below the number of their draws once, and one of them was told that no
  -- stripe is left, they read what the plans of all stripes read.
  pub drawn-all : (draws : List ℕ) → AreEachBelow draws (length draws) → 0 < beyond l.stripes draws → drawn_bytes l plans draws ≡ members_read plans l.stripes * l.symbol_bytes
  drawn-all draws are told =
      let past : beyond l.stripes draws ≡ length draws - l.stripes =
      each-below-sum (λ x. cond (nat_le l.stripes x) 1 0) draws (length draws) are ∙ beyond-range l.stripes (length draws) in
      let count : length draws ≡ l.stripes + (length draws - l.stripes) = omega (arith, past, told) in
      ap (λ n. n * l.symbol_bytes)
      (each-below-sum (reads_for l plans) draws (length draws) are ∙ ap (λ n. sum_by (reads_for l plans) (range_with_len 0 n)) count ∙ reads-past (length draws - l.stripes))
