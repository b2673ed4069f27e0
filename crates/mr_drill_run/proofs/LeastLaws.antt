-- The search for the plan of a drill is within its budget: few sets of survivors have the sum zero.
use Rattle.std.proofs.Common.{arith, ◌≡◌, ◌∙◌, ◌*◌, ◌+◌, ◌-◌, ◌<◌, ◌≤◌, ◌^◌, ◌==◌, ◌/◌, ◌%◌, nat_lt, ⊎_elim, inl, inr, ℕ, zero, suc, lit<, lit≤, Bool, true, false, ◌&&◌, ◌||◌, not, cond, List, [], ◌∷◌, filter, length, get_or, refl, sym, ap, subst, bit_and, bit_xor, count_ones, if◌then◌else◌}
use Rattle.std.specs.Int.{bit_at}
use Rattle.std.specs.List.{range_with_len}
use Rattle.std.proofs.lemmas.Bool.{cases_lt, eqb-true, false_from_ne_true}
use Rattle.std.proofs.lemmas.Nat.Bits.{bit_at-lt, bit_at-suc, bit_at-zero, bit_at_above, bit_at_lowest, bit_at_xor}
use Rattle.std.proofs.Math.Nat.{mul-le-mul_left, pow-le-pow_right}
use Rattle.mr_bits.specs.Matrices.{IsMatrixCode}
use Rattle.mr_eq.specs.Problems.{IsLoss, Loss, search_for}
use Rattle.mr_eq.proofs.SingleLaws.{survivors-apart, survivors-below}
use Rattle.mr_eq.proofs.WorkOf.{work-bounded}
use Rattle.mr_model.specs.Code.{Code, device_symbols, dropped, has_equation, is_equation, kept, row, row_sum, survivors}
use Rattle.mr_model.specs.Members.{members}
use Rattle.mr_model.specs.Search.{all_below, sum_below, work}
use Rattle.mr_model.specs.Sets.{below, has, minus, sum, within}
use Rattle.mr_model.proofs.BoundedLaws.{sum_below-le, true-all_below}
use Rattle.mr_model.proofs.Finding.{all_members-true, any_subset-none}
use Rattle.mr_model.proofs.Kept.{kept-in, true-is_equation}
use Rattle.mr_model.proofs.Loops.{members-length}
use Rattle.mr_model.proofs.SetLaws.{Within-le, Within-minus, bit_at_cases, bit_at_below_cases, bit_at_minus, false-has, has-false, has-true, true-has}
use Rattle.mr_drill_run.specs.Drills.{drill_code}
use Rattle.mr_drill_run.proofs.CodeLaws.{code-is, drill-below, drill-determined, literal}

-- ---- sums that have no member in a column

pick-out : (b : Bool) (r c : ℕ) → (b ≡ true → bit_at r c ≡ 0) → bit_at (cond b r 0) c ≡ 0
pick-out true r c h = h refl
pick-out false r c h = bit_at-zero c

sum-out : (rows : List ℕ) (x c : ℕ) → ((j : ℕ) → bit_at x j ≡ 1 → bit_at (get_or rows j 0) c ≡ 0) → bit_at (sum rows x) c ≡ 0
unfolding sum
sum-out [] x c each = bit_at-zero c
sum-out (r ∷ rows) x c each =
    let rest : bit_at (sum rows (x / 2)) c ≡ 0 = sum-out rows (x / 2) c (λ j member. each (suc j) (bit_at-suc x j ∙ member)) in
    let first : bit_at (cond (x % 2 == 1) r 0) c ≡ 0 = pick-out (x % 2 == 1) r c (λ e. each 0 (bit_at_lowest x ∙ eqb-true (x % 2) 1 e)) in
    bit_at_xor (cond (x % 2 == 1) r 0) (sum rows (x / 2)) c ∙ omega (arith, first, rest)

-- a symbol whose row has a column that no row of a has is no sum of these
no-equation : (m : Code) (a i c : ℕ) → bit_at (row m i) c ≡ 1 → ((j : ℕ) → bit_at a j ≡ 1 → bit_at (row m j) c ≡ 0) → has_equation m a i ≡ false
no-equation m a i c here none = any_subset-none a (is_equation m i) (λ x inside.
    false_from_ne_true (is_equation m i x) (λ e.
    let sums : row_sum m x ≡ row m i = true-is_equation m i x e in
    let out : bit_at (row_sum m x) c ≡ 0 = sum-out m.rows x c (λ j member. none j (omega (arith, member, inside j, bit_at-lt a j))) in
    omega (arith, here, out, ap (λ y. bit_at y c) sums)))

-- ---- lists of members

filter-le : (p q : ℕ → Bool) (xs : List ℕ) → ((x : ℕ) → p x ≡ true → q x ≡ true) → length (filter p xs) ≤ length (filter q xs)
filter-le p q [] each = omega arith
filter-le p q (x ∷ xs) each = go (p x) (q x) (each x) (filter-le p q xs each)
  where
    go : (b d : Bool) → (b ≡ true → d ≡ true) → length (filter p xs) ≤ length (filter q xs)
        → length (cond b (x ∷ filter p xs) (filter p xs)) ≤ length (cond d (x ∷ filter q xs) (filter q xs))
    go true true h le = omega (arith, le)
    go false true h le = omega (arith, le)
    go false false h le = le
    go true false h le = let clash : true ≡ false = sym (h refl) in cc

-- a set has no more members than one that has them all
members-le : (x y : ℕ) → ((i : ℕ) → bit_at x i ≡ 1 → bit_at y i ≡ 1) → length (members x) ≤ length (members y)
unfolding members
members-le x y each = filter-le (has x) (has y) (range_with_len 0 128) (λ i h. has-true y i (each i (true-has x i h)))

-- ---- what is not kept

-- the survivors of the loss of device d that may be spare: diagonal parity, and where it is lost row parity
abbrev spare : ℕ → ℕ
spare d = if d == 5 then 983040 else 15728640

-- a column that symbol i has and no survivor below it
abbrev column_of : ℕ → ℕ → ℕ
column_of d i = if nat_lt i 16 then i else 4 * d + (i - 16)

-- a survivor that is not spare has no equation among those below it
abbrev is-kept : ℕ → ℕ → Bool
is-kept d i = not (has (survivors literal (device_symbols literal d)) i) || (has (spare d) i
    || (has (row literal i) (column_of d i)
    && all_below i (λ j. not (has (survivors literal (device_symbols literal d)) j) || not (has (row literal j) (column_of d i)))))

all-kept : all_below 6 (λ d. all_below 24 (is-kept d)) ≡ true
unfolding all_below has minus
all-kept = refl

when-there : (b s c e : Bool) → b ≡ true → (not b || (s || (c && e))) ≡ true → s ≡ false → (c ≡ true) × (e ≡ true)
when-there true false true true on h out = (refl, refl)
when-there true false true false on h out = cc
when-there true false false e on h out = cc
when-there true true c e on h out = cc
when-there false s c e on h out = cc

when-here : (b c : Bool) → (not b || not c) ≡ true → b ≡ true → c ≡ false
when-here true false h on = refl
when-here true true h on = cc
when-here false c h on = cc

four-spare : (b : Bool) → length (members (if b then 983040 else 15728640)) ≤ 4
unfolding members has
four-spare true = lit≤ tt
four-spare false = lit≤ tt

module _ (d : ℕ) (low : d < 6) where
  abbrev avail : ℕ
  avail = survivors literal (device_symbols literal d)

  avail-few : avail < 2 ^ 24
  avail-few = let le = Within-le _ _ (Within-minus (2 ^ 24 - 1) (device_symbols literal d)) in omega (arith, le)

  -- what is dropped is spare
  dropped-spare : (i : ℕ) → bit_at (dropped literal avail) i ≡ 1 → bit_at (spare d) i ≡ 1
  dropped-spare i member = ⊎_elim (λ (h : bit_at (spare d) i ≡ 1). h) (λ (out : bit_at (spare d) i ≡ 0). absurd (go out)) (bit_at_cases (spare d) i)
    where
      go : bit_at (spare d) i ≡ 0 → ⊥
      go out =
          let there : bit_at avail i ≡ 1 = omega (arith, member, bit_at_minus avail (kept literal avail) i, bit_at-lt avail i, bit_at-lt (kept literal avail) i) in
          let gone : bit_at (kept literal avail) i ≡ 0 = omega (arith, member, bit_at_minus avail (kept literal avail) i, bit_at-lt avail i, bit_at-lt (kept literal avail) i) in
          let small : i < 24 = ⊎_elim (λ (h : i < 24). h) (λ (h : 24 ≤ i). absurd (omega (arith, there, bit_at_above avail 24 i avail-few h))) (cases_lt i 24) in
          let test : is-kept d i ≡ true = true-all_below 24 (is-kept d) (true-all_below 6 (λ e. all_below 24 (is-kept e)) all-kept d low) i small in
          let parts = when-there (has avail i) (has (spare d) i) _ _ (has-true avail i there) test (has-false (spare d) i out) in
          let none : (j : ℕ) → bit_at (below i avail) j ≡ 1 → bit_at (row literal j) (column_of d i) ≡ 0 = λ j in_below. elim (bit_at_below_cases i avail j) [
            | inl less ↦
                false-has (row literal j) (column_of d i)
                (when-here (has avail j) (has (row literal j) (column_of d i)) (true-all_below i _ parts.1 j less.0) (has-true avail j (sym less.1 ∙ in_below)))
            | inr more ↦ absurd (omega (arith, in_below, more.1))
          ] in
          let lone : has_equation literal (below i avail) i ≡ false = no-equation literal (below i avail) i (column_of d i) (true-has (row literal i) (column_of d i) parts.0) none in
          omega (arith, gone, kept-in literal avail i there lone)

  spare-few : length (members (spare d)) ≤ 4
  spare-few = four-spare (d == 5)

  literal-dropped : count_ones (dropped literal avail) ≤ 4
  literal-dropped =
      let under : dropped literal avail < 2 ^ 128 = let le = Within-le _ _ (Within-minus avail (kept literal avail)) in omega (arith, le, avail-few) in
      omega (arith, members-length (dropped literal avail) under, members-le (dropped literal avail) (spare d) dropped-spare, spare-few)

literal-targets : (d : ℕ) → d < 6 → length (members (device_symbols literal d)) ≡ 4
unfolding members has
literal-targets zero low = refl
literal-targets (suc zero) low = refl
literal-targets (suc (suc zero)) low = refl
literal-targets (suc (suc (suc zero))) low = refl
literal-targets (suc (suc (suc (suc zero)))) low = refl
literal-targets (suc (suc (suc (suc (suc zero))))) low = refl
literal-targets (suc (suc (suc (suc (suc (suc d)))))) low = absurd (omega (arith, low))

-- ---- the work

powers-le : (a b j : ℕ) → a ≤ b → 2 ^ ((j + 1) * a) ≤ 2 ^ ((j + 1) * b)
powers-le a b j le = pow-le-pow_right {n = 2} (omega arith) (mul-le-mul_left (j + 1) le)

four : (n k : ℕ) → n ≡ 4 → k ≤ 4 → sum_below n (λ j. 2 ^ ((j + 1) * k)) ≤ 69904
unfolding sum_below
four n k e few =
    subst (λ i. sum_below i (λ j. 2 ^ ((j + 1) * k)) ≤ 69904) (sym e)
    (omega (arith, sum_below-le 4 (λ j. 2 ^ ((j + 1) * k)) (λ j. 2 ^ ((j + 1) * 4)) (λ j low. powers-le k 4 j few)))

pub drill-loss : IsMatrixCode drill_code → (d : ℕ) → d < 6 → IsLoss (record { code = drill_code; avail = survivors drill_code (device_symbols drill_code d); targets = device_symbols drill_code d })
drill-loss is d low = record {
  code_is = is;
  avail_below = survivors-below drill_code (device_symbols drill_code d);
  targets_below = drill-below d low;
  apart = survivors-apart drill_code (device_symbols drill_code d);
  determined = all_members-true (device_symbols drill_code d) (has_equation drill_code (survivors drill_code (device_symbols drill_code d))) (λ t gone. drill-determined d t low gone);
}

pub drill-work : IsMatrixCode drill_code → (d : ℕ) → d < 6
    → work (search_for (record { code = drill_code; avail = survivors drill_code (device_symbols drill_code d); targets = device_symbols drill_code d })) ≤ 69904
drill-work is d low =
    let p : Loss = record { code = drill_code; avail = survivors drill_code (device_symbols drill_code d); targets = device_symbols drill_code d } in
    let most = (work-bounded p (drill-loss is d low)).most in
    let targets : length (members (device_symbols drill_code d)) ≡ 4 = ap (λ (m : Code). length (members (device_symbols m d))) code-is ∙ literal-targets d low in
    let spare_few : count_ones (dropped drill_code (survivors drill_code (device_symbols drill_code d))) ≤ 4 =
    subst (λ (m : Code). count_ones (dropped m (survivors m (device_symbols m d))) ≤ 4) (sym code-is) (literal-dropped d low) in
    omega (arith, most, four (length (members (device_symbols drill_code d))) (count_ones (dropped drill_code (survivors drill_code (device_symbols drill_code d)))) targets spare_few)
