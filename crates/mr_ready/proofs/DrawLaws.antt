-- What a pass knows that took in all others: each stripe was seen done, and so many bytes were read.
use Rattle.std.proofs.Common.{◌≡◌, ℕ, zero, suc, ◌+◌, ◌-◌, ◌*◌, ◌<◌, ◌≤◌, ◌==◌, true, cond, List, [], ◌∷◌, ◌++◌, flat_map, length, get_or, All, refl, sym, ap, ◌∙◌, arith, sum_by, ⊎_elim, zero-mul}
use Rattle.std.specs.Prelude.{nat_le, nat_lt}
use Rattle.std.proofs.Math.Nat.{add-mul}
use Rattle.std.proofs.lemmas.Bool.{cases_lt}
use Rattle.std.proofs.lemmas.Bool.Decides.{nat_tests}
use Rattle.std.proofs.lemmas.List.Elements.{All-head, All-tail}
use Rattle.std.proofs.lemmas.List.Sums.{sum_by-append, sum_by-cons}
use Rattle.mr_counts.specs.Numbers.{AreEachBelow, beyond, times}
use Rattle.mr_counts.proofs.NumberLaws.{beyond-range}
use Rattle.mr_image.specs.Images.{Layout}
use Rattle.mr_mend.specs.Menders.{drawn_bytes, reads_for}
use Rattle.mr_mend.proofs.DrawnTotals.{each-below-sum}
use Rattle.mr_plan.specs.Plans.{PlanParts}

-- where the draws are the numbers below their count, and one of them is no stripe, each stripe was drawn
pub drew-each : (draws : List ℕ) (stripes t : ℕ) → AreEachBelow draws (length draws) → 0 < beyond stripes draws → t < stripes → 0 < times t draws
drew-each draws stripes t are told low =
    let past : beyond stripes draws ≡ length draws - stripes =
    each-below-sum (λ x. cond (nat_le stripes x) 1 0) draws (length draws) are ∙ beyond-range stripes (length draws) in
    let far : t < length draws = omega (arith, past, told, low) in
    let test : nat_lt t (length draws) ≡ true = grind (arith, nat_tests) in
    let once : times t draws ≡ 1 = are t ∙ ap (λ b. cond b 1 0) test in
    omega (arith, once)

module _ {X : Type 0} (draws seen : X → List ℕ) where
  -- what one of them drew, all of them drew
  pub beyond-one : (stripes : ℕ) (xs : List X) (k : ℕ) (d : X) → k < length xs → 0 < beyond stripes (draws (get_or xs k d)) → 0 < beyond stripes (flat_map draws xs)
  beyond-one stripes [] k d low told = absurd (omega (arith, low))
  beyond-one stripes (x ∷ xs) zero d low told =
      let both : beyond stripes (draws x ++ flat_map draws xs) ≡ beyond stripes (draws x) + beyond stripes (flat_map draws xs) = sum_by-append (λ y. cond (nat_le stripes y) 1 0) (draws x) (flat_map draws xs) in
      omega (arith, both, told)
  beyond-one stripes (x ∷ xs) (suc k) d low told =
      let both : beyond stripes (draws x ++ flat_map draws xs) ≡ beyond stripes (draws x) + beyond stripes (flat_map draws xs) = sum_by-append (λ y. cond (nat_le stripes y) 1 0) (draws x) (flat_map draws xs) in
      omega (arith, both, beyond-one stripes xs k d (omega (arith, low)) told)

  -- what each of them that drew it saw done, all of them saw done
  pub seen-by-all : (t : ℕ) (xs : List X) → All (λ x. 0 < times t (draws x) → 0 < times t (seen x)) xs → 0 < times t (flat_map draws xs) → 0 < times t (flat_map seen xs)
  seen-by-all t [] each some = absurd (omega (arith, some))
  seen-by-all t (x ∷ xs) each some =
      let P : X → Type 0 = λ x. 0 < times t (draws x) → 0 < times t (seen x) in
      let drew : times t (draws x ++ flat_map draws xs) ≡ times t (draws x) + times t (flat_map draws xs) = sum_by-append (λ y. cond (y == t) 1 0) (draws x) (flat_map draws xs) in
      let saw : times t (seen x ++ flat_map seen xs) ≡ times t (seen x) + times t (flat_map seen xs) = sum_by-append (λ y. cond (y == t) 1 0) (seen x) (flat_map seen xs) in
      ⊎_elim (λ (here : 0 < times t (draws x)). omega (arith, saw, All-head P x xs each here))
      (λ (none : times t (draws x) ≤ 0). omega (arith, saw, seen-by-all t xs (All-tail P x xs each) (omega (arith, drew, some, none))))
      (cases_lt 0 (times t (draws x)))

  -- where none drew, nothing was drawn
  pub none-drawn : (xs : List X) → All (λ x. draws x ≡ []) xs → flat_map draws xs ≡ []
  none-drawn [] each = refl
  none-drawn (x ∷ xs) each = (λ i. All-head (λ x. draws x ≡ []) x xs each i ++ none-drawn xs (All-tail (λ x. draws x ≡ []) x xs each) i)

-- the bytes that are read for all draws are those for each list of them
pub drawn-each : {X : Type 0} (l : Layout) (plans : List PlanParts) (draws : X → List ℕ) (xs : List X)
    → sum_by (λ x. drawn_bytes l plans (draws x)) xs ≡ drawn_bytes l plans (flat_map draws xs)
drawn-each l plans draws [] = sym (zero-mul l.symbol_bytes)
drawn-each l plans draws (x ∷ xs) =
    let both = sum_by-append (reads_for l plans) (draws x) (flat_map draws xs) in
    let split = add-mul (sum_by (reads_for l plans) (draws x)) (sum_by (reads_for l plans) (flat_map draws xs)) l.symbol_bytes in
    omega (arith, sum_by-cons (λ x. drawn_bytes l plans (draws x)) x xs, drawn-each l plans draws xs, ap (λ n. n * l.symbol_bytes) both, split)
