-- A valid plan may be carried out.
use Rattle.std.proofs.Common.{◌≡◌, ℕ, zero, suc, ◌+◌, ◌^◌, ◌<◌, ◌≤◌, Bool, true, false, cond, List, [], ◌∷◌, map, filter, length, get_or, All, sym, ap, subst, ◌∙◌, arith}
use Rattle.std.specs.List.{range_with_len}
use Rattle.std.proofs.lemmas.List.{length-map}
use Rattle.mr_model.specs.Sets.{has}
use Rattle.mr_model.specs.Members.{members}
use Rattle.mr_model.specs.Code.{Code}
use Rattle.mr_model.specs.Plans.{Recipe, IsValidPlan}
use Rattle.mr_model.proofs.SetLaws.{member-below}
use Rattle.mr_model.proofs.Loops.{members-few}
use Rattle.mr_plan.proofs.MemberLists.{members-All}
use Rattle.mr_plan.specs.Plans.{PlanParts}
use Rattle.mr_image.specs.Images.{Layout, stripe_symbols}
use Rattle.mr_mend.specs.Mending.{IsMendable, IsUpwards}
use Rattle.mr_mend.proofs.Lists.{symbol_at}
use Rattle.mr_mend.proofs.Subsets.{within-low}

-- strictly upwards from a number on
abbrev From : ℕ → List ℕ → Type 0
From a [] = Unit {0}
From a (x ∷ xs) = (a ≤ x) × From (x + 1) xs

From-lower : (a b : ℕ) (xs : List ℕ) → a ≤ b → From b xs → From a xs
From-lower a b [] le h = tt
From-lower a b (x ∷ xs) le h = (omega (arith, h.0), h.1)

From-cond : (c : Bool) (a : ℕ) (xs : List ℕ) → From (a + 1) xs → From a (cond c (a ∷ xs) xs)
From-cond true a xs h = (omega arith, h)
From-cond false a xs h = From-lower a (a + 1) xs (omega arith) h

From-range : (x n a : ℕ) → From a (filter (has x) (range_with_len a n))
From-range x zero a = tt
From-range x (suc n) a = From-cond (has x a) a (filter (has x) (range_with_len (a + 1) n)) (From-range x n (a + 1))

From-least : (a : ℕ) (xs : List ℕ) (k : ℕ) → From a xs → k < length xs → a ≤ get_or xs k 0
From-least a [] k h low = absurd (omega arith)
From-least a (x ∷ xs) zero h low = h.0
From-least a (x ∷ xs) (suc k) h low = omega (arith, From-least (x + 1) xs k h.1 (omega arith), h.0)

From-upwards : (a : ℕ) (xs : List ℕ) → From a xs → IsUpwards xs
From-upwards a [] h j k lt low = absurd (omega arith)
From-upwards a (x ∷ xs) h zero zero lt low = absurd (omega arith)
From-upwards a (x ∷ xs) h zero (suc k) lt low = omega (arith, From-least (x + 1) xs k h.1 (omega (arith, low)))
From-upwards a (x ∷ xs) h (suc j) zero lt low = absurd (omega arith)
From-upwards a (x ∷ xs) h (suc j) (suc k) lt low = From-upwards (x + 1) xs h.1 j k (omega (arith, lt)) (omega (arith, low))

members-upwards : (x : ℕ) → IsUpwards (members x)
unfolding members
members-upwards x = From-upwards 0 (filter (has x) (range_with_len 0 128)) (From-range x 128 0)

-- A plan that is valid for a loss of a code of the layout's shape may be carried out.
pub mendable-from_valid : (l : Layout) (m : Code) (survivors lost : ℕ) (plan : PlanParts) → survivors < 2 ^ stripe_symbols l → lost < 2 ^ stripe_symbols l
    → IsValidPlan m survivors lost plan.set plan.recipes → IsMendable l plan
mendable-from_valid l m survivors lost plan few_survivors few_lost valid =
    let symbols : List ℕ = map (λ (r : Recipe). r.symbol) plan.recipes in
    let count : length plan.recipes ≡ length (members lost) = sym (length-map plan.recipes (λ (r : Recipe). r.symbol)) ∙ ap length valid.symbols in
    let low : All (λ t. t < stripe_symbols l) (members lost) = members-All (λ t. t < stripe_symbols l) lost (λ t member. member-below (stripe_symbols l) lost t few_lost member) in
    record {
      few = omega (arith, count, members-few lost);
      in_range = within-low plan.set survivors (stripe_symbols l) valid.survivors few_survivors;
      symbols = λ k d here.
          let at : k < length (members lost) = omega (arith, here, count) in
          omega (arith, low k 0 at, symbol_at plan.recipes k d here, ap (λ xs. get_or xs k 0) valid.symbols);
      inside = valid.inside;
      upwards = subst (λ xs. IsUpwards xs) (sym valid.symbols) (members-upwards lost);
    }
