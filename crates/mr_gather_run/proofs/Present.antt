-- Those that are there, one after another.
use Rattle.std.proofs.Common.{arith, ◌≡◌, ℕ, ◌+◌, ◌≤◌, List, [], ◌∷◌, ◌++◌, map, length, Option, None, Some, refl, ◌∙◌, ap}
use Rattle.std.proofs.lemmas.List.{map-append, length-append}
use Rattle.mr_io.specs.declared.asked.Asked.{Asked}
use Rattle.mr_io.specs.declared.duty.Duty.TheVariants.{Copy}
use Rattle.mr_gather_run.specs.Slots.{device_eyes, present}

pub present-append : {X : Type 0} (xs ys : List (Option X)) → present (xs ++ ys) ≡ present xs ++ present ys
present-append [] ys = refl
present-append (None ∷ xs) ys = present-append xs ys
present-append (Some x ∷ xs) ys = ap (λ zs. x ∷ zs) (present-append xs ys)

pub present-length : {X : Type 0} (xs ys : List (Option X)) → length (present (xs ++ ys)) ≡ length (present xs) + length (present ys)
present-length xs ys = ap length (present-append xs ys) ∙ length-append (present xs) (present ys)

pub present-few : {X : Type 0} (xs : List (Option X)) → length (present xs) ≤ length xs
present-few [] = omega arith
present-few (None ∷ xs) = let h = present-few xs in omega (arith, h)
present-few (Some x ∷ xs) = let h = present-few xs in omega (arith, h)

abbrev eye-on : List ℕ → Asked
eye-on name = record { name = name; duty = Copy }

pub device_eyes-append : (xs ys : List (Option (List ℕ))) → device_eyes (xs ++ ys) ≡ device_eyes xs ++ device_eyes ys
device_eyes-append xs ys = ap (map (λ (name : List ℕ). eye-on name)) (present-append xs ys) ∙ map-append (λ (name : List ℕ). eye-on name) (present xs) (present ys)
