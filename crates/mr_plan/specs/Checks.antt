-- The first fault of a plan, against a code and its lost symbols.
use Rattle.std.specs.Prelude.{ℕ, ◌==◌, Bool, not, nat_lt, List, [], ◌∷◌, map, Option, Some, None, Result, Ok, Err, if◌then◌else◌}
use Rattle.std.specs.Option.{option_map}
use Rattle.std.specs.List.{list_any}
use Rattle.mr_model.specs.Sets.{has, within, find_member}
use Rattle.mr_model.specs.Members.{members}
use Rattle.mr_model.specs.Code.{Code, is_equation}
use Rattle.mr_model.specs.Plans.{Recipe}
use Rattle.mr_plan.specs.declared.errors.Wrong.{Wrong}
use Rattle.mr_plan.specs.declared.errors.Why.{Why}
use Rattle.mr_plan.specs.declared.errors.Why.TheVariants.{NotSurvivor, Missing, Stray, Outside, Sum, Spare}
use Rattle.mr_plan.specs.Plans.{PlanParts, survivors}

abbrev pub wrong : Why → ℕ → Wrong
wrong why symbol = record { symbol = symbol; why = why }

-- the first of two faults
abbrev pub fault_or : Option Wrong → Option Wrong → Option Wrong
fault_or (Some fault) later = Some fault
fault_or None later = later

-- the least member of the set that does not survive
abbrev pub survivor_fault : Code → ℕ → ℕ → Option Wrong
survivor_fault m lost set =
    option_map (wrong NotSurvivor) (find_member set (λ i. not (has (survivors m lost) i)))

-- what is wrong with the symbol s of a recipe where the lost symbol at its place is expected, if there is one
abbrev pub expected_fault : Option ℕ → ℕ → Option Wrong
expected_fault None s = Some (wrong Stray s)
expected_fault (Some t) s =
    if t == s then None else if nat_lt t s then Some (wrong Missing t) else Some (wrong Stray s)

-- the first place at which the lost symbols and the symbols of the recipes differ
unfoldable pub symbol_fault : List ℕ → List ℕ → Option Wrong
symbol_fault [] [] = None
symbol_fault (t ∷ ts) [] = Some (wrong Missing t)
symbol_fault [] (s ∷ ss) = expected_fault None s
symbol_fault (t ∷ ts) (s ∷ ss) = fault_or (expected_fault (Some t) s) (symbol_fault ts ss)

-- what is wrong with one recipe
abbrev pub recipe_fault : Code → ℕ → Recipe → Option Wrong
recipe_fault m set r =
    if not (within r.equation set) then Some (wrong Outside r.symbol)
    else if not (is_equation m r.symbol r.equation) then Some (wrong Sum r.symbol)
    else None

-- the first recipe with a fault
unfoldable pub recipes_fault : Code → ℕ → List Recipe → Option Wrong
recipes_fault m set [] = None
recipes_fault m set (r ∷ rs) = fault_or (recipe_fault m set r) (recipes_fault m set rs)

-- i stands in a recipe
abbrev pub is_needed : List Recipe → ℕ → Bool
is_needed recipes i = list_any (λ r. has r.equation i) recipes

-- the least member of the set that stands in no recipe
abbrev pub spare_fault : ℕ → List Recipe → Option Wrong
spare_fault set recipes =
    option_map (wrong Spare) (find_member set (λ i. not (is_needed recipes i)))

-- the first fault of a plan
abbrev pub first_fault : Code → ℕ → PlanParts → Option Wrong
first_fault m lost plan =
    fault_or (survivor_fault m lost plan.set)
    (fault_or (symbol_fault (members lost) (map (λ r. r.symbol) plan.recipes))
    (fault_or (recipes_fault m plan.set plan.recipes) (spare_fault plan.set plan.recipes)))

-- what the checker answers: the fault, if there is one
abbrev pub sound_unless : Option Wrong → Result (Unit {0}) Wrong
sound_unless None = Ok tt
sound_unless (Some fault) = Err fault
