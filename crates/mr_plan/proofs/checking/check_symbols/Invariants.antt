use Rattle.std.proofs.Common.{◌≡◌, drop, map}
use Rattle.mr_model.specs.Members.{members}
use Rattle.mr_model.specs.Plans.{Recipe}
use Rattle.mr_plan.specs.Checks.{symbol_fault}
use Rattle.mr_plan.proofs.checking.check_symbols.Given as goal

-- the symbols so far are the same
abbrev pub invariant-loop-recipe : goal.invariant-loop-recipe
invariant-loop-recipe l =
    symbol_fault (members l.fn.lost) (map (λ (r : Recipe). r.symbol) l.fn.recipes) ≡ symbol_fault (members l.expected) (map (λ (r : Recipe). r.symbol) (drop l.recipe-index l.recipes))
