use Rattle.std.proofs.Common.{flat_map, take}
use Rattle.mr_io.proofs.Fronts.{TakenSoFar}
use Rattle.mr_plan.specs.PlanText.{recipe_text, line_of}
use Rattle.mr_plan.proofs.printing.put_recipes.Given as goal

-- the lines of the recipes so far are taken
abbrev pub invariant-loop-recipe : goal.invariant-loop-recipe
invariant-loop-recipe g l = TakenSoFar (g.K.Sink.held l.initial.out) (g.K.Sink.held l.out) (g.K.Sink.faults l.initial.out) (g.K.Sink.faults l.out)
    (flat_map (λ r. line_of (recipe_text r)) (take l.recipe-index l.recipes))
