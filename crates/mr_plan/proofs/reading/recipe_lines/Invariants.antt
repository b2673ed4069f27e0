use Rattle.std.proofs.Common.{length}
use Rattle.mr_text.specs.Lines.{pieces}
use Rattle.mr_plan.specs.Readings.{read_recipes}
use Rattle.mr_plan.proofs.ReadLaws.{IsReading}
use Rattle.mr_plan.proofs.reading.recipe_lines.Given as goal

-- the recipes so far, and those of the lines left
abbrev pub invariant-loop-text : goal.invariant-loop-text
invariant-loop-text l = IsReading (read_recipes 3 0 (pieces 10 l.fn.bytes)) l.recipes.items l.line l.least (pieces 10 l.rest)

abbrev pub decreases-loop-text : goal.decreases-loop-text
decreases-loop-text l = length l.rest
