-- What the plan of a line costs.
use Rattle.std.specs.Prelude.{ℕ}
use Rattle.mr_steps.specs.declared.choice_line.ChoiceLine.{ChoiceLine}
use Rattle.mr_steps.specs.declared.choice_line.ChoiceLine.TheVariants.{Given, Least, Spent}

-- what the plan of a line costs
abbrev pub cost_in : ChoiceLine → ℕ
cost_in (Least cost work) = cost
cost_in (Spent cost budget) = cost
cost_in (Given cost) = cost
