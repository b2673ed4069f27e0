-- The line of a plan in the report.
use Rattle.std.specs.Prelude.{List, [], codes, decimal, ℕ, ◌∷◌}
use Rattle.mr_steps.specs.Faults.{joined}
use Rattle.mr_steps.specs.declared.choice_line.ChoiceLine.{ChoiceLine}
use Rattle.mr_steps.specs.declared.choice_line.ChoiceLine.TheVariants.{Given as GivenLine, Least as LeastLine, Spent as SpentLine}

-- the text of a line
abbrev pub line_text : ChoiceLine → List ℕ
line_text (LeastLine price work) =
    joined (codes "least cost " ∷ decimal price ∷ codes " work " ∷ decimal work ∷ codes "\n" ∷ [])
line_text (SpentLine price budget) =
    joined (codes "spent cost " ∷ decimal price ∷ codes " budget " ∷ decimal budget ∷ codes "\n"
    ∷ [])
line_text (GivenLine price) = joined (codes "given cost " ∷ decimal price ∷ codes "\n" ∷ [])
