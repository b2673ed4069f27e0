-- The report of a rebuild: the plans, the stripes and the replies.
use Rattle.std.specs.List.{range_with_len}
use Rattle.std.specs.Prelude.{ℕ, ◌==◌, List, [], ◌∷◌, ◌++◌, codes, decimal, flat_map, if◌then◌else◌, slice_index_or}
use Rattle.mr_image.specs.Images.{Layout}
use Rattle.mr_image.specs.Rotated.{rotations}
use Rattle.mr_mend.specs.Replies.{Reply, reply_line}
use Rattle.mr_plan.specs.PlanLists.{plan_at}
use Rattle.mr_plan.specs.PlanText.{plan_text}
use Rattle.mr_plan.specs.Plans.{PlanParts}
use Rattle.mr_steps.specs.Faults.{joined}
use Rattle.mr_steps.specs.Lines.{line_text}
use Rattle.mr_steps.specs.declared.choice_line.ChoiceLine.{ChoiceLine}
use Rattle.mr_steps.specs.declared.choice_line.ChoiceLine.TheVariants.{Given as GivenLine}

-- the line of the plan of rotation r
abbrev pub line_at : List ChoiceLine → ℕ → ChoiceLine
line_at lines r = slice_index_or lines r (GivenLine 0)

abbrev pub stripes_text : ℕ → List ℕ
stripes_text stripes = joined (codes "stripes " ∷ decimal stripes ∷ codes "\n" ∷ [])

-- the line before the plan of a rotation, in version 2 alone
abbrev pub rotation_text : Layout → ℕ → List ℕ
rotation_text l r =
    if l.version == 2 then joined (codes "rotation " ∷ decimal r ∷ codes "\n" ∷ []) else []

-- the plan of rotation r, and how it was found
abbrev pub choice_text : Layout → List PlanParts → List ChoiceLine → ℕ → List ℕ
choice_text l plans lines r =
    rotation_text l r ++ plan_text (plan_at plans r) ++ line_text (line_at lines r)

-- the plan of each rotation in use upwards, and the stripes
abbrev pub plans_report : Layout → List PlanParts → List ChoiceLine → List ℕ
plans_report l plans lines =
    flat_map (choice_text l plans lines) (range_with_len 0 (rotations l)) ++ stripes_text l.stripes

-- the lines of replies
abbrev pub lines_of : List Reply → List ℕ
lines_of replies = flat_map (λ reply. reply_line reply.ask reply.bytes) replies

-- the plans and the stripes, and then the lines of the replies
abbrev pub rebuild_report : Layout → List PlanParts → List ChoiceLine → List Reply → List ℕ
rebuild_report l plans lines replies = plans_report l plans lines ++ lines_of replies
