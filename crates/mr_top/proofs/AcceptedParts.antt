-- What `rebuild` accepts, from each step on.
use Rattle.std.proofs.Common.{ℕ, List, Option, Result, Ok, option_map}
use Rattle.mr_choices.specs.Handed.{plan_file_given}
use Rattle.mr_image.specs.Images.{Layout}
use Rattle.mr_model.specs.Code.{Code}
use Rattle.mr_steps.specs.Losses.{targets_given}
use Rattle.mr_steps.specs.Refusals.{followed_by}
use Rattle.mr_steps.specs.declared.fault.Fault.{Fault}
use Rattle.mr_top.specs.Rebuild.{RebuildAccepted, asks_given, image_given, rebuild_of_parts}
use Rattle.mr_top.specs.RebuildSteps.{ImageParts, parts_as}
use Rattle.mr_choices.specs.declared.chosen.ChosenPlan.{ChosenPlan}
use Rattle.mr_words.specs.declared.rebuild_words.RebuildWords.{RebuildWords}

-- ---- what a rebuild reads before the script

abbrev pub image_of_plan : (List ℕ → List ℕ) → RebuildWords → Code → ℕ → Option ChosenPlan
    → Result ImageParts Fault
image_of_plan contents words m targets handed =
    followed_by (image_given m targets handed (contents words.image))
    (λ l. Ok (parts_as m targets handed l))

abbrev pub image_of_loss : (List ℕ → List ℕ) → RebuildWords → Code → ℕ → Result ImageParts Fault
image_of_loss contents words m targets =
    followed_by (plan_file_given m targets (option_map contents words.plan))
    (image_of_plan contents words m targets)

abbrev pub image_of_matrix : (List ℕ → List ℕ) → RebuildWords → Code → Result ImageParts Fault
image_of_matrix contents words m =
    followed_by (targets_given m words.lost) (image_of_loss contents words m)

-- ---- what a rebuild accepts

abbrev pub rebuild_of_head : (List ℕ → List ℕ) → List ℕ → RebuildWords → Code → ℕ
    → Option ChosenPlan → Layout → Result RebuildAccepted Fault
rebuild_of_head contents left words m targets handed l =
    followed_by (asks_given l left)
    (λ asks. Ok (rebuild_of_parts contents words m targets handed l asks))

abbrev pub rebuild_of_plan : (List ℕ → List ℕ) → List ℕ → RebuildWords → Code → ℕ
    → Option ChosenPlan → Result RebuildAccepted Fault
rebuild_of_plan contents left words m targets handed =
    followed_by (image_given m targets handed (contents words.image))
    (rebuild_of_head contents left words m targets handed)

abbrev pub rebuild_of_loss : (List ℕ → List ℕ) → List ℕ → RebuildWords → Code → ℕ
    → Result RebuildAccepted Fault
rebuild_of_loss contents left words m targets =
    followed_by (plan_file_given m targets (option_map contents words.plan))
    (rebuild_of_plan contents left words m targets)

abbrev pub rebuild_of_matrix : (List ℕ → List ℕ) → List ℕ → RebuildWords → Code
    → Result RebuildAccepted Fault
rebuild_of_matrix contents left words m =
    followed_by (targets_given m words.lost) (rebuild_of_loss contents left words m)
