use Rattle.std.proofs.Common.{◌≡◌, None}
use Rattle.mr_patch.specs.Damages.{parts_of}
use Rattle.mr_patch.proofs.Walking.{IsWalking}
use Rattle.mr_survey.specs.Known.{AreKnown}
use Rattle.mr_survey.specs.Surveys.{undetermined_in}
use Rattle.mr_survey.proofs.surveying.survey.Given as goal

-- the stripes before this one are determined, the sectors of the others are left, and the sets are known
abbrev pub invariant-loop-stripe : goal.invariant-loop-stripe
invariant-loop-stripe l =
    (undetermined_in (parts_of l.fn.damage) l.stripe ≡ None) × IsWalking l.fn.damage.sectors.now l.left l.stripe × AreKnown l.fn.damage.matrix.now l.known
