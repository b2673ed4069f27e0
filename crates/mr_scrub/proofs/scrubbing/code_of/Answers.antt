use Rattle.std.proofs.Common.{◌∙◌, sym}
use Rattle.mr_image.proofs.RotatedLaws.{codes-rotation}
use Rattle.mr_scrub.proofs.scrubbing.code_of.Goals as goal

pub returns-then-version-eq2 : goal.returns-then-version-eq2
returns-then-version-eq2 c =
    c.rotated.ensures.code
    ∙ sym (codes-rotation c.args.head.now c.args.matrix.now c.args.rotation (sym c.version.ensures.number ∙ c.if-version-eq2.true) c.requires)
