use Rattle.std.proofs.Common.{◌≡◌, ◌∙◌, Ok, Result, ap, sym}
use Rattle.mr_image.specs.Heads.{checked_layout}
use Rattle.mr_image.specs.Images.{Layout}
use Rattle.mr_image.specs.declared.faults.HeadFault.{HeadFault}
use Rattle.mr_model.specs.Code.{dimensions}
use Rattle.mr_drill_run.specs.Drills.{drill_layout}
use Rattle.mr_drill_run.proofs.CodeLaws.{drill-checked}
use Rattle.mr_drill_run.proofs.codes.head_of_drills.Goals as goal

pub returns-clause-head : goal.returns-clause-head
returns-clause-head c =
    let same : ◌≡◌ {A = Result Layout HeadFault} (Ok c.unwrap-head.result) (Ok drill_layout) =
    sym c.unwrap-head.ensures ∙ c.new.ensures ∙ ap (λ d. checked_layout d 4096 64) (c.shape.ensures.shape ∙ ap dimensions c.requires) ∙ drill-checked in
    cc
