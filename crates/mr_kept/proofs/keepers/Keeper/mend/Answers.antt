use Rattle.std.proofs.Common.{ap, ◌∙◌}
use Rattle.mr_plan.specs.Plans.{PlanParts}
use Rattle.mr_kept.specs.Kept.{mended_bytes}
use Rattle.mr_kept.proofs.MendLaws.{recipes-of}
use Rattle.mr_kept.proofs.keepers.Keeper.mend.Goals as goal

pub returns : goal.returns
returns g c =
    c.mend_by.ensures
    ∙ ap (λ rs. mended_bytes c.args.self.now.head.now rs c.args.bytes.now)
    (ap (λ (p : PlanParts). p.recipes) c.at.ensures.plan ∙ recipes-of c.args.self.now.plans.now c.args.stripe)
