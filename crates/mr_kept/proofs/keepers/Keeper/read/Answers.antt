use Rattle.std.proofs.Common.{sym, ap, ◌∙◌}
use Rattle.mr_plan.specs.Plans.{PlanParts}
use Rattle.mr_plan.specs.PlanLists.{recipes_at}
use Rattle.mr_kept.specs.Kept.{mended_symbol}
use Rattle.mr_kept.proofs.MendLaws.{recipes-of, symbol-mended}
use Rattle.mr_kept.proofs.keepers.Keeper.read.Goals as goal

pub returns-clause-symbol : goal.returns-clause-symbol
returns-clause-symbol g c =
    c.read_by.ensures
    ∙ ap (λ rs. mended_symbol c.args.self.now.head.now rs c.args.bytes.now c.args.number)
    (ap (λ (p : PlanParts). p.recipes) c.at.ensures.plan ∙ recipes-of c.args.self.now.plans.now c.args.stripe)

pub returns-clause-mended : goal.returns-clause-mended
returns-clause-mended g c =
    c.read_by.ensures
    ∙ ap (λ rs. mended_symbol c.args.self.now.head.now rs c.args.bytes.now c.args.number)
    (ap (λ (p : PlanParts). p.recipes) c.at.ensures.plan ∙ recipes-of c.args.self.now.plans.now c.args.stripe)
    ∙ sym (symbol-mended c.args.self.now.head.now (recipes_at c.args.self.now.plans.now c.args.stripe) c.args.bytes.now c.args.number c.requires.bytes c.requires.number)
