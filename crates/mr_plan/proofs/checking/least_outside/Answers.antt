use Rattle.std.proofs.Common.{subst, ◌∙◌}
use Rattle.mr_model.specs.Members.{NextMember}
use Rattle.mr_plan.proofs.CheckLaws.{find-outside}
use Rattle.mr_plan.proofs.checking.least_outside.Goals as goal

pub returns : goal.returns
returns c = find-outside c.args.set c.args.others c.next.result c.next.new.self
    (subst (λ x. NextMember x c.next.result c.next.new.self) (c.symbols.ensures.all ∙ c.minus.ensures) c.next.ensures.steps)
