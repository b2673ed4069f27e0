use Rattle.std.proofs.Common.{rules, ◌≡◌, ◌∷◌, [], ◌*◌, ◌^◌, ◌<◌, List, length, sym, subst, ◌∙◌}
use Rattle.std.specs.Prelude.{IsOk}
use Rattle.mr_image.specs.Images.{stripe_symbols}
use Rattle.mr_plan.specs.Plans.{PlanParts}
use Rattle.mr_plan.specs.PlanLists.{ArePlans}
use Rattle.mr_plan.proofs.PlanListLaws.{plans-one}
use Rattle.mr_mend.proofs.Planned.{valid-one}
use Rattle.mr_kept.specs.Kept.{AreAmendable}
use Rattle.mr_callers_calls.proofs.tests.plans.Goals as goal

pub new-requires : goal.new-requires
new-requires g c =
    let list : c.push.new.self.items ≡ c.in_ok-plan.plan ∷ [] = search rules in
    subst (λ (ps : List PlanParts). ArePlans ps) (sym list) (plans-one c.in_ok-plan.plan)

pub returns : goal.returns
returns g c =
    let list : c.push.new.self.items ≡ c.in_ok-plan.plan ∷ [] = search rules in
    let few : c.of-lost.result < 2 ^ length c.args.matrix.now.rows = search rules in
    let ok : IsOk c.check.result = search rules in
    let rows : length c.args.matrix.now.rows ≡ stripe_symbols c.args.head.now =
    c.shape-within_the_limits.ensures.code.count ∙ sym (λ j. c.requires.head.devices j * c.requires.head.symbols j) in
    subst (λ (ps : List PlanParts). AreAmendable c.args.head.now ps) (sym (c.new.ensures ∙ list))
    (c.valid_plans_are_amendable.ensures.plans c.args.matrix.now c.of-lost.result (c.in_ok-plan.plan ∷ []) c.shape-within_the_limits.ensures.code c.requires.head
    (subst (λ n. c.of-lost.result < 2 ^ n) rows few)
    (valid-one c.args.head.now c.args.matrix.now c.of-lost.result c.in_ok-plan.plan c.requires.version (c.check.ensures.valid.0 ok)))
