use Rattle.std.proofs.Common.{◌≡◌, ◌∙◌, true, false, length, sym, ap, arith}
use Rattle.std.proofs.lemmas.Result.{on_ok_weaker}
use Rattle.mr_io.specs.Sights.{sight_with}
use Rattle.mr_plan.specs.PlanLists.{recipes_at}
use Rattle.mr_plan.proofs.PlanListLaws.{own_recipes}
use Rattle.mr_mend.specs.Mending.{has_recipe}
use Rattle.mr_io.proofs.Seeing.{sight_with-none}
use Rattle.mr_mend.proofs.Serves.{live_reads-live, live_reads-rebuilt, served-live, served-rebuilt, told_by}
use Rattle.mr_mend.proofs.serving.serve_ask.Goals as goal

pub returns-then-not-is_rebuilt-clause-served : goal.returns-then-not-is_rebuilt-clause-served
returns-then-not-is_rebuilt-clause-served g c =
    let own = own_recipes c.args.rebuild.now.plans.now c.args.ask.stripe c.at.result.now c.recipes.result.now c.at.ensures.plan c.recipes.ensures.all in
    on_ok_weaker c.read_at.result
    (served-live c.args.rebuild.now.head.now (recipes_at c.args.rebuild.now.plans.now) c.args.ask c.args.image.now c.read_at.new.buf (g.E.Eye.sight c.args.eye.now).bytes c.place-place.result (length c.args.reply.now)
    (told_by (recipes_at c.args.rebuild.now.plans.now c.args.ask.stripe) c.recipes.result.now c.args.ask.symbol c.is_rebuilt.result false own c.is_rebuilt.ensures c.if-not-is_rebuilt.true)
    c.place-place.ensures.place c.requires.reply)
    c.read_at.ensures.read

pub returns-then-not-is_rebuilt-clause-taken : goal.returns-then-not-is_rebuilt-clause-taken
returns-then-not-is_rebuilt-clause-taken g c =
    let own = own_recipes c.args.rebuild.now.plans.now c.args.ask.stripe c.at.result.now c.recipes.result.now c.at.ensures.plan c.recipes.ensures.all in
    let lacks : has_recipe (recipes_at c.args.rebuild.now.plans.now c.args.ask.stripe) c.args.ask.symbol ≡ false =
    told_by (recipes_at c.args.rebuild.now.plans.now c.args.ask.stripe) c.recipes.result.now c.args.ask.symbol c.is_rebuilt.result false own c.is_rebuilt.ensures c.if-not-is_rebuilt.true in
    on_ok_weaker c.read_at.result
    (λ (took : g.E.Eye.sight c.read_at.new.self ≡ sight_with (g.E.Eye.sight c.args.eye.now) (length c.args.reply.now)).
    took ∙ ap (sight_with (g.E.Eye.sight c.args.eye.now)) (c.requires.reply ∙ sym (live_reads-live c.args.rebuild.now.head.now (recipes_at c.args.rebuild.now.plans.now) c.args.ask lacks)))
    c.read_at.ensures.ok

pub returns-clause-served : goal.returns-clause-served
returns-clause-served g c =
    let own = own_recipes c.args.rebuild.now.plans.now c.args.ask.stripe c.at.result.now c.recipes.result.now c.at.ensures.plan c.recipes.ensures.all in
    served-rebuilt c.args.rebuild.now.head.now (recipes_at c.args.rebuild.now.plans.now) c.args.ask c.args.image.now c.copy_from_slice.new.self (g.E.Eye.sight c.args.eye.now).bytes c.place-place.result _
    c.requires.ask
    (told_by (recipes_at c.args.rebuild.now.plans.now c.args.ask.stripe) c.recipes.result.now c.args.ask.symbol c.is_rebuilt.result true own c.is_rebuilt.ensures c.if-not-is_rebuilt.false)
    c.place-place.ensures.place (omega arith) c.copy_from_slice.ensures.after

pub returns-clause-taken : goal.returns-clause-taken
returns-clause-taken g c =
    let own = own_recipes c.args.rebuild.now.plans.now c.args.ask.stripe c.at.result.now c.recipes.result.now c.at.ensures.plan c.recipes.ensures.all in
    let has_one : has_recipe (recipes_at c.args.rebuild.now.plans.now c.args.ask.stripe) c.args.ask.symbol ≡ true =
    told_by (recipes_at c.args.rebuild.now.plans.now c.args.ask.stripe) c.recipes.result.now c.args.ask.symbol c.is_rebuilt.result true own c.is_rebuilt.ensures c.if-not-is_rebuilt.false in
    sight_with-none (g.E.Eye.sight c.args.eye.now)
    ∙ ap (sight_with (g.E.Eye.sight c.args.eye.now)) (sym (live_reads-rebuilt c.args.rebuild.now.head.now (recipes_at c.args.rebuild.now.plans.now) c.args.ask has_one))
