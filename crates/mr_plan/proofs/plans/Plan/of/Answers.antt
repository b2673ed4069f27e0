use Rattle.mr_plan.specs.declared.kinds.Kind.{Kind}
use Rattle.std.proofs.Common.{ℕ, ◌+◌, ap, sym, subst, ◌∙◌, arith, ◌≡◌}
use Rattle.mr_model.specs.Code.{combination, Spanned}
use Rattle.mr_model.specs.Plans.{Recipe, recipe, IsValidPlan}
use Rattle.mr_model.proofs.SetLaws.{member-below}
use Rattle.mr_model.proofs.Loops.{IsRest-turn}
use Rattle.std.proofs.Common.{unwrap_or, List, ◌++◌, ◌∷◌, []}
use Rattle.mr_plan.specs.Plans.{IsPlan, PlanParts, survivors}
use Rattle.mr_plan.proofs.CheckLaws.{set-below}
use Rattle.mr_plan.proofs.PlanLaws.{IsMaking, IsMaking-start, IsMaking-turn, IsMaking-end, recipe-combination, plan_of-plan, plan_of-valid}
use Rattle.mr_plan.proofs.plans.Plan.of.Goals as goal

-- a plan of these parts
abbrev with_recipes : Kind → ℕ → List Recipe → PlanParts
with_recipes kind set rs = record { kind = kind; set = set; recipes = rs }

pub loop-symbol-init : goal.loop-symbol-init
loop-symbol-init c = (
  tt,
  tt,
  (
    0,
    subst (λ s. IsMaking c.args.matrix.now c.args.lost c.args.set 0 s c.new-recipes.result.items)
        (sym (c.into_iter-symbol-iterator.ensures.into_iter_gives ∙ c.symbols-symbol-items.ensures.all))
        (IsMaking-start c.args.matrix.now c.args.lost c.args.set c.new-recipes.result.items c.new-recipes.ensures),
  ),
)

pub row-requires : goal.row-requires
row-requires c =
    let making = c.loop-symbol.invariant.2.1 in
    member-below _ c.args.lost c.in-Some.symbol c.requires.lost
    (IsRest-turn c.args.lost c.loop-symbol.invariant.2.0 c.loop-symbol.symbol-iterator c.in-Some.symbol c.next.new.self making.to_come c.in-Some.ensures.steps).member

pub loop-symbol-preserved : goal.loop-symbol-preserved
loop-symbol-preserved c =
    let same : c.unwrap_or-sources.result ≡ recipe c.args.matrix.now c.args.set c.in-Some.symbol =
    c.unwrap_or-sources.ensures ∙ ap (λ o. unwrap_or o 0) (c.combination.ensures
    ∙ ap (λ (s : Spanned). combination s.code s.set c.row.result) c.of-basis.ensures ∙ ap (combination c.args.matrix.now c.args.set) c.row.ensures)
    ∙ recipe-combination c.args.matrix.now (survivors c.args.matrix.now c.args.lost) c.args.lost c.args.set c.requires.set c.in-Some.symbol in (
      tt,
      tt,
      (
        c.in-Some.symbol + 1,
        IsMaking-turn c.args.matrix.now c.args.lost c.args.set c.loop-symbol.invariant.2.0 c.loop-symbol.symbol-iterator c.in-Some.symbol c.next.new.self
            c.loop-symbol.recipes.items c.push.new.self.items c.loop-symbol.invariant.2.1 c.in-Some.ensures.steps
            (c.push.ensures.items ∙ ap (λ (r : Recipe). c.loop-symbol.recipes.items ++ r ∷ []) c.new.ensures
            ∙ ap (λ x. c.loop-symbol.recipes.items ++ record { symbol = c.in-Some.symbol; equation = x } ∷ []) same),
      ),
    )

pub invariant_of-result : goal.invariant_of-result
invariant_of-result c =
    let making = c.loop-symbol.invariant.2.1 in
    subst (λ rs. IsPlan (record { kind = c.args.kind; set = c.args.set; recipes = rs }))
    (sym (IsMaking-end c.args.matrix.now c.args.lost c.args.set c.loop-symbol.invariant.2.0 c.loop-symbol.symbol-iterator c.loop-symbol.recipes.items making c.in-None.ensures.steps.0))
    (plan_of-plan c.args.matrix.now (survivors c.args.matrix.now c.args.lost) c.args.lost c.args.set c.requires.set c.args.kind (omega arith))

pub returns-clause-made : goal.returns-clause-made
returns-clause-made c =
    let making = c.loop-symbol.invariant.2.1 in
    ap (λ (rs : List Recipe). with_recipes c.args.kind c.args.set rs)
    (IsMaking-end c.args.matrix.now c.args.lost c.args.set c.loop-symbol.invariant.2.0 c.loop-symbol.symbol-iterator c.loop-symbol.recipes.items making c.in-None.ensures.steps.0)

pub returns-clause-valid : goal.returns-clause-valid
returns-clause-valid c =
    let making = c.loop-symbol.invariant.2.1 in
    subst (λ rs. IsValidPlan c.args.matrix.now (survivors c.args.matrix.now c.args.lost) c.args.lost c.args.set rs)
    (sym (IsMaking-end c.args.matrix.now c.args.lost c.args.set c.loop-symbol.invariant.2.0 c.loop-symbol.symbol-iterator c.loop-symbol.recipes.items making c.in-None.ensures.steps.0))
    (plan_of-valid c.args.matrix.now (survivors c.args.matrix.now c.args.lost) c.args.lost c.args.set c.requires.set c.symbols-symbol-items.ensures.below_128)

pub of-basis-requires : goal.of-basis-requires
of-basis-requires c = set-below c.args.matrix.now c.args.lost c.args.set c.requires.set.inside
