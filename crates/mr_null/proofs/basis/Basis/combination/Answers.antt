use Rattle.std.proofs.Common.{◌≡◌, ℕ, ◌==◌, Bool, true, false, cond, Some, None, fold, refl, ap, subst, ◌∙◌}
use Rattle.std.specs.Bool.{then_some}
use Rattle.mr_model.specs.Code.{Spanned, combination}
use Rattle.mr_null.specs.Elimination.{step}
use Rattle.mr_null.proofs.EliminationLaws.{combination-reduced, unmarked}
use Rattle.mr_null.proofs.basis.Basis.combination.Goals as goal

some_or_none : (b : Bool) (x : ℕ) → then_some b x ≡ cond b (Some x) None
some_or_none true x = refl
some_or_none false x = refl

pub returns : goal.returns
returns c =
    c.then_some.ensures ∙ ap (λ b. then_some b c.reduced-rest.result.members) c.is_empty.ensures
    ∙ some_or_none (c.reduced-rest.result.sum == 0) c.reduced-rest.result.members
    ∙ subst (λ (v : Spanned). cond (c.reduced-rest.result.sum == 0) (Some c.reduced-rest.result.members) None ≡ combination v.code v.set c.args.target) c.self.view_is
    (combination-reduced c.self.inside.matrix c.self.inside.set c.self.inside.kept c.args.target c.self.inside.pivots.items c.reduced-rest.result
    c.self.invariant.elimination c.self.invariant.kept_is (c.reduced-rest.ensures ∙ ap (fold step (unmarked c.args.target)) c.deref.ensures.0))
