use Rattle.std.proofs.Common.{true, false, Ok, ap, ◌∙◌, sym, ◌≤◌, ◌<◌, ◌+◌, subst}
use Rattle.std.specs.Prelude.{IfSome}
use Rattle.std.proofs.lemmas.List.{append-nil}
use Rattle.std.proofs.lemmas.Result.{err_from_is_err_and}
use Rattle.mr_model.specs.Plans.{Recipe}
use Rattle.mr_text.specs.Lines.{pieces}
use Rattle.mr_plan.proofs.ReadLaws.{reading-cut, reading-end, reading-bad, reading-turn, is_over-pieces, bad_answer, some_answer}
use Rattle.mr_plan.proofs.reading.recipe_lines.Goals as goal

pub returns-in_err-text : goal.returns-in_err-text
returns-in_err-text c =
    let p = err_from_is_err_and c.from_residual.result c.from_residual.ensures.1 in
    rw (p.1, p.2) (reading-cut _ _ _ _ _ c.loop-text.invariant _ c.in_err-text.ensures.value)

pub returns-then-is_empty : goal.returns-then-is_empty
returns-then-is_empty c =
    reading-end _ _ _ _ _ c.loop-text.invariant c.in_ok-text.text.now (pieces 10 c.in_ok-text.left.now) true c.in_ok-text.ensures.value
    (sym c.is_end.ensures ∙ c.if-is_end.true)
    (is_over-pieces c.in_ok-text.left.now ∙ sym c.is_empty.ensures ∙ c.if-is_empty.true)
    ∙ ap Ok (append-nil c.loop-text.recipes.items)

pub returns-else-is_empty : goal.returns-else-is_empty
returns-else-is_empty c =
    reading-end _ _ _ _ _ c.loop-text.invariant c.in_ok-text.text.now (pieces 10 c.in_ok-text.left.now) false c.in_ok-text.ensures.value
    (sym c.is_end.ensures ∙ c.if-is_end.true)
    (is_over-pieces c.in_ok-text.left.now ∙ sym c.is_empty.ensures ∙ c.if-is_empty.false)

pub returns-in_err-recipe : goal.returns-in_err-recipe
returns-in_err-recipe c =
    let p = err_from_is_err_and c.from_residual-in_err-recipe.result c.from_residual-in_err-recipe.ensures.1 in
    rw (p.1, p.2) (bad_answer c.read_recipe.result _ _ _ c.in_err-recipe.ensures.value (λ none.
    reading-bad _ _ _ _ _ c.loop-text.invariant c.in_ok-text.text.now (pieces 10 c.in_ok-text.left.now) c.in_ok-text.ensures.value
    (sym c.is_end.ensures ∙ c.if-is_end.false) (none ∙ c.read_recipe.ensures.value)))

pub loop-text-preserved : goal.loop-text-preserved
loop-text-preserved c =
    let some = some_answer c.read_recipe.result _ c.in_ok-recipe.recipe c.in_ok-recipe.ensures.value in
    reading-turn _ _ _ _ _ c.loop-text.invariant c.in_ok-text.text.now (pieces 10 c.in_ok-text.left.now) c.in_ok-recipe.recipe c.push.new.self.items (c.symbol-least.result + 1) c.in_ok-text.ensures.value
    (sym c.is_end.ensures ∙ c.if-is_end.false) (some ∙ c.read_recipe.ensures.value)
    (subst (λ o. IfSome o (λ (r : Recipe). (c.loop-text.least ≤ r.symbol) × (r.symbol < 128))) (sym some) c.read_recipe.ensures.in_range)
    c.push.ensures.items (ap (λ n. n + 1) c.symbol-least.ensures)
