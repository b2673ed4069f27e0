use Rattle.std.proofs.Common.{Err, Some, None, map, ap, ◌∙◌, sym, ◌+◌, drop}
use Rattle.std.proofs.lemmas.Result.{err_from_is_err_and}
use Rattle.mr_model.specs.Members.{members}
use Rattle.mr_model.specs.Plans.{Recipe}
use Rattle.mr_plan.specs.Checks.{expected_fault, symbol_fault, sound_unless}
use Rattle.mr_plan.proofs.CheckLaws.{stops, goes, expected-turn, expected-last}
use Rattle.mr_plan.proofs.checking.check_symbols.Goals as goal

pub returns-in_err-check_symbol : goal.returns-in_err-check_symbol
returns-in_err-check_symbol c =
    let p = err_from_is_err_and c.from_residual.result c.from_residual.ensures.1 in
    p.1 ∙ ap Err p.2 ∙ stops _ _ (expected_fault c.next.result c.recipe-item.result.symbol)
    (symbol_fault (members c.next.new.self) (map (λ (r : Recipe). r.symbol) (drop (c.loop-recipe.recipe-index + 1) c.args.recipes.now)))
    c.loop-recipe.invariant
    (expected-turn c.loop-recipe.expected c.next.result c.next.new.self c.args.recipes.now c.loop-recipe.recipe-index c.recipe-item.result c.next.ensures.steps c.loop-recipe-test.true c.recipe-item.is)
    _ (c.in_err-check_symbol.ensures ∙ ap (λ s. sound_unless (expected_fault c.next.result s)) c.symbol.ensures)

pub loop-recipe-preserved : goal.loop-recipe-preserved
loop-recipe-preserved c =
    goes _ _ (expected_fault c.next.result c.recipe-item.result.symbol)
    (symbol_fault (members c.next.new.self) (map (λ (r : Recipe). r.symbol) (drop (c.loop-recipe.recipe-index + 1) c.args.recipes.now)))
    c.loop-recipe.invariant
    (expected-turn c.loop-recipe.expected c.next.result c.next.new.self c.args.recipes.now c.loop-recipe.recipe-index c.recipe-item.result c.next.ensures.steps c.loop-recipe-test.true c.recipe-item.is)
    _ (c.in_ok-check_symbol.ensures ∙ ap (λ s. sound_unless (expected_fault c.next.result s)) c.symbol.ensures)

pub returns-in-Some : goal.returns-in-Some
returns-in-Some c = ap sound_unless (sym (expected-last _ c.loop-recipe.expected (Some c.in-Some.symbol) c.next-2.new.self c.loop-recipe.recipe-index c.args.recipes.now
    c.loop-recipe-test.false c.in-Some.ensures.steps c.loop-recipe.invariant))

pub returns-in-None : goal.returns-in-None
returns-in-None c = ap sound_unless (sym (expected-last _ c.loop-recipe.expected None c.next-2.new.self c.loop-recipe.recipe-index c.args.recipes.now
    c.loop-recipe-test.false c.in-None.ensures.steps c.loop-recipe.invariant))
