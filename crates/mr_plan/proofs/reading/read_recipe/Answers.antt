use Rattle.std.proofs.Common.{◌∙◌, ap, Some}
use Rattle.mr_plan.proofs.ReadLaws.{recipe-no_symbol, recipe-no_sources, recipe-some}
use Rattle.mr_plan.proofs.reading.read_recipe.Goals as goal

pub returns-in_err-symbol-clause-value : goal.returns-in_err-symbol-clause-value
returns-in_err-symbol-clause-value c = c.from_residual.ensures
    ∙ recipe-no_symbol c.args.least c.args.line.now c.first_word.result.0.now _ c.first_word.ensures.cut c.in_err-symbol.ensures.value

pub returns-in_err-sources-clause-value : goal.returns-in_err-sources-clause-value
returns-in_err-sources-clause-value c = c.from_residual-in_err-sources.ensures
    ∙ recipe-no_sources c.args.least c.args.line.now c.first_word.result.0.now _ c.in_ok-symbol.symbol c.first_word.ensures.cut c.in_ok-symbol.ensures.value c.in_err-sources.ensures

pub returns-clause-value : goal.returns-clause-value
returns-clause-value c = ap Some c.new.ensures
    ∙ recipe-some c.args.least c.args.line.now c.first_word.result.0.now _ c.in_ok-symbol.symbol c.in_ok-sources.sources c.first_word.ensures.cut c.in_ok-symbol.ensures.value c.in_ok-sources.ensures
