use Rattle.std.proofs.Common.{◌∙◌, sym, subst, ◌+◌}
use Rattle.std.specs.Prelude.{option_copied}
use Rattle.mr_plan.specs.Readings.{words_of, set_of_words}
use Rattle.mr_plan.proofs.ReadLaws.{IsSoFar, so_far-bad, so_far-turn, so_far-end}
use Rattle.mr_plan.proofs.reading.read_members.Goals as goal

pub returns-in_err-symbol : goal.returns-in_err-symbol
returns-in_err-symbol c = c.from_residual.ensures
    ∙ so_far-bad (set_of_words 0 (words_of (option_copied c.args.words))) c.loop-left.set c.loop-left.least c.loop-left.left c.in-Some.text c.first_word.result.0.now _
    c.loop-left.invariant c.in-Some.is c.first_word.ensures.cut c.in_err-symbol.ensures.value

pub loop-left-preserved : goal.loop-left-preserved
loop-left-preserved c =
    subst (λ s. IsSoFar (set_of_words 0 (words_of (option_copied c.args.words))) s (c.in_ok-symbol.symbol + 1) c.first_word.result.1) (sym c.with-set.ensures)
    (so_far-turn (set_of_words 0 (words_of (option_copied c.args.words))) c.loop-left.set c.loop-left.least c.loop-left.left c.in-Some.text c.first_word.result.0.now c.first_word.result.1 c.in_ok-symbol.symbol
    c.loop-left.invariant c.in-Some.is c.first_word.ensures.cut c.in_ok-symbol.ensures.value)

pub returns : goal.returns
returns c = so_far-end (set_of_words 0 (words_of (option_copied c.args.words))) c.loop-left.set c.loop-left.least c.loop-left.left c.loop-left.invariant c.in_default.is
