use Rattle.std.proofs.Common.{sym, ap, ◌∙◌, ◌+◌}
use Rattle.mr_text.specs.Lines.{pieces}
use Rattle.mr_mend.specs.Scripts.{asks_from, ask_before}
use Rattle.mr_mend.proofs.ScriptLines.{from-ended, from-unended}
use Rattle.mr_mend.proofs.NextLines.{next-unended, next-none, next-text}
use Rattle.mr_mend.proofs.scripts.next_ask.Goals as goal

pub returns-in_err-line-clause-value : goal.returns-in_err-line-clause-value
returns-in_err-line-clause-value c n = rw c.from_residual.ensures (from-unended c.args.head.now n c.args.left.now c.requires c.in_err-line.ensures.pieces)

pub returns-in_err-ask-clause-value : goal.returns-in_err-ask-clause-value
returns-in_err-ask-clause-value c n = rw c.from_residual-in_err-ask.ensures
    (from-ended c.args.head.now n c.in_ok-line.line.now c.in_ok-line.rest.now _ c.in_ok-line.ensures.pieces
    ∙ ap (λ o. ask_before n o (asks_from c.args.head.now (n + 1) (pieces 10 c.in_ok-line.rest.now))) (sym c.in_err-ask.ensures.value))

pub returns-clause-value : goal.returns-clause-value
returns-clause-value c n =
    from-ended c.args.head.now n c.in_ok-line.line.now c.in_ok-line.rest.now _ c.in_ok-line.ensures.pieces
    ∙ ap (λ o. ask_before n o (asks_from c.args.head.now (n + 1) (pieces 10 c.in_ok-line.rest.now))) (sym c.in_ok-ask.ensures.value)

pub returns-in_err-line-clause-none : goal.returns-in_err-line-clause-none
returns-in_err-line-clause-none c = rw c.from_residual.ensures (λ ask more in_range text.
    next-unended c.args.head.now c.args.left.now c.bytes-within_the_limits.ensures.limits ask more in_range text c.in_err-line.ensures.pieces)

pub returns-in_err-ask-clause-none : goal.returns-in_err-ask-clause-none
returns-in_err-ask-clause-none c = rw c.from_residual-in_err-ask.ensures (λ ask more in_range text.
    next-none c.args.head.now c.args.left.now c.bytes-within_the_limits.ensures.limits ask more in_range text
    c.in_ok-line.line.now c.in_ok-line.rest.now c.in_ok-line.ensures.pieces (sym c.in_err-ask.ensures.value))

pub returns-clause-text : goal.returns-clause-text
returns-clause-text c =
    next-text c.args.head.now c.args.left.now c.in_ok-line.line.now c.in_ok-line.rest.now c.in_ok-ask.ask
    c.in_ok-line.ensures.split.0 c.in_ok-line.ensures.split.1 c.in_ok-line.ensures.split.2 (sym c.in_ok-ask.ensures.value)
