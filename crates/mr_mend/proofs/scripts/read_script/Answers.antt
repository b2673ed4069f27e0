use Rattle.std.proofs.Common.{◌≡◌, length, inr, sym, ap₂, ◌*◌, ◌∙◌, arith}
use Rattle.std.proofs.lemmas.Result.{err_from_is_err_and}
use Rattle.mr_mend.proofs.ScriptLines.{script-fault, script-large, script-asks}
use Rattle.mr_mend.proofs.ScriptTexts.{asks-text}
use Rattle.mr_mend.proofs.ScriptFaults.{same-fault, script-bad_line, script-not_large, script-large_replies}
use Rattle.mr_mend.proofs.scripts.read_script.Goals as goal

pub returns-in_err-asks-clause-fault : goal.returns-in_err-asks-clause-fault
returns-in_err-asks-clause-fault c =
    let p = err_from_is_err_and c.from_residual.result c.from_residual.ensures.1 in
    rw (p.1, p.2) (script-fault c.args.head.now c.args.bytes.now _ c.in_err-asks.ensures.fault)

pub returns-in_err-asks-clause-bad_line : goal.returns-in_err-asks-clause-bad_line
returns-in_err-asks-clause-bad_line c line is =
    let p = err_from_is_err_and c.from_residual.result c.from_residual.ensures.1 in
    script-bad_line c.args.head.now c.bytes.ensures.limits c.args.bytes.now _ c.in_err-asks.ensures.fault line (sym p.2 ∙ same-fault _ _ (sym p.1 ∙ is))

pub returns-in_err-asks-clause-large : goal.returns-in_err-asks-clause-large
returns-in_err-asks-clause-large c large is =
    let p = err_from_is_err_and c.from_residual.result c.from_residual.ensures.1 in
    script-not_large c.args.head.now c.bytes.ensures.limits c.args.bytes.now _ c.in_err-asks.ensures.fault large (sym p.2 ∙ same-fault _ _ (sym p.1 ∙ is))

pub returns-then-number-gt-REPLY_LIMIT-clause-fault : goal.returns-then-number-gt-REPLY_LIMIT-clause-fault
returns-then-number-gt-REPLY_LIMIT-clause-fault c =
    let count : c.len.result ≡ length c.in_ok-asks.asks.items = omega arith in
    inr (script-large c.args.head.now c.args.bytes.now c.in_ok-asks.asks.items c.in_ok-asks.ensures.asks _ (ap₂ (λ a b. a * b) count (c.from-size.ensures ∙ c.bytes.ensures.number)) (omega arith))

pub returns-then-number-gt-REPLY_LIMIT-clause-large : goal.returns-then-number-gt-REPLY_LIMIT-clause-large
returns-then-number-gt-REPLY_LIMIT-clause-large c large is =
    let count : c.len.result ≡ length c.in_ok-asks.asks.items = omega arith in
    script-large_replies c.args.head.now c.args.bytes.now c.in_ok-asks.asks.items _ c.in_ok-asks.ensures.asks c.in_ok-asks.ensures.in_range
    (ap₂ (λ a b. a * b) count (c.from-size.ensures ∙ c.bytes.ensures.number)) (omega arith) large (same-fault _ _ is)

pub returns-clause-asks : goal.returns-clause-asks
returns-clause-asks c =
    let count : c.len.result ≡ length c.in_ok-asks.asks.items = omega arith in
    script-asks c.args.head.now c.args.bytes.now c.in_ok-asks.asks.items c.in_ok-asks.ensures.asks _ (ap₂ (λ a b. a * b) count (c.from-size.ensures ∙ c.bytes.ensures.number)) (omega arith)

pub returns-clause-text : goal.returns-clause-text
returns-clause-text c = asks-text c.args.head.now c.args.bytes.now c.in_ok-asks.asks.items c.in_ok-asks.ensures.asks
