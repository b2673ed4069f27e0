use Rattle.std.proofs.Common.{◌<◌, length, slice_get, arith}
use Rattle.mr_io.proofs.Taking.{puts_err}
use Rattle.mr_account.specs.Endings.{account_of, slots_in, told_of}
use Rattle.mr_account.specs.Lines.{ask_line}
use Rattle.mr_account.proofs.EndingLaws.{ask-told}
use Rattle.mr_account.proofs.Ranges.{part-number, takes-number, takes-numbers}
use Rattle.mr_account.proofs.endings.Ending.print_asks.Goals as goal

pub returns-in_err-put_ask-clause-puts : goal.returns-in_err-put_ask-clause-puts
returns-in_err-put_ask-clause-puts g c =
    let low : c.loop-number.number < length c.args.terms.now.ops.items = omega (arith, c.loop-number-test.true, c.len-number-end.ensures) in
    puts_err _ _ _ _ c.from_residual.ensures.0
    (part-number (λ k. ask_line (slice_get c.args.terms.now.ops.items k) ((account_of c.args.self.now).place k) ((account_of c.args.self.now).reply k)) (length c.args.terms.now.ops.items) c.loop-number.number low _ _ _ _
    (ask-told c.args.terms.now.ops.items c.loop-number.number c.index.result.now c.slot.result.now (told_of (slots_in c.args.self.now) c.loop-number.number) low c.index.ensures c.slot.ensures)
    c.loop-number.invariant.0.taken c.in_err-put_ask.ensures.puts.err)

pub loop-number-preserved : goal.loop-number-preserved
loop-number-preserved g c =
    let low : c.loop-number.number < length c.args.terms.now.ops.items = omega (arith, c.loop-number-test.true, c.len-number-end.ensures) in (
      record {
        taken = takes-number (λ k. ask_line (slice_get c.args.terms.now.ops.items k) ((account_of c.args.self.now).place k) ((account_of c.args.self.now).reply k)) (length c.args.terms.now.ops.items) c.loop-number.number low _ _ _ _
            (ask-told c.args.terms.now.ops.items c.loop-number.number c.index.result.now c.slot.result.now (told_of (slots_in c.args.self.now) c.loop-number.number) low c.index.ensures c.slot.ensures)
            c.loop-number.invariant.0.taken c.in_ok-put_ask.ensures.puts.ok;
        quiet = omega (arith, c.in_ok-put_ask.ensures.cause.quiet, c.loop-number.invariant.0.quiet);
      },
      omega (arith, c.loop-number.invariant.1),
    )

pub returns-clause-puts : goal.returns-clause-puts
returns-clause-puts g c = record {
  ok = takes-numbers (λ k. ask_line (slice_get c.args.terms.now.ops.items k) ((account_of c.args.self.now).place k) ((account_of c.args.self.now).reply k)) (length c.args.terms.now.ops.items) c.loop-number.number _ _
      (omega (arith, c.loop-number-test.false, c.len-number-end.ensures)) c.loop-number.invariant.0.taken;
  err = tt;
}
