use Rattle.std.proofs.Common.{◌<◌, List, ap, length, nat_lt, if◌then◌else◌, [], ◌∙◌, arith}
use Rattle.mr_history.specs.Histories.{names_of}
use Rattle.mr_history.specs.declared.entry.Entry.{Entry}
use Rattle.mr_history.specs.declared.kept.KeptStripe.{KeptStripe}
use Rattle.mr_io.proofs.Taking.{puts_err}
use Rattle.mr_account.specs.Endings.{account_of}
use Rattle.mr_account.specs.Lines.{history_line, history_text}
use Rattle.mr_account.proofs.EndingLaws.{line-named, told-at}
use Rattle.mr_account.proofs.Ranges.{part-number, takes-number, takes-numbers}
use Rattle.mr_account.proofs.endings.Ending.print_histories.Goals as goal

pub returns-in_err-put_named-clause-puts : goal.returns-in_err-put_named-clause-puts
returns-in_err-put_named-clause-puts g c =
    let low : c.loop-stripe.stripe < c.args.terms.now.head.stripes = omega (arith, c.loop-stripe-test.true, c.stripes-stripe-end.ensures.number) in
    puts_err _ _ _ _ c.from_residual.ensures.0
    (part-number (λ t. history_line (names_of c.args.terms.now) t ((account_of c.args.self.now).history t)) c.args.terms.now.head.stripes c.loop-stripe.stripe low _ _ _ _
    (ap (λ (h : List Entry). if nat_lt 1 (length h) then history_text c.loop-stripe.stripe h else [])
    (c.history.ensures ∙ told-at (λ (kept : KeptStripe). kept.history.items) c.args.self.now.stripes.items c.loop-stripe.stripe c.index.result.now (omega (arith, low, c.requires.count)) c.index.ensures)
    ∙ line-named (names_of c.args.terms.now) c.loop-stripe.stripe ((account_of c.args.self.now).history c.loop-stripe.stripe) (c.requires.histories c.loop-stripe.stripe low))
    c.loop-stripe.invariant.taken c.in_err-put_named.ensures.puts.err)

pub loop-stripe-preserved : goal.loop-stripe-preserved
loop-stripe-preserved g c =
    let low : c.loop-stripe.stripe < c.args.terms.now.head.stripes = omega (arith, c.loop-stripe-test.true, c.stripes-stripe-end.ensures.number) in
    record {
      taken = takes-number (λ t. history_line (names_of c.args.terms.now) t ((account_of c.args.self.now).history t)) c.args.terms.now.head.stripes c.loop-stripe.stripe low _ _ _ _
          (ap (λ (h : List Entry). if nat_lt 1 (length h) then history_text c.loop-stripe.stripe h else [])
          (c.history.ensures ∙ told-at (λ (kept : KeptStripe). kept.history.items) c.args.self.now.stripes.items c.loop-stripe.stripe c.index.result.now (omega (arith, low, c.requires.count)) c.index.ensures)
          ∙ line-named (names_of c.args.terms.now) c.loop-stripe.stripe ((account_of c.args.self.now).history c.loop-stripe.stripe) (c.requires.histories c.loop-stripe.stripe low))
          c.loop-stripe.invariant.taken c.in_ok-put_named.ensures.puts.ok;
      quiet = omega (arith, c.in_ok-put_named.ensures.cause.quiet, c.loop-stripe.invariant.quiet);
    }

pub returns-clause-puts : goal.returns-clause-puts
returns-clause-puts g c = record {
  ok = takes-numbers (λ t. history_line (names_of c.args.terms.now) t ((account_of c.args.self.now).history t)) c.args.terms.now.head.stripes c.loop-stripe.stripe _ _
      (omega (arith, c.loop-stripe-test.false, c.stripes-stripe-end.ensures.number)) c.loop-stripe.invariant.taken;
  err = tt;
}
