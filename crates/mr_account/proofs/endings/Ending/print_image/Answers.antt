use Rattle.std.proofs.Common.{◌<◌, List, ℕ, ap, length, ◌∙◌, arith}
use Rattle.mr_history.specs.declared.kept.KeptStripe.{KeptStripe}
use Rattle.mr_io.proofs.Taking.{puts_err}
use Rattle.mr_account.specs.Endings.{account_of}
use Rattle.mr_account.proofs.EndingLaws.{told-at}
use Rattle.mr_account.proofs.Ranges.{part-number, takes-number, takes-numbers}
use Rattle.mr_account.proofs.endings.Ending.print_image.Goals as goal

pub put_stripe-requires : goal.put_stripe-requires
put_stripe-requires g c =
    let low : c.loop-stripe.stripe < c.args.terms.now.head.stripes = omega (arith, c.loop-stripe-test.true, c.stripes-stripe-end.ensures.number) in
    ap (λ (b : List ℕ). length b) (told-at (λ (kept : KeptStripe). kept.bytes.items) c.args.self.now.stripes.items c.loop-stripe.stripe c.index.result.now (omega (arith, low, c.requires.count)) c.index.ensures)
    ∙ c.requires.widths c.loop-stripe.stripe low

pub returns-in_err-put_stripe-clause-puts : goal.returns-in_err-put_stripe-clause-puts
returns-in_err-put_stripe-clause-puts g c =
    let low : c.loop-stripe.stripe < c.args.terms.now.head.stripes = omega (arith, c.loop-stripe-test.true, c.stripes-stripe-end.ensures.number) in
    puts_err _ _ _ _ c.from_residual.ensures.0
    (part-number (account_of c.args.self.now).bytes c.args.terms.now.head.stripes c.loop-stripe.stripe low _ _ _ _
    (told-at (λ (kept : KeptStripe). kept.bytes.items) c.args.self.now.stripes.items c.loop-stripe.stripe c.index.result.now (omega (arith, low, c.requires.count)) c.index.ensures)
    c.loop-stripe.invariant.taken c.in_err-put_stripe.ensures.puts.err)

pub loop-stripe-preserved : goal.loop-stripe-preserved
loop-stripe-preserved g c =
    let low : c.loop-stripe.stripe < c.args.terms.now.head.stripes = omega (arith, c.loop-stripe-test.true, c.stripes-stripe-end.ensures.number) in
    record {
      taken = takes-number (account_of c.args.self.now).bytes c.args.terms.now.head.stripes c.loop-stripe.stripe low _ _ _ _
          (told-at (λ (kept : KeptStripe). kept.bytes.items) c.args.self.now.stripes.items c.loop-stripe.stripe c.index.result.now (omega (arith, low, c.requires.count)) c.index.ensures)
          c.loop-stripe.invariant.taken c.in_ok-put_stripe.ensures.puts.ok;
      quiet = omega (arith, c.in_ok-put_stripe.ensures.cause.quiet, c.loop-stripe.invariant.quiet);
    }

pub returns-clause-puts : goal.returns-clause-puts
returns-clause-puts g c = record {
  ok = takes-numbers (account_of c.args.self.now).bytes c.args.terms.now.head.stripes c.loop-stripe.stripe _ _
      (omega (arith, c.loop-stripe-test.false, c.stripes-stripe-end.ensures.number)) c.loop-stripe.invariant.taken;
  err = tt;
}
