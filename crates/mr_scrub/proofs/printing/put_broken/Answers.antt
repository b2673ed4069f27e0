use Rattle.std.proofs.Common.{◌∙◌}
use Rattle.mr_io.proofs.Taking.{puts_err}
use Rattle.mr_plan.proofs.FourParts.{takes_item, part_item}
use Rattle.mr_scrub.specs.Scrubs.{broken_line}
use Rattle.mr_scrub.proofs.printing.put_broken.Goals as goal

pub returns-in_err-put_all-clause-puts : goal.returns-in_err-put_all-clause-puts
returns-in_err-put_all-clause-puts g c =
    puts_err _ _ _ _ c.from_residual.ensures.0
    (part_item broken_line _ _ _ c.args.broken.now _ c.stripe-item.result _ c.stripe-item.is
    (c.deref.ensures.0 ∙ c.broken_line.ensures) c.loop-stripe-test.true c.loop-stripe.invariant.taken c.in_err-put_all.ensures.puts.err)

pub loop-stripe-preserved : goal.loop-stripe-preserved
loop-stripe-preserved g c =
    record {
      taken = takes_item broken_line _ _ _ c.args.broken.now _ c.stripe-item.result _ c.stripe-item.is
          (c.deref.ensures.0 ∙ c.broken_line.ensures) c.loop-stripe-test.true c.loop-stripe.invariant.taken c.in_ok-put_all.ensures.puts.ok;
      quiet = c.in_ok-put_all.ensures.cause.quiet ∙ c.loop-stripe.invariant.quiet;
    }
