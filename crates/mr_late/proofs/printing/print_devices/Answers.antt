use Rattle.std.proofs.Common.{ℕ, List, [], ◌∷◌, ◌++◌, ◌∙◌, sym, subst, refl}
use Rattle.std.specs.Prelude.{decimal}
use Rattle.mr_io.specs.Taking.{Takes}
use Rattle.mr_io.proofs.Taking.{puts_err, takes_more, takes_nothing}
use Rattle.mr_model.specs.Members.{members}
use Rattle.mr_late.specs.Tables.{listed}
use Rattle.mr_late.proofs.Lines.{IsListing, listing-start, listing-next, listing-end, listing-part}
use Rattle.mr_late.proofs.printing.print_devices.Goals as goal

pub loop-device-init : goal.loop-device-init
loop-device-init g c = (
  tt,
  tt,
  (
    [],
    record { taken = takes_nothing _; quiet = refl },
    subst (λ (left : ℕ). IsListing (listed 32 (members c.args.devices)) [] 32 left)
        (sym (c.into_iter-device-iterator.ensures.into_iter_gives ∙ c.symbols-device-items.ensures.all)) (listing-start [] c.args.devices),
  ),
)

pub loop-device-preserved : goal.loop-device-preserved
loop-device-preserved g c =
    let inv = c.loop-device.invariant.2 in (
      tt,
      tt,
      (
        inv.0 ++ (c.loop-device.before ∷ decimal c.in-Some.device),
        record {
          taken = takes_more _ _ _ _ _ inv.1.taken c.in_ok-print_device.ensures.puts.ok;
          quiet = c.in_ok-print_device.ensures.cause.quiet ∙ inv.1.quiet;
        },
        listing-next _ _ _ _ _ _ inv.2 c.in-Some.ensures.steps,
      ),
    )

pub returns-in_err-print_device-clause-puts : goal.returns-in_err-print_device-clause-puts
returns-in_err-print_device-clause-puts g c =
    let inv = c.loop-device.invariant.2 in
    puts_err _ _ _ _ c.from_residual.ensures.0
    (listing-part _ _ _ _ _ _ _ _ _ inv.2 c.in-Some.ensures.steps inv.1.taken c.in_err-print_device.ensures.puts.err)

pub returns-clause-puts : goal.returns-clause-puts
returns-clause-puts g c =
    let inv = c.loop-device.invariant.2 in
    record {
      ok = subst (λ bytes. Takes (g.K.Sink.held c.args.out.now) (g.K.Sink.held c.loop-device.out) bytes) (listing-end _ _ _ _ inv.2 c.in-None.ensures.steps.0) inv.1.taken;
      err = tt;
    }
