use Rattle.std.proofs.Common.{arith, ◌≡◌, ◌+◌, ◌-◌, ◌/◌, ◌<◌, ◌^◌, length, ap, ◌∙◌, sym, subst, true, false}
use Rattle.std.proofs.lemmas.Nat.{pow_pos}
use Rattle.mr_model.specs.Sets.{has}
use Rattle.mr_model.proofs.Loops.{IsRest-turn}
use Rattle.mr_model.proofs.SetLaws.{member-below}
use Rattle.mr_losses.specs.Losses.{symbols_of_devices}
use Rattle.mr_losses.proofs.LostSymbols.{IsFiltered, filtered-end, filtered-joins, filtered-start, filtered-stays, lost-below}
use Rattle.mr_losses.proofs.losses.symbols_of.Goals as goal

pub loop-symbol-init : goal.loop-symbol-init
loop-symbol-init c = (
  tt,
  tt,
  (
    0,
    subst (λ s. IsFiltered (2 ^ length c.args.matrix.now.rows - 1) (λ i. has c.args.devices (i / c.args.matrix.now.symbols_per_device)) 0 s 0)
        (sym (c.into_iter-symbol-iterator.ensures.into_iter_gives ∙ c.symbols-symbol-items.ensures.all ∙ c.all.ensures)) (filtered-start _ _),
  ),
)

pub device_of-requires : goal.device_of-requires
device_of-requires c =
    let turn = IsRest-turn _ _ _ _ _ c.loop-symbol.invariant.2.1.rest c.in-Some.ensures.steps in
    member-below (length c.args.matrix.now.rows) _ _ (omega (arith, pow_pos (length c.args.matrix.now.rows))) turn.member

pub loop-symbol-preserved-then-contains : goal.loop-symbol-preserved-then-contains
loop-symbol-preserved-then-contains c =
    let passes : has c.args.devices (c.in-Some.symbol / c.args.matrix.now.symbols_per_device) ≡ true =
    ap (has c.args.devices) (sym c.device_of.ensures) ∙ sym c.contains.ensures ∙ c.if-contains.true in (
      tt,
      tt,
      (
        c.in-Some.symbol + 1,
        filtered-joins _ _ _ _ _ _ _ _ c.loop-symbol.invariant.2.1 c.in-Some.ensures.steps passes c.with-symbols.ensures,
      ),
    )

pub loop-symbol-preserved : goal.loop-symbol-preserved
loop-symbol-preserved c =
    let fails : has c.args.devices (c.in-Some.symbol / c.args.matrix.now.symbols_per_device) ≡ false =
    ap (has c.args.devices) (sym c.device_of.ensures) ∙ sym c.contains.ensures ∙ c.if-contains.false in
    (tt, tt, (c.in-Some.symbol + 1, filtered-stays _ _ _ _ _ _ _ c.loop-symbol.invariant.2.1 c.in-Some.ensures.steps fails))

pub returns-clause-symbols : goal.returns-clause-symbols
unfolding symbols_of_devices
returns-clause-symbols c = filtered-end _ _ _ _ _ c.loop-symbol.invariant.2.1 c.in-None.ensures.steps.0

pub returns-clause-below : goal.returns-clause-below
returns-clause-below c = subst (λ s. s < 2 ^ length c.args.matrix.now.rows) (sym (returns-clause-symbols c)) (lost-below c.args.matrix.now c.args.devices)
