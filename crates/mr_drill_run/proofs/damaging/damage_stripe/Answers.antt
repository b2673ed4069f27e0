use Rattle.std.proofs.Common.{arith, ◌≡◌, ◌+◌, ◌<◌, true, false, sym, subst}
use Rattle.mr_image.specs.Images.{stripe_symbols}
use Rattle.mr_model.specs.Sets.{has}
use Rattle.mr_model.proofs.SetLaws.{false-has, true-has}
use Rattle.mr_drill_run.specs.Damage.{Clears}
use Rattle.mr_drill_run.proofs.DamageLaws.{clears-kept, clears-lost}
use Rattle.mr_drill_run.proofs.damaging.damage_stripe.Goals as goal
use Rattle.mr_drill_run.proofs.damaging.damage_stripe.Goals.{else-contains, then-contains}

pub loop-symbol-preserved : goal.loop-symbol-preserved
loop-symbol-preserved c = elim c.if-contains.branch [
  | then-contains w ↦
      let gone : has c.args.lost c.loop-symbol.symbol ≡ true = cc in
      let low : c.loop-symbol.symbol < stripe_symbols c.args.head.now = omega arith in
      subst (λ image. Clears c.args.head.now c.args.lost c.args.stripe (c.args.stripe + 1) (c.loop-symbol.symbol + 1) c.args.image.now image) (sym w.image-is)
      (clears-lost c.args.head.now c.args.lost c.args.stripe c.loop-symbol.symbol c.args.image.now c.loop-symbol.image _ c.loop-symbol.invariant low
      (true-has c.args.lost c.loop-symbol.symbol gone) w.clear_symbol.ensures)
  | else-contains w ↦
      let kept : has c.args.lost c.loop-symbol.symbol ≡ false = cc in
      subst (λ image. Clears c.args.head.now c.args.lost c.args.stripe (c.args.stripe + 1) (c.loop-symbol.symbol + 1) c.args.image.now image) (sym w.image-is)
      (clears-kept c.args.head.now c.args.lost c.args.stripe c.loop-symbol.symbol c.args.image.now c.loop-symbol.image c.loop-symbol.image c.loop-symbol.invariant
      (false-has c.args.lost c.loop-symbol.symbol kept))
]
