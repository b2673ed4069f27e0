use Rattle.mr_image.specs.Images.{stripe_symbols}
use Rattle.mr_drill_run.specs.Damage.{Clears}
use Rattle.mr_drill_run.proofs.damaging.damage.Given as goal

-- the stripes before this one have lost their symbols
abbrev pub invariant-loop-stripe : goal.invariant-loop-stripe
invariant-loop-stripe l = Clears l.head l.lost 0 l.stripe (stripe_symbols l.head) l.initial.image l.image
