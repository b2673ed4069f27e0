use Rattle.std.proofs.Common.{◌+◌}
use Rattle.mr_drill_run.specs.Damage.{Clears}
use Rattle.mr_drill_run.proofs.damaging.damage_stripe.Given as goal

-- the lost symbols below this one are cleared
abbrev pub invariant-loop-symbol : goal.invariant-loop-symbol
invariant-loop-symbol l = Clears l.head l.lost l.stripe (l.stripe + 1) l.symbol l.initial.image l.image
