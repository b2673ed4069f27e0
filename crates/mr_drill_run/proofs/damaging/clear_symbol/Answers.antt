use Rattle.std.proofs.Common.{arith, ◌+◌, ◌-◌}
use Rattle.mr_drill_run.proofs.DamageLaws.{clears-put}
use Rattle.mr_drill_run.proofs.damaging.clear_symbol.Goals as goal

pub returns : goal.returns
returns c =
    clears-put c.args.head.now c.args.stripe c.args.symbol c.place-at.result (c.place-at.result + c.bytes-size.result - c.place-at.result) _ c.fill.new.self c.args.image.now
    c.requires.stripe c.requires.symbol c.requires.image c.place-at.ensures.place (omega arith) (c.fill.ensures.after (λ y same. same)) (omega arith)
