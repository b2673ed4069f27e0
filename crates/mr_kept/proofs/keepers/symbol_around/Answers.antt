use Rattle.std.proofs.Common.{◌+◌, ◌-◌, ◌*◌, arith}
use Rattle.mr_kept.proofs.PartLaws.{low-symbol, high-symbol}
use Rattle.mr_kept.proofs.keepers.symbol_around.Goals as goal

pub returns-then-number-own-clause-symbol : goal.returns-then-number-own-clause-symbol
returns-then-number-own-clause-symbol c stripe around =
    low-symbol c.args.size c.args.own c.args.number c.from.result (c.from.result * c.args.size + c.args.size - c.from.result * c.args.size) stripe c.args.around.0.now
    (omega arith) c.from.ensures c.if-number-own.true around.low

pub returns-else-number-own-clause-symbol : goal.returns-else-number-own-clause-symbol
returns-else-number-own-clause-symbol c stripe around =
    let test = c.if-number-own.false in
    let other = c.requires.other in
    let is = c.from-else-number-own.ensures in
    high-symbol c.args.size c.args.own c.args.number c.from-else-number-own.result (c.from-else-number-own.result * c.args.size + c.args.size - c.from-else-number-own.result * c.args.size)
    stripe c.args.around.1.now (omega arith) (omega arith) around.high
