use Rattle.std.proofs.Common.{length, arith}
use Rattle.std.proofs.lemmas.Nat.{pow_pos}
use Rattle.mr_cache.proofs.Making.{rotated-low}
use Rattle.mr_cache_calls.proofs.tests.served.Goals as goal

pub check-requires : goal.check-requires
check-requires g c =
    rotated-low c.args.matrix.now c.rotated-rotated.result c.args.pattern.rotation c.args.pattern.lost c.of.result c.rotated-rotated.ensures.code c.of.ensures
    (omega (arith, pow_pos (length c.args.matrix.now.rows), c.all.ensures, c.number.ensures))
