use Rattle.std.proofs.Common.{◌+◌, arith}
use Rattle.mr_scatter.proofs.PartLaws.{place-few}
use Rattle.mr_scatter.proofs.stripes.part_place.Goals as goal

pub overflow_mul-result : goal.overflow_mul-result
overflow_mul-result c =
    omega (arith, place-few (c.from.result + c.from-2.result) c.args.part (omega (arith, c.from.ensures, c.from-2.ensures)) (omega (arith, c.requires)))

pub returns-clause-few : goal.returns-clause-few
returns-clause-few c =
    place-few (c.from.result + c.from-2.result) c.args.part (omega (arith, c.from.ensures, c.from-2.ensures)) (omega (arith, c.requires))
