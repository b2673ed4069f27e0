use Rattle.std.proofs.Common.{arith}
use Rattle.mr_eq.proofs.PlaneSteps.{digits-of}
use Rattle.mr_eq.proofs.planes.bits_of.Goals as goal

pub returns-clause-few : goal.returns-clause-few
returns-clause-few c = (digits-of c.greatest_of.result c.greatest_of.ensures.few).few

pub returns-clause-high : goal.returns-clause-high
returns-clause-high c i =
    let high = (digits-of c.greatest_of.result c.greatest_of.ensures.few).high in
    omega (arith, high, c.greatest_of.ensures.high i)
