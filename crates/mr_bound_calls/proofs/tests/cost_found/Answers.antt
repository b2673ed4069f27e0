use Rattle.std.proofs.Common.{arith, subst}
use Rattle.mr_model.proofs.BestLaws.{least_cost-le}
use Rattle.mr_eq.specs.Problems.{search_for}
use Rattle.mr_eq.specs.declared.found.Found.{Found}
use Rattle.mr_eq.proofs.Losses.{loss-cost, loss-good}
use Rattle.mr_front.specs.Searches.{IsFoundWithin}
use Rattle.mr_bound_calls.proofs.tests.cost_found.Goals as goal

pub returns : goal.returns
returns g c =
    let p = c.args.problem.now in
    let loss = c.targets-loss.ensures.loss in
    let found = subst (λ (f : Found). IsFoundWithin p 12 f) c.in-Least.is c.in_ok-set.ensures.within in
    let least = least_cost-le (search_for p) (loss-cost p loss) (loss-good p loss) c.in-Least.set found.0.good in
    omega (arith, least, c.cost.ensures.cost, c.from.ensures)
