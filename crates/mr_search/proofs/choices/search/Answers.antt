use Rattle.std.proofs.lemmas.Result.{IfOk-weaker}
use Rattle.mr_eq.proofs.WorkOf.{work-bounded}
use Rattle.mr_front.proofs.FoundLaws.{found-lean, found-within}
use Rattle.mr_search.proofs.choices.search.Goals as goal

pub returns-clause-within : goal.returns-clause-within
returns-clause-within g c =
    let p = c.args.problem.now in
    IfOk-weaker c.find.result _ _ (found-within p c.targets-loss.ensures.loss c.args.budget) c.find.ensures

pub returns-clause-lean : goal.returns-clause-lean
returns-clause-lean g c =
    let p = c.args.problem.now in
    IfOk-weaker c.find.result _ _ (found-lean p c.targets-loss.ensures.loss c.args.budget) c.find.ensures

pub returns-clause-bounded : goal.returns-clause-bounded
returns-clause-bounded g c = work-bounded c.args.problem.now c.targets-loss.ensures.loss
