use Rattle.std.proofs.lemmas.Result.{IfOk-weaker}
use Rattle.mr_eq.proofs.WorkOf.{work-bounded}
use Rattle.mr_front.proofs.FoundLaws.{found-lean, found-within}
use Rattle.mr_front.proofs.search.search_one.Goals as goal

pub returns-clause-within : goal.returns-clause-within
returns-clause-within c =
    let p = c.args.problem.now in
    IfOk-weaker c.find.result _ _ (found-within p c.targets-loss.ensures.loss c.args.budget) c.find.ensures

pub returns-clause-lean : goal.returns-clause-lean
returns-clause-lean c =
    let p = c.args.problem.now in
    IfOk-weaker c.find.result _ _ (found-lean p c.targets-loss.ensures.loss c.args.budget) c.find.ensures

pub returns-clause-bounded : goal.returns-clause-bounded
returns-clause-bounded c = work-bounded c.args.problem.now c.targets-loss.ensures.loss
