use Rattle.std.proofs.Common.{◌+◌, length}
use Rattle.mr_model.specs.Members.{members}
use Rattle.mr_search.proofs.CrewLaws.{IsTaking}
use Rattle.mr_search.proofs.crew.take_lists.Given as goal

abbrev pub invariant-loop-place : goal.invariant-loop-place
invariant-loop-place l =
    IsTaking l.inputs.equations.now (length (members l.inputs.equations.now.targets) + 1) l.fn.crew l.crew l.cost l.level l.place l.fn.list.items l.list.items
