use Rattle.mr_front.specs.Waiting.{Waits}
use Rattle.mr_front.proofs.FrontierLaws.{WaitsIn, none-waits, start-waits}
use Rattle.mr_front.proofs.frontier.Frontier.new.Goals as goal

pub returns-clause-start : goal.returns-clause-start
returns-clause-start c =
    let w = c.new.result in
    start-waits (WaitsIn w.lists) (Waits c.add.new.self) (none-waits w.problem w.lists w.tidy c.new.ensures.none) c.in_ok-add.ensures.added
