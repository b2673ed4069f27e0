use Rattle.std.proofs.Common.{OnOk, OnErr, subst}
use Rattle.std.proofs.lemmas.Result.{on_ok_weaker, on_err_weaker}
use Rattle.mr_eq.specs.Problems.{Loss}
use Rattle.mr_front.specs.Waiting.{Queue, Waits, WaitsToo, WaitsSame}
use Rattle.mr_front.specs.Lists.{IsTidy}
use Rattle.mr_front.proofs.FrontierLaws.{WaitsIn, added-waits, same-waits}
use Rattle.mr_front.proofs.frontier.Frontier.add.Goals as goal

pub returns-clause-added : goal.returns-clause-added
returns-clause-added c =
    let old = c.self.inside.waiting in
    let new = c.add.new.self in
    let tidy = subst (λ (p : Loss). IsTidy p new.lists) c.add.ensures.loss new.tidy in
    subst (λ (q : Queue). OnOk c.add.result (WaitsToo (Waits q) (WaitsIn new.lists) c.args.level c.args.masks.now)) c.self.view_is
    (on_ok_weaker c.add.result (added-waits old.problem old.lists new.lists old.tidy tidy c.args.level c.args.masks.now) c.add.ensures.added)

pub returns-clause-same : goal.returns-clause-same
returns-clause-same c =
    let old = c.self.inside.waiting in
    let new = c.add.new.self in
    let tidy = subst (λ (p : Loss). IsTidy p new.lists) c.add.ensures.loss new.tidy in
    subst (λ (q : Queue). OnErr c.add.result (WaitsSame (Waits q) (WaitsIn new.lists))) c.self.view_is
    (on_err_weaker c.add.result (same-waits old.problem old.lists new.lists old.tidy tidy) c.add.ensures.same)
