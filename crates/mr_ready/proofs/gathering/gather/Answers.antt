use Rattle.std.proofs.Common.{◌∙◌, ap, sym, subst, arith}
use Rattle.std.specs.Vec.Iter.{into_iter_items, into_iter_len}
use Rattle.mr_board.specs.Boards.{IsPassOf, pass_view}
use Rattle.mr_board.specs.declared.board.Pass.{Pass}
use Rattle.std.proofs.Common.{◌≡◌, ◌++◌, ◌∷◌, [], List, None, map, rules}
use Rattle.mr_board.specs.Views.{joined_view}
use Rattle.mr_mend.specs.declared.workers.Worker.{Worker}
use Rattle.mr_ready.specs.Joining.{HasJoined}
use Rattle.mr_ready.proofs.GatherLaws.{gather-joined, gather-next, next-is}
use Rattle.mr_ready.proofs.gathering.gather.Goals as goal

pub join-requires-clause-other : goal.join-requires-clause-other
join-requires-clause-other g c =
    subst (λ (p : Pass). IsPassOf c.args.board.now p) (sym (ap (λ (r : Pass × _). r.0) c.into_parts-other.ensures))
    (next-is c.args.board.now (pass_view c.args.pass.now) c.args.back.items (into_iter_items c.into_iter-rest.result) c.loop-worker.pass c.loop-worker.eyes.items c.in-Some.worker (into_iter_items c.loop-worker.rest) (into_iter_items c.next.new.self) (into_iter_len c.loop-worker.rest)
    c.loop-worker.invariant.0 c.in-Some.ensures.cases.0).0

pub join-requires-clause-other_idle : goal.join-requires-clause-other_idle
join-requires-clause-other_idle g c =
    subst (λ (p : Pass). (pass_view p).claimed ≡ None) (sym (ap (λ (r : Pass × _). r.0) c.into_parts-other.ensures))
    (next-is c.args.board.now (pass_view c.args.pass.now) c.args.back.items (into_iter_items c.into_iter-rest.result) c.loop-worker.pass c.loop-worker.eyes.items c.in-Some.worker (into_iter_items c.loop-worker.rest) (into_iter_items c.next.new.self) (into_iter_len c.loop-worker.rest)
    c.loop-worker.invariant.0 c.in-Some.ensures.cases.0).1

pub loop-worker-preserved : goal.loop-worker-preserved
loop-worker-preserved g c =
    let h = c.loop-worker.invariant in
    let own : c.into_parts-other.result.0 ≡ c.in-Some.worker.pass = ap (λ (r : Pass × _). r.0) c.into_parts-other.ensures in
    let eye : c.into_parts-other.result.1 ≡ c.in-Some.worker.eye = ap (λ (r : Pass × _). r.1) c.into_parts-other.ensures in (
      gather-next c.args.board.now (pass_view c.args.pass.now) c.args.back.items (into_iter_items c.into_iter-rest.result) c.loop-worker.pass c.join.new.pass c.loop-worker.eyes.items c.push_reserved.new.self.items c.in-Some.worker
          (into_iter_items c.loop-worker.rest) (into_iter_items c.next.new.self) (into_iter_len c.loop-worker.rest) (into_iter_len c.next.new.self) h.0 c.in-Some.ensures.cases.0 c.in-Some.ensures.cases.1
          c.join.ensures.pass (c.join.ensures.joined ∙ ap (λ (p : Pass). joined_view (pass_view c.loop-worker.pass) (pass_view p)) own) c.join.ensures.whole
          (c.push_reserved.ensures.items ∙ ap (λ e. c.loop-worker.eyes.items ++ e ∷ []) eye),
      omega (arith, h.1, c.push_reserved.ensures.len, c.in-Some.ensures.cases.1),
      c.push_reserved.ensures.capacity ∙ h.2,
    )

pub returns-clause-joined : goal.returns-clause-joined
returns-clause-joined g c =
    let last : into_iter_len c.loop-worker.rest ≡ 0 = search rules in
    let joined = gather-joined c.args.board.now (pass_view c.args.pass.now) c.args.back.items (into_iter_items c.into_iter-rest.result) c.loop-worker.pass c.loop-worker.eyes.items (into_iter_items c.loop-worker.rest) (into_iter_len c.loop-worker.rest)
    c.loop-worker.invariant.0 last in
    subst (λ (ws : List (Worker _)). HasJoined (pass_view c.args.pass.now) (map (λ worker. pass_view worker.pass) ws) (pass_view c.loop-worker.pass)) c.into_iter-rest.ensures.rest joined
