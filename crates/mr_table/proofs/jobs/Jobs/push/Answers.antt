use Rattle.std.proofs.Common.{ℕ, subst}
use Rattle.crossbeam_queue.specs.Fifo.{Pushes}
use Rattle.mr_table.specs.Rule.{Kept, Pushed}
use Rattle.mr_table.specs.Passes.{pass_view}
use Rattle.mr_table.proofs.Keeps.{pushes}
use Rattle.mr_table.proofs.jobs.Jobs.push.Goals as goal

pub push_as-requires-clause-rule : goal.push_as-requires-clause-rule
push_as-requires-clause-rule g c n =
    let p = c.args.pass.now in
    subst (λ (x : ℕ). Pushes Kept n p.seat.id (pass_view p) x (Pushed (pass_view p) x)) c.requires.number
    (pushes n p.seat.id (pass_view p) p.live c.requires.whole)
