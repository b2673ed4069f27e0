use Rattle.std.proofs.Common.{◌≡◌, ◌+◌}
use Rattle.std.specs.Prelude.{vec_capacity, vec_len}
use Rattle.std.specs.Vec.Iter.{into_iter_items, into_iter_len}
use Rattle.mr_board.specs.Boards.{pass_view}
use Rattle.mr_ready.proofs.GatherLaws.{Gathering}
use Rattle.mr_ready.proofs.gathering.gather.Given as goal

-- the eyes and the passes of the workers before these are gathered
abbrev pub invariant-loop-worker : goal.invariant-loop-worker
invariant-loop-worker g l =
    Gathering l.board (pass_view l.initial.pass) l.initial.eyes.items (into_iter_items l.initial.rest) l.pass l.eyes.items (into_iter_items l.rest) (into_iter_len l.rest)
    × (vec_len l.eyes + into_iter_len l.rest ≡ vec_len l.initial.eyes + into_iter_len l.initial.rest)
    × (vec_capacity l.eyes ≡ vec_capacity l.initial.eyes)

abbrev pub decreases-loop-worker : goal.decreases-loop-worker
decreases-loop-worker g l = into_iter_len l.rest
