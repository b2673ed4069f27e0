use Rattle.std.proofs.Common.{◌≡◌, ◌+◌, ◌≤◌, ◌++◌}
use Rattle.std.specs.Prelude.{length, vec_capacity, vec_len}
use Rattle.std.specs.Vec.Iter.{into_iter_items, into_iter_len}
use Rattle.mr_ready.proofs.gathering.put_back.Given as goal

-- all eyes are there, in their order
abbrev pub invariant-loop-eye : goal.invariant-loop-eye
invariant-loop-eye g l =
    (l.eyes.items ++ into_iter_items l.rest ≡ l.initial.eyes.items ++ into_iter_items l.initial.rest)
    × (vec_len l.eyes + into_iter_len l.rest ≤ vec_capacity l.eyes) × (into_iter_len l.rest ≡ length (into_iter_items l.rest))

abbrev pub decreases-loop-eye : goal.decreases-loop-eye
decreases-loop-eye g l = into_iter_len l.rest
