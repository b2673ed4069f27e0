use Rattle.std.proofs.Common.{◌≡◌, ◌+◌}
use Rattle.std.specs.Vec.Iter.{into_iter_len}
use Rattle.mr_ready.specs.Crews.{IsHiring, eyes_of}
use Rattle.mr_ready.specs.Orders.{parts_of_order}
use Rattle.mr_ready.proofs.crews.fill.Given as goal

-- the workers of the places before this one are hired
abbrev pub invariant-loop-place : goal.invariant-loop-place
invariant-loop-place g l =
    IsHiring g.E.Eye.sight (parts_of_order l.order) l.place l.crew
    × (eyes_of l.crew ≡ eyes_of l.initial.crew)
    × (into_iter_len l.crew.rest + l.place ≡ into_iter_len l.initial.crew.rest)
