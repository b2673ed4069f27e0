use Rattle.std.proofs.Common.{◌≡◌}
use Rattle.mr_board.specs.Boards.{IsPassOf, pass_view}
use Rattle.mr_ready.proofs.PlaceLaws.{PutBelow}
use Rattle.mr_ready.proofs.placing.put_stripe.Given as goal

-- the symbols of the recipes before this one are put
abbrev pub invariant-loop-level : goal.invariant-loop-level
invariant-loop-level l =
    PutBelow l.board l.order.head l.order.plans l.stripe l.level l.initial.image l.image
    × IsPassOf l.board l.pass × (pass_view l.pass ≡ pass_view l.initial.pass)
