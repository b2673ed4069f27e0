use Rattle.std.proofs.Common.{◌≡◌}
use Rattle.mr_board.specs.Boards.{IsPassOf, pass_view}
use Rattle.mr_ready.proofs.PlaceLaws.{HoldsBelow}
use Rattle.mr_ready.proofs.placing.put_mended.Given as goal

-- the symbols of the stripes before this one are put
abbrev pub invariant-loop-stripe : goal.invariant-loop-stripe
invariant-loop-stripe l =
    HoldsBelow l.board l.order.head l.order.plans l.stripe l.initial.image l.image
    × IsPassOf l.board l.pass × (pass_view l.pass ≡ pass_view l.initial.pass)
