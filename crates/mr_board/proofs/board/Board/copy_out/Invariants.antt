use Rattle.std.proofs.Common.{◌≡◌, ℕ, ◌*◌, List, Some, take, drop}
use Rattle.mr_image.specs.Images.{Layout, image_of}
use Rattle.mr_plan.specs.Plans.{PlanParts}
use Rattle.mr_plan.specs.PlanLists.{recipes_at}
use Rattle.mr_board.specs.Rights.{lost_bytes}
use Rattle.mr_board.specs.Boards.{pass_view, IsPassOf, IsBoardOf}
use Rattle.mr_board.proofs.board.Board.copy_out.Given as goal

abbrev pub invariant-loop-number : goal.invariant-loop-number
invariant-loop-number l = record {
  pass : IsPassOf l.self l.pass;
  same : pass_view l.pass ≡ pass_view l.initial.pass;
  bytes : (head : Layout) (plans : List PlanParts) (bytes : List ℕ) → IsBoardOf l.self head plans (Some bytes)
      → take (8 * l.number) l.dst
      ≡ take (8 * l.number) (drop (8 * l.first) (lost_bytes head (recipes_at plans) (image_of head bytes) l.stripe));
}
