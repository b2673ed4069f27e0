-- The mended symbols at their places in the bytes of a file.
use Rattle.std.specs.Prelude.{◌≡◌, ◌≢◌, ℕ, ◌<◌, List, Some, length, slice_index_or, take}
use Rattle.mr_board.specs.Boards.{IsBoardOf, board_terms}
use Rattle.mr_board.specs.declared.board.Board.{Board}
use Rattle.mr_image.specs.Images.{Layout, image_of, mended, stripe_symbols}
use Rattle.mr_image.specs.declared.limits.TheConstants.{HEAD_BYTES}
use Rattle.mr_model.specs.Plans.{Recipe}
use Rattle.mr_plan.specs.PlanLists.{recipes_at}
use Rattle.mr_plan.specs.Plans.{PlanParts}

-- the board is for images of the layout and these plans
pub record IsBoardFor (b : Board) (l : Layout) (plans : List PlanParts) : Type 0 where
  pub head : (board_terms b).head ≡ l
  pub plans_are : (board_terms b).plans ≡ plans

-- The symbol of each recipe of stripe s stands at its place as the mended image has it, where the board is for a file that is
-- told. The other stripes and the head are as before.
pub record PutsMended (b : Board) (l : Layout) (plans : List PlanParts) (s : ℕ) (before now : List ℕ)
    : Type 0 where
  pub there : (bytes : List ℕ) → IsBoardOf b l plans (Some bytes) → (k : ℕ) (d : Recipe)
      → k < length (recipes_at plans s)
      → image_of l now s (slice_index_or (recipes_at plans s) k d).symbol
      ≡ mended l (recipes_at plans) (image_of l bytes) s
      (slice_index_or (recipes_at plans s) k d).symbol
  pub others : (t i : ℕ) → t ≢ s → i < stripe_symbols l → image_of l now t i ≡ image_of l before t i
  pub front : take HEAD_BYTES now ≡ take HEAD_BYTES before
