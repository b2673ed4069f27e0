-- What the clauses of a board say of its passes and its claims.
use Rattle.std.specs.Prelude.{◌≡◌, ℕ, ◌<◌, ◌≤◌, Bool, true, false, List, Option, Some, None, IfSome}
use Rattle.mr_counts.specs.Numbers.{next_above}
use Rattle.mr_image.specs.Images.{Layout}
use Rattle.mr_plan.specs.Plans.{PlanParts}
use Rattle.mr_board.specs.Terms.{BoardTerms, stripes_of, words_of}
use Rattle.mr_board.specs.Rights.{terms_for}
use Rattle.mr_board.specs.Views.{with_draw}
use Rattle.mr_board.specs.Keys.{key_terms}
use Rattle.mr_board.specs.declared.view.PassView.{PassView}
use Rattle.mr_board.specs.declared.board.Board.{Board}
use Rattle.mr_board.specs.declared.board.Pass.{Pass}
use Rattle.mr_board.specs.declared.board.Claim.{Claim}

-- what the board is made for
abbrev pub board_terms : Board → BoardTerms
board_terms b = key_terms b.table.shared.key

-- what the pass knows
abbrev pub pass_view : Pass → PassView
pass_view p = p.seat.me.0

-- the stripe of the claim
abbrev pub claimed_stripe : Claim → ℕ
claimed_stripe claim = claim.stripe

-- the board is for this image and these plans, where an eye tells these bytes of the image's file
abbrev pub IsBoardOf : Board → Layout → List PlanParts → Option (List ℕ) → Type 0
IsBoardOf b l plans told = board_terms b ≡ terms_for l plans told

-- the pass is of this board, and names what it is made for; its open stripe is one of the board's, and
-- it stored no more words than a stripe has
pub record IsPassOf (b : Board) (p : Pass) : Type 0 where
  pub table : p.seat.table_id ≡ b.table.shared.table_id
  pub terms : (pass_view p).terms ≡ board_terms b
  pub claimed : IfSome (pass_view p).claimed (λ t. t < stripes_of (board_terms b))
  pub filled : (pass_view p).filled ≤ words_of (board_terms b)

-- the claim is of the stripe that is open in this pass
abbrev pub IsClaimOf : Pass → Claim → Type 0
IsClaimOf p claim = (pass_view p).claimed ≡ Some (claimed_stripe claim)

-- the pass may draw: it has no open stripe, and drew only stripes
pub record IsReady (v : PassView) : Type 0 where
  pub idle : v.claimed ≡ None
  pub more : next_above v.draws ≤ stripes_of v.terms

-- the pass drew stripe t, which is above all that it drew before and open now
pub record DrawsStripe (v : PassView) (t : ℕ) (w : PassView) : Type 0 where
  pub stripe : t < stripes_of v.terms
  pub above : next_above v.draws ≤ t
  pub view : w ≡ with_draw v t
  pub claimed : w.claimed ≡ Some t

-- the pass drew a number that is no stripe
pub record DrawsNone (v w : PassView) : Type 0 where
  pub number : ℕ
  pub beyond : stripes_of v.terms ≤ number
  pub above : next_above v.draws ≤ number
  pub view : w ≡ with_draw v number
  pub idle : w.claimed ≡ None

-- the state that a look found
abbrev pub state_of : Bool → ℕ
state_of true = 1
state_of false = 0
