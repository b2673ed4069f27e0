-- What a mender of the tests needs.
use Rattle.std.specs.Prelude.{◌≡◌, ℕ, ◌<◌, ◌≤◌, [], length, None, Some}
use Rattle.mr_counts.specs.Numbers.{next_above}
use Rattle.mr_plan.specs.PlanLists.{recipes_at}
use Rattle.mr_board.specs.Terms.{stripes_of, words_of}
use Rattle.mr_board.specs.Boards.{board_terms, pass_view, claimed_stripe, IsPassOf, IsReady}
use Rattle.mr_board.specs.declared.view.PassView.{PassView}
use Rattle.mr_board.specs.declared.board.Board.{Board}
use Rattle.mr_board_calls.specs.declared.crews.Crew.{Crew}
use Rattle.mr_board_calls.specs.declared.menders.Mender.{Mender}
use Rattle.mr_board_calls.specs.declared.menders.Work.{Work}
use Rattle.mr_board_calls.specs.declared.menders.Work.TheVariants.{Idle, Open, Ended}

-- a board of so many stripes of two lost symbols of eight bytes, of which nothing is told
pub record IsSmall (b : Board) (stripes : ℕ) : Type 0 where
  pub stripes_are : stripes_of (board_terms b) ≡ stripes
  pub bytes : (board_terms b).head.symbol_bytes ≡ 8
  pub levels : length (recipes_at (board_terms b).plans 0) ≡ 2
  pub words : words_of (board_terms b) ≡ 2
  pub untold : (board_terms b).rights ≡ []

-- the pass fits what is done with it
abbrev pub CanWork : PassView → Work → Type 0
CanWork v Idle = IsReady v
CanWork v (Open claim next) = (v.claimed ≡ Some (claimed_stripe claim)) × (v.filled ≡ next)
    × (next_above v.draws ≤ stripes_of v.terms)
CanWork v Ended = v.claimed ≡ None

pub record CanStep (b : Board) (m : Mender) : Type 0 where
  pub pass : IsPassOf b m.pass
  pub work : CanWork (pass_view m.pass) m.work

pub record CanPlay (b : Board) (crew : Crew) : Type 0 where
  pub first : CanStep b crew.first
  pub second : CanStep b crew.second
  pub third : CanStep b crew.third
  pub fourth : CanStep b crew.fourth
