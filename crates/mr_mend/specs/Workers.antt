-- What workers begin with, and what they have done.
use Rattle.std.specs.Prelude.{◌≡◌, ℕ, ◌+◌, ◌*◌, ◌<◌, ◌≤◌, true, false, List, [], length, slice_index_or, map, All, vec_len, Option, None}
use Rattle.std.specs.List.{range_with_len}
use Rattle.mr_io.specs.Counts.{Rose}
use Rattle.mr_io.specs.Sights.{Sight, sight_with}
use Rattle.mr_image.specs.Images.{Layout}
use Rattle.mr_image.specs.Sights.{HasImage, IsSameFile}
use Rattle.mr_plan.specs.Plans.{PlanParts}
use Rattle.mr_eq.specs.Singles.{SinglesOf}
use Rattle.mr_board.specs.declared.board.Board.{Board}
use Rattle.mr_board.specs.declared.board.Pass.{Pass}
use Rattle.mr_board.specs.Boards.{pass_view, IsBoardOf, IsPassOf}
use Rattle.mr_mend.specs.declared.asks.Ask.{Ask}
use Rattle.mr_mend.specs.declared.served.Slot.{Slot}
use Rattle.mr_mend.specs.declared.workers.Role.{Role}
use Rattle.mr_mend.specs.declared.workers.Role.TheVariants.{Mender, Reader}
use Rattle.mr_mend.specs.declared.workers.Worker.{Worker}
use Rattle.mr_mend.specs.Menders.{IsRoomOf, drawn_bytes, HasMended}
use Rattle.mr_mend.specs.Readers.{AreSinglesFor, HasLooked, IsSlotFor, HasRead}

-- ---- what a worker is made for

-- the worker mends, and has room for it
abbrev pub IsMender : Layout → List PlanParts → Role → Type 0
IsMender l plans (Mender room) = IsRoomOf l plans room
IsMender l plans (Reader slots tmp) = ⊥

-- these are the numbers first, first + step and so on that are below n
pub record AreStrided (first step n : ℕ) (numbers : List ℕ) : Type 0 where
  pub are : numbers ≡ map (λ k. first + k * step) (range_with_len 0 (length numbers))
  pub below : All (λ number. number < n) numbers
  pub all : n ≤ first + length numbers * step

-- the numbers of the asks that the worker serves
abbrev pub numbers_of : Role → List ℕ
numbers_of (Mender room) = []
numbers_of (Reader slots tmp) = map (λ slot. slot.number) slots.items

-- the worker reads, and has room for its replies and for one symbol more
abbrev pub IsReader : Layout → Role → Type 0
IsReader l (Mender room) = ⊥
IsReader l (Reader slots tmp) =
    All (λ slot. vec_len slot.bytes ≡ l.symbol_bytes) slots.items × (vec_len tmp ≡ l.symbol_bytes)

-- ---- what a worker begins with

module _ (l : Layout) (plans : List PlanParts) (singles : List SinglesOf) (asks : List Ask) where
  -- a mender drew nothing; a reader has singles, and room for the replies to its asks
  abbrev pub CanDo : Pass → Role → Type 0
  CanDo pass (Mender room) = ((pass_view pass).draws ≡ []) × IsRoomOf l plans room
  CanDo pass (Reader slots tmp) = AreSinglesFor l plans singles
      × All (IsSlotFor l asks) slots.items × (vec_len tmp ≡ l.symbol_bytes)

  pub record CanWork {E : Type 0} (sight : E → Sight) (b : Board) (w : Worker E) : Type 0 where
    pub pass : IsPassOf b w.pass
    pub free : (pass_view w.pass).claimed ≡ None
    pub board : IsBoardOf b l plans (sight w.eye).bytes
    pub image : HasImage l (sight w.eye)
    pub role : CanDo w.pass w.role

-- ---- what a worker has done

module _ (l : Layout) (plans : List PlanParts) (singles : List SinglesOf) (asks : List Ask) where
  -- from these slots on each ask was served
  abbrev pub HasServed : Option (List ℕ) → List Slot → ℕ → ℕ → Role → Type 0
  HasServed told start before after (Mender room) = ⊥
  HasServed told start before after (Reader slots tmp) =
      HasRead l plans singles asks told start slots.items before after

  module _ {E : Type 0} (sight : E → Sight) (v w : Worker E) where
    -- a mender was told that no stripe is left, each stripe that it drew is done, and it took the bytes that are read
    -- for what it drew; a reader has served its asks
    abbrev pub HasDone : Role → Type 0
    HasDone (Mender room) = HasMended (pass_view v.pass) (pass_view w.pass)
        × (sight w.eye ≡ sight_with (sight v.eye) (drawn_bytes l plans (pass_view w.pass).draws))
    HasDone (Reader slots tmp) = HasServed (sight v.eye).bytes slots.items
        (sight v.eye).taken (sight w.eye).taken w.role

-- a reader drew nothing, whether or not a read failed
abbrev pub HasOnlyLooked : {E : Type 0} → Worker E → Worker E → Role → Type 0
HasOnlyLooked v w (Mender room) = Unit {0}
HasOnlyLooked v w (Reader slots tmp) = HasLooked (pass_view v.pass) (pass_view w.pass)

-- what any worker leaves: a pass of the board that works on no stripe, and an eye on the same file
pub record HasWorked {E : Type 0} (sight : E → Sight) (faults : E → ℕ) (b : Board) (v w : Worker E)
    : Type 0 where
  pub pass : IsPassOf b w.pass
  pub free : (pass_view w.pass).claimed ≡ None
  pub looked : HasOnlyLooked v w v.role
  pub file : IsSameFile (sight v.eye) (sight w.eye)
  pub later : faults v.eye ≤ faults w.eye

-- what a worker did of whose reads none failed
pub record HasFinished {E : Type 0} (sight : E → Sight) (faults : E → ℕ) (l : Layout)
    (plans : List PlanParts) (singles : List SinglesOf) (asks : List Ask) (v w : Worker E) : Type 0 where
  pub done : HasDone l plans singles asks sight v w v.role
  pub quiet : faults w.eye ≡ faults v.eye

-- what any worker leaves; it has finished, or a read of it failed
pub record HasEnded {E : Type 0} (sight : E → Sight) (faults : E → ℕ) (b : Board) (l : Layout)
    (plans : List PlanParts) (singles : List SinglesOf) (asks : List Ask) (v w : Worker E) : Type 0 where
  pub worked : HasWorked sight faults b v w
  pub finished : w.failed ≡ false → HasFinished sight faults l plans singles asks v w
  pub failed : w.failed ≡ true → Rose (faults v.eye) (faults w.eye)

-- ---- replies

-- the bytes are those of a slot of this number
abbrev pub HasReply : List Slot → ℕ → List ℕ → Type 0
HasReply slots number bytes = (k : ℕ) × (k < length slots) × ((d : Slot)
    → ((slice_index_or slots k d).number ≡ number)
    × ((slice_index_or slots k d).bytes.items ≡ bytes))

abbrev pub IsReplyOf : Role → ℕ → List ℕ → Type 0
IsReplyOf (Mender room) number bytes = ⊥
IsReplyOf (Reader slots tmp) number bytes = HasReply slots.items number bytes
