-- What a mender begins with, what it leaves of its pass, and what it reads.
use Rattle.std.specs.Prelude.{◌≡◌, ℕ, ◌*◌, ◌<◌, List, take, drop, length, sum_by, nat_lt, vec_len, None, if◌then◌else◌}
use Rattle.std.specs.Int.{w64, from_le_bytes}
use Rattle.mr_model.specs.Members.{members}
use Rattle.mr_counts.specs.Numbers.{times, beyond}
use Rattle.mr_image.specs.Images.{Layout}
use Rattle.mr_plan.specs.Plans.{PlanParts}
use Rattle.mr_plan.specs.PlanLists.{plan_at, recipes_at}
use Rattle.mr_board.specs.Terms.{stripes_of}
use Rattle.mr_board.specs.declared.view.PassView.{PassView}
use Rattle.mr_mend.specs.declared.rooms.Room.{Room}

-- there is room for one symbol, and for one symbol for each recipe
pub record IsRoomOf (l : Layout) (plans : List PlanParts) (room : Room) : Type 0 where
  pub symbol : vec_len room.symbol ≡ l.symbol_bytes
  pub lost : vec_len room.lost ≡ length (recipes_at plans 0) * l.symbol_bytes

-- how many symbols are read for the number s that was drawn: the members of the set of the plan of stripe s, and
-- none where there is no such stripe
abbrev pub reads_for : Layout → List PlanParts → ℕ → ℕ
reads_for l plans s = if nat_lt s l.stripes then length (members (plan_at plans s).set) else 0

-- the bytes of the symbols that are read for the numbers that were drawn
abbrev pub drawn_bytes : Layout → List PlanParts → List ℕ → ℕ
drawn_bytes l plans draws = sum_by (reads_for l plans) draws * l.symbol_bytes

-- the number that the eight bytes of word i spell, the lowest first
abbrev pub spelled_word : List ℕ → ℕ → ℕ
spelled_word bytes i = from_le_bytes w64 (take 8 (drop (8 * i) bytes))

-- so many words of the open stripe are stored
abbrev pub filled_view : PassView → ℕ → PassView
filled_view v n = record v { filled = n }

-- From v, which drew nothing, to w a pass drew stripes, saw each of them done, and gave none up. It works on none.
pub record HasPublished (v w : PassView) : Type 0 where
  pub free : w.claimed ≡ None
  pub drawn : (t : ℕ) → t < stripes_of w.terms → 0 < times t w.draws → 0 < times t w.seen
  pub seen : (t : ℕ) → 0 < times t v.seen → 0 < times t w.seen
  pub gave : w.gave ≡ v.gave
  pub parts : w.parts ≡ v.parts
  pub left : w.left ≡ v.left

-- and it was told that no stripe is left
pub record HasMended (v w : PassView) : Type 0 where
  pub told : 0 < beyond (stripes_of w.terms) w.draws
  pub published : HasPublished v w
