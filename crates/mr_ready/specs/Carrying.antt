-- What a rebuild must be to be carried.
use Rattle.std.specs.Prelude.{ℕ, ◌≡◌, ◌^◌, ◌<◌, All, IfSome, List, Option, length, true}
use Rattle.mr_image.specs.Heads.{file_bytes}
use Rattle.mr_image.specs.Rotated.{rotations}
use Rattle.mr_io.specs.Sights.{Sight}
use Rattle.mr_mend.specs.Mending.{AreMendable}
use Rattle.mr_mend.specs.Scripts.{IsInRange}
use Rattle.mr_ready.specs.Crews.{IsCrew, eyes_of}
use Rattle.mr_ready.specs.Lawful.{AreSinglesFor}
use Rattle.mr_ready.specs.Lent.{AreLent, told_by}
use Rattle.mr_ready.specs.Orders.{parts_of_order}
use Rattle.mr_ready.specs.Written.{HaveRoom}
use Rattle.mr_ready.specs.declared.ready.Ready.{Ready}

-- what the eyes of a rebuild tell of the image
abbrev pub image_told : {E : Type 0} → (E → Sight) → Ready E → Option (List ℕ)
image_told sight ready = told_by sight (eyes_of ready.crew)

-- A rebuild that can be carried: its order is right for the image that its eyes tell, all workers are hired, with eyes as
-- they were lent, and there is room for what it makes.
pub record CanCarry {E : Type 0} (sight : E → Sight) (faults : E → ℕ) (ready : Ready E)
    : Type 0 where
  pub plans : AreMendable ready.order.head ready.order.plans
  pub lines : length ready.order.lines.items ≡ rotations ready.order.head
  pub singles : ready.order.live ≡ true
      → AreSinglesFor ready.order.head ready.order.plans ready.order.singles.items
  pub asks : All (IsInRange ready.order.head) ready.order.asks.items
  pub few : length ready.order.asks.items < 2 ^ 32
  pub some : 0 < ready.order.workers
  pub fits : IfSome (image_told sight ready) (λ bytes. length bytes ≡ file_bytes ready.order.head)
  pub crew : IsCrew sight (parts_of_order ready.order) ready.crew
  pub eyes : AreLent sight faults (image_told sight ready) ready.order.workers ready.order.live
      (eyes_of ready.crew)
  pub buffers : HaveRoom ready.order.head ready.order.asks.items ready.buffers
