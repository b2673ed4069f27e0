-- The replies that are lawful while an image is mended.
use Rattle.std.specs.Prelude.{ℕ, ◌≡◌, ◌⊎◌, All, List, map, true}
use Rattle.mr_image.specs.Images.{Image, mended, near}
pub use Rattle.mr_mend.specs.Readers.{AreSinglesFor, is_lost, no_singles, set_in, single_sets, singles_at}
use Rattle.mr_mend.specs.Replies.{Reply}
use Rattle.mr_mend.specs.declared.asks.Ask.{Ask}
use Rattle.mr_plan.specs.PlanLists.{recipes_at}
use Rattle.mr_ready.specs.Orders.{OrderParts}

-- The reply to a read is the symbol of the mended image. With `live` that to a read of a lost symbol may be the near
-- reply in its place.
abbrev pub IsLawful : OrderParts → Image → Ask → List ℕ → Type 0
IsLawful order image ask bytes =
    (bytes ≡ mended order.head (recipes_at order.plans) image ask.stripe ask.symbol)
    ⊎ ((order.live ≡ true) × (is_lost order.plans ask ≡ true)
    × (bytes ≡ near order.head (single_sets order.singles) image ask.stripe ask.symbol))

-- a lawful reply to each read, in the order of the reads
pub record AreReplies (order : OrderParts) (image : Image) (replies : List Reply) : Type 0 where
  pub asks : map (λ reply. reply.ask) replies ≡ order.asks
  pub lawful : All (λ reply. IsLawful order image reply.ask reply.bytes) replies
