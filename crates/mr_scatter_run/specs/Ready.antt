-- A task that is ready to be scattered.
use Rattle.std.specs.Prelude.{◌≡◌, ◌*◌, ◌<◌, All, length}
use Rattle.mr_image.specs.Images.{stripe_symbols}
use Rattle.mr_scatter_run.specs.declared.task.Ready.{Ready}

-- The lost devices are devices of the image, and there is room for one stripe.
pub record IsReady (ready : Ready) : Type 0 where
  pub devices : All (λ d. d < ready.head.devices) ready.lost.items
  pub room : length ready.stripe.items ≡ stripe_symbols ready.head * ready.head.symbol_bytes
