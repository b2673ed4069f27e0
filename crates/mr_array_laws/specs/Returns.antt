-- What is gathered from a device is what is scattered to it.
use Rattle.std.specs.Prelude.{◌≡◌, ℕ, ◌+◌, ◌*◌, ◌/◌, ◌<◌, ◌≤◌, true, List, drop, length, take}
use Rattle.mr_model.specs.Sets.{has}
use Rattle.mr_image.specs.Images.{Layout, image_body, stripe_symbols}
use Rattle.mr_devices.specs.Places.{part_bytes}
use Rattle.mr_gather.specs.Arrays.{gathered}
use Rattle.mr_scatter.specs.Parts.{device_text}

-- the devices of the members have all stripes that are gathered
pub record ReachTo (l : Layout) (devices : ℕ → List ℕ) (set first : ℕ) : Type 0 where
  pub long : (i : ℕ) → i < stripe_symbols l → has set i ≡ true
      → (first + l.stripes) * part_bytes l ≤ length (devices (i / l.symbols_per_device))

-- Whatever the devices hold: of a device whose symbols are all members, the image that is gathered has for its places the
-- bytes that stand there.
pub record BringsBack (l : Layout) : Type 0 where
  pub device : (devices : ℕ → List ℕ) (set first d : ℕ) → ReachTo l devices set first → d < l.devices
      → ((y : ℕ) → y < l.symbols_per_device → has set (d * l.symbols_per_device + y) ≡ true)
      → device_text l (image_body l (gathered l devices set first)) d l.stripes
      ≡ take (l.stripes * part_bytes l) (drop (first * part_bytes l) (devices d))
