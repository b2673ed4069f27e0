-- The images that are gathered from the devices of an array.
use Rattle.std.specs.Prelude.{ℕ, Bool, ◌+◌, ◌/◌, ◌==◌, ◌&&◌, List, if◌then◌else◌, replicate}
use Rattle.mr_model.specs.Sets.{has}
use Rattle.mr_image.specs.Images.{Layout}
use Rattle.mr_devices.specs.Places.{array_of}

-- the image of the stripes from number `first` on: the members of the set as they stand on the devices, and zero bytes
-- for each other symbol
unfoldable pub gathered : Layout → (ℕ → List ℕ) → ℕ → ℕ → ℕ → ℕ → List ℕ
gathered l devices set first s i = if has set i then array_of l devices (first + s) i else replicate l.symbol_bytes 0

-- symbol i is a member of the set and stands on device d
abbrev pub is_read_of : Layout → ℕ → ℕ → ℕ → Bool
is_read_of l set d i = has set i && (i / l.symbols_per_device == d)
