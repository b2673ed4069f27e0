-- Where the symbols of an array stand on its devices.
use Rattle.std.specs.Prelude.{ℕ, ◌+◌, ◌*◌, ◌/◌, ◌%◌, List, drop, take}
use Rattle.mr_image.specs.Images.{Layout}

-- the bytes that a stripe has on each device
abbrev pub part_bytes : Layout → ℕ
part_bytes l = l.symbols_per_device * l.symbol_bytes

-- where symbol i of stripe s begins on its device
abbrev pub device_place : Layout → ℕ → ℕ → ℕ
device_place l s i = (s * l.symbols_per_device + i % l.symbols_per_device) * l.symbol_bytes

-- the symbols of an array whose devices have these bytes
abbrev pub array_of : Layout → (ℕ → List ℕ) → ℕ → ℕ → List ℕ
array_of l devices s i = take l.symbol_bytes (drop (device_place l s i) (devices (i / l.symbols_per_device)))
