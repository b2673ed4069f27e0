-- The parts of an image that the lost devices get, and files that are written.
use Rattle.std.specs.Prelude.{◌≡◌, ℕ, ◌+◌, ◌*◌, ◌/◌, ◌<◌, ◌≤◌, List, [], drop, flat_map, get_or, length, min, take, Option, Some, IfSome}
use Rattle.std.specs.List.{range_with_len}
use Rattle.std.specs.Option.{ForSome}
use Rattle.mr_image.specs.Images.{Layout, stripe_symbols}
use Rattle.mr_devices.specs.Places.{part_bytes}
use Rattle.mr_devices.specs.Writing.{IsWritten, Shelf}

-- the part of device d in stripe s of the symbols of an image, one stripe after another
abbrev pub part_in : Layout → List ℕ → ℕ → ℕ → List ℕ
part_in l body s d = take (part_bytes l) (drop (s * (stripe_symbols l * l.symbol_bytes) + d * part_bytes l) body)

-- what device d gets of the first n stripes
abbrev pub device_text : Layout → List ℕ → ℕ → ℕ → List ℕ
device_text l body d n = flat_map (λ s. part_in l body s d) (range_with_len 0 n)

-- how many stripes stand whole in the front of so many bytes of the symbols of an image
abbrev pub whole_stripes : Layout → ℕ → ℕ
whole_stripes l count = min l.stripes (count / (stripe_symbols l * l.symbol_bytes))

-- so many files are open, where they are told
abbrev pub HasOpen : Option Shelf → ℕ → Type 0
HasOpen told count = IfSome told (λ shelf. length shelf.opened ≡ count)

-- Each open file has these bytes at its place, and every other byte of it is as it was; nothing else changed.
pub record StoresIn (shelf : Shelf) (new : Option Shelf) (at : ℕ → ℕ) (bytes : ℕ → List ℕ) : Type 0 where
  pub files : List (List ℕ)
  pub tells : new ≡ Some (record shelf { opened = files })
  pub same : length files ≡ length shelf.opened
  pub each : (k : ℕ) → k < length shelf.opened → IsWritten (at k) (bytes k) (get_or shelf.opened k []) (get_or files k [])

-- the same, where the files are told
abbrev pub Stores : Option Shelf → Option Shelf → (ℕ → ℕ) → (ℕ → List ℕ) → Type 0
Stores old new at bytes = ForSome old (λ shelf. StoresIn shelf new at bytes)

-- Each open file has at its place a front of these bytes, of at least so many, and every other byte of it is as it was;
-- nothing else changed.
pub record StoresFrontIn (least : ℕ) (shelf : Shelf) (new : Option Shelf) (at : ℕ → ℕ) (bytes : ℕ → List ℕ) : Type 0 where
  pub files : List (List ℕ)
  pub tells : new ≡ Some (record shelf { opened = files })
  pub same : length files ≡ length shelf.opened
  pub each : (k : ℕ) → k < length shelf.opened → (count : ℕ) × (least ≤ count)
      × IsWritten (at k) (take count (bytes k)) (get_or shelf.opened k []) (get_or files k [])

-- the same, where the files are told
abbrev pub StoresFront : ℕ → Option Shelf → Option Shelf → (ℕ → ℕ) → (ℕ → List ℕ) → Type 0
StoresFront least old new at bytes = ForSome old (λ shelf. StoresFrontIn least shelf new at bytes)
