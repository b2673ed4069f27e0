-- The head of an image file: what it spells, and the first fault of what does not spell one.
use Rattle.std.specs.Prelude.{◌≡◌, ℕ, ◌+◌, ◌%◌, ◌==◌, nat_lt, Bool, not, ◌&&◌, ◌||◌, List, [], ◌∷◌, ◌++◌, take, drop, replicate, Result, Ok, Err, codes, if◌then◌else◌}
use Rattle.std.specs.Int.{w32, to_le_bytes, from_le_bytes}
use Rattle.std.specs.Str.{bytes_eq}
use Rattle.mr_model.specs.Code.{Dimensions}
use Rattle.mr_bits.specs.declared.errors.What.TheVariants.{SymbolBytes, ImageBytes}
use Rattle.mr_image.specs.declared.limits.TheConstants.{HEAD_BYTES, IMAGE_LIMIT, SYMBOL_LIMIT}
use Rattle.mr_image.specs.declared.faults.HeadFault.{HeadFault}
use Rattle.mr_image.specs.declared.faults.HeadFault.TheVariants.{Bad, Large as TooLarge}
use Rattle.mr_image.specs.declared.faults.ImageKind.TheVariants.{Head, Shape, Bytes, Length}
use Rattle.mr_image.specs.Images.{Layout, body_bytes, Image, image_body}

-- ---- what a head spells

-- the first eight bytes, of which the last is the digit of the version
abbrev pub mark : ℕ → List ℕ
mark version = codes "MRIMAGE" ++ (48 + version) ∷ []

-- the mark, four numbers of four bytes, the lowest first, and eight zero bytes
unfoldable pub head_bytes : Layout → List ℕ
head_bytes l = mark l.version ++ to_le_bytes w32 l.devices ++ to_le_bytes w32 l.symbols_per_device
    ++ to_le_bytes w32 l.symbol_bytes ++ to_le_bytes w32 l.stripes ++ replicate 8 0

-- the bytes of a file with this image
abbrev pub image_bytes : Layout → Image → List ℕ
image_bytes l image = head_bytes l ++ image_body l image

-- the length of that file
abbrev pub file_bytes : Layout → ℕ
file_bytes l = HEAD_BYTES + body_bytes l

-- ---- the first fault

-- the layout of an image of version 1 for a code of these dimensions
abbrev pub layout : Dimensions → ℕ → ℕ → Layout
layout d bytes stripes = record {
  version = 1;
  devices = d.devices;
  symbols_per_device = d.symbols_per_device;
  symbol_bytes = bytes;
  stripes = stripes;
}

-- a layout within the limits, or what is first wrong with its numbers
abbrev pub checked_layout : Dimensions → ℕ → ℕ → Result Layout HeadFault
checked_layout d bytes stripes =
    if bytes == 0 || not (bytes % 8 == 0) then Err (Bad Bytes)
    else if nat_lt SYMBOL_LIMIT bytes
    then Err (TooLarge (record { what = SymbolBytes; number = bytes }))
    else if nat_lt IMAGE_LIMIT (body_bytes (layout d bytes stripes))
    then Err (TooLarge (record { what = ImageBytes; number = body_bytes (layout d bytes stripes) }))
    else Ok (layout d bytes stripes)

-- the mark of a version stands in front
unfoldable pub has_mark : ℕ → List ℕ → Bool
has_mark version bytes = bytes_eq (take 8 bytes) (mark version)

-- bytes 0 to 7 and 24 to 31 are those of a head of some version
unfoldable pub has_marks : List ℕ → Bool
has_marks bytes = (has_mark 1 bytes || has_mark 2 bytes)
    && bytes_eq (take 8 (drop 24 bytes)) (replicate 8 0)

-- the version that the mark names
unfoldable pub version_of : List ℕ → ℕ
version_of bytes = if has_mark 2 bytes then 2 else 1

-- the same layout of another version
abbrev pub with_version : ℕ → Layout → Layout
with_version version l = record l { version = version }

-- the number of four bytes from a place on, the lowest first
unfoldable pub number_at : ℕ → List ℕ → ℕ
number_at at bytes = from_le_bytes w32 (take 4 (drop at bytes))

-- the devices and the symbols of each are those of these dimensions
abbrev pub is_of_shape : Dimensions → List ℕ → Bool
is_of_shape d bytes = number_at 8 bytes == d.devices && number_at 12 bytes == d.symbols_per_device

-- the layout with this version, for a file of this length
abbrev pub of_length : ℕ → ℕ → Result Layout HeadFault → Result Layout HeadFault
of_length version len (Ok l) =
    if len == file_bytes l then Ok (with_version version l) else Err (Bad Length)
of_length version len (Err fault) = Err fault

-- the layout that the head of a file of this length spells for a
-- code of these dimensions, or the first fault
unfoldable pub read_head : List ℕ → Dimensions → ℕ → Result Layout HeadFault
read_head bytes d len =
    if not (has_marks bytes) then Err (Bad Head)
    else if not (is_of_shape d bytes) then Err (Bad Shape)
    else of_length (version_of bytes) len
    (checked_layout d (number_at 16 bytes) (number_at 20 bytes))

-- these 32 bytes are the head of the layout, which is one for a code of
-- these dimensions and a file of this length
pub record IsSpelled (bytes : List ℕ) (d : Dimensions) (len : ℕ) (l : Layout) : Type 0 where
  pub spelled : bytes ≡ head_bytes l
  pub devices : l.devices ≡ d.devices
  pub symbols_per_device : l.symbols_per_device ≡ d.symbols_per_device
  pub length : len ≡ file_bytes l
