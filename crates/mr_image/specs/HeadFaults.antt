-- The first fault of an image's head, as a property: what comes
-- before it in the order holds, and it doesn't.
use Rattle.std.specs.Prelude.{◌≡◌, ℕ, ◌%◌, ◌<◌, ◌≤◌, ◌≢◌, ◌⊎◌, List, take, drop, replicate}
use Rattle.mr_model.specs.Code.{Dimensions}
use Rattle.mr_bits.specs.declared.errors.Large.{Large}
use Rattle.mr_bits.specs.declared.errors.What.{What}
use Rattle.mr_bits.specs.declared.errors.What.TheVariants.{SymbolBytes, ImageBytes}
use Rattle.mr_image.specs.declared.limits.TheConstants.{IMAGE_LIMIT, SYMBOL_LIMIT}
use Rattle.mr_image.specs.declared.faults.HeadFault.{HeadFault}
use Rattle.mr_image.specs.declared.faults.HeadFault.TheVariants.{Bad, Large as TooLarge}
use Rattle.mr_image.specs.declared.faults.ImageKind.TheVariants.{Head, Shape, Bytes, Length, Planned, Version}
use Rattle.mr_image.specs.Images.{Layout, body_bytes}
use Rattle.mr_image.specs.Heads.{mark, file_bytes, layout, number_at}

-- bytes 0 to 7 are the mark of version 1 or of version 2, and bytes 24 to 31 are zeros
pub record HasMarks (bytes : List ℕ) : Type 0 where
  pub front : (take 8 bytes ≡ mark 1) ⊎ (take 8 bytes ≡ mark 2)
  pub zeros : take 8 (drop 24 bytes) ≡ replicate 8 0

-- the devices and the symbols of each are those of these dimensions
pub record HasShape (d : Dimensions) (bytes : List ℕ) : Type 0 where
  pub devices : number_at 8 bytes ≡ d.devices
  pub symbols : number_at 12 bytes ≡ d.symbols_per_device

-- the layout that the numbers of a head are of
abbrev pub head_layout : Dimensions → List ℕ → Layout
head_layout d bytes = layout d (number_at 16 bytes) (number_at 20 bytes)

-- a symbol has bytes, and they are whole words of 8
pub record HasWholeWords (l : Layout) : Type 0 where
  pub some : 1 ≤ l.symbol_bytes
  pub whole : l.symbol_bytes % 8 ≡ 0

-- the bytes of a symbol, and those of all symbols, are within the limits
pub record IsWithinLimits (l : Layout) : Type 0 where
  pub words : HasWholeWords l
  pub symbol : l.symbol_bytes ≤ SYMBOL_LIMIT
  pub image : body_bytes l ≤ IMAGE_LIMIT

-- the number is above its limit, and is the one that is named
pub record IsTooLarge (limit number : ℕ) (what : What) (named : Large) : Type 0 where
  pub above : limit < number
  pub is : record { what = what; number = number } ≡ named

-- a symbol has too many bytes, or else all symbols have
abbrev pub IsLarge : Layout → Large → Type 0
IsLarge l named = IsTooLarge SYMBOL_LIMIT l.symbol_bytes SymbolBytes named
    ⊎ ((l.symbol_bytes ≤ SYMBOL_LIMIT) × IsTooLarge IMAGE_LIMIT (body_bytes l) ImageBytes named)

-- the first fault of the numbers of a layout: none of them is of the head's marks, shape or length
abbrev pub IsSizeFault : Layout → HeadFault → Type 0
IsSizeFault l (Bad Bytes) = ¬ HasWholeWords l
IsSizeFault l (TooLarge named) = HasWholeWords l × IsLarge l named
IsSizeFault l (Bad Head) = ⊥
IsSizeFault l (Bad Shape) = ⊥
IsSizeFault l (Bad Length) = ⊥
IsSizeFault l (Bad Planned) = ⊥
IsSizeFault l (Bad Version) = ⊥

-- The first fault of the head of a file of this length, for a code of these dimensions. That an
-- image is of version 2 is no fault of its head.
abbrev pub IsHeadFault : List ℕ → Dimensions → ℕ → HeadFault → Type 0
IsHeadFault bytes d len (Bad Head) = ¬ HasMarks bytes
IsHeadFault bytes d len (Bad Shape) = HasMarks bytes × ¬ HasShape d bytes
IsHeadFault bytes d len (Bad Bytes) = HasMarks bytes × HasShape d bytes
    × IsSizeFault (head_layout d bytes) (Bad Bytes)
IsHeadFault bytes d len (TooLarge named) = HasMarks bytes × HasShape d bytes
    × IsSizeFault (head_layout d bytes) (TooLarge named)
IsHeadFault bytes d len (Bad Length) = HasMarks bytes × HasShape d bytes
    × IsWithinLimits (head_layout d bytes) × (len ≢ file_bytes (head_layout d bytes))
IsHeadFault bytes d len (Bad Planned) = ⊥
IsHeadFault bytes d len (Bad Version) = ⊥
