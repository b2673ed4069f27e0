-- Bytes that are written at a place of a file, and what open device files tell.
use Rattle.std.specs.Prelude.{◌≡◌, ℕ, ◌+◌, ◌<◌, ◌≤◌, ◌⊎◌, List, [], ◌∷◌, ◌++◌, get_or, length, max, set, take, Option, Some}
use Rattle.std.specs.Option.{ForSome}

-- The new file has these bytes from the place on, and every other byte is as it was. It ends where the old
-- one or the bytes end, whichever is later; a byte behind the end of the old file counts as zero.
pub record IsWritten (at : ℕ) (bytes old new : List ℕ) : Type 0 where
  pub inside : (p : ℕ) → p < length bytes → get_or new (at + p) 0 ≡ get_or bytes p 0
  pub outside : (p : ℕ) → (p < at) ⊎ (at + length bytes ≤ p) → get_or new p 0 ≡ get_or old p 0
  pub grown : 0 < length bytes → length new ≡ max (length old) (at + length bytes)
  pub none : length bytes ≡ 0 → new ≡ old

-- What each name holds at first, and what each open file holds now, in the order of opening.
pub record Shelf : Type 0 where
  pub contents : List ℕ → List ℕ
  pub opened : List (List ℕ)

-- The file of this name is open besides.
abbrev pub opening : List ℕ → Shelf → Shelf
opening name shelf = record shelf { opened = shelf.opened ++ shelf.contents name ∷ [] }

-- The bytes are written at the place of the open file of this number, and nothing else changed.
pub record Writes (old new : Option Shelf) (number at : ℕ) (bytes : List ℕ) : Type 0 where
  pub told : ForSome old (λ shelf. (file : List ℕ) × IsWritten at bytes (get_or shelf.opened number []) file
      × (new ≡ Some (record shelf { opened = set shelf.opened number file })))

-- A front of the bytes, and not all.
abbrev pub WritesPart : Option Shelf → Option Shelf → ℕ → ℕ → List ℕ → Type 0
WritesPart old new number at bytes = (count : ℕ) × (count < length bytes) × Writes old new number at (take count bytes)
