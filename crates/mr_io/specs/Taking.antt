-- What a sink holds, and which bytes it took.
use Rattle.std.specs.Prelude.{ℕ, ◌≡◌, ◌-◌, ◌<◌, ◌≤◌, List, ◌++◌, length, take, Option, Some, Result, OnErr, OnOk}
use Rattle.std.specs.Option.{ForSome}

-- What a sink tells: the bytes that it took, and the room that is left.
pub record Held : Type 0 where
  pub bytes : List ℕ
  pub room : ℕ

-- What it holds after these bytes.
abbrev pub held_with : Held → List ℕ → Held
held_with held bytes = record { bytes = held.bytes ++ bytes; room = held.room - length bytes }

-- These bytes were taken: where the sink told and had room for them, it tells of them.
pub record Takes (old new : Option Held) (bytes : List ℕ) : Type 0 where
  pub told : ForSome old (λ held. length bytes ≤ held.room → new ≡ Some (held_with held bytes))

-- A front of these bytes was taken, and not all.
abbrev pub TakesPart : Option Held → Option Held → List ℕ → Type 0
TakesPart old new bytes = (count : ℕ) × (count < length bytes) × Takes old new (take count bytes)

-- A call puts these bytes: all of them, or a part where it fails.
pub record Puts {T E : Type 0} (old new : Option Held) (result : Result T E) (bytes : List ℕ)
    : Type 0 where
  pub ok : OnOk result (Takes old new bytes)
  pub err : OnErr result (TakesPart old new bytes)
