-- What a command reads, as a chain of steps of which the first refusal is the answer: the eyes that
-- it asks for on the way, the bytes that it takes, and its result.
use Rattle.std.specs.Prelude.{Err, List, Ok, Result, [], length, ℕ, ◌++◌, ◌∷◌}
use Rattle.mr_io.specs.Growth.{added, bytes_of, no_bytes}
use Rattle.mr_io.specs.declared.asked.Asked.{Asked}
use Rattle.mr_io.specs.declared.duty.Duty.{Duty}
use Rattle.mr_io.specs.declared.totals.Totals.{Totals}
use Rattle.mr_steps.specs.declared.fault.Fault.{Fault}

-- the eyes asked for up to the first refusal, the bytes taken where nothing is refused, and what is
-- read or that refusal
pub record Reading (Y : Type 0) : Type 0 where
  pub eyes : List Asked
  pub taken : Totals
  pub result : Result Y Fault

-- a step that asks for no eye
abbrev pub given : {Y : Type 0} → Result Y Fault → Reading Y
given result = record { eyes = []; taken = no_bytes; result = result }

-- an eye of this name and duty that takes so many bytes, and what its file holds
abbrev pub file_taking : ℕ → (List ℕ → List ℕ) → List ℕ → Duty → Reading (List ℕ)
file_taking count contents name duty = record {
  eyes = record { name = name; duty = duty } ∷ [];
  taken = bytes_of duty count;
  result = Ok (contents name);
}

-- an eye that takes its whole file
abbrev pub file : (List ℕ → List ℕ) → List ℕ → Duty → Reading (List ℕ)
file contents name duty = file_taking (length (contents name)) contents name duty

-- what comes after these eyes, these bytes and this result
abbrev pub and_then : {X Y : Type 0} → List Asked → Totals → Result X Fault → (X → Reading Y)
    → Reading Y
and_then eyes taken (Ok x) next = record {
  eyes = eyes ++ (next x).eyes;
  taken = added taken (next x).taken;
  result = (next x).result;
}
and_then eyes taken (Err fault) next = record { eyes = eyes; taken = taken; result = Err fault }

infixl 10 ◌>>=◌
-- one step after another
abbrev pub ◌>>=◌ : {X Y : Type 0} → Reading X → (X → Reading Y) → Reading Y
reading >>= next = and_then reading.eyes reading.taken reading.result next
