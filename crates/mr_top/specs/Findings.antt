-- What a command finds before anything is written.
use Rattle.std.specs.Prelude.{IfSome, List, Ok, Option, ℕ, ◌≡◌}
use Rattle.mr_ready.specs.Orders.{OrderParts}
use Rattle.mr_ready.specs.Writing.{IsOutput}
use Rattle.mr_steps.specs.Readings.{Reading}
use Rattle.mr_steps.specs.Refusals.{followed_by}
use Rattle.mr_steps.specs.Sinks.{Output}

-- What is to be written; or what is to be rebuilt, with the bytes of the image file, where they are
-- told.
pub data Finding : Type 0 where
  writing : Output → Finding
  rebuilding : OrderParts → Option (List ℕ) → Finding

-- this may be written for it
abbrev pub MayWrite : Finding → Output → Type 0
MayWrite (writing own) output = output ≡ own
MayWrite (rebuilding order image) output = IfSome image (λ bytes. IsOutput order bytes output)

-- the same steps, of which the result is to be written
abbrev pub to_write : Reading Output → Reading Finding
to_write reading = record {
  eyes = reading.eyes;
  taken = reading.taken;
  result = followed_by reading.result (λ output. Ok (writing output));
}
