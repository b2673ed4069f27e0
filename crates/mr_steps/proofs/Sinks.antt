-- What sinks take.
use Rattle.std.proofs.Common.{arith, ◌≡◌, ℕ, List, length, Option, Result, Ok, Err, sym, subst}
use Rattle.std.proofs.Math.Seq.{take-length}
use Rattle.mr_io.specs.Counts.{Rose, HasCause}
use Rattle.mr_io.specs.Taking.{Held, Takes, TakesPart, Puts}
use Rattle.mr_steps.specs.Sinks.{TakesFront, HasLine}

-- the same bytes put
pub puts_same : {T E : Type 0} {old new : Option Held} {result : Result T E} {bytes others : List ℕ} → bytes ≡ others
    → Puts old new result bytes → Puts old new result others
puts_same {T} {E} {old} {new} {result} e h = subst (λ b. Puts {T = T} {E = E} old new result b) e h

-- all of some bytes are a front of them
pub front_all : {old new : Option Held} {bytes : List ℕ} → Takes old new bytes → TakesFront old new bytes
front_all {old} {new} {bytes} h = (length bytes, omega arith, subst (Takes old new) (sym (take-length bytes)) h)

-- a part of some bytes is a front of them
pub front_part : {old new : Option Held} {bytes : List ℕ} → TakesPart old new bytes → TakesFront old new bytes
front_part (count, less, h) = (count, omega (arith, less), h)

-- a line put to the report stands there, unless the report failed
pub has_line : {T E : Type 0} {old new : Option Held} {before now : ℕ} (result : Result T E) {line : List ℕ}
    → Puts old new result line → HasCause before now result → HasLine old new (Rose before now) line
has_line (Ok x) puts cause = record { whole = λ _. puts.ok; front = front_all puts.ok }
has_line (Err e) puts cause = record { whole = λ calm. absurd (calm cause.failed); front = front_part puts.err }
