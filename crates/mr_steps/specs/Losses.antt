-- The loss that a LOST word names.
use Rattle.std.specs.Prelude.{Err, List, None, Ok, Option, Result, Some, encode_utf8_all, ℕ}
use Rattle.mr_eq.specs.Problems.{Loss}
use Rattle.mr_model.specs.Code.{Code, undetermined}
pub use Rattle.mr_losses.specs.Losses.{symbols_of_devices}
use Rattle.mr_plan.specs.Plans.{survivors}
use Rattle.mr_words.specs.Lost.{devices_of, lost_numbers}
use Rattle.mr_steps.specs.Refusals.{followed_by, ◌>>=◌}
use Rattle.mr_steps.specs.Texts.{matrix_given}
use Rattle.mr_steps.specs.declared.fault.Fault.{Fault}
use Rattle.mr_steps.specs.declared.fault.Fault.TheVariants.{NoDevice, Undetermined}

-- the devices, or the refusal of a number that is none
abbrev pub or_no_device : Result ℕ ℕ → Result ℕ Fault
or_no_device (Ok devices) = Ok devices
or_no_device (Err number) = Err (NoDevice number)

-- the devices of a LOST word, given by its characters, where there are so many devices
unfoldable pub lost_given : ℕ → List ℕ → Result ℕ Fault
lost_given count lost = or_no_device (devices_of count (lost_numbers (encode_utf8_all lost)))

-- the symbols of the devices of a LOST word
unfoldable pub lost_symbols_given : Code → List ℕ → Result ℕ Fault
lost_symbols_given m lost = do
  devices ← lost_given m.devices lost
  Ok (symbols_of_devices m devices)

-- the loss of these symbols of a code: all others survive
abbrev pub loss_of : Code → ℕ → Loss
loss_of m targets = record { code = m; avail = survivors m targets; targets = targets }

-- the lost symbols, or the refusal of a loss that the survivors do not determine
abbrev pub unless_symbol : Option ℕ → ℕ → Result ℕ Fault
unless_symbol None targets = Ok targets
unless_symbol (Some t) targets = Err (Undetermined t)

abbrev pub determined_given : Code → ℕ → Result ℕ Fault
determined_given m targets = unless_symbol (undetermined m (survivors m targets) targets) targets

-- the lost symbols: the first refusal, or the symbols
unfoldable pub targets_given : Code → List ℕ → Result ℕ Fault
targets_given m lost =
    followed_by (lost_given m.devices lost)
    (λ devices. determined_given m (symbols_of_devices m devices))

-- the steps up to the lost symbols
abbrev pub loss_accepted : (List ℕ → List ℕ) → List ℕ → List ℕ → Result ℕ Fault
loss_accepted contents matrix lost = do
  m ← matrix_given (contents matrix)
  targets_given m lost
