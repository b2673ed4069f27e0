-- A loss that the survivors do not determine, and the run that is refused for it.
use Rattle.std.specs.Int.{bit_at}
use Rattle.std.specs.Prelude.{List, Ok, false, true, ℕ, ◌<◌, ◌≡◌}
use Rattle.mr_model.specs.Code.{Code, has_equation}
use Rattle.mr_plan.specs.Plans.{survivors}
use Rattle.mr_steps.specs.Faults.{fault_line}
use Rattle.mr_steps.specs.Losses.{lost_given, symbols_of_devices}
use Rattle.mr_steps.specs.Ran.{Ran}
use Rattle.mr_steps.specs.Sinks.{HasLine}
use Rattle.mr_steps.specs.Texts.{matrix_given}
use Rattle.mr_steps.specs.declared.fault.Fault.TheVariants.{Undetermined}

-- The survivors do not determine the lost symbol t, and each lost symbol below it they do.
pub record IsLeastUndetermined (m : Code) (lost t : ℕ) : Type 0 where
  pub member : bit_at lost t ≡ 1
  pub none : has_equation m (survivors m lost) t ≡ false
  pub least : (i : ℕ) → i < t → bit_at lost i ≡ 1 → has_equation m (survivors m lost) i ≡ true

-- Status 7 comes exactly where a lost symbol is not determined, and the line names the least one.
pub record IsRefused (contents : List ℕ → List ℕ) (matrix lost : List ℕ) (failed : Type 0)
    (ran : Ran) : Type 0 where
  pub refused : (m : Code) (devices t : ℕ) → matrix_given (contents matrix) ≡ Ok m
      → lost_given m.devices lost ≡ Ok devices
      → IsLeastUndetermined m (symbols_of_devices m devices) t
      → (ran.status ≡ 7)
      × HasLine ran.report_old ran.report_new failed (fault_line (Undetermined t))
  pub only : (m : Code) (devices : ℕ) → matrix_given (contents matrix) ≡ Ok m
      → lost_given m.devices lost ≡ Ok devices
      → ran.status ≡ 7 → (t : ℕ) × IsLeastUndetermined m (symbols_of_devices m devices) t
