-- A run that is refused for a loss that is not determined.
use Rattle.std.proofs.Common.{arith, ◌≡◌, ◌≢◌, ℕ, List, Option, Some, Result, Ok, Err, refl, sym, ◌∙◌, ap}
use Rattle.mr_model.specs.Code.{Code}
use Rattle.mr_steps.specs.Faults.{fault_line, fault_status}
use Rattle.mr_steps.specs.Losses.{lost_given, symbols_of_devices, targets_given}
use Rattle.mr_steps.specs.Ran.{Ran}
use Rattle.mr_steps.specs.Refusals.{followed_by, refusal_of, status_by}
use Rattle.mr_steps.specs.Sinks.{HasLine}
use Rattle.mr_steps.specs.Texts.{matrix_given}
use Rattle.mr_steps.specs.Undetermined.{IsLeastUndetermined, IsRefused}
use Rattle.mr_steps.specs.declared.fault.Fault.{Fault}
use Rattle.mr_steps.specs.declared.fault.Fault.TheVariants.{Undetermined}
use Rattle.mr_steps.proofs.LossCases.{Determined, Refused, TargetsCases, targets-cases, targets-refused}

-- ---- steps that do not refuse with the status 7

abbrev pub IsPast : {X : Type 0} → Result X Fault → Type 0
IsPast step = status_by (refusal_of step) ≢ 7

pub past-ok : {X : Type 0} (x : X) → IsPast (Ok x)
past-ok x = λ e. omega (arith, e)

pub past-then : {X Y : Type 0} (step : Result X Fault) (next : X → Result Y Fault) → IsPast step → ((x : X) → IsPast (next x)) → IsPast (followed_by step next)
past-then (Ok x) next first later = later x
past-then (Err fault) next first later = first

-- ---- a loss that is not determined

module _ {X : Type 0} (contents : List ℕ → List ℕ) (matrix lost : List ℕ) (next : Code → ℕ → Result X Fault)
    (first : Option Fault) (failed : Type 0) (ran : Ran)
    (first_is : first ≡ refusal_of (followed_by (matrix_given (contents matrix)) (λ m. followed_by (targets_given m lost) (next m))))
    (status : ran.status ≡ status_by first) (line : (fault : Fault) → first ≡ Some fault → HasLine ran.report_old ran.report_new failed (fault_line fault)) where
  -- the first refusal, for a matrix and lost symbols that are read
  pub by-targets : (m : Code) (r : Result ℕ Fault) → matrix_given (contents matrix) ≡ Ok m → targets_given m lost ≡ r
      → first ≡ refusal_of (followed_by r (next m))
  by-targets m r reads loses =
      first_is
      ∙ ap (λ s. refusal_of (followed_by s (λ m. followed_by (targets_given m lost) (next m)))) reads
      ∙ ap (λ s. refusal_of (followed_by s (next m))) loses

  -- a fault that is the first
  pub told-as : (fault : Fault) → first ≡ Some fault → fault_status fault ≡ 7
      → (ran.status ≡ 7) × HasLine ran.report_old ran.report_new failed (fault_line fault)
  told-as fault is seven = (status ∙ ap status_by is ∙ seven, line fault is)

  -- a loss that is not determined is refused
  pub loss-refused : (m : Code) (devices t : ℕ) → matrix_given (contents matrix) ≡ Ok m → lost_given m.devices lost ≡ Ok devices
      → IsLeastUndetermined m (symbols_of_devices m devices) t
      → (ran.status ≡ 7) × HasLine ran.report_old ran.report_new failed (fault_line (Undetermined t))
  loss-refused m devices t reads names h =
      told-as (Undetermined t) (by-targets m (Err (Undetermined t)) reads (targets-refused m lost devices t names h)) refl

  -- where it is determined, the status is that of what comes next
  pub next-status : (m : Code) (devices : ℕ) → matrix_given (contents matrix) ≡ Ok m → targets_given m lost ≡ Ok (symbols_of_devices m devices) → ran.status ≡ 7
      → status_by (refusal_of (next m (symbols_of_devices m devices))) ≡ 7
  next-status m devices reads loses seven =
      sym (ap status_by (by-targets m (Ok (symbols_of_devices m devices)) reads loses)) ∙ sym status ∙ seven

  only-by : ((m : Code) (targets : ℕ) → IsPast (next m targets)) → (m : Code) (devices : ℕ) → matrix_given (contents matrix) ≡ Ok m → ran.status ≡ 7
      → TargetsCases m lost (symbols_of_devices m devices) → (t : ℕ) × IsLeastUndetermined m (symbols_of_devices m devices) t
  only-by past m devices reads seven (Determined none loses) = absurd (past m (symbols_of_devices m devices) (next-status m devices reads loses seven))
  only-by past m devices reads seven (Refused t h) = (t, h)

  pub is-refused : ((m : Code) (targets : ℕ) → IsPast (next m targets)) → IsRefused contents matrix lost failed ran
  is-refused past = record {
    refused = loss-refused;
    only = λ m devices reads names seven. only-by past m devices reads seven (targets-cases m lost devices names);
  }
