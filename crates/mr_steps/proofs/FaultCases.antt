-- The status of a fault, and the line of a run by its status.
use Rattle.std.proofs.Common.{arith, ◌≡◌, ◌≢◌, ◌≤◌, ◌⊎◌, inl, inr, ℕ, Option, Some, Ok, refl, sym, ◌∙◌, ap}
use Rattle.mr_io.specs.Taking.{Held}
use Rattle.mr_io.specs.declared.totals.Totals.{Totals}
use Rattle.mr_steps.specs.Faults.{fault_status}
use Rattle.mr_steps.specs.Ran.{Ran}
use Rattle.mr_steps.specs.Sinks.{IsReported, Output, Reports}
use Rattle.mr_steps.specs.Steps.{IsForeseen}
use Rattle.mr_steps.specs.declared.fault.Fault.{Fault}
use Rattle.mr_steps.specs.declared.fault.Fault.TheVariants.{BadImage, BadMatrix, BadPlan, BadPlanLine, BadScript, BadSectors, Memory, NoDevice, ReadFault, TooLarge, Undetermined, UndeterminedAt, UndeterminedIn, Usage, WriteFault}

foreseen-low : (n : ℕ) → n ≤ 8 → IsForeseen n
foreseen-low n low = (λ e. omega (arith, low, e), λ e. omega (arith, low, e), λ e. omega (arith, low, e))

-- a fault that is foreseen, or one of the three that are not
pub fault-cases : (fault : Fault) → IsForeseen (fault_status fault) ⊎ ((fault ≡ ReadFault) ⊎ ((fault ≡ WriteFault) ⊎ (fault ≡ Memory)))
fault-cases Usage = inl (foreseen-low 1 (omega arith))
fault-cases (BadMatrix line kind) = inl (foreseen-low 2 (omega arith))
fault-cases (TooLarge what number) = inl (foreseen-low 3 (omega arith))
fault-cases (NoDevice device) = inl (foreseen-low 4 (omega arith))
fault-cases (BadImage kind) = inl (foreseen-low 5 (omega arith))
fault-cases (BadScript line) = inl (foreseen-low 6 (omega arith))
fault-cases (Undetermined symbol) = inl (foreseen-low 7 (omega arith))
fault-cases (UndeterminedAt rotation symbol) = inl (foreseen-low 7 (omega arith))
fault-cases (UndeterminedIn stripe symbol) = inl (foreseen-low 7 (omega arith))
fault-cases (BadPlanLine line) = inl (foreseen-low 8 (omega arith))
fault-cases (BadPlan symbol why) = inl (foreseen-low 8 (omega arith))
fault-cases ReadFault = inr (inl refl)
fault-cases WriteFault = inr (inr (inl refl))
fault-cases Memory = inr (inr (inr refl))
fault-cases (BadSectors line) = inl (λ e. omega (arith, e), λ e. omega (arith, e), λ e. omega (arith, e))

-- no fault has the status 0
pub fault-positive : (fault : Fault) → 1 ≤ fault_status fault
fault-positive Usage = omega arith
fault-positive (BadMatrix line kind) = omega arith
fault-positive (TooLarge what number) = omega arith
fault-positive (NoDevice device) = omega arith
fault-positive (BadImage kind) = omega arith
fault-positive (BadScript line) = omega arith
fault-positive (Undetermined symbol) = omega arith
fault-positive (UndeterminedAt rotation symbol) = omega arith
fault-positive (UndeterminedIn stripe symbol) = omega arith
fault-positive (BadPlanLine line) = omega arith
fault-positive (BadPlan symbol why) = omega arith
fault-positive ReadFault = omega arith
fault-positive WriteFault = omega arith
fault-positive Memory = omega arith
fault-positive (BadSectors line) = omega arith

-- the status 10 is that of a failed write
pub is-write : (fault : Fault) → fault_status fault ≡ 10 → fault ≡ WriteFault
is-write fault ten = go (fault-cases fault)
  where
    go : IsForeseen (fault_status fault) ⊎ ((fault ≡ ReadFault) ⊎ ((fault ≡ WriteFault) ⊎ (fault ≡ Memory))) → fault ≡ WriteFault
    go (inl foreseen) = absurd (foreseen.1 ten)
    go (inr (inl is)) = let nine : fault_status fault ≡ 9 = ap fault_status is in absurd (omega (arith, ten, nine))
    go (inr (inr (inl is))) = is
    go (inr (inr (inr is))) = let eleven : fault_status fault ≡ 11 = ap fault_status is in absurd (omega (arith, ten, eleven))

-- a fault that is told twice is one
pub some-same : {a b : Fault} → ◌≡◌ {A = Option Fault} (Some a) (Some b) → a ≡ b
some-same e = cc

-- a run of this status and these sinks
abbrev pub ran_of : ℕ → Option Held → Option Held → Option Held → Option Held → Totals → Totals → Ran
ran_of status out_old out_new report_old report_new t0 t1 =
    record { status = status; out_old = out_old; out_new = out_new; report_old = report_old; report_new = report_new; totals_old = t0; totals_new = t1 }

-- the line of a run that answered
pub line-ok : (output : Output) (status : ℕ) (out_old out_new report_old report_new : Option Held) (failed : Type 0)
    → (status ≡ 0) ⊎ (status ≡ 10) → (status ≡ 10 → Reports 10 (Ok output) out_old out_new report_old report_new failed)
    → status ≢ 0 → IsReported status report_old report_new failed
line-ok output status out_old out_new report_old report_new failed (inl zero) reports other = absurd (other zero)
line-ok output status out_old out_new report_old report_new failed (inr ten) reports other = go (reports ten)
  where
    go : Reports 10 (Ok output) out_old out_new report_old report_new failed → IsReported status report_old report_new failed
    go (inl (fault, is, line)) = inl (fault, is.same ∙ sym ten, line)
    go (inr cut) = inr (ten, cut.rose)
