-- What texts give: a matrix within its limits, and lost symbols that are a loss.
use Rattle.std.proofs.Common.{◌≡◌, ◌<◌, ◌^◌, ℕ, true, List, length, Option, Some, None, Result, Ok, Err, refl, subst, ap}
use Rattle.mr_model.specs.Code.{Code, is_determined}
use Rattle.mr_bits.specs.Matrices.{IsMatrixCode}
use Rattle.mr_bits.specs.declared.errors.What.{What}
use Rattle.mr_bits.specs.declared.errors.What.TheVariants.{MatrixBytes}
use Rattle.mr_eq.specs.Problems.{IsLoss}
use Rattle.mr_eq.proofs.Losses.{determined-from}
use Rattle.mr_form.specs.MatrixText.{matrix_of}
use Rattle.mr_form.specs.declared.faults.MatrixFault.{MatrixFault}
use Rattle.mr_form.proofs.Readings.{matrix_of-limits}
use Rattle.mr_plan.specs.Plans.{survivors}
use Rattle.mr_steps.specs.Losses.{loss_of, lost_given, symbols_of_devices, targets_given, unless_symbol}
use Rattle.mr_steps.specs.Readings.{given}
use Rattle.mr_steps.specs.TextFiles.{matrix_file, text_file, text_within}
use Rattle.mr_steps.specs.Texts.{matrix_given, or_matrix_fault, within_limit}
use Rattle.mr_steps.specs.declared.fault.Fault.{Fault}
use Rattle.mr_losses.proofs.LostSymbols.{lost-below}
use Rattle.mr_steps.proofs.LostSymbols.{survivors-apart, survivors-below}
use Rattle.mr_steps.proofs.Results.{gave-then, ok-same, result-as}

-- ---- files

pub text-is : (contents : List ℕ → List ℕ) (name : List ℕ) (what : What) → (text_file contents name what).result ≡ within_limit what (contents name)
unfolding text_file text_within
text-is contents name what = refl

pub matrix-is : (contents : List ℕ → List ℕ) (name : List ℕ) → (matrix_file contents name).result ≡ matrix_given (contents name)
unfolding matrix_file
matrix-is contents name =
    result-as (text_file contents name MatrixBytes) (λ bytes. given (or_matrix_fault (matrix_of bytes)))
    (within_limit MatrixBytes (contents name)) (λ bytes. or_matrix_fault (matrix_of bytes)) (text-is contents name MatrixBytes) (λ _. refl)

-- ---- a matrix that is read is within the limits

matrix-ok : (r : Result Code MatrixFault) (m : Code) → or_matrix_fault r ≡ Ok m → r ≡ Ok m
matrix-ok (Ok k) m e = ap (λ (x : Code). Ok x) (ok-same e)
matrix-ok (Err fault) m e = let clash : ◌≡◌ {A = Result Code Fault} (Err _) (Ok m) = e in cc

pub given-code : (bytes : List ℕ) (m : Code) → matrix_given bytes ≡ Ok m → IsMatrixCode m
given-code bytes m e =
    let a = gave-then (within_limit MatrixBytes bytes) (λ text. or_matrix_fault (matrix_of text)) m e in
    matrix_of-limits a.value m (matrix-ok (matrix_of a.value) m a.holds)

-- ---- the lost symbols are a loss

determined-targets : (o : Option ℕ) (lost targets : ℕ) → unless_symbol o lost ≡ Ok targets → (o ≡ None) × (lost ≡ targets)
determined-targets None lost targets e = (refl, ok-same e)
determined-targets (Some t) lost targets e = let clash : ◌≡◌ {A = Result ℕ Fault} (Err _) (Ok targets) = e in cc

pub targets-loss : (m : Code) (lost : List ℕ) (targets : ℕ) → IsMatrixCode m → targets_given m lost ≡ Ok targets → IsLoss (loss_of m targets)
unfolding targets_given
targets-loss m lost targets code e =
    let f = gave-then (lost_given m.devices lost) _ targets e in
    let d = determined-targets _ (symbols_of_devices m f.value) targets f.holds in
    record {
      code_is = code;
      avail_below = survivors-below m targets;
      targets_below = subst (λ t. t < 2 ^ length m.rows) d.1 (lost-below m f.value);
      apart = survivors-apart m targets;
      determined = subst (λ t. is_determined m (survivors m t) t ≡ true) d.1 (determined-from m (survivors m (symbols_of_devices m f.value)) (symbols_of_devices m f.value) d.0);
    }
