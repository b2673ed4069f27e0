-- The steps of a repair, as they come in the code.
use Rattle.std.proofs.Common.{◌≡◌, ◌⊎◌, ℕ, List, [], ◌∷◌, option_map, Option, Some, None, Result, Ok, Err, OnOk, refl, sym, ap, subst, ◌∙◌}
use Rattle.std.specs.Prelude.{IfSome}
use Rattle.std.specs.Option.{ForSome}
use Rattle.mr_io.specs.Sights.{Sight, fresh_sight, sight_with}
use Rattle.mr_io.specs.Telling.{Told, told_asking, told_giving, told_retiring}
use Rattle.mr_io.specs.TotalsBy.{totals_with}
use Rattle.mr_io.specs.declared.asked.Asked.{Asked}
use Rattle.mr_io.specs.declared.duty.Duty.{Duty}
use Rattle.mr_io.specs.declared.duty.Duty.TheVariants.{Copy, Mend}
use Rattle.mr_io.specs.declared.errors.FilesError.{FilesError}
use Rattle.mr_io.specs.declared.errors.FilesError.TheVariants.{Failed, Memory as NoRoom}
use Rattle.mr_io.specs.declared.totals.Totals.{Totals}
use Rattle.mr_patch.specs.Damages.{DamageParts}
use Rattle.mr_steps.specs.Faults.{IsFilesFault, fault_status}
use Rattle.mr_steps.specs.Readings.{given}
use Rattle.mr_steps.specs.Sinks.{Output}
use Rattle.mr_steps.specs.Steps.{Gives, Grows, Reads}
use Rattle.mr_steps.specs.declared.fault.Fault.{Fault}
use Rattle.mr_steps.proofs.Chains.{reads_file, reads_held, reads_named, reads_no_eye}
use Rattle.mr_steps.proofs.Growing.{grows_file, grows_held, grows_named}
use Rattle.mr_sectors.specs.Repairs.{repair_output}
use Rattle.mr_sectors.specs.Steps.{copy_answer, copy_bytes, mend_bytes, repair_answer}

-- ---- eyes that are lent

-- an eye of this name and duty
abbrev pub eye_on : List ℕ → Duty → List Asked
eye_on name duty = record { name = name; duty = duty } ∷ []

-- both eyes tell what the file holds
told-same : (name own : List ℕ) (duty : Duty) (o : Option Told) → option_map (λ t. t.contents own) (option_map (told_giving name duty) o) ≡ option_map (λ t. t.contents own) o
told-same name own duty None = refl
told-same name own duty (Some t) = refl

pub eyes-same : (name : List ℕ) (duty : Duty) (old lent : Option Told) (mend copy : Option (List ℕ)) → lent ≡ option_map (told_giving name duty) old
    → mend ≡ option_map (λ t. t.contents name) old → copy ≡ option_map (λ t. t.contents name) lent → copy ≡ mend
eyes-same name duty old lent mend copy giving first second =
    second ∙ ap (option_map (λ t. t.contents name)) giving ∙ told-same name name duty old ∙ sym first

-- what an answer is that is known where two eyes tell one file
pub told-both : (mend copy : Option (List ℕ)) (P : List ℕ → Type 0) → copy ≡ mend → IfSome mend (λ bytes. copy ≡ Some bytes → P bytes)
    → (bytes : List ℕ) → copy ≡ Some bytes → P bytes
told-both mend copy P same h bytes there = subst (λ o. IfSome o (λ b. copy ≡ Some b → P b)) (sym same ∙ there) h there

-- and so what is written of it
pub gives-both : (d : DamageParts) (budget : ℕ) (output : Output) (mend copy : Option (List ℕ)) → copy ≡ mend
    → IfSome mend (λ bytes. copy ≡ Some bytes → output ≡ repair_output d budget bytes)
    → (bytes : List ℕ) → copy ≡ Some bytes → ◌≡◌ {A = Result Output Fault} (Ok (repair_output d budget bytes)) (Ok output)
gives-both d budget output mend copy same h bytes there = ap (λ (o : Output). Ok o) (sym (told-both mend copy (λ b. output ≡ repair_output d budget b) same h bytes there))

-- ---- the chain

-- a repair that failed, or for which there was no memory
pub no-repair : {X : Type 0} (view : X → Output) (definition : List ℕ → Result Output Fault) (error : FilesError) (fault : Fault) → IsFilesFault error fault
    → (bytes : List ℕ) → Gives view (Err fault) (definition bytes)
no-repair view definition Failed fault is bytes = λ foreseen. absurd (foreseen.0 (ap fault_status is))
no-repair view definition NoRoom fault is bytes = λ foreseen. absurd (foreseen.2 (ap fault_status is))

module _ {X : Type 0} (view : X → Output) (d : DamageParts) (budget : ℕ) {name image : List ℕ} (named : name ≡ image) where
  -- the eye that copies is not lent
  no-copy : {E : Type 0} (old new : Option Told) (error : FilesError) (fault : Fault)
      → (◌≡◌ {A = Result E FilesError} (Err error) (Err Failed) → new ≡ option_map (told_asking (eye_on name Copy)) old)
      → (◌≡◌ {A = Result E FilesError} (Err error) (Err NoRoom) → (new ≡ old) ⊎ (new ≡ option_map (told_asking (eye_on name Copy)) old))
      → IsFilesFault error fault → Reads view old new (Err fault) (λ contents. copy_answer contents name d budget)
  unfolding copy_answer
  no-copy old new error fault failed memory is =
      reads_no_eye view old new (λ _. copy_bytes d) name Copy (λ contents bytes. given (Ok (repair_output d budget bytes))) error fault failed memory is

  -- the eye that mends is not lent
  pub no-mend : {E : Type 0} (old new : Option Told) (error : FilesError) (fault : Fault)
      → (◌≡◌ {A = Result E FilesError} (Err error) (Err Failed) → new ≡ option_map (told_asking (eye_on name Mend)) old)
      → (◌≡◌ {A = Result E FilesError} (Err error) (Err NoRoom) → (new ≡ old) ⊎ (new ≡ option_map (told_asking (eye_on name Mend)) old))
      → IsFilesFault error fault → Reads view old new (Err fault) (λ contents. repair_answer contents image d budget)
  unfolding repair_answer
  no-mend old new error fault failed memory is = reads_named view old new (Err fault) (λ name contents. repair_answer contents name d budget) named
      (reads_no_eye view old new (λ _. mend_bytes d budget) name Mend (λ contents _. copy_answer contents name d budget) error fault failed memory is)

  -- it is, and the one that copies is not
  pub mend-alone : {E : Type 0} (old lent between new : Option Told) (error : FilesError) (fault : Fault) → lent ≡ option_map (told_giving name Mend) old
      → (◌≡◌ {A = Result E FilesError} (Err error) (Err Failed) → between ≡ option_map (told_asking (eye_on name Copy)) lent)
      → (◌≡◌ {A = Result E FilesError} (Err error) (Err NoRoom) → (between ≡ lent) ⊎ (between ≡ option_map (told_asking (eye_on name Copy)) lent))
      → IsFilesFault error fault → new ≡ option_map told_retiring between → Reads view old new (Err fault) (λ contents. repair_answer contents image d budget)
  unfolding repair_answer
  mend-alone old lent between new error fault giving failed memory is retiring = reads_named view old new (Err fault) (λ name contents. repair_answer contents name d budget) named
      (reads_held view old lent between new (mend_bytes d budget) name Mend (Err fault) (λ contents. copy_answer contents name d budget) giving
      (no-copy lent between error fault failed memory is) retiring)

  -- both are lent, and given back
  pub both-reads : (old lent both between new : Option Told) (bytes : Option (List ℕ)) (result : Result X Fault) → lent ≡ option_map (told_giving name Mend) old
      → both ≡ option_map (told_giving name Copy) lent → between ≡ option_map told_retiring both → new ≡ option_map told_retiring between
      → bytes ≡ option_map (λ told. told.contents name) lent → ((b : List ℕ) → bytes ≡ Some b → Gives view result (Ok (repair_output d budget b)))
      → Reads view old new result (λ contents. repair_answer contents image d budget)
  unfolding repair_answer copy_answer
  both-reads old lent both between new bytes result giving second back last sees gives = reads_named view old new result (λ name contents. repair_answer contents name d budget) named
      (reads_held view old lent between new (mend_bytes d budget) name Mend result (λ contents. copy_answer contents name d budget) giving
      (reads_file view lent both between (λ _. copy_bytes d) name Copy bytes result (λ b. Ok (repair_output d budget b)) second back sees gives) last)

  -- and took their bytes
  pub both-grows : (old lent : Option Told) (t0 t1 t2 t3 t4 : Totals) (mend_fresh mend_sight copy_fresh copy_sight : Sight) (result : Result X Fault)
      → lent ≡ option_map (told_giving name Mend) old → t1 ≡ t0 → mend_fresh ≡ fresh_sight (option_map (λ told. told.contents name) old) Mend
      → t2 ≡ t1 → copy_fresh ≡ fresh_sight (option_map (λ told. told.contents name) lent) Copy
      → OnOk result (mend_sight ≡ sight_with mend_fresh (mend_bytes d budget)) → OnOk result (copy_sight ≡ sight_with copy_fresh (copy_bytes d))
      → t3 ≡ totals_with t2 copy_sight.duty copy_sight.taken → t4 ≡ totals_with t3 mend_sight.duty mend_sight.taken
      → Grows old t0 t4 result (λ contents. repair_answer contents image d budget)
  unfolding repair_answer copy_answer
  both-grows old lent t0 t1 t2 t3 t4 mend_fresh mend_sight copy_fresh copy_sight result giving first mend_is second copy_is mend_read copy_read back last =
      grows_named old t0 t4 result (λ name contents. repair_answer contents name d budget) named
      (grows_held old lent t0 t1 t3 t4 name Mend (option_map (λ told. told.contents name) old) mend_fresh mend_sight (mend_bytes d budget) result (λ contents. copy_answer contents name d budget)
      giving first mend_is mend_read
      (grows_file lent t1 t2 t3 name Copy copy_fresh copy_sight result (λ b. Ok (repair_output d budget b)) (λ _. copy_bytes d) second copy_is (read result copy_read) back) last)
    where
      read : (r : Result X Fault) → OnOk r (copy_sight ≡ sight_with copy_fresh (copy_bytes d)) → OnOk r (ForSome copy_fresh.bytes (λ _. copy_sight ≡ sight_with copy_fresh (copy_bytes d)))
      read (Ok x) is = λ _ _. is
      read (Err fault) is = tt
