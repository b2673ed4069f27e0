-- The commands that read an image file whole: their steps, as they come in the code.
use Rattle.std.proofs.Common.{◌≡◌, ◌⊎◌, ℕ, List, [], ◌∷◌, option_map, Option, Some, Result, Ok, Err, OnOk, refl}
use Rattle.std.specs.Option.{ForSome}
use Rattle.mr_image.specs.Images.{Layout, body_bytes}
use Rattle.mr_io.specs.Sights.{Sight, fresh_sight, sight_with}
use Rattle.mr_io.specs.Telling.{Told, told_asking, told_giving, told_retiring}
use Rattle.mr_io.specs.TotalsBy.{totals_with}
use Rattle.mr_io.specs.declared.duty.Duty.TheVariants.{Copy}
use Rattle.mr_io.specs.declared.errors.FilesError.{FilesError}
use Rattle.mr_io.specs.declared.errors.FilesError.TheVariants.{Failed, Memory as NoRoom}
use Rattle.mr_io.specs.declared.totals.Totals.{Totals}
use Rattle.mr_model.specs.Code.{Code}
use Rattle.mr_steps.specs.Faults.{IsFilesFault}
use Rattle.mr_steps.specs.Readings.{given}
use Rattle.mr_steps.specs.Sinks.{Output}
use Rattle.mr_steps.specs.Steps.{Gives, Grows, Reads}
use Rattle.mr_steps.specs.TextFiles.{matrix_file}
use Rattle.mr_steps.specs.declared.fault.Fault.{Fault}
use Rattle.mr_steps.proofs.Chains.{reads_err, reads_file, reads_given, reads_named, reads_no_eye, reads_then}
use Rattle.mr_steps.proofs.Growing.{grows_file, grows_given, grows_named, grows_then}
use Rattle.mr_top.specs.RebuildSteps.{head_file}
use Rattle.mr_top.specs.WholeImages.{allowed_answer, any_version, body_answer, image_answer}
use Rattle.mr_top.proofs.WholeImages.{layout_next, spelled_next}

-- ---- the matrix, the head, and what comes after them

module _ {X : Type 0} (view : X → Output) (allowed : Layout → Result Layout Fault) (written : Code → Layout → List ℕ → Output) (matrix image : List ℕ) where
  -- the matrix is refused
  pub no-matrix : (old new : Option Told) (fault : Fault) → Reads (λ (m : Code). m) old new (Err fault) (λ contents. matrix_file contents matrix)
      → Reads view old new (Err fault) (λ contents. image_answer allowed written contents matrix image)
  unfolding image_answer
  no-matrix old new fault h =
      reads_err (λ (m : Code). m) view old new fault (λ contents. matrix_file contents matrix) (λ contents m. spelled_next allowed written contents image m) h

  -- the head is refused
  pub no-head : (old between new : Option Told) (m : Code) (fault : Fault) → Reads (λ (m : Code). m) old between (Ok m) (λ contents. matrix_file contents matrix)
      → Reads (λ (l : Layout). l) between new (Err fault) (λ contents. head_file contents image m)
      → Reads view old new (Err fault) (λ contents. image_answer allowed written contents matrix image)
  unfolding image_answer
  no-head old between new m fault first h =
      reads_then (λ (m : Code). m) view old between new m (Err fault) (λ contents. matrix_file contents matrix) (λ contents m. spelled_next allowed written contents image m) first
      (reads_err (λ (l : Layout). l) view between new fault (λ contents. head_file contents image m) (λ contents l. layout_next allowed written contents image m l) h)

  -- both are read
  pub whole-reads : (old between then new : Option Told) (m : Code) (l : Layout) (result : Result X Fault)
      → Reads (λ (m : Code). m) old between (Ok m) (λ contents. matrix_file contents matrix)
      → Reads (λ (l : Layout). l) between then (Ok l) (λ contents. head_file contents image m)
      → Reads view then new result (λ contents. allowed_answer allowed (written m) contents image l)
      → Reads view old new result (λ contents. image_answer allowed written contents matrix image)
  unfolding image_answer
  whole-reads old between then new m l result first second h =
      reads_then (λ (m : Code). m) view old between new m result (λ contents. matrix_file contents matrix) (λ contents m. spelled_next allowed written contents image m) first
      (reads_then (λ (l : Layout). l) view between then new l result (λ contents. head_file contents image m) (λ contents l. layout_next allowed written contents image m l) second h)

  -- and what is taken adds up
  pub whole-grows : (old between then : Option Told) (t0 t1 t2 t3 : Totals) (m : Code) (l : Layout) (result : Result X Fault)
      → Reads (λ (m : Code). m) old between (Ok m) (λ contents. matrix_file contents matrix)
      → Reads (λ (l : Layout). l) between then (Ok l) (λ contents. head_file contents image m)
      → Grows {X = Code} old t0 t1 (Ok m) (λ contents. matrix_file contents matrix)
      → Grows {X = Layout} between t1 t2 (Ok l) (λ contents. head_file contents image m)
      → Grows then t2 t3 result (λ contents. allowed_answer allowed (written m) contents image l)
      → Grows old t0 t3 result (λ contents. image_answer allowed written contents matrix image)
  unfolding image_answer
  whole-grows old between then t0 t1 t2 t3 m l result first second grows more h =
      grows_then (λ (m : Code). m) old between t0 t1 t3 m result (λ contents. matrix_file contents matrix) (λ contents m. spelled_next allowed written contents image m) first grows
      (grows_then (λ (l : Layout). l) between then t1 t2 t3 l result (λ contents. head_file contents image m) (λ contents l. layout_next allowed written contents image m l) second more h)

-- ---- an image of either version

module _ {X : Type 0} (view : X → Output) (written : Layout → List ℕ → Output) (image : List ℕ) (l : Layout) (result : Result X Fault) where
  pub any-reads : (old new : Option Told) → Reads view old new result (λ contents. body_answer written contents image l)
      → Reads view old new result (λ contents. allowed_answer any_version written contents image l)
  unfolding allowed_answer
  any-reads old new h = reads_then (λ (taken : Layout). taken) view old old new l result (λ _. given (any_version l)) (λ contents taken. body_answer written contents image taken)
      (reads_given (λ (taken : Layout). taken) old (Ok l) (any_version l) refl) h

  pub any-grows : (told : Option Told) (t0 t1 : Totals) → Grows told t0 t1 result (λ contents. body_answer written contents image l)
      → Grows told t0 t1 result (λ contents. allowed_answer any_version written contents image l)
  unfolding allowed_answer
  any-grows told t0 t1 h = grows_then (λ (taken : Layout). taken) told told t0 t0 t1 l result (λ _. given (any_version l)) (λ contents taken. body_answer written contents image taken)
      (reads_given (λ (taken : Layout). taken) told (Ok l) (any_version l) refl) (grows_given told t0 (Ok l) (any_version l)) h

-- ---- the eye on the symbols

module _ {X : Type 0} (view : X → Output) (written : Layout → List ℕ → Output) (l : Layout) {name image : List ℕ} (named : name ≡ image) where
  -- it is not lent
  pub no-copy : {E : Type 0} (old new : Option Told) (error : FilesError) (fault : Fault)
      → (◌≡◌ {A = Result E FilesError} (Err error) (Err Failed) → new ≡ option_map (told_asking (record { name = name; duty = Copy } ∷ [])) old)
      → (◌≡◌ {A = Result E FilesError} (Err error) (Err NoRoom) → (new ≡ old) ⊎ (new ≡ option_map (told_asking (record { name = name; duty = Copy } ∷ [])) old))
      → IsFilesFault error fault → Reads view old new (Err fault) (λ contents. body_answer written contents image l)
  unfolding body_answer
  no-copy old new error fault failed memory is = reads_named view old new (Err fault) (λ name contents. body_answer written contents name l) named
      (reads_no_eye view old new (λ _. body_bytes l) name Copy (λ contents bytes. given (Ok (written l bytes))) error fault failed memory is)

  -- it is lent, and given back
  pub copy-reads : (old lent new : Option Told) (bytes : Option (List ℕ)) (result : Result X Fault)
      → lent ≡ option_map (told_giving name Copy) old → new ≡ option_map told_retiring lent → bytes ≡ option_map (λ told. told.contents name) old
      → ((b : List ℕ) → bytes ≡ Some b → Gives view result (Ok (written l b)))
      → Reads view old new result (λ contents. body_answer written contents image l)
  unfolding body_answer
  copy-reads old lent new bytes result giving retiring sees gives = reads_named view old new result (λ name contents. body_answer written contents name l) named
      (reads_file view old lent new (λ _. body_bytes l) name Copy bytes result (λ b. Ok (written l b)) giving retiring sees gives)

  -- and took all symbols
  pub copy-grows : (old : Option Told) (t0 t1 t2 : Totals) (fresh sight : Sight) (result : Result X Fault)
      → t1 ≡ t0 → fresh ≡ fresh_sight (option_map (λ told. told.contents name) old) Copy
      → OnOk result (sight ≡ sight_with fresh (body_bytes l)) → t2 ≡ totals_with t1 sight.duty sight.taken
      → Grows old t0 t2 result (λ contents. body_answer written contents image l)
  unfolding body_answer
  copy-grows old t0 t1 t2 fresh sight result same lent took back = grows_named old t0 t2 result (λ name contents. body_answer written contents name l) named
      (grows_file old t0 t1 t2 name Copy fresh sight result (λ b. Ok (written l b)) (λ _. body_bytes l) same lent (read result took) back)
    where
      read : (r : Result X Fault) → OnOk r (sight ≡ sight_with fresh (body_bytes l)) → OnOk r (ForSome fresh.bytes (λ _. sight ≡ sight_with fresh (body_bytes l)))
      read (Ok x) is = λ _ _. is
      read (Err fault) is = tt
