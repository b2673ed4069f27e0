-- The device files: what the command says of them, from what the eyes on them gave.
use Rattle.std.proofs.Common.{arith, ◌≡◌, ◌⊎◌, inl, inr, ⊎_elim, ◌*◌, ◌≤◌, ◌/◌, ◌==◌, ◌&&◌, ◌∙◌, ℕ, Bool, true, false, cond, List, Option, None, Some, IfSome, Result, Ok, Err, get_or, length, map, option_map, take, refl, sym, ap, subst, sum_by}
use Rattle.std.specs.Prelude.{All, IsErrOf, IsSome, OnErr, OnOk}
use Rattle.std.specs.List.{list_all, range_with_len}
use Rattle.std.specs.Option.{ForSome}
use Rattle.std.proofs.lemmas.Bool.{ne_eqb, cases_eq, false≢true}
use Rattle.std.proofs.lemmas.List.{take_all}
use Rattle.mr_image.specs.Heads.{image_bytes}
use Rattle.mr_image.specs.Images.{IsLayout, stripe_symbols}
use Rattle.mr_image.specs.declared.faults.ImageKind.TheVariants.{Length}
use Rattle.mr_io.specs.Counts.{Rose, counted}
use Rattle.mr_io.specs.Growth.{bytes_of, grown, taken_by}
use Rattle.mr_io.specs.Sights.{Sight}
use Rattle.mr_io.specs.Taking.{Held, Takes}
use Rattle.mr_io.specs.Telling.{AsksFront, Told, told_asking, told_lending, told_returning}
use Rattle.mr_io.specs.declared.asked.Asked.{Asked}
use Rattle.mr_io.specs.declared.duty.Duty.TheVariants.{Copy}
use Rattle.mr_io.specs.declared.errors.FilesError.{FilesError}
use Rattle.mr_io.specs.declared.errors.FilesError.TheVariants.{Failed, Memory as NoRoom}
use Rattle.mr_io.specs.declared.totals.Totals.{Totals}
use Rattle.mr_io.proofs.Growth.{counted-none}
use Rattle.mr_model.specs.Sets.{count_below, has}
use Rattle.mr_model.proofs.Finding.{count_below-none}
use Rattle.mr_gather.specs.Arrays.{gathered, is_read_of}
use Rattle.mr_gather.specs.Slots.{AreLong, Fails, Keeps, Tells, Took}
use Rattle.mr_steps.specs.Faults.{IsFilesFault, fault_status}
use Rattle.mr_steps.specs.Sinks.{TakesFront}
use Rattle.mr_steps.specs.Steps.{Gives, Grows, IsForeseen, Reads}
use Rattle.mr_steps.specs.declared.fault.Fault.{Fault}
use Rattle.mr_steps.specs.declared.fault.Fault.TheVariants.{BadImage, ReadFault, WriteFault}
use Rattle.mr_gather_run.specs.Slots.{HasCauses, HasShort, device_eyes, fresh_slots, present}
use Rattle.mr_gather_run.specs.Tasks.{CanGather, Task, device_bytes, devices_read, end_of, gathered_file, is_long, read_bytes}
use Rattle.mr_gather_run.proofs.AfterReads.{quiet-all, rose-all, same-present, taken-all}
use Rattle.mr_gather_run.proofs.Counting.{read-in-all}
use Rattle.mr_gather_run.proofs.Lending.{GivesBack, asks-all}
use Rattle.mr_gather_run.proofs.Sights.{all-long, one-short, same-count, tells}

-- what is read of device d
abbrev pub device_read : Task → ℕ → ℕ
device_read task d = task.layout.stripes * (count_below (stripe_symbols task.layout) (is_read_of task.layout task.set d) * task.layout.symbol_bytes)

-- as many were lent
pub can-give : (old between : Option Told) (all : List Asked) (n m : ℕ) → between ≡ option_map (told_lending all n) old → m ≡ n
    → IfSome between (λ told. m ≤ told.lent)
can-give None between all n m e same = subst (λ o. IfSome o (λ (told : Told). m ≤ told.lent)) (sym e) tt
can-give (Some told) between all n m e same = subst (λ o. IfSome o (λ (told : Told). m ≤ told.lent)) (sym e) (omega (arith, same))

-- ---- what the devices hold

long-result : (contents : List ℕ → List ℕ) (devices : List (Option (List ℕ))) (task : Task)
    → list_all (is_long contents (end_of task)) devices ≡ true → (devices_read contents devices task).result ≡ Ok task
unfolding devices_read
long-result contents devices task e = ap (λ b. cond {A = Result Task Fault} b (Ok task) (Err (BadImage Length))) e

short-result : (contents : List ℕ → List ℕ) (devices : List (Option (List ℕ))) (task : Task)
    → list_all (is_long contents (end_of task)) devices ≡ false → (devices_read contents devices task).result ≡ Err (BadImage Length)
unfolding devices_read
short-result contents devices task e = ap (λ b. cond {A = Result Task Fault} b (Ok task) (Err (BadImage Length))) e

eyes-are : (contents : List ℕ → List ℕ) (devices : List (Option (List ℕ))) (task : Task) → device_eyes devices ≡ (devices_read contents devices task).eyes
unfolding devices_read
eyes-are contents devices task = refl

taken-is : (contents : List ℕ → List ℕ) (devices : List (Option (List ℕ))) (task : Task) → bytes_of Copy (read_bytes task) ≡ (devices_read contents devices task).taken
unfolding devices_read
taken-is contents devices task = refl

-- ---- an eye was not lent

pub no-eye : (old between new : Option Told) (devices : List (Option (List ℕ))) (task : Task) (n : ℕ) (error : FilesError) (fault : Fault)
    → GivesBack old between (device_eyes devices) n → new ≡ option_map (told_returning n) between
    → IsFilesFault error fault
    → Reads {X = Unit {0}} (λ _. task) old new (Err fault) (λ contents. devices_read contents devices task)
no-eye old between new devices task n error fault lends back is = λ told there. record {
  gives = unforeseen error is;
  front = subst (AsksFront told new) (eyes-are told.contents devices task) (lends.asked new back told there);
  whole = λ ok. absurd (false≢true ok);
}
  where
    unforeseen : {P : Type 0} (error : FilesError) → IsFilesFault error fault → IsForeseen (fault_status fault) → P
    unforeseen Failed is foreseen = absurd (foreseen.0 (ap fault_status is))
    unforeseen NoRoom is foreseen = absurd (foreseen.2 (ap fault_status is))

-- what the eyes see where all were lent
pub whole-fresh : {E : Type 0} (sight : E → Sight) (old : Option Told) (devices : List (Option (List ℕ))) (slots : List (Option E))
    → map (option_map sight) slots ≡ fresh_slots old (take (length slots) devices) → length slots ≡ length devices
    → map (option_map sight) slots ≡ fresh_slots old devices
whole-fresh sight old devices slots fresh count =
    fresh ∙ ap (fresh_slots old) (ap (λ n. take n devices) count ∙ take_all (length devices) devices (omega arith))

-- ---- all eyes were lent

module _ {E : Type 0} (sight : E → Sight) (faults : E → ℕ) (old between new : Option Told) (devices : List (Option (List ℕ)))
    (slots after : List (Option E)) (task : Task) (result : Result (Unit {0}) Fault)
    (fresh : map (option_map sight) slots ≡ fresh_slots old devices)
    (lent : between ≡ option_map (told_lending (device_eyes devices) (length (present slots))) old)
    (kept : Keeps sight faults slots after)
    (back : new ≡ option_map (told_returning (length (present after))) between) where
  fresh-told : (told : Told) → old ≡ Some told → map (option_map sight) slots ≡ fresh_slots (Some told) devices
  fresh-told told there = fresh ∙ ap (λ o. fresh_slots o devices) there

  back-all : new ≡ option_map (told_returning (length (present slots))) between
  back-all = back ∙ ap (λ n. option_map (told_returning n) between) (same-present sight faults slots after kept)

  asked : (told : Told) → old ≡ Some told → new ≡ Some (told_asking (device_eyes devices) told)
  asked told there = asks-all old between new (device_eyes devices) (length (present slots)) lent back-all told there

  module _ (long : OnOk result (AreLong sight (end_of task) slots)) (short : IsErrOf result (BadImage Length) → HasShort sight (end_of task) slots)
      (kinds : (fault : Fault) → result ≡ Err fault → (fault ≡ ReadFault) ⊎ ((fault ≡ WriteFault) ⊎ (fault ≡ BadImage Length))) where
    kind-given : (told : Told) → old ≡ Some told → (fault : Fault) → result ≡ Err fault
        → (fault ≡ ReadFault) ⊎ ((fault ≡ WriteFault) ⊎ (fault ≡ BadImage Length)) → IsForeseen (fault_status fault)
        → (devices_read told.contents devices task).result ≡ Err fault
    kind-given told there fault is (inl read) foreseen = absurd (foreseen.0 (ap fault_status read))
    kind-given told there fault is (inr (inl write)) foreseen = absurd (foreseen.1 (ap fault_status write))
    kind-given told there fault is (inr (inr bad)) foreseen =
        short-result told.contents devices task (one-short sight told devices slots (fresh-told told there) (end_of task) (short (is ∙ ap Err bad)))
        ∙ ap (λ (f : Fault). Err f) (sym bad)

    pub slots-read : Reads {X = Unit {0}} (λ _. task) old new result (λ contents. devices_read contents devices task)
    slots-read told there = record {
      gives = given result refl;
      front = subst (AsksFront told new) (eyes-are told.contents devices task) (record {
        count = length (device_eyes devices);
        within = omega arith;
        asked = asked told there ∙ ap (λ eyes. Some (told_asking eyes told)) (sym (take_all (length (device_eyes devices)) (device_eyes devices) (omega arith)));
      });
      whole = λ _. asked told there ∙ ap (λ eyes. Some (told_asking eyes told)) (eyes-are told.contents devices task);
    }
      where
        given : (r : Result (Unit {0}) Fault) → result ≡ r → Gives {X = Unit {0}} (λ _. task) r (devices_read told.contents devices task).result
        given (Ok done) is = long-result told.contents devices task
            (all-long sight told devices slots (fresh-told told there) (end_of task) (subst (λ r. OnOk r (AreLong sight (end_of task) slots)) is long))
        given (Err fault) is = kind-given told there fault is (kinds fault is)

  -- ---- what was read of them

  module _ (fits : CanGather devices task) (limits : IsLayout task.layout) where
    not-there : (d i : ℕ) → get_or devices d None ≡ None → has task.set i ≡ true → i / task.layout.symbols_per_device ≡ d → ⊥
    not-there d i none member here = absent (get_or devices d None) none (subst (λ e. IsSome (get_or devices e None)) here (fits.held i member))
      where
        absent : (o : Option (List ℕ)) → o ≡ None → IsSome o → ⊥
        absent None e h = false≢true h
        absent (Some name) e h = let clash : ◌≡◌ {A = Option (List ℕ)} (Some name) None = e in cc

    unread : (d : ℕ) → get_or devices d None ≡ None → device_read task d ≡ 0
    unread d none =
        let count = count_below-none (stripe_symbols task.layout) (is_read_of task.layout task.set d) (λ i low. of_none i (has task.set i) refl) in
        ap (λ n. task.layout.stripes * (n * task.layout.symbol_bytes)) count ∙ omega arith
      where
        of_none : (i : ℕ) (b : Bool) → has task.set i ≡ b → (b && (i / task.layout.symbols_per_device == d)) ≡ false
        of_none i false e = refl
        of_none i true e = ⊎_elim (λ here. absurd (not-there d i none e here)) (λ apart. ne_eqb (i / task.layout.symbols_per_device) d apart) (cases_eq (i / task.layout.symbols_per_device) d)

    pub slots-grow : (t0 t1 t2 : Totals) → t1 ≡ t0 → t2 ≡ grown t1 (taken_by (map sight (present after)))
        → OnOk result (Took sight faults (device_read task) slots after)
        → Grows {X = Unit {0}} old t0 t2 result (λ contents. devices_read contents devices task)
    slots-grow t0 t1 t2 same grew taken = go result taken
      where
        all : Took sight faults (device_read task) slots after → t2 ≡ grown t0 (bytes_of Copy (read_bytes task))
        all took =
            let sums : sum_by (device_read task) (range_with_len 0 (length slots)) ≡ read_bytes task =
            ap (λ n. sum_by (device_read task) (range_with_len 0 n)) (same-count sight old devices slots fresh ∙ fits.count)
            ∙ read-in-all task.layout task.set limits fits.small in
            grew ∙ ap (λ t. grown t (taken_by (map sight (present after)))) same
            ∙ taken-all sight faults slots after old devices fresh t0 (device_read task) took unread
            ∙ ap (λ n. grown t0 (bytes_of Copy n)) sums

        go : (r : Result (Unit {0}) Fault) → OnOk r (Took sight faults (device_read task) slots after)
            → Grows {X = Unit {0}} old t0 t2 r (λ contents. devices_read contents devices task)
        go (Ok done) took = λ told there. all took ∙ ap (grown t0) (taken-is told.contents devices task)
        go (Err fault) took = tt

  -- ---- what was put

  module _ (out0 out1 : Option Held) where
    pub slots-put : OnOk result ((bytes : ℕ → List ℕ) → Tells sight bytes slots
        → Takes out0 out1 (image_bytes task.layout (gathered task.layout bytes task.set task.first)))
        → OnOk result (ForSome old (λ told. Takes out0 out1 (gathered_file told.contents devices task)))
    slots-put put = go result put
      where
        go : (r : Result (Unit {0}) Fault) → OnOk r ((bytes : ℕ → List ℕ) → Tells sight bytes slots
            → Takes out0 out1 (image_bytes task.layout (gathered task.layout bytes task.set task.first)))
            → OnOk r (ForSome old (λ told. Takes out0 out1 (gathered_file told.contents devices task)))
        go (Ok done) put = λ told there. put (device_bytes told.contents devices) (tells sight told devices slots (fresh-told told there) (end_of task))
        go (Err fault) put = tt

    pub slots-cut : {O : Type 0} (o0 o1 : O) → OnErr result ((o1 ≡ o0)
        ⊎ (AreLong sight (end_of task) slots × ((bytes : ℕ → List ℕ) → Tells sight bytes slots
        → TakesFront out0 out1 (image_bytes task.layout (gathered task.layout bytes task.set task.first)))))
        → OnErr result ((o1 ≡ o0) ⊎ ForSome old (λ told. ((devices_read told.contents devices task).result ≡ Ok task)
        × TakesFront out0 out1 (gathered_file told.contents devices task)))
    slots-cut {O} o0 o1 cut = go result cut
      where
        go : (r : Result (Unit {0}) Fault) → OnErr r ((o1 ≡ o0)
            ⊎ (AreLong sight (end_of task) slots × ((bytes : ℕ → List ℕ) → Tells sight bytes slots
            → TakesFront out0 out1 (image_bytes task.layout (gathered task.layout bytes task.set task.first)))))
            → OnErr r ((o1 ≡ o0) ⊎ ForSome old (λ told. ((devices_read told.contents devices task).result ≡ Ok task)
            × TakesFront out0 out1 (gathered_file told.contents devices task)))
        go (Ok done) cut = tt
        go (Err fault) (inl same) = inl same
        go (Err fault) (inr part) = inr (λ told there. (
          long-result told.contents devices task (all-long sight told devices slots (fresh-told told there) (end_of task) part.0),
          part.1 (device_bytes told.contents devices) (tells sight told devices slots (fresh-told told there) (end_of task)),
        ))

  -- ---- why it failed

  pub slots-cause : (f0 f1 f2 o0 o1 : ℕ) → f1 ≡ f0 → f2 ≡ counted f1 (sum_by faults (present after)) → All (λ eye. faults eye ≡ 0) (present slots)
      → OnOk result (Took sight faults (device_read task) slots after) → (IsErrOf result ReadFault → Fails faults slots after)
      → (IsErrOf result WriteFault → Rose o0 o1) → o0 ≤ o1 → OnOk result (o1 ≡ o0)
      → HasCauses f0 f2 o0 o1 result
  slots-cause f0 f1 f2 o0 o1 same grew none taken failed written later quiet = record {
    later = omega (arith, same, grew);
    out_later = later;
    failed = λ is. subst (λ f. Rose f f2) same (rose-all sight faults slots after (failed is) f1 f2 grew);
    written = written;
    quiet = still result taken;
    out_quiet = quiet;
  }
    where
      still : (r : Result (Unit {0}) Fault) → OnOk r (Took sight faults (device_read task) slots after) → OnOk r (f2 ≡ f0)
      still (Ok done) took = grew ∙ ap (counted f1) (quiet-all sight faults slots after (device_read task) took none) ∙ sym (counted-none f1) ∙ same
      still (Err fault) took = tt
