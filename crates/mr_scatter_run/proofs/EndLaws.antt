-- A task that is scattered, and where it stops.
use Rattle.std.proofs.Common.{◌≡◌, ◌∙◌, ◌+◌, ◌*◌, ◌<◌, ◌≤◌, ℕ, List, [], ◌++◌, length, map, take, get_or, option_map, Option, Some, None, Result, Ok, Err, refl, sym, ap, subst}
use Rattle.std.specs.Prelude.{◌≢◌, ◌⊎◌, IfSome}
use Rattle.std.specs.Option.{ForSome}
use Rattle.std.proofs.Common.{inl, inr}
use Rattle.std.proofs.lemmas.List.{length-map}
use Rattle.mr_image.specs.Images.{body_bytes}
use Rattle.mr_image.specs.declared.faults.ImageKind.TheVariants.{Length as OfLength}
use Rattle.mr_devices.specs.Places.{part_bytes}
use Rattle.mr_devices.specs.Writing.{Shelf}
use Rattle.mr_scatter.specs.Parts.{HasOpen, Stores, StoresFront, device_text, whole_stripes}
use Rattle.mr_scatter.specs.declared.errors.ScatterFault.{ScatterFault}
use Rattle.mr_scatter.specs.declared.errors.ScatterFault.TheVariants.{Read as IsRead, Length as IsLength, Write as IsWrite}
use Rattle.mr_scatter.specs.declared.errors.Stopped.{Stopped}
use Rattle.mr_steps.specs.Faults.{fault_status}
use Rattle.mr_steps.specs.Steps.{IsForeseen}
use Rattle.mr_steps.specs.declared.fault.Fault.{Fault}
use Rattle.mr_steps.specs.declared.fault.Fault.TheVariants.{BadImage, Memory, ReadFault, Usage, WriteFault}
use Rattle.mr_scatter_run.specs.declared.end.End.{End}
use Rattle.mr_scatter_run.specs.Ends.{Ends, HasEndCauses, scatter_fault}
use Rattle.mr_scatter_run.specs.Tasks.{Task, opening_all, place_of}

-- the fault tells that of scattering
is-read : (f : ScatterFault) → scatter_fault f ≡ ReadFault → f ≡ IsRead
is-read IsRead e = refl
is-read IsLength e = let no : ◌≡◌ {A = Fault} (BadImage OfLength) ReadFault = e in cc
is-read IsWrite e = let no : ◌≡◌ {A = Fault} WriteFault ReadFault = e in cc

is-write : (f : ScatterFault) → scatter_fault f ≡ WriteFault → f ≡ IsWrite
is-write IsRead e = let no : ◌≡◌ {A = Fault} ReadFault WriteFault = e in cc
is-write IsLength e = let no : ◌≡◌ {A = Fault} (BadImage OfLength) WriteFault = e in cc
is-write IsWrite e = refl

no-usage : (f : ScatterFault) → scatter_fault f ≢ Usage
no-usage IsRead e = let no : ◌≡◌ {A = Fault} ReadFault Usage = e in cc
no-usage IsLength e = let no : ◌≡◌ {A = Fault} (BadImage OfLength) Usage = e in cc
no-usage IsWrite e = let no : ◌≡◌ {A = Fault} WriteFault Usage = e in cc

is-length : (f : ScatterFault) → IsForeseen (fault_status (scatter_fault f)) → f ≡ IsLength
is-length IsRead foreseen = absurd (foreseen.0 refl)
is-length IsLength foreseen = refl
is-length IsWrite foreseen = absurd (foreseen.1 refl)

-- the end of a run whose scattering stopped
abbrev end_with : Stopped → End
end_with stopped = record { stripes = Some stopped.stripes; fault = scatter_fault stopped.fault }

-- ---- the files are open

module _ (names : List (List ℕ)) (task : Task) (shelf : Shelf) (left : Option (List ℕ)) (old new : Option Shelf) (told : old ≡ Some (opening_all names shelf))
    (lost : List ℕ) (same : lost ≡ task.lost) where
  abbrev text : List ℕ → List ℕ → ℕ → ℕ → List ℕ
  text devices body stripes k = device_text task.layout body (get_or devices k 0) stripes

  stores-so : (body : List ℕ) (n : ℕ) → Stores old new (λ k. task.first * part_bytes task.layout) (text lost body n) → Stores (Some (opening_all names shelf)) new (λ k. place_of task) (text task.lost body n)
  stores-so body n h =
      subst (λ o. Stores o new (λ k. place_of task) (text task.lost body n)) told
      (subst (λ xs. Stores old new (λ k. task.first * part_bytes task.layout) (text xs body n)) same h)

  front-so : (body : List ℕ) (least n : ℕ) → StoresFront least old new (λ k. task.first * part_bytes task.layout) (text lost body n)
      → StoresFront least (Some (opening_all names shelf)) new (λ k. place_of task) (text task.lost body n)
  front-so body least n h =
      subst (λ o. StoresFront least o new (λ k. place_of task) (text task.lost body n)) told
      (subst (λ xs. StoresFront least old new (λ k. task.first * part_bytes task.layout) (text xs body n)) same h)

  pub ends-ok : {X : Type 0} (x : X)
      → ForSome left (λ body. (length body ≡ body_bytes task.layout) × Stores old new (λ k. task.first * part_bytes task.layout) (λ k. device_text task.layout body (get_or lost k 0) task.layout.stripes))
      → ForSome left (λ body. Ends {X = X} names task body shelf new (Ok x))
  ends-ok x stored body there = record {
    whole = ((stored body there).0, stores-so body task.layout.stripes (stored body there).1);
    foreseen = tt;
    cut = tt;
  }

  pub ends-err : {X : Type 0} (stopped : Stopped) (end : End) → end ≡ end_with stopped → stopped.stripes ≤ task.layout.stripes
      → (stopped.fault ≢ IsWrite → ForSome left (λ body. Stores old new (λ k. task.first * part_bytes task.layout) (λ k. device_text task.layout body (get_or lost k 0) stopped.stripes)))
      → (stopped.fault ≡ IsWrite → ForSome left (λ body. StoresFront (stopped.stripes * part_bytes task.layout) old new (λ k. task.first * part_bytes task.layout) (λ k. device_text task.layout body (get_or lost k 0) (stopped.stripes + 1))))
      → (stopped.fault ≡ IsLength → ForSome left (λ body. (length body ≢ body_bytes task.layout) × (stopped.stripes ≡ whole_stripes task.layout (length body))))
      → ForSome left (λ body. Ends {X = X} names task body shelf new (Err end))
  ends-err {X} stopped end is few kept front wrong body there =
      subst (λ (e : End). Ends {X = X} names task body shelf new (Err e)) (sym is) (record {
        whole = tt;
        foreseen = λ foreseen.
            let short : stopped.fault ≡ IsLength = is-length stopped.fault foreseen in
            (ap scatter_fault short, (wrong short body there).0, ap Some (wrong short body there).1);
        cut = record {
          few = few;
          exact = λ other. stores-so body stopped.stripes (kept (λ e. other (ap scatter_fault e)) body there);
          front = λ e. front-so body (stopped.stripes * part_bytes task.layout) (stopped.stripes + 1) (front (is-write stopped.fault e) body there);
        };
      })

-- the causes
pub causes-ok : {X : Type 0} (x : X) (read_failed write_failed : Type 0) → HasEndCauses {X = X} read_failed write_failed (Ok x)
causes-ok x read_failed write_failed = record { read = tt; written = tt; past_words = tt }

pub causes-err : {X : Type 0} (stopped : Stopped) (end : End) (read_failed write_failed : Type 0) → end ≡ end_with stopped
    → (stopped.fault ≡ IsRead → read_failed) → (stopped.fault ≡ IsWrite → write_failed) → HasEndCauses {X = X} read_failed write_failed (Err end)
causes-err {X} stopped end read_failed write_failed is read write =
    subst (λ (e : End). HasEndCauses {X = X} read_failed write_failed (Err e)) (sym is) (record {
      read = λ e. read (is-read stopped.fault e);
      written = λ e. write (is-write stopped.fault e);
      past_words = no-usage stopped.fault;
    })

-- ---- the files are opened

-- as many are open as there are names
pub all-open : (old mid : Option Shelf) (names : List (List ℕ)) (count : ℕ) → IfSome old (λ shelf. shelf.opened ≡ []) → mid ≡ option_map (opening_all names) old → length names ≡ count → HasOpen mid count
all-open None mid names count none opens many = subst (λ o. HasOpen o count) (sym opens) tt
all-open (Some shelf) mid names count none opens many =
    subst (λ o. HasOpen o count) (sym opens)
    (ap (λ xs. length (xs ++ map shelf.contents names)) none ∙ length-map names shelf.contents ∙ many)

pub ends-after : {X : Type 0} (names : List (List ℕ)) (task : Task) (left : Option (List ℕ)) (old mid new : Option Shelf) (result : Result X End) → mid ≡ option_map (opening_all names) old
    → ((names : List (List ℕ)) (shelf : Shelf) → mid ≡ Some (opening_all names shelf) → ForSome left (λ body. Ends names task body shelf new result))
    → ForSome left (λ body. ForSome old (λ shelf. Ends names task body shelf new result))
ends-after names task left old mid new result opens ends = λ body there shelf told. ends names shelf (opens ∙ ap (option_map (opening_all names)) told) body there

-- a file could not be opened
pub ends-unopened : {X : Type 0} (names : List (List ℕ)) (task : Task) (left : Option (List ℕ)) (old new : Option Shelf) (fault : Fault)
    → (count : ℕ) × (count < length names) × (new ≡ option_map (opening_all (take count names)) old) → (◌≡◌ {A = Result X Fault} (Err fault) (Err WriteFault)) ⊎ (◌≡◌ {A = Result X Fault} (Err fault) (Err Memory))
    → ForSome left (λ body. ForSome old (λ shelf. Ends {X = X} names task body shelf new (Err (record { stripes = None; fault = fault }))))
ends-unopened {X} names task left old new fault opened which = λ body there shelf told. record {
  whole = tt;
  foreseen = λ foreseen. absurd (never foreseen which);
  cut = record { count = opened.0; within = opened.1; opened = opened.2 ∙ ap (option_map (opening_all (take opened.0 names))) told };
}
  where
    never : IsForeseen (fault_status fault) → (◌≡◌ {A = Result X Fault} (Err fault) (Err WriteFault)) ⊎ (◌≡◌ {A = Result X Fault} (Err fault) (Err Memory)) → ⊥
    never foreseen (inl e) = let is : fault ≡ WriteFault = cc in foreseen.1 (ap fault_status is)
    never foreseen (inr e) = let is : fault ≡ Memory = cc in foreseen.2 (ap fault_status is)

pub causes-unopened : {X Y : Type 0} (fault : Fault) (read_failed write_failed : Type 0)
    → (◌≡◌ {A = Result Y Fault} (Err fault) (Err WriteFault)) ⊎ (◌≡◌ {A = Result Y Fault} (Err fault) (Err Memory)) → (◌≡◌ {A = Result Y Fault} (Err fault) (Err WriteFault) → write_failed)
    → HasEndCauses {X = X} read_failed write_failed (Err (record { stripes = None; fault = fault }))
causes-unopened {X} {Y} fault read_failed write_failed which write = record {
  read = λ e. absurd (other e which);
  written = λ e. write (ap Err e);
  past_words = λ e. usage e which;
}
  where
    other : fault ≡ ReadFault → (◌≡◌ {A = Result Y Fault} (Err fault) (Err WriteFault)) ⊎ (◌≡◌ {A = Result Y Fault} (Err fault) (Err Memory)) → ⊥
    other is (inl e) = let no : ◌≡◌ {A = Result Y Fault} (Err ReadFault) (Err WriteFault) = ap Err (sym is) ∙ e in cc
    other is (inr e) = let no : ◌≡◌ {A = Result Y Fault} (Err ReadFault) (Err Memory) = ap Err (sym is) ∙ e in cc

    usage : fault ≡ Usage → (◌≡◌ {A = Result Y Fault} (Err fault) (Err WriteFault)) ⊎ (◌≡◌ {A = Result Y Fault} (Err fault) (Err Memory)) → ⊥
    usage is (inl e) = let no : ◌≡◌ {A = Result Y Fault} (Err Usage) (Err WriteFault) = ap Err (sym is) ∙ e in cc
    usage is (inr e) = let no : ◌≡◌ {A = Result Y Fault} (Err Usage) (Err Memory) = ap Err (sym is) ∙ e in cc
