-- Files in memory: what they hold and what they tell.
use Rattle.std.specs.Prelude.{ℕ, ◌+◌, ◌-◌, List, [], ◌∷◌, ◌++◌, None, Option, bytes_eq, if◌then◌else◌, unwrap_or}
use Rattle.std.specs.Arc.{arc_value}
use Rattle.std.specs.Map.{lookup}
use Rattle.mr_io.specs.Counts.{counted}
use Rattle.mr_io.specs.EyeStates.{EyeState, is_failing}
use Rattle.mr_io.specs.Sights.{fresh_sight}
use Rattle.mr_io.specs.Telling.{Told}
use Rattle.mr_io.specs.TotalsBy.{totals_with}
use Rattle.mr_io.specs.declared.asked.Asked.{Asked}
use Rattle.mr_io.specs.declared.duty.Duty.{Duty}
use Rattle.mr_io.specs.declared.mem_files.MemFile.{MemFile}
use Rattle.mr_io.specs.declared.totals.Totals.{Totals}

-- The files by name, the calls that fail, as pairs of an eye and a call, the eyes asked for, the number of
-- `eye` calls so far, the eyes lent, the totals and the faults.
pub record FilesState : Type 0 where
  pub files : List (List ℕ × List ℕ)
  pub fails : List (ℕ × ℕ)
  pub asked : List Asked
  pub calls : ℕ
  pub lent : ℕ
  pub totals : Totals
  pub faults : ℕ

-- The first file of this name.
abbrev pub file_of : List (List ℕ × List ℕ) → List ℕ → Option (List ℕ)
file_of files name = lookup (λ key. bytes_eq key name) files

-- The contents by name: those of the first file of the name, or no bytes.
abbrev pub contents_of : List (List ℕ × List ℕ) → List ℕ → List ℕ
contents_of files name = unwrap_or (file_of files name) []

abbrev pub told_of : FilesState → Told
told_of state = record {
  contents = contents_of state.files;
  asked = state.asked;
  lent = state.lent;
}

-- A file of the struct as its name and its bytes.
abbrev pub entry_of : MemFile → List ℕ × List ℕ
entry_of file = (file.name, (arc_value file.bytes).items)

-- The bytes behind the eye that the next `eye` call on this name lends: none where that call fails.
abbrev pub lent_bytes : FilesState → List ℕ → Option (List ℕ)
lent_bytes state name =
    if is_failing state.fails (counted state.calls 1) 0 then None else file_of state.files name

-- That eye.
abbrev pub lent_eye : FilesState → List ℕ → Duty → EyeState
lent_eye state name duty = record {
  sight = fresh_sight (lent_bytes state name) duty;
  number = counted state.calls 1;
  calls = 0;
  fails = state.fails;
  faults = 0;
}

-- The files after an `eye` call that was counted, and then written down, refused, or answered by an eye.
abbrev pub files_called : FilesState → FilesState
files_called state = record state { calls = counted state.calls 1 }

abbrev pub files_asked : FilesState → List ℕ → Duty → FilesState
files_asked state name duty = record (files_called state) {
  asked = state.asked ++ record { name = name; duty = duty } ∷ [];
}

abbrev pub files_refusing : FilesState → List ℕ → Duty → FilesState
files_refusing state name duty = record (files_asked state name duty) {
  faults = counted state.faults 1;
}

abbrev pub files_lending : FilesState → List ℕ → Duty → FilesState
files_lending state name duty = record (files_asked state name duty) { lent = state.lent + 1 }

-- The files after they took an eye back.
abbrev pub files_retiring : FilesState → EyeState → FilesState
files_retiring state eye = record state {
  lent = state.lent - 1;
  totals = totals_with state.totals eye.sight.duty eye.sight.taken;
  faults = counted state.faults eye.faults;
}
