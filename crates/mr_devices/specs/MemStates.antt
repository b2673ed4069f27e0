-- Device files in memory.
use Rattle.std.specs.Prelude.{ℕ, List}
use Rattle.mr_io.specs.FilesStates.{contents_of}
use Rattle.mr_devices.specs.Writing.{Shelf}

-- The files by name, what the open ones hold, the number of the writes so far, those that fail, numbered
-- from 1, and the faults.
pub record MemState : Type 0 where
  pub files : List (List ℕ × List ℕ)
  pub opened : List (List ℕ)
  pub calls : ℕ
  pub fails : List ℕ
  pub faults : ℕ

abbrev pub shelf_of : MemState → Shelf
shelf_of state = record { contents = contents_of state.files; opened = state.opened }
