-- What the forms in memory that never fail are.
use Rattle.std.specs.Prelude.{ℕ, ◌+◌, ◌-◌, Bool, ◌||◌, List, [], ◌∷◌, ◌++◌, length, take, None, Option, Some, if◌then◌else◌, nat_lt}
use Rattle.mr_io.specs.FilesStates.{contents_of}
use Rattle.mr_io.specs.Sights.{Sight}
use Rattle.mr_io.specs.Taking.{Held, held_with}
use Rattle.mr_io.specs.Telling.{Told}
use Rattle.mr_io.specs.TotalsBy.{totals_with}
use Rattle.mr_io.specs.declared.asked.Asked.{Asked}
use Rattle.mr_io.specs.declared.duty.Duty.{Duty}
use Rattle.mr_io.specs.declared.totals.Totals.{Totals}

-- A sink: the bytes kept and the room left, and whether a byte was dropped since there was no room.
pub record SureSinkState : Type 0 where
  pub kept : Held
  pub is_past : Bool

-- What it tells: nothing from the first byte on that it dropped.
abbrev pub sure_held : SureSinkState → Option Held
sure_held state = if state.is_past then None else Some state.kept

-- The sink after it was given these bytes: it keeps those that fit, and drops the rest.
abbrev pub sure_sink_after : SureSinkState → List ℕ → SureSinkState
sure_sink_after state bytes = record {
  kept = held_with state.kept (take state.kept.room bytes);
  is_past = state.is_past || nat_lt state.kept.room (length bytes);
}

-- Files: their names and bytes, the eyes asked for, the eyes lent, and the totals.
pub record SureFilesState : Type 0 where
  pub files : List (List ℕ × List ℕ)
  pub asked : List Asked
  pub lent : ℕ
  pub totals : Totals

-- What they tell.
abbrev pub sure_told : SureFilesState → Told
sure_told state = record {
  contents = contents_of state.files;
  asked = state.asked;
  lent = state.lent;
}

-- The files after an eye was asked for, and after it was lent.
abbrev pub sure_asked : SureFilesState → List ℕ → Duty → SureFilesState
sure_asked state name duty = record state {
  asked = state.asked ++ record { name = name; duty = duty } ∷ [];
}

abbrev pub sure_lending : SureFilesState → List ℕ → Duty → SureFilesState
sure_lending state name duty = record (sure_asked state name duty) { lent = state.lent + 1 }

-- The files after they took an eye back.
abbrev pub sure_retiring : SureFilesState → Sight → SureFilesState
sure_retiring state sight = record state {
  lent = state.lent - 1;
  totals = totals_with state.totals sight.duty sight.taken;
}
