-- An eye in memory, and whether its next call fails.
use Rattle.std.specs.Prelude.{ℕ, ◌==◌, ◌&&◌, Bool, List, if◌then◌else◌}
use Rattle.std.specs.List.{list_any}
use Rattle.mr_io.specs.Counts.{counted}
use Rattle.mr_io.specs.Sights.{Sight, sight_with}

-- What it tells, its number, the number of its calls so far, the calls that fail, as pairs of an eye and a
-- call, each numbered from 1, and its faults.
pub record EyeState : Type 0 where
  pub sight : Sight
  pub number : ℕ
  pub calls : ℕ
  pub fails : List (ℕ × ℕ)
  pub faults : ℕ

-- Whether this call of this eye is one that fails.
abbrev pub is_failing : List (ℕ × ℕ) → ℕ → ℕ → Bool
is_failing fails number call = list_any (λ pair. (pair.0 == number) && (pair.1 == call)) fails

-- Whether the next call fails.
abbrev pub eye_fails : EyeState → Bool
eye_fails state = is_failing state.fails state.number (counted state.calls 1)

-- The eye after a call that took no bytes.
abbrev pub eye_called : EyeState → EyeState
eye_called state = record state {
  calls = counted state.calls 1;
  faults = counted state.faults (if eye_fails state then 1 else 0);
}

-- The eye after a read of so many bytes.
abbrev pub eye_reading : EyeState → ℕ → EyeState
eye_reading state count = record (eye_called state) {
  sight = (if eye_fails state then state.sight else sight_with state.sight count);
}
