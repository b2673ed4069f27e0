-- A sink in memory, and what its next put does.
use Rattle.std.specs.Prelude.{ℕ, ◌==◌, List, length, get_or, min, if◌then◌else◌}
use Rattle.std.specs.List.{list_any}
use Rattle.mr_io.specs.Counts.{counted}
use Rattle.mr_io.specs.Taking.{Held, held_with}

-- What it holds, the number of its puts so far, the most bytes that the first puts take, the puts that
-- fail, numbered from 1, and its faults.
pub record SinkState : Type 0 where
  pub held : Held
  pub calls : ℕ
  pub takes : List ℕ
  pub fails : List ℕ
  pub faults : ℕ

-- How many of so many bytes the next put takes: none where it fails.
abbrev pub sink_takes : SinkState → ℕ → ℕ
sink_takes state count =
    if list_any (λ call. call == counted state.calls 1) state.fails then 0
    else min count (min state.held.room (get_or state.takes state.calls count))

-- The sink after a put that took these bytes. One that took none is a fault.
abbrev pub sink_after : SinkState → List ℕ → SinkState
sink_after state taken = record state {
  held = held_with state.held taken;
  calls = counted state.calls 1;
  faults = counted state.faults (if length taken == 0 then 1 else 0);
}
