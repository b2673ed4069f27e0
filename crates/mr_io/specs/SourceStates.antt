-- A source in memory, and what its next call does.
use Rattle.std.specs.Prelude.{ℕ, ◌==◌, Bool, List, drop, length, min, if◌then◌else◌}
use Rattle.std.specs.List.{list_any}
use Rattle.mr_io.specs.Counts.{counted}

-- The bytes left, the most bytes that a call gives, the number of its calls so far, the calls that fail,
-- numbered from 1, and its faults.
pub record SourceState : Type 0 where
  pub left : List ℕ
  pub most : ℕ
  pub calls : ℕ
  pub fails : List ℕ
  pub faults : ℕ

-- Whether the next call fails.
abbrev pub source_fails : SourceState → Bool
source_fails state = list_any (λ call. call == counted state.calls 1) state.fails

-- How many bytes the next call gives into room for so many: none where it fails.
abbrev pub source_gives : SourceState → ℕ → ℕ
source_gives state room =
    if source_fails state then 0 else min room (min state.most (length state.left))

-- The source after a call with room for so many bytes.
abbrev pub source_after : SourceState → ℕ → SourceState
source_after state room = record state {
  left = drop (source_gives state room) state.left;
  calls = counted state.calls 1;
  faults = counted state.faults (if source_fails state then 1 else 0);
}
