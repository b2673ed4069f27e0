-- What waits with the workers.
use Rattle.std.specs.Prelude.{◌≡◌, ℕ, ⊤, ◌<◌, ◌≤◌, List, length, slice_index_or, Option, Some, None}
use Rattle.mr_eq.specs.Problems.{Loss}
use Rattle.mr_front.specs.Rows.{InRows, LateIn}
use Rattle.mr_search.specs.declared.worker.Worker.{Worker}

-- u waits at level i with one of the workers
pub record InCrew (p : Loss) (ws : List Worker) (i u : ℕ) : Type 0 where
  pub place : ℕ
  pub inside : place < length ws
  pub waits : (d : Worker) → InRows p (slice_index_or ws place d).rows i u

-- the mask v of level k is put off to the cost c by one of the workers
pub record LateWith (ws : List Worker) (k c v : ℕ) : Type 0 where
  pub place : ℕ
  pub inside : place < length ws
  pub late : (d : Worker) → LateIn (slice_index_or ws place d).rows k c v

-- where b is a key, a is one that comes no later, by cost and then by level
abbrev pub IsKeyAtMost : Option (ℕ × ℕ) → Option (ℕ × ℕ) → Type 0
IsKeyAtMost a None = ⊤
IsKeyAtMost None (Some k) = ⊥
IsKeyAtMost (Some m) (Some k) = (m.0 ≤ k.0) × (m.0 ≡ k.0 → m.1 ≤ k.1)
