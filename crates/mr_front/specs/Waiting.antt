-- What a set costs, and what waits to be expanded.
use Rattle.std.specs.Prelude.{◌≡◌, ℕ, ◌⊎◌, ◌↔◌, List}
use Rattle.std.specs.List.{Contains}
use Rattle.mr_model.specs.Code.{cost}
use Rattle.mr_eq.specs.Problems.{Loss}

-- what it costs to read the symbols of a set
abbrev pub mask_cost : Loss → ℕ → ℕ
mask_cost p u = cost p.code u

-- what waits: the loss whose prices count, and masks, each behind its level, in any order
pub record Queue : Type 0 where
  pub loss : Loss
  pub masks : List (ℕ × ℕ)

-- the mask u waits at the level i
abbrev pub Waits : Queue → ℕ → ℕ → Type 0
Waits q i u = Contains q.masks (i, u)

-- what waits later is what waited, and these masks at a level
abbrev pub WaitsToo : (ℕ → ℕ → Type 0) → (ℕ → ℕ → Type 0) → ℕ → List ℕ → Type 0
WaitsToo waits later level us = (i u : ℕ) → later i u ↔ (waits i u ⊎ ((i ≡ level) × Contains us u))

-- the same masks wait
abbrev pub WaitsSame : (ℕ → ℕ → Type 0) → (ℕ → ℕ → Type 0) → Type 0
WaitsSame waits later = (i u : ℕ) → later i u ↔ waits i u
