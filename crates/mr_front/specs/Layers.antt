-- The first layer of what waits, what waits besides it, and what waits once its children joined.
use Rattle.std.specs.Prelude.{◌≡◌, ◌≢◌, ℕ, ◌+◌, ◌<◌, ◌≤◌, ◌⊎◌, ◌↔◌, length, Option, Some, None}
use Rattle.std.specs.List.{Contains}
use Rattle.std.specs.List.Sorted.{IsStrictlyIncreasing}
use Rattle.mr_eq.specs.Problems.{Loss}
use Rattle.mr_front.specs.declared.layers.Layer.{Layer}
use Rattle.mr_front.specs.Waiting.{mask_cost}
use Rattle.mr_front.specs.Children.{children}

-- the layer is all distinct masks that wait at the least cost and, for that cost, the least level
pub record IsFirstLayer (p : Loss) (waits : ℕ → ℕ → Type 0) (l : Layer) : Type 0 where
  pub sorted : IsStrictlyIncreasing l.masks
  pub some : 0 < length l.masks
  pub masks : (u : ℕ) → Contains l.masks u ↔ (waits l.level u × (mask_cost p u ≡ l.cost))
  pub least : (i u : ℕ) → waits i u → (l.cost ≤ mask_cost p u) × (l.cost ≡ mask_cost p u → l.level ≤ i)

-- what waits later is what waited, without the layer
abbrev pub IsRest : Loss → (ℕ → ℕ → Type 0) → (ℕ → ℕ → Type 0) → Layer → Type 0
IsRest p waits later l = (i u : ℕ) → later i u ↔ (waits i u × (i ≡ l.level → mask_cost p u ≢ l.cost))

-- The least cost at which something waits and, for that cost, the least level. No mask is put off to a cost, for
-- masks of a level, that come before these.
pub record IsFirstKey (p : Loss) (waits : ℕ → ℕ → Type 0) (late : ℕ → ℕ → ℕ → Type 0) (cost level : ℕ) : Type 0 where
  pub some : (u : ℕ) × waits level u × (mask_cost p u ≡ cost)
  pub least : (i u : ℕ) → waits i u → (cost ≤ mask_cost p u) × (cost ≡ mask_cost p u → level ≤ i)
  pub made : (k c v : ℕ) → late k c v → (cost ≤ c) × (cost ≡ c → level ≤ k)

-- the first key is that, and there is none where nothing waits
abbrev pub IsFirst : Loss → (ℕ → ℕ → Type 0) → (ℕ → ℕ → ℕ → Type 0) → Option (ℕ × ℕ) → Type 0
IsFirst p waits late None = ((i u : ℕ) → waits i u → ⊥) × ((k c v : ℕ) → late k c v → ⊥)
IsFirst p waits late (Some k) = IsFirstKey p waits late k.0 k.1

-- u is a child of a mask of the layer
abbrev pub IsSomeChild : Loss → Layer → ℕ → Type 0
IsSomeChild p l u = (most : ℕ) × Contains (children p l.level most l.masks) u

-- what waits once the children of the layer joined: what waited, and children; all of them that cost at most `most`
pub record HasJoined (p : Loss) (l : Layer) (most : ℕ) (waits later : ℕ → ℕ → Type 0) : Type 0 where
  pub stays : (i u : ℕ) → waits i u → later i u
  pub only : (i u : ℕ) → later i u → waits i u ⊎ ((i ≡ l.level + 1) × IsSomeChild p l u)
  pub joins : (u : ℕ) → Contains (children p l.level most l.masks) u → later (l.level + 1) u

-- what waits once some of what costs more than `most` was lost
pub record HasLost (p : Loss) (most : ℕ) (waits later : ℕ → ℕ → Type 0) : Type 0 where
  pub only : (i u : ℕ) → later i u → waits i u
  pub keeps : (i u : ℕ) → waits i u → mask_cost p u ≤ most → later i u
