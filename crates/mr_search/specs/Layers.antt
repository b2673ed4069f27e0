-- The children of a layer.
use Rattle.std.specs.Prelude.{ℕ, ◌<◌, ◌≤◌, List, length, slice_index}
use Rattle.std.specs.List.{Contains}
use Rattle.mr_eq.specs.Problems.{Loss}
use Rattle.mr_bound.specs.Cost.{least_cost}
use Rattle.mr_front.specs.declared.layers.Layer.{Layer}
use Rattle.mr_front.specs.Waiting.{mask_cost}
use Rattle.mr_front.specs.Children.{children_of}
use Rattle.mr_front.specs.Layers.{IsSomeChild}

-- no child of the layer costs less than the least cost
abbrev pub IsFloored : Loss → Layer → Type 0
IsFloored p l = (u : ℕ) → IsSomeChild p l u → least_cost p ≤ mask_cost p u

-- each child of cost at most `most` of the masks that were drawn is there
abbrev pub Covers : Loss → Layer → ℕ → List ℕ → (ℕ → Type 0) → Type 0
Covers p l most draws there = (n u : ℕ) → Contains draws n → n < length l.masks
    → Contains (children_of p l.level most (slice_index l.masks n)) u → there u
