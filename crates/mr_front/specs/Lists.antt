-- Lists of masks that wait, by cost and level.
use Rattle.std.specs.Prelude.{◌≡◌, ℕ, ◌<◌, ◌≤◌, ◌==◌, Bool, ◌&&◌, List, [], ◌++◌, length, map, filter, flat_map, Option, Some, None}
use Rattle.std.specs.List.{Contains}
use Rattle.std.specs.Ordering.{nat_cmp, ordering_then}
use Rattle.std.specs.declared.cmp.Ordering.{Ordering}
use Rattle.std.specs.BTreeMap.{BTreeMap, IsOrdered, get}
use Rattle.std.specs.Global.{Vec}
use Rattle.mr_eq.specs.Problems.{Loss}
use Rattle.mr_front.specs.Waiting.{mask_cost}

-- the lists of masks, by cost and level
abbrev pub Lists : Type 0
Lists = BTreeMap (ℕ × ℕ) (Vec ℕ)

-- the order of the keys: by cost, then by level
abbrev pub key_cmp : ℕ × ℕ → ℕ × ℕ → Ordering
key_cmp p q = ordering_then (nat_cmp p.0 q.0) (nat_cmp p.1 q.1)

abbrev pub items_of : Option (Vec ℕ) → List ℕ
items_of None = []
items_of (Some v) = v.items

-- the masks in the list of a key
abbrev pub masks_at : Lists → ℕ × ℕ → List ℕ
masks_at m q = items_of (get key_cmp m q)

-- the masks of a list, each behind the level of the list
abbrev pub leveled : (ℕ × ℕ) × Vec ℕ → List (ℕ × ℕ)
leveled e = map (λ u. (e.0.1, u)) e.1.items

-- the masks of all lists, each behind its level
unfoldable pub waiting_in : Lists → List (ℕ × ℕ)
waiting_in m = flat_map leveled m.entries

-- each list has a mask, and has only masks of its cost
pub record IsTidy (p : Loss) (m : Lists) : Type 0 where
  pub some : (q : ℕ × ℕ) (v : Vec ℕ) → get key_cmp m q ≡ Some v → 0 < length v.items
  pub priced : (q : ℕ × ℕ) (u : ℕ) → Contains (masks_at m q) u → mask_cost p u ≡ q.0
  pub ordered : IsOrdered key_cmp m

-- a mask at a level belongs to the list of the key
abbrev pub belongs : Loss → ℕ → ℕ × ℕ → ℕ → Bool
belongs p level q u = (mask_cost p u == q.0) && (level == q.1)

-- masks of a level were appended, each to the list of its cost
abbrev pub HasAdded : Loss → Lists → Lists → ℕ → List ℕ → Type 0
HasAdded p old new level us = (q : ℕ × ℕ) → masks_at new q ≡ masks_at old q ++ filter (belongs p level q) us

-- the same masks, in the same order
abbrev pub HasSame : Lists → Lists → Type 0
HasSame old new = (q : ℕ × ℕ) → masks_at new q ≡ masks_at old q

-- the masks were appended last: each list ends with those that belong to it
abbrev pub EndsWith : Loss → Lists → ℕ → List ℕ → Type 0
EndsWith p m level us = (q : ℕ × ℕ) → (rest : List ℕ) × (masks_at m q ≡ rest ++ filter (belongs p level q) us)

-- the list of the least key
pub record IsFirstList (m : Lists) (k : ℕ × ℕ) (us : List ℕ) : Type 0 where
  pub some : 0 < length us
  pub list : masks_at m k ≡ us
  pub least : (q : ℕ × ℕ) (u : ℕ) → Contains (masks_at m q) u → (k.0 ≤ q.0) × (k.0 ≡ q.0 → k.1 ≤ q.1)

-- the lists but for that of a key
pub record IsWithout (old new : Lists) (k : ℕ × ℕ) : Type 0 where
  pub none : masks_at new k ≡ []
  pub others : (q : ℕ × ℕ) → (q.0 ≡ k.0 → q.1 ≡ k.1 → ⊥) → masks_at new q ≡ masks_at old q
