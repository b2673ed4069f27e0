-- Lists of masks by cost.
use Rattle.std.specs.Prelude.{◌≡◌, ◌≢◌, ◌≤◌, ℕ, List, [], ◌∷◌, ◌++◌, Option, Some, None}
use Rattle.std.specs.Ordering.{nat_cmp}
use Rattle.std.specs.BTreeMap.{BTreeMap, get}
use Rattle.std.specs.Global.{Vec}
use Rattle.mr_front.specs.Lists.{items_of}

-- lists of masks, by cost
abbrev pub CostMap : Type 0
CostMap = BTreeMap ℕ (Vec ℕ)

-- the masks of a cost
unfoldable pub list_in : CostMap → ℕ → List ℕ
list_in m c = items_of (get nat_cmp m c)

-- one more mask of a cost
pub record HasOneMore (m n : CostMap) (cost mask : ℕ) : Type 0 where
  pub own : list_in n cost ≡ list_in m cost ++ mask ∷ []
  pub others : (c : ℕ) → c ≢ cost → list_in n c ≡ list_in m c

-- no masks of a cost
pub record HasNoneAt (m n : CostMap) (cost : ℕ) : Type 0 where
  pub own : list_in n cost ≡ []
  pub others : (c : ℕ) → c ≢ cost → list_in n c ≡ list_in m c

-- there is a number, and it is at most c
abbrev pub AtMost : Option ℕ → ℕ → Type 0
AtMost None c = ⊥
AtMost (Some k) c = k ≤ c
