-- Lists of masks by cost, and masks that are put off: some of their unions wait with them, and stand in no list yet.
use Rattle.std.specs.Prelude.{◌≤◌, ℕ, ◌⊎◌}
use Rattle.std.specs.List.{Contains}
use Rattle.mr_eq.specs.Problems.{Loss}
use Rattle.mr_front.specs.Waiting.{mask_cost}
use Rattle.mr_front.specs.Children.{unions_of}
use Rattle.mr_front.specs.CostLists.{CostMap, list_in}

-- u is one of the masks. It counts only in the list of its own cost
abbrev pub Has : Loss → CostMap → ℕ → Type 0
Has p m u = Contains (list_in m (mask_cost p u)) u

-- the mask v is put off to the cost c
abbrev pub IsPutOff : CostMap → ℕ → ℕ → Type 0
IsPutOff m c v = Contains (list_in m c) v

-- u waits with a mask that is put off: it is a union of it, and costs at least what the mask is put off to
pub record IsLate (p : Loss) (level : ℕ) (late : CostMap) (u : ℕ) : Type 0 where
  pub cost : ℕ
  pub mask : ℕ
  pub put_off : IsPutOff late cost mask
  pub least : cost ≤ mask_cost p u
  pub union : Contains (unions_of p level mask) u

-- u waits: it is one of the masks, or waits with a mask of this level that is put off
abbrev pub Holds : Loss → ℕ → CostMap → CostMap → ℕ → Type 0
Holds p level lists late u = Has p lists u ⊎ IsLate p level late u
