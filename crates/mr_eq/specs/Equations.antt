-- The equations of the targets of a loss, as lists, and the order in which one equation is better
-- than another.
use Rattle.std.specs.Prelude.{◌≡◌, ℕ, ◌<◌, ◌≤◌, ◌⊎◌, Bool, true, List, length, slice_index, map, bit_xor, nat_lt, ◌==◌, ◌&&◌, ◌||◌}
use Rattle.mr_model.specs.Sets.{within, count_subsets}
use Rattle.mr_model.specs.Code.{cost, is_equation, is_null, kept_equation, nulls}
use Rattle.mr_eq.specs.Problems.{Loss, IsLoss, target_at}

-- how many sets of survivors have the sum zero, which is how many equations each target has
abbrev pub width_of : Loss → ℕ
width_of p = count_subsets p.avail (is_null p.code)

-- the equations of the target of a level: the one within the kept survivors, XORed with each set of
-- sum zero
unfoldable pub equations_at : Loss → ℕ → List ℕ
equations_at p level =
    map (λ z. bit_xor z (kept_equation p.code p.avail (target_at p level))) (nulls p.code p.avail)

-- x is an equation of the target of a level among the survivors
pub record IsEquationAt (p : Loss) (level x : ℕ) : Type 0 where
  pub inside : within x p.avail ≡ true
  pub equation : is_equation p.code (target_at p level) x ≡ true

-- x stands in the list at one place, and at no other
pub record StandsOnce (xs : List ℕ) (x : ℕ) : Type 0 where
  pub place : ℕ
  pub in_range : place < length xs
  pub item : slice_index xs place ≡ x
  pub only : (k : ℕ) → k < length xs → slice_index xs k ≡ x → k ≡ place

-- x is cheaper than y, or as cheap and the lesser number
unfoldable pub is_better : (ℕ → ℕ) → ℕ → ℕ → Bool
is_better cost x y = nat_lt (cost x) (cost y) || ((cost x == cost y) && nat_lt x y)

-- the equation at an index, behind its cost
abbrev pub priced_at : Loss → ℕ → ℕ → ℕ × ℕ
priced_at p level index =
    (cost p.code (slice_index (equations_at p level) index), slice_index (equations_at p level) index)

-- x costs no more than y, and where it costs the same it is no greater number; each stands behind
-- its cost
pub record IsUpTo (x y : ℕ × ℕ) : Type 0 where
  pub dearer : x.0 ≤ y.0
  pub greater : x.0 ≡ y.0 → x.1 ≤ y.1

-- of two sets behind their costs r is the cheaper, and of two that cost the same the lesser number
pub record IsEarlier (x y r : ℕ × ℕ) : Type 0 where
  pub one : (r ≡ x) ⊎ (r ≡ y)
  pub first : IsUpTo r x
  pub second : IsUpTo r y

-- what is kept to list equations: a loss, and the sets of survivors of sum zero
pub record IsListed (p : Loss) (zs : List ℕ) : Type 0 where
  pub loss : IsLoss p
  pub nulls_are : zs ≡ nulls p.code p.avail
