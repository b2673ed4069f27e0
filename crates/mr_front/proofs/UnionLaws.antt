-- What stands among the children of masks, and masks that were added part by part.
use Rattle.std.proofs.Common.{◌≡◌, ℕ, ◌<◌, ◌≤◌, Bool, true, false, cond, List, length, map, refl, arith, subst}
use Rattle.std.specs.Prelude.{◌&&◌, nat_le, bit_or}
use Rattle.std.specs.List.{Contains}
use Rattle.std.proofs.lemmas.Bool.{and_parts, and_from, both_ways, leb-true, le-leb}
use Rattle.mr_model.specs.Sets.{within, often}
use Rattle.mr_model.specs.Members.{members}
use Rattle.mr_model.specs.Code.{is_equation}
use Rattle.mr_eq.specs.Problems.{Loss, IsLoss, target_at}
use Rattle.mr_eq.specs.Equations.{equations_at}
use Rattle.mr_eq.proofs.EquationLists.{equations-once}
use Rattle.mr_front.specs.Waiting.{mask_cost}
use Rattle.mr_front.specs.Children.{children_of, children}
use Rattle.mr_front.proofs.Increasing.{Contains-often, often-Contains}
use Rattle.mr_front.proofs.FrontierLaws.{contains-filter, filter-contains, contains-map, map-contains, contains-flat_map, flat_map-contains}

-- ---- the children of some masks

-- u is the union of one of the masks with an equation of the level, and costs at most the bound
pub record IsChildOf (p : Loss) (level bound : ℕ) (vs : List ℕ) (u : ℕ) : Type 0 where
  pub mask : ℕ
  pub equation : ℕ
  pub among : Contains vs mask
  pub inside : within equation p.avail ≡ true
  pub equals : is_equation p.code (target_at p level) equation ≡ true
  pub union : bit_or mask equation ≡ u
  pub cheap : mask_cost p u ≤ bound

test-one : (n : ℕ) (b : Bool) → n ≡ cond b 1 0 → b ≡ true → 1 ≤ n
test-one n true e h = omega (arith, e)
test-one n false e h = absurd (both_ways false refl h)

one-test : (n : ℕ) (b : Bool) → n ≡ cond b 1 0 → 1 ≤ n → b ≡ true
one-test n true e h = refl
one-test n false e h = absurd (omega (arith, e, h))

module _ (p : Loss) (loss : IsLoss p) (level bound : ℕ) (low : level < length (members p.targets)) (vs : List ℕ) where
  pub contains-children : (u : ℕ) → IsChildOf p level bound vs u → Contains (children p level bound vs) u
  contains-children u c =
      let once = equations-once p loss level low c.equation in
      let both = and_from (within c.equation p.avail) (is_equation p.code (target_at p level) c.equation) c.inside c.equals in
      let there = often-Contains (equations_at p level) c.equation (test-one (often (equations_at p level) c.equation) (within c.equation p.avail && is_equation p.code (target_at p level) c.equation) once both) in
      let made : Contains (map (bit_or c.mask) (equations_at p level)) u = subst (λ w. Contains (map (bit_or c.mask) (equations_at p level)) w) c.union (contains-map (bit_or c.mask) (equations_at p level) c.equation there) in
      contains-flat_map (children_of p level bound) vs c.mask u c.among
      (contains-filter (λ w. nat_le (mask_cost p w) bound) (map (bit_or c.mask) (equations_at p level)) u (le-leb (mask_cost p u) bound c.cheap) made)

  pub children-contains : (u : ℕ) → Contains (children p level bound vs) u → IsChildOf p level bound vs u
  children-contains u h =
      let t = flat_map-contains (children_of p level bound) vs u h in
      let kept = filter-contains (λ w. nat_le (mask_cost p w) bound) (map (bit_or t.0) (equations_at p level)) u t.2 in
      let made = map-contains (bit_or t.0) (equations_at p level) u kept.0 in
      let once = equations-once p loss level low made.0 in
      let both = and_parts (within made.0 p.avail) (is_equation p.code (target_at p level) made.0)
      (one-test (often (equations_at p level) made.0) (within made.0 p.avail && is_equation p.code (target_at p level) made.0) once (Contains-often (equations_at p level) made.0 made.1)) in
      record { mask = t.0; equation = made.0; among = t.1; inside = both.0; equals = both.1; union = made.2; cheap = leb-true (mask_cost p u) bound kept.1 }
