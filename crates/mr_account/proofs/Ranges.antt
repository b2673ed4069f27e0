-- Texts of the numbers below a count, put one after another.
use Rattle.std.proofs.Common.{◌≡◌, ℕ, ◌+◌, ◌<◌, ◌≤◌, List, take, length, get_or, flat_map, Option, subst, arith, take_all}
use Rattle.std.specs.List.{range_with_len}
use Rattle.std.proofs.lemmas.List.FromFn.{get_or-range_with_len, length-range_with_len}
use Rattle.mr_io.specs.Taking.{Held, Takes, TakesPart}
use Rattle.mr_plan.proofs.FourParts.{part_item, takes_item}

-- the text of k is put, after those of the numbers below k
module _ (f : ℕ → List ℕ) (m k : ℕ) (low : k < m) (a b c : Option Held) (bytes : List ℕ) (is : bytes ≡ f k) (first : Takes a b (flat_map f (take k (range_with_len 0 m)))) where
  here : k ≡ get_or (range_with_len 0 m) k k
  here = omega (arith, get_or-range_with_len 0 m k k low)

  inside : k < length (range_with_len 0 m)
  inside = omega (arith, low, length-range_with_len 0 m)

  pub takes-number : Takes b c bytes → Takes a c (flat_map f (take (k + 1) (range_with_len 0 m)))
  takes-number then = takes_item f a b c (range_with_len 0 m) k k bytes here is inside first then

  pub part-number : TakesPart b c bytes → TakesPart a c (flat_map f (range_with_len 0 m))
  part-number then = part_item f a b c (range_with_len 0 m) k k bytes here is inside first then

-- all are put
pub takes-numbers : (f : ℕ → List ℕ) (m k : ℕ) (a b : Option Held) → m ≤ k → Takes a b (flat_map f (take k (range_with_len 0 m))) → Takes a b (flat_map f (range_with_len 0 m))
takes-numbers f m k a b high first =
    subst (λ (xs : List ℕ). Takes a b (flat_map f xs)) (take_all k (range_with_len 0 m) (omega (arith, high, length-range_with_len 0 m))) first
