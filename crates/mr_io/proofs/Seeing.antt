-- What an eye took, over several reads.
use Rattle.std.proofs.Common.{◌≡◌, ℕ, ◌+◌, arith}
use Rattle.mr_io.specs.Counts.{counted}
use Rattle.mr_io.specs.Sights.{Sight, sight_with}

-- Where no byte was read.
pub sight_with-none : (sight : Sight) → sight ≡ sight_with sight 0
sight_with-none sight =
    let same : sight.taken ≡ counted sight.taken 0 = omega arith in
    λ j. record sight { taken = same j }

-- What two reads took, one after the other.
pub sight_with-more : (sight : Sight) (a b : ℕ)
    → sight_with (sight_with sight a) b ≡ sight_with sight (a + b)
sight_with-more sight a b =
    let same : counted (counted sight.taken a) b ≡ counted sight.taken (a + b) = omega arith in
    λ j. record sight { taken = same j }
