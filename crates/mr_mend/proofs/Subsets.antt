-- The members below n of a set and of its subsets.
use Rattle.std.proofs.Common.{◌≡◌, ℕ, ◌^◌, ◌<◌, ◌≤◌, true, ⊎_elim, ap, subst, arith, mod-lt, pow_pos}
use Rattle.std.specs.Int.{bit_at}
use Rattle.std.proofs.lemmas.Bool.{cases_lt}
use Rattle.std.proofs.lemmas.Nat.Bits.{same_from_bits}
use Rattle.mr_model.specs.Sets.{within, below}
use Rattle.mr_model.proofs.SetLaws.{true-within, bit_at_below_cases, below-all}

-- a subset of a set of which nothing stands between has nothing there either
pub below-between : (e set n t : ℕ) → within e set ≡ true → n ≤ t → below t set ≡ below n set → below t e ≡ below n e
below-between e set n t inside later between = same_from_bits _ _ (λ i. ⊎_elim
    (λ low. omega (arith, low, later, bit_at_below_cases t e i, bit_at_below_cases n e i))
    (λ high. omega (arith, high, true-within e set inside i, ap (λ x. bit_at x i) between, bit_at_below_cases t set i, bit_at_below_cases n set i, bit_at_below_cases t e i, bit_at_below_cases n e i))
    (cases_lt i n))

-- a subset of a set that is all below n is so too
pub below-whole : (e set n : ℕ) → within e set ≡ true → below n set ≡ set → below n e ≡ e
below-whole e set n inside all = same_from_bits _ _ (λ i.
    omega (arith, true-within e set inside i, ap (λ x. bit_at x i) all, bit_at_below_cases n set i, bit_at_below_cases n e i))

below-lt : (n x : ℕ) → below n x < 2 ^ n
unfolding below
below-lt n x = mod-lt x (pow_pos n)

-- a subset of a set below 2 ^ n is so too
pub within-low : (e set n : ℕ) → within e set ≡ true → set < 2 ^ n → e < 2 ^ n
within-low e set n inside low = subst (λ x. x < 2 ^ n) (below-whole e set n inside (below-all n set low)) (below-lt n e)
