-- The jobs of a table: each loss of one or two devices.
use Rattle.std.specs.Prelude.{ℕ, ◌+◌, ◌-◌, ◌^◌, List, ◌++◌, bit_or, map}
use Rattle.std.specs.List.{flat_map, range_with_len}

-- each of n devices, upwards, as a set
abbrev pub singles : ℕ → List ℕ
singles n = map (λ i. 2 ^ i) (range_with_len 0 n)

-- the pairs of device i and a later one, by the later
abbrev pub pairs_with : ℕ → ℕ → List ℕ
pairs_with n i = map (λ j. bit_or (2 ^ i) (2 ^ j)) (range_with_len (i + 1) (n - (i + 1)))

-- each pair, by its first device and then by its second
abbrev pub pairs : ℕ → List ℕ
pairs n = flat_map (pairs_with n) (range_with_len 0 n)

-- the devices that are lost in each job, in order of the jobs
abbrev pub losses : ℕ → List ℕ
losses n = singles n ++ pairs n
