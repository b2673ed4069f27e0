-- Lists of numbers: how often a number stands in one, and the numbers below a count, each once.
use Rattle.std.specs.Prelude.{◌≡◌, ℕ, ◌+◌, ◌==◌, List, [], ◌∷◌, length, count_by, sum_by, nat_le, nat_lt, max, if◌then◌else◌}
use Rattle.std.specs.List.{range_with_len}

-- how often x stands in the list
abbrev pub times : ℕ → List ℕ → ℕ
times x ns = count_by (λ n. n == x) ns

-- how many of the list's items are n or more
abbrev pub beyond : ℕ → List ℕ → ℕ
beyond n ns = count_by (λ x. nat_le n x) ns

-- the least number above all items of the list
abbrev pub next_above : List ℕ → ℕ
next_above [] = 0
next_above (n ∷ ns) = max (n + 1) (next_above ns)

-- each number below n stands in the list once, and no other number does
abbrev pub AreEachBelow : List ℕ → ℕ → Type 0
AreEachBelow ns n = (x : ℕ) → times x ns ≡ (if nat_lt x n then 1 else 0)

-- however numbers are weighed, the items of the lists of vs weigh together what the numbers below n
-- weigh
abbrev pub WeighAsBelow : {V : Type 0} → (V → List ℕ) → List V → ℕ → Type 0
WeighAsBelow list_of vs n =
    (h : ℕ → ℕ) → sum_by (λ v. sum_by h (list_of v)) vs ≡ sum_by h (range_with_len 0 n)

-- The lists of vs have n items together, and each number below n stands in one of them, once, and no
-- other number does.
pub record AreShared {V : Type 0} (list_of : V → List ℕ) (vs : List V) (n : ℕ) : Type 0 where
  pub count : sum_by (λ v. length (list_of v)) vs ≡ n
  pub once : (x : ℕ) → sum_by (λ v. times x (list_of v)) vs ≡ (if nat_lt x n then 1 else 0)
