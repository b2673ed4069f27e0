-- Stripes: when one is a codeword, the checks of a code, and the first check that a stripe breaks.
use Rattle.std.specs.Prelude.{◌≡◌, ℕ, ◌+◌, ◌-◌, ◌*◌, ◌^◌, ◌<◌, ◌≤◌, ◌==◌, Bool, not, List, [], All, map, take, drop, length, slice_index, slice_index_or, Option}
use Rattle.std.specs.List.{range_with_len}
use Rattle.mr_model.specs.Sets.{any_below, find_below}
use Rattle.mr_model.specs.Code.{Code, generators, most_symbols}
use Rattle.mr_model.specs.Codewords.{IsData, codeword}
use Rattle.mr_image.specs.Images.{xor_symbols}

-- the symbols of a stripe that has `count` of them, each of `size` bytes, one after another
unfoldable pub symbols_of : ℕ → ℕ → List ℕ → List (List ℕ)
symbols_of count size bytes = map (λ i. take size (drop (i * size) bytes)) (range_with_len 0 count)

-- there are data of which each symbol is the XOR that its row names
pub record IsCodeword (m : Code) (size : ℕ) (symbols : List (List ℕ)) : Type 0 where
  pub columns : List (List ℕ)
  pub are_data : IsData m size columns
  pub same : (i : ℕ) → i < length m.rows → slice_index_or symbols i [] ≡ codeword m size columns i

-- the checks of a code: for each symbol upwards that is no kept one of all symbols, the set of it and of the kept
-- symbols whose rows add up to its row
unfoldable pub checks_of : Code → List ℕ
checks_of m = generators m (2 ^ length m.rows - 1)

-- the symbols of the check do not XOR to zero bytes
unfoldable pub is_broken : ℕ → List (List ℕ) → ℕ → Bool
is_broken size symbols check =
    any_below size (λ place. not (slice_index (xor_symbols size symbols check) place == 0))

-- the number of the first check that the symbols break
unfoldable pub fault : Code → ℕ → List (List ℕ) → Option ℕ
fault m size symbols =
    find_below (length (checks_of m)) (λ x. is_broken size symbols (slice_index (checks_of m) x))

-- sets that are the checks of a code, each of its symbols
pub record AreChecks (m : Code) (sets : List ℕ) : Type 0 where
  pub listed : sets ≡ checks_of m
  pub few : length sets ≤ most_symbols
  pub symbols : All (λ check. check < 2 ^ length m.rows) sets

-- bytes `at` to `at + len` of each symbol of a stripe
unfoldable pub parts_of : ℕ → ℕ → ℕ → ℕ → List ℕ → List (List ℕ)
parts_of count size at len bytes =
    map (λ i. take len (drop (i * size + at) bytes)) (range_with_len 0 count)
