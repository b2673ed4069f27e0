-- A stripe is a codeword exactly where each check's symbols XOR to zero bytes.
use Rattle.std.proofs.Common.{◌≡◌, ℕ, ◌+◌, ◌-◌, ◌^◌, ◌<◌, ◌≤◌, List, [], map, length, get_or, replicate, All, ⊎_elim, sym, ap, ◌∙◌, arith}
use Rattle.std.specs.Int.{bit_at}
use Rattle.std.specs.List.{range_with_len}
use Rattle.std.proofs.lemmas.Bool.{cases_lt}
use Rattle.std.proofs.lemmas.Nat.Bits.{bit_at-lt, bit_at_ones, bit_at_ones_above}
use Rattle.std.proofs.lemmas.List.{length-map, get_or-map}
use Rattle.std.proofs.Math.ListN.{get_or-map as get_or-map_default}
use Rattle.std.proofs.lemmas.List.Elements.{All-map}
use Rattle.mr_model.specs.Sets.{sum}
use Rattle.mr_model.specs.Code.{Code, row, row_sum, kept, kept_equation, dropped, generator}
use Rattle.mr_model.specs.Codewords.{IsData, codeword}
use Rattle.mr_model.proofs.Lists.{map-range-same}
use Rattle.mr_model.proofs.SetLaws.{member-below, bit_at_cases, bit_at_minus}
use Rattle.mr_model.proofs.SumLaws.{xor-same, sum-none, sum-xor, sum-single, sum-lt}
use Rattle.mr_model.proofs.Kept.{is_equation-true, kept-within, kept_equation-within, row_sum-kept_equation}
use Rattle.mr_model.proofs.Nulls.{dropped-has_equation}
use Rattle.mr_scrub.proofs.Duals.{Dual, kept-dual}
use Rattle.mr_image.specs.Images.{xor_symbols}
use Rattle.mr_image.proofs.SymbolLaws.{sum-same, sum-sums, bytes_at, byte-of, length-xor_symbols, xor_symbols-at, xor_symbols-code, codeword-is}
use Rattle.mr_image.proofs.XorLaws.{xor_symbols-is, xor_symbols-none, xor_symbols-single}
use Rattle.mr_scrub.specs.Stripes.{IsCodeword}

-- ---- XORs of XORs

-- symbols that are XORs of words: the XOR of some of them is the XOR of the words at the sum of their rows
pub xor_symbols-rows : (size : ℕ) (words symbols : List (List ℕ)) (rows : List ℕ) (x : ℕ)
    → ((i : ℕ) → bit_at x i ≡ 1 → get_or symbols i [] ≡ xor_symbols size words (get_or rows i 0))
    → xor_symbols size symbols x ≡ xor_symbols size words (sum rows x)
unfolding xor_symbols
xor_symbols-rows size words symbols rows x same =
    map-range-same (λ p. sum (bytes_at p symbols) x) (λ p. sum (bytes_at p words) (sum rows x)) size 0 0 (λ p h.
    let at : 0 + p < size = omega (arith, h) in
    sum-same (bytes_at (0 + p) symbols) (map (sum (bytes_at (0 + p) words)) rows) x (λ i member.
    byte-of symbols (0 + p) i ∙ ap (λ bytes. get_or bytes (0 + p) 0) (same i member) ∙ xor_symbols-at size words (get_or rows i 0) (0 + p) at
    ∙ sym (sum-of (bytes_at (0 + p) words) i))
    ∙ sum-sums (bytes_at (0 + p) words) rows x)
  where
    sum-of : (ws : List ℕ) (i : ℕ) → get_or (map (sum ws) rows) i 0 ≡ sum ws (get_or rows i 0)
    sum-of ws i = ap (get_or (map (sum ws) rows) i) (sym (none ws)) ∙ get_or-map_default (sum ws) rows i 0
      where
        none : (ws : List ℕ) → sum ws 0 ≡ 0
        none ws = sum-none ws

-- ---- symbols of data

-- symbols of one codeword XOR to zero bytes over a set of sum zero
pub codeword-zero : (m : Code) (size : ℕ) (columns symbols : List (List ℕ)) (x : ℕ)
    → ((i : ℕ) → bit_at x i ≡ 1 → get_or symbols i [] ≡ codeword m size columns i) → row_sum m x ≡ 0 → xor_symbols size symbols x ≡ replicate size 0
codeword-zero m size columns symbols x same zero_sum =
    xor_symbols-rows size columns symbols m.rows x (λ i member. same i member ∙ codeword-is m size columns i)
    ∙ ap (xor_symbols size columns) zero_sum ∙ xor_symbols-none size columns

-- symbols of one size, each of bytes
pub record AreSymbols (count size : ℕ) (symbols : List (List ℕ)) : Type 0 where
  pub sizes : (i : ℕ) → i < count → length (get_or symbols i []) ≡ size
  pub bytes : All (λ bytes. (p : ℕ) → get_or bytes p 0 < 256) symbols

-- all symbols
abbrev pub all_of : Code → ℕ
all_of m = 2 ^ length m.rows - 1

module _ (m : Code) (size : ℕ) (symbols : List (List ℕ)) (in_columns : (i : ℕ) → row m i < 2 ^ m.columns) (are : AreSymbols (length m.rows) size symbols)
    (zeros : (f : ℕ) → bit_at (dropped m (all_of m)) f ≡ 1 → (p : ℕ) → p < size → sum (bytes_at p symbols) (generator m (all_of m) f) ≡ 0) where
  dual : Dual m (kept m (all_of m))
  dual = kept-dual m (all_of m) in_columns

  -- the data: for each column the XOR of the kept symbols that the dual names
  columns_of : List (List ℕ)
  columns_of = map (xor_symbols size symbols) dual.sets

  bytes-small : (x p : ℕ) → sum (bytes_at p symbols) x < 2 ^ 8
  bytes-small x p = sum-lt 8 (bytes_at p symbols) x (All-map (λ b. b < 2 ^ 8) (λ bytes. get_or bytes p 0) symbols (λ k d low. omega (arith, are.bytes k d low p)))

  columns-data : IsData m size columns_of
  unfolding columns_of xor_symbols
  columns-data = record {
    count = length-map dual.sets (xor_symbols size symbols) ∙ dual.count;
    sizes = All-map (λ bytes. length bytes ≡ size) (xor_symbols size symbols) dual.sets (λ k d low. length-xor_symbols size symbols (get_or dual.sets k d));
    bytes = All-map (λ bytes. All (λ b. b < 256) bytes) (xor_symbols size symbols) dual.sets
        (λ k d low. All-map (λ b. b < 256) (λ p. sum (bytes_at p symbols) (get_or dual.sets k d)) (range_with_len 0 size)
        (λ j e here. omega (arith, bytes-small (get_or dual.sets k d) (get_or (range_with_len 0 size) j e))));
  }

  -- a kept symbol is that of the codeword
  kept-same : (j : ℕ) → bit_at (kept m (all_of m)) j ≡ 1 → j < length m.rows → get_or symbols j [] ≡ codeword m size columns_of j
  unfolding columns_of
  kept-same j member low = sym (
      codeword-is m size columns_of j
      ∙ xor_symbols-rows size symbols columns_of dual.sets (row m j) (λ c here.
      get_or-map (xor_symbols size symbols) dual.sets c 0 []
      (let few : c < m.columns = member-below m.columns (row m j) c (in_columns j) here in omega (arith, few, dual.count)))
      ∙ ap (xor_symbols size symbols) (dual.tells j member)
      ∙ xor_symbols-single size symbols j (are.sizes j low))

  -- another symbol is the XOR of its equation within the kept ones
  dropped-same : (j : ℕ) → bit_at (dropped m (all_of m)) j ≡ 1 → j < length m.rows → get_or symbols j [] ≡ codeword m size columns_of j
  dropped-same j member low =
      sym (xor_symbols-is size symbols (kept_equation m (all_of m) j) (get_or symbols j []) (are.sizes j low) (λ p here.
      xor-same (sum (bytes_at p symbols) (kept_equation m (all_of m) j)) (sum (bytes_at p symbols) (2 ^ j))
      (sym (sum-xor (bytes_at p symbols) (kept_equation m (all_of m) j) (2 ^ j)) ∙ zeros j member p here)
      ∙ sum-single (bytes_at p symbols) j ∙ byte-of symbols p j))
      ∙ xor_symbols-code m size columns_of symbols (kept_equation m (all_of m) j) j (λ i inside.
      let there : bit_at (kept m (all_of m)) i ≡ 1 = omega (arith, inside, kept_equation-within m (all_of m) j i, bit_at_max (kept m (all_of m)) i) in
      kept-same i there (kept-low i there))
      (is_equation-true m j (kept_equation m (all_of m) j) (row_sum-kept_equation m (all_of m) j (dropped-has_equation m (all_of m) j member)))
    where
      bit_at_max : (x i : ℕ) → bit_at x i < 2
      bit_at_max x i = bit_at-lt x i

      kept-low : (i : ℕ) → bit_at (kept m (all_of m)) i ≡ 1 → i < length m.rows
      kept-low i there = ⊎_elim (λ (low : i < length m.rows). low)
          (λ (high : length m.rows ≤ i). absurd (omega (arith, there, kept-within m (all_of m) i, bit_at_ones_above (length m.rows) i high)))
          (cases_lt i (length m.rows))

  pub zeros-codeword : IsCodeword m size symbols
  zeros-codeword = record {
    columns = columns_of;
    are_data = columns-data;
    same = λ i low. ⊎_elim
        (λ there. kept-same i there low)
        (λ out. dropped-same i (omega (arith, out, bit_at_minus (all_of m) (kept m (all_of m)) i, bit_at_ones (length m.rows) i low)) low)
        (bit_at_cases (kept m (all_of m)) i);
  }
