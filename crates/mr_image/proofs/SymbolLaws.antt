-- The XOR of symbols: what a list of bytes is that is a sum at each place, and the symbols of codewords.
use Rattle.std.proofs.Common.{◌≡◌, ℕ, suc, ◌+◌, ◌/◌, ◌%◌, ◌<◌, ◌==◌, Bool, true, false, cond, List, [], ◌∷◌, map, length, get_or, bit_xor, refl, sym, ap, ap₂, ◌∙◌, arith, zero-add, eqb-true}
use Rattle.std.specs.Int.{bit_at}
use Rattle.std.proofs.Math.ListN.{get_or-map}
use Rattle.std.proofs.lemmas.Nat.Bits.{bit_at-suc, bit_at_lowest}
use Rattle.std.proofs.lemmas.List.FromFn.{length-map-range_with_len, get_or-map-range_with_len}
use Rattle.mr_model.specs.Sets.{sum}
use Rattle.mr_model.specs.Code.{Code, row, is_equation}
use Rattle.mr_model.specs.Codewords.{codeword}
use Rattle.mr_model.proofs.Lists.{map-range-same}
use Rattle.mr_model.proofs.SumLaws.{pick, sum-none, sum-xor}
use Rattle.mr_model.proofs.Apart.{pick-none}
use Rattle.mr_model.proofs.Kept.{true-is_equation}
use Rattle.mr_image.specs.Images.{xor_symbols}

-- ---- sums of numbers

pick-same : (d u v : ℕ) → (d ≡ 1 → u ≡ v) → pick d u ≡ pick d v
pick-same d u v h = go (d == 1) refl
  where
    go : (b : Bool) → (d == 1) ≡ b → cond b u 0 ≡ cond b v 0
    go true e = h (eqb-true d 1 e)
    go false e = refl

-- what stands behind the first item, at the members of x
later : (x : ℕ) (P : ℕ → Type 0) → ((i : ℕ) → bit_at x i ≡ 1 → P i) → (i : ℕ) → bit_at (x / 2) i ≡ 1 → P (suc i)
later x P h i b = h (suc i) (bit_at-suc x i ∙ b)

first : (x u v : ℕ) → (bit_at x 0 ≡ 1 → u ≡ v) → pick (x % 2) u ≡ pick (x % 2) v
first x u v h = pick-same (x % 2) u v (λ d. h (bit_at_lowest x ∙ d))

-- lists that agree at the members of x have one sum over x; a missing item is 0
pub sum-same : (xs ys : List ℕ) (x : ℕ) → ((i : ℕ) → bit_at x i ≡ 1 → get_or xs i 0 ≡ get_or ys i 0) → sum xs x ≡ sum ys x
unfolding sum
sum-same [] [] x h = refl
sum-same [] (v ∷ ys) x h =
    ap (λ d. bit_xor d 0) (sym (pick-none (x % 2)) ∙ first x 0 v (h 0))
    ∙ ap (bit_xor (pick (x % 2) v)) (sum-same [] ys (x / 2) (later x (λ i. 0 ≡ get_or (v ∷ ys) i 0) h))
sum-same (u ∷ xs) [] x h =
    ap (bit_xor (pick (x % 2) u)) (sum-same xs [] (x / 2) (later x (λ i. get_or (u ∷ xs) i 0 ≡ 0) h))
    ∙ ap (λ d. bit_xor d 0) (first x u 0 (h 0) ∙ pick-none (x % 2))
sum-same (u ∷ xs) (v ∷ ys) x h =
    ap₂ bit_xor (first x u v (h 0)) (sum-same xs ys (x / 2) (later x (λ i. get_or (u ∷ xs) i 0 ≡ get_or (v ∷ ys) i 0) h))

-- the sum of sums is the sum over the sum of the sets
pub sum-sums : (words rows : List ℕ) (x : ℕ) → sum (map (sum words) rows) x ≡ sum words (sum rows x)
unfolding sum
sum-sums words [] x = sym (sum-none words)
sum-sums words (r ∷ rows) x =
    ap₂ bit_xor (picked (x % 2 == 1)) (sum-sums words rows (x / 2))
    ∙ sym (sum-xor words (pick (x % 2) r) (sum rows (x / 2)))
  where
    picked : (b : Bool) → cond b (sum words r) 0 ≡ sum words (cond b r 0)
    picked true = refl
    picked false = sym (sum-none words)

-- ---- symbols

-- the bytes of the symbols at a place
abbrev pub bytes_at : ℕ → List (List ℕ) → List ℕ
bytes_at place symbols = map (λ bytes. get_or bytes place 0) symbols

pub length-xor_symbols : (size : ℕ) (symbols : List (List ℕ)) (x : ℕ) → length (xor_symbols size symbols x) ≡ size
unfolding xor_symbols
length-xor_symbols size symbols x = length-map-range_with_len (λ place. sum (bytes_at place symbols) x) 0 size

pub xor_symbols-at : (size : ℕ) (symbols : List (List ℕ)) (x place : ℕ) → place < size → get_or (xor_symbols size symbols x) place 0 ≡ sum (bytes_at place symbols) x
unfolding xor_symbols
xor_symbols-at size symbols x place h = get_or-map-range_with_len (λ p. sum (bytes_at p symbols) x) 0 size place place 0 h (zero-add place)

-- a symbol of a codeword is the XOR of the data at the columns of its row
pub codeword-is : (m : Code) (size : ℕ) (columns : List (List ℕ)) (i : ℕ) → codeword m size columns i ≡ xor_symbols size columns (row m i)
unfolding codeword xor_symbols
codeword-is m size columns i = refl

pub byte-of : (symbols : List (List ℕ)) (place i : ℕ) → get_or (bytes_at place symbols) i 0 ≡ get_or (get_or symbols i []) place 0
byte-of symbols place i = get_or-map (λ bytes. get_or bytes place 0) symbols i []

sum-of : (words rows : List ℕ) (i : ℕ) → get_or (map (sum words) rows) i 0 ≡ sum words (get_or rows i 0)
sum-of words rows i = ap (get_or (map (sum words) rows) i) (sym (sum-none words)) ∙ get_or-map (sum words) rows i 0

-- Where the symbols at the members of an equation of t are those of a codeword, their XOR is symbol t of it.
pub xor_symbols-code : (m : Code) (size : ℕ) (columns symbols : List (List ℕ)) (x t : ℕ) → ((i : ℕ) → bit_at x i ≡ 1 → get_or symbols i [] ≡ codeword m size columns i)
    → is_equation m t x ≡ true → xor_symbols size symbols x ≡ codeword m size columns t
unfolding xor_symbols codeword
xor_symbols-code m size columns symbols x t same equation =
    map-range-same (λ p. sum (bytes_at p symbols) x) (λ p. sum (bytes_at p columns) (row m t)) size 0 0 (λ p h.
    let at : 0 + p < size = omega (arith, h) in
    sum-same (bytes_at (0 + p) symbols) (map (sum (bytes_at (0 + p) columns)) m.rows) x (λ i member.
    byte-of symbols (0 + p) i ∙ ap (λ bytes. get_or bytes (0 + p) 0) (same i member) ∙ xor_symbols-at size columns (row m i) (0 + p) at
    ∙ sym (sum-of (bytes_at (0 + p) columns) m.rows i))
    ∙ sum-sums (bytes_at (0 + p) columns) m.rows x
    ∙ ap (sum (bytes_at (0 + p) columns)) (true-is_equation m t x equation))
