-- The symbols in a run of bytes, and their XOR as a loop over the columns of a row makes it.
use Rattle.std.proofs.Common.{◌≡◌, ℕ, suc, ◌+◌, ◌-◌, ◌*◌, ◌^◌, ◌<◌, ◌≤◌, ⊎_elim, List, [], take, drop, length, get_or, bit_xor, refl, sym, ap, ap₂, subst, ◌∙◌, arith, zero-add, length-take, length-drop}
use Rattle.std.specs.Simd.Lanes.{zip2}
use Rattle.std.proofs.Math.Nat.{suc-mul, add-mul, mul_assoc, mul-le-mul_right}
use Rattle.std.proofs.lemmas.Bool.{cases_eq}
use Rattle.std.proofs.lemmas.List.{drop-drop, drop-take, take-take}
use Rattle.std.proofs.lemmas.List.Elements.{All-get_or}
use Rattle.std.proofs.lemmas.List.FromFn.{get_or-map-range_with_len}
use Rattle.mr_model.specs.Sets.{below}
use Rattle.mr_model.specs.Members.{TakesLeast}
use Rattle.mr_model.specs.Code.{Code, row}
use Rattle.mr_model.proofs.SetLaws.{below-zero, member-below}
use Rattle.mr_model.proofs.SumLaws.{zero-xor}
use Rattle.mr_model.proofs.Lists.{map-range-same}
use Rattle.mr_model.proofs.Loops.{IsRest, IsTurn, IsRest-all, IsRest-turn}
use Rattle.mr_bits.specs.Matrices.{IsMatrixCode}
use Rattle.mr_model.specs.Codewords.{codeword}
use Rattle.mr_image.specs.Images.{Layout, xor_symbols}
use Rattle.mr_image.proofs.SymbolLaws.{codeword-is}
use Rattle.mr_image.proofs.XorLaws.{xor_symbols-single, xor_symbols-turn}
use Rattle.mr_encode.specs.Data.{IsSystematic, symbols_in, columns_of}

-- place c of k places of `size` bytes ends within them
pub place_end : (size k len c : ℕ) → len ≡ k * size → c < k → c * size + size ≤ len
place_end size k len c long low =
    let next : suc c ≤ k = omega arith in
    omega (arith, suc-mul c size, mul-le-mul_right size next)

-- a row has columns of the code alone
pub row_columns : (m : Code) (i : ℕ) → IsMatrixCode m → i < length m.rows → row m i < 2 ^ m.columns
row_columns m i h low = All-get_or (λ r. r < 2 ^ m.columns) m.rows i 0 low h.columns

-- the turn of a loop that takes the first member
pub first-turn : (set s t rest : ℕ) → s ≡ set → TakesLeast s t rest → IsTurn set 0 t rest
first-turn set s t rest e takes = IsRest-turn set 0 s t rest (subst (IsRest set 0) (sym e) (IsRest-all set)) takes

-- the symbols of data that stand one after another
symbols_in-at : (size k : ℕ) (columns : List ℕ) (c : ℕ) → c < k → get_or (symbols_in size k columns) c [] ≡ take size (drop (c * size) columns)
symbols_in-at size k columns c low = get_or-map-range_with_len (λ d. take size (drop (d * size) columns)) 0 k c c [] low (zero-add c)

symbols_in-size : (size k : ℕ) (columns : List ℕ) → length columns ≡ k * size → (c : ℕ) → c < k → length (take size (drop (c * size) columns)) ≡ size
symbols_in-size size k columns long c low = omega (arith, length-take size (drop (c * size) columns), length-drop (c * size) columns, place_end size k (length columns) c long low)

-- one for each column of a matrix
module _ (m : Code) (size : ℕ) (columns : List ℕ) (matrix : IsMatrixCode m) (long : length columns ≡ m.columns * size) where
  -- a turn of a loop over the columns of row i
  module _ (i : ℕ) (here : i < length m.rows) (n t rest : ℕ) (turn : IsTurn (row m i) n t rest) where
    turn-low : t < m.columns
    turn-low = member-below m.columns (row m i) t (row_columns m i matrix here) turn.member

    pub turn-end : t * size + size ≤ length columns
    turn-end = place_end size m.columns (length columns) t long turn-low

    pub turn-size : (part : List ℕ) → part ≡ take size (drop (t * size) columns) → length part ≡ size
    turn-size part is = ap length is ∙ symbols_in-size size m.columns columns long t turn-low

    -- the first column
    pub turn-first : n ≡ 0 → (part : List ℕ) → part ≡ take size (drop (t * size) columns)
        → part ≡ xor_symbols size (symbols_in size m.columns columns) (below (t + 1) (row m i))
    turn-first none part is =
        let symbol : get_or (symbols_in size m.columns columns) t [] ≡ part = symbols_in-at size m.columns columns t turn-low ∙ sym is in
        let only : below (t + 1) (row m i) ≡ 2 ^ t =
        turn.joined ∙ ap (λ x. bit_xor x (2 ^ t)) (ap (λ k. below k (row m i)) none ∙ below-zero (row m i)) ∙ zero-xor (2 ^ t) in
        sym symbol
        ∙ sym (xor_symbols-single size (symbols_in size m.columns columns) t (ap length (symbols_in-at size m.columns columns t turn-low) ∙ symbols_in-size size m.columns columns long t turn-low))
        ∙ ap (xor_symbols size (symbols_in size m.columns columns)) (sym only)

    -- one column more
    pub turn-xor : (part now after : List ℕ) → part ≡ take size (drop (t * size) columns)
        → now ≡ xor_symbols size (symbols_in size m.columns columns) (below n (row m i)) → after ≡ zip2 bit_xor now part
        → after ≡ xor_symbols size (symbols_in size m.columns columns) (below (t + 1) (row m i))
    turn-xor part now after is before made =
        let symbol : get_or (symbols_in size m.columns columns) t [] ≡ take size (drop (t * size) columns) = symbols_in-at size m.columns columns t turn-low in
        made
        ∙ ap₂ (zip2 bit_xor) before (is ∙ sym symbol)
        ∙ sym (xor_symbols-turn size (symbols_in size m.columns columns) (row m i) n t rest turn (ap length symbol ∙ symbols_in-size size m.columns columns long t turn-low))

-- where the symbols of data stand first, each is the symbol of its column
pub codeword-first : (m : Code) (size : ℕ) (columns : List ℕ) → length columns ≡ m.columns * size → IsSystematic m → (c : ℕ) → c < m.columns
    → codeword m size (symbols_in size m.columns columns) c ≡ take size (drop (c * size) columns)
codeword-first m size columns long first c low =
    let symbol : get_or (symbols_in size m.columns columns) c [] ≡ take size (drop (c * size) columns) = symbols_in-at size m.columns columns c low in
    codeword-is m size (symbols_in size m.columns columns) c
    ∙ ap (xor_symbols size (symbols_in size m.columns columns)) (first.rows c low)
    ∙ xor_symbols-single size (symbols_in size m.columns columns) c (ap length symbol ∙ symbols_in-size size m.columns columns long c low)
    ∙ symbol

-- one row more is that of a single column
pub rows-next : (m : Code) (n : ℕ) → ((c : ℕ) → c < n → row m c ≡ 2 ^ c) → row m n ≡ 2 ^ n → (c : ℕ) → c < n + 1 → row m c ≡ 2 ^ c
rows-next m n before here c low =
    ⊎_elim (λ e. subst (λ d. row m d ≡ 2 ^ d) (sym e) here) (λ apart. before c (omega arith)) (cases_eq c n)

-- the symbols of data of stripe s are those in its part of the data file
pub columns_of-in : (l : Layout) (k : ℕ) (bytes : List ℕ) (s : ℕ)
    → columns_of l k bytes s ≡ symbols_in l.symbol_bytes k (take (k * l.symbol_bytes) (drop (s * (k * l.symbol_bytes)) bytes))
columns_of-in l k bytes s =
    let size : ℕ = l.symbol_bytes in
    let from : List ℕ = drop (s * (k * size)) bytes in
    map-range-same (λ c. take size (drop ((s * k + c) * size) bytes)) (λ c. take size (drop (c * size) (take (k * size) from))) k 0 0 (λ i low.
    let c : ℕ = 0 + i in
    let fits : c * size + size ≤ k * size = place_end size k (k * size) c refl (omega (arith, low)) in
    let left : ℕ = k * size - c * size in
    let whole : k * size ≡ c * size + left = omega arith in
    let enough : size ≤ left = omega arith in
    let at : (s * k + c) * size ≡ s * (k * size) + c * size = omega (arith, add-mul (s * k) c size, mul_assoc s k size) in
    ap (λ n. take size (drop n bytes)) at
    ∙ ap (take size) (sym (drop-drop (c * size) (s * (k * size)) bytes))
    ∙ sym (take-take size left (drop (c * size) from) enough)
    ∙ ap (take size) (sym (drop-take (c * size) left from))
    ∙ ap (λ n. take size (drop (c * size) (take n from))) (sym whole))
