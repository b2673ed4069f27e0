-- The symbols in the bytes of a stripe, and those around one of them.
use Rattle.std.proofs.Common.{◌≡◌, ◌≢◌, ℕ, zero, suc, ◌+◌, ◌-◌, ◌*◌, ◌<◌, ◌≤◌, ⊎_elim, inl, inr, List, [], ◌++◌, take, drop, flat_map, length, get_or, bit_xor, sym, ap, ap₂, subst, ◌∙◌, arith, zero-add, take-add, length-drop, length-take-le, take_all, take_at, drop_at}
use Rattle.std.specs.Int.{bit_at}
use Rattle.std.specs.List.{range_with_len}
use Rattle.std.specs.Simd.Lanes.{zip2}
use Rattle.std.proofs.Math.Nat.{add-mul}
use Rattle.std.proofs.lemmas.Nat.{row_fits}
use Rattle.std.proofs.lemmas.Bool.{cases_lt}
use Rattle.std.proofs.lemmas.List.{drop-drop, drop-take, take-take, drop_all}
use Rattle.std.proofs.lemmas.List.FromFn.{get_or-map-range_with_len}
use borrow.Rule.Slice.PartMut.{put_mid}
use Rattle.mr_model.specs.Sets.{below}
use Rattle.mr_model.proofs.Lists.{map-range-same}
use Rattle.mr_model.proofs.Loops.{IsTurn}
use Rattle.mr_image.specs.Images.{xor_symbols}
use Rattle.mr_image.proofs.Places.{part-here, part-other}
use Rattle.mr_image.proofs.SymbolLaws.{bytes_at, byte-of, sum-same}
use Rattle.mr_image.proofs.XorLaws.{xor_symbols-turn}
use Rattle.mr_encode.specs.Data.{symbols_in}
use Rattle.mr_encode.proofs.ColumnLaws.{place_end}
use Rattle.mr_encode.proofs.FrontLaws.{HasFront, front-all, flat_map-more}
use Rattle.mr_kept.specs.Kept.{symbol_in, with_symbol_at, IsAround, StandsAround}

-- symbols that agree at the members of a set have one XOR
pub xor_symbols-same : (size : ℕ) (xs ys : List (List ℕ)) (x : ℕ) → ((i : ℕ) → bit_at x i ≡ 1 → get_or xs i [] ≡ get_or ys i []) → xor_symbols size xs x ≡ xor_symbols size ys x
unfolding xor_symbols
xor_symbols-same size xs ys x same =
    map-range-same _ _ size 0 0 (λ p low. sum-same (bytes_at (0 + p) xs) (bytes_at (0 + p) ys) x (λ i member.
    byte-of xs (0 + p) i ∙ ap (λ bytes. get_or bytes (0 + p) 0) (same i member) ∙ sym (byte-of ys (0 + p) i)))

pub symbols-at : (size n : ℕ) (bytes : List ℕ) (i : ℕ) → i < n → get_or (symbols_in size n bytes) i [] ≡ symbol_in size bytes i
symbols-at size n bytes i low = get_or-map-range_with_len (λ d. take size (drop (d * size) bytes)) 0 n i i [] low (zero-add i)

-- ---- around a symbol

-- a symbol before symbol `own`
part-low : (size own i w : ℕ) (stripe : List ℕ) → i < own → w ≡ size → take w (drop (i * size) (take (own * size) stripe)) ≡ symbol_in size stripe i
part-low size own i w stripe low w_is =
    let row : i * size + size ≤ own * size = row_fits i size own size low (omega arith) in
    let left : ℕ = own * size - i * size in
    let whole : own * size ≡ i * size + left = omega arith in
    ap (λ n. take w (drop (i * size) (take n stripe))) whole
    ∙ ap (take w) (drop-take (i * size) left stripe)
    ∙ ap (λ n. take n (take left (drop (i * size) stripe))) w_is
    ∙ take-take size left (drop (i * size) stripe) (omega arith)

-- a symbol behind it
part-high : (size own i k w : ℕ) (stripe : List ℕ) → i ≡ own + 1 + k → w ≡ size → take w (drop (k * size) (drop (own * size + size) stripe)) ≡ symbol_in size stripe i
part-high size own i k w stripe i_is w_is =
    let place : own * size + size + k * size ≡ i * size = omega (arith, add-mul own 1 size, add-mul (own + 1) k size, ap (λ n. n * size) i_is) in
    ap (take w) (drop-drop (k * size) (own * size + size) stripe)
    ∙ ap (λ n. take w (drop n stripe)) place
    ∙ ap (λ n. take n (drop (i * size) stripe)) w_is

-- as the code writes their places and their lengths
pub low-symbol : (size own i k w : ℕ) (stripe low : List ℕ) → w ≡ size → k ≡ i → i < own → low ≡ take (own * size) stripe → take w (drop (k * size) low) ≡ symbol_in size stripe i
low-symbol size own i k w stripe low w_is k_is before is = (λ q. take w (drop (k_is q * size) (is q))) ∙ part-low size own i w stripe before w_is

pub high-symbol : (size own i k w : ℕ) (stripe high : List ℕ) → w ≡ size → i ≡ own + 1 + k → high ≡ drop (own * size + size) stripe → take w (drop (k * size) high) ≡ symbol_in size stripe i
high-symbol size own i k w stripe high w_is i_is is = ap (λ b. take w (drop (k * size) b)) is ∙ part-high size own i k w stripe i_is w_is

-- each other symbol of a stripe stands around symbol `own`
pub stands-lengths : (size n own i : ℕ) (low high : List ℕ) → length low ≡ own * size → length low + (size + length high) ≡ n * size → i < n → i ≢ own → StandsAround size own i low high
stands-lengths size n own i low high low_long all i_low differ = record {
  other = differ;
  low = λ before. omega (arith, row_fits i size own size before (omega arith), low_long);
  high = λ behind.
      let k : ℕ = i - own - 1 in
      let i_is : i ≡ own + 1 + k = omega (arith, behind) in
      let row : i * size + size ≤ n * size = row_fits i size n size i_low (omega arith) in
      omega (arith, row, low_long, all, add-mul own 1 size, add-mul (own + 1) k size, ap (λ m. m * size) i_is);
}

pub stands-around : (size n own i : ℕ) (stripe low high : List ℕ) → length stripe ≡ n * size → own < n → i < n → i ≢ own → IsAround size own stripe low high → StandsAround size own i low high
stands-around size n own i stripe low high long own_low i_low differ around =
    let own_end : own * size + size ≤ length stripe = place_end size n (length stripe) own long own_low in
    let low_long : length low ≡ own * size = ap length around.low ∙ length-take-le (own * size) stripe (omega (arith, own_end)) in
    let all : length low + (size + length high) ≡ n * size = omega (arith, low_long, ap length around.high, length-drop (own * size + size) stripe, own_end, long) in
    stands-lengths size n own i low high low_long all i_low differ

-- a payload of k symbols stands before a symbol k
pub payload-around : (size k : ℕ) (payload : List ℕ) → length payload ≡ k * size → IsAround size k payload payload []
payload-around size k payload long = record {
  low = sym (take_all (k * size) payload (omega (arith, long)));
  high = sym (drop_all (k * size + size) payload (omega (arith, long)));
}

pub payload-stands : (size k i : ℕ) (payload : List ℕ) → length payload ≡ k * size → i < k → StandsAround size k i payload []
payload-stands size k i payload long low = record {
  other = λ e. omega (arith, e, low);
  low = λ before. place_end size k (length payload) i long low;
  high = λ behind. absurd (omega (arith, behind, low));
}

-- one symbol more
pub around-turn : (size n : ℕ) (stripe before piece after : List ℕ) (set m t rest : ℕ) → IsTurn set m t rest → t < n → length piece ≡ size → piece ≡ symbol_in size stripe t
    → before ≡ xor_symbols size (symbols_in size n stripe) (below m set) → after ≡ zip2 bit_xor before piece
    → after ≡ xor_symbols size (symbols_in size n stripe) (below (t + 1) set)
around-turn size n stripe before piece after set m t rest turn low long is was made =
    made
    ∙ (λ j. zip2 bit_xor (was j) ((is ∙ sym (symbols-at size n stripe t low)) j))
    ∙ sym (xor_symbols-turn size (symbols_in size n stripe) set m t rest turn (ap length (symbols-at size n stripe t low ∙ sym is) ∙ long))

-- a stripe without one of its symbols, as the code writes it
module _ (size n : ℕ) (stripe : List ℕ) (long : length stripe ≡ n * size) (own at width : ℕ) (low : own < n) (at_is : at ≡ own) (width_is : width ≡ size) where
  symbol-ends : at * width + width ≤ length stripe
  symbol-ends = subst (λ k. k * width + width ≤ length stripe) (sym at_is) (subst (λ k. own * k + k ≤ length stripe) (sym width_is) (place_end size n (length stripe) own long low))

  pub is_around : IsAround size own stripe (take (at * width) stripe) (take (length stripe - (at * width + width)) (drop (at * width + width) stripe))
  is_around = record {
    low = λ j. take (at_is j * width_is j) stripe;
    high = take_all (length stripe - (at * width + width)) (drop (at * width + width) stripe) (omega (arith, length-drop (at * width + width) stripe))
        ∙ (λ j. drop (at_is j * width_is j + width_is j) stripe);
  }

-- ---- a symbol is put

with_symbol_at-put : (size i : ℕ) (bytes y : List ℕ) → with_symbol_at size i bytes y ≡ put_mid (i * size) size bytes y
with_symbol_at-put size i bytes y = ap (λ rest. take (i * size) bytes ++ (y ++ rest)) (sym (drop-drop size (i * size) bytes))

pub symbol-here : (size i : ℕ) (bytes y : List ℕ) → i * size ≤ length bytes → length y ≡ size → symbol_in size (with_symbol_at size i bytes y) i ≡ y
symbol-here size i bytes y low long = ap (λ b. symbol_in size b i) (with_symbol_at-put size i bytes y) ∙ part-here (i * size) size bytes y low long

pub symbol-other : (size i j : ℕ) (bytes y : List ℕ) → i * size ≤ length bytes → length y ≡ size → j ≢ i → symbol_in size (with_symbol_at size i bytes y) j ≡ symbol_in size bytes j
symbol-other size i j bytes y low long differ =
    ap (λ b. symbol_in size b j) (with_symbol_at-put size i bytes y)
    ∙ part-other (i * size) size (j * size) size bytes y low long (⊎_elim
    (λ (before : j < i). inl (row_fits j size i size before (omega arith)))
    (λ (from : i ≤ j). inr (row_fits i size j size (omega (arith, from, differ)) (omega arith)))
    (cases_lt j i))

-- ---- all symbols

fronts : (f : ℕ → List ℕ) (size n k : ℕ) (bytes : List ℕ) → ((i : ℕ) → i < n → symbol_in size bytes i ≡ f i) → k ≤ n → HasFront f size 0 k bytes
fronts f size n zero bytes same low =
    let none : 0 * size ≡ 0 = omega arith in
    ap (λ m. take m bytes) none
fronts f size n (suc k) bytes same low =
    let more : suc k * size ≡ k * size + size = omega (arith, add-mul k 1 size) in
    let one : suc k ≡ k + 1 = omega arith in
    ap (λ m. take m bytes) more
    ∙ take-add (k * size) size bytes
    ∙ ap₂ (λ a b. a ++ b) (fronts f size n k bytes same (omega (arith, low))) (same k (omega (arith, low)))
    ∙ sym (flat_map-more f 0 k ∙ ap (λ m. flat_map f (range_with_len 0 k) ++ f m) (zero-add k))
    ∙ ap (λ m. flat_map f (range_with_len 0 m)) (sym one)

-- bytes whose symbols are known
pub from-symbols : (f : ℕ → List ℕ) (size n : ℕ) (bytes : List ℕ) → length bytes ≡ n * size → ((i : ℕ) → i < n → symbol_in size bytes i ≡ f i) → bytes ≡ flat_map f (range_with_len 0 n)
from-symbols f size n bytes long same = front-all f size 0 n bytes (fronts f size n n bytes same (omega arith)) long

-- ---- symbols that were put one after another

pub range-slot : (f : ℕ → List ℕ) (size n a i : ℕ) → ((k : ℕ) → k < n → length (f (a + k)) ≡ size) → i < n → symbol_in size (flat_map f (range_with_len a n)) i ≡ f (a + i)
range-slot f size zero a i sizes low = absurd (omega arith)
range-slot f size (suc n) a zero sizes low =
    let none : 0 * size ≡ 0 = omega arith in
    let first : a + 0 ≡ a = omega arith in
    ap (λ k. take size (drop k (f a ++ flat_map f (range_with_len (a + 1) n)))) none
    ∙ take_at (f a) (flat_map f (range_with_len (a + 1) n)) size (ap (λ k. length (f k)) (sym first) ∙ sizes 0 (omega arith))
    ∙ ap f (sym first)
range-slot f size (suc n) a (suc i) sizes low =
    let first : a + 0 ≡ a = omega arith in
    let more : suc i * size ≡ size + i * size = omega (arith, add-mul i 1 size) in
    let on : a + 1 + i ≡ a + suc i = omega arith in
    ap (λ k. take size (drop k (f a ++ flat_map f (range_with_len (a + 1) n)))) more
    ∙ ap (take size) (sym (drop-drop (i * size) size (f a ++ flat_map f (range_with_len (a + 1) n))))
    ∙ ap (λ xs. take size (drop (i * size) xs)) (drop_at (f a) (flat_map f (range_with_len (a + 1) n)) size (ap (λ k. length (f k)) (sym first) ∙ sizes 0 (omega arith)))
    ∙ range-slot f size n (a + 1) i (λ k below. let e : a + 1 + k ≡ a + suc k = omega arith in ap (λ m. length (f m)) e ∙ sizes (suc k) (omega (arith, below))) (omega (arith, low))
    ∙ ap f on
