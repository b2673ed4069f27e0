-- A stripe that is filled symbol after symbol, and one in which the symbols of data stand first.
use Rattle.std.proofs.Common.{◌≡◌, ℕ, zero, suc, ◌+◌, ◌-◌, ◌*◌, ◌<◌, ◌≤◌, List, ◌++◌, Option, Some, None, IfSome, take, drop, flat_map, length, sym, ap, ap₂, ◌∙◌, arith, length-take, length-drop, length-append, zero-mul, zero-add}
use Rattle.std.specs.List.{range_with_len}
use Rattle.std.proofs.Math.Nat.{suc-mul}
use Rattle.std.proofs.Math.Seq.{take-add}
use borrow.Rule.Slice.PartMut.{put_mid}
use Rattle.mr_model.specs.Code.{Code, row}
use Rattle.mr_model.specs.Codewords.{codeword}
use Rattle.mr_image.proofs.SymbolLaws.{codeword-is, length-xor_symbols}
use Rattle.mr_encode.specs.Data.{IsSystematic, symbols_in}
use Rattle.mr_encode.proofs.ColumnLaws.{place_end, codeword-first}
use Rattle.mr_encode.proofs.FrontLaws.{HasFront, front-write, front-all, flat_map-more, flat_map-split}

-- the codeword of symbols of data that stand one after another
abbrev pub symbols_of : Code → ℕ → List ℕ → ℕ → List ℕ
symbols_of m size columns = codeword m size (symbols_in size m.columns columns)

length-codeword : (m : Code) (size : ℕ) (columns : List (List ℕ)) (i : ℕ) → length (codeword m size columns i) ≡ size
length-codeword m size columns i = ap length (codeword-is m size columns i) ∙ length-xor_symbols size columns (row m i)

length-flat_map : (f : ℕ → List ℕ) (size a n : ℕ) → ((i : ℕ) → length (f i) ≡ size) → length (flat_map f (range_with_len a n)) ≡ n * size
length-flat_map f size a zero sizes = sym (zero-mul size)
length-flat_map f size a (suc n) sizes =
    length-append (f a) (flat_map f (range_with_len (a + 1) n)) ∙ omega (arith, sizes a, length-flat_map f size (a + 1) n sizes, suc-mul n size)

pub length-codewords : (m : Code) (size : ℕ) (columns : List (List ℕ)) (n : ℕ) → length (flat_map (codeword m size columns) (range_with_len 0 n)) ≡ n * size
length-codewords m size columns n = length-flat_map (codeword m size columns) size 0 n (length-codeword m size columns)

pub length-part : (size count at width : ℕ) (bytes : List ℕ) → length bytes ≡ count * size → at < count → width ≡ size → length (take width (drop (at * size) bytes)) ≡ size
length-part size count at width bytes long low w =
    omega (arith, length-take width (drop (at * size) bytes), length-drop (at * size) bytes, place_end size count (length bytes) at long low)

-- one symbol more, of those from number a on
pub stripe-turn : (m : Code) (size : ℕ) (columns : List ℕ) (a n at width count : ℕ) (symbols piece : List ℕ) → length symbols ≡ count * size → n < count → at ≡ n → width ≡ size
    → HasFront (symbols_of m size columns) size a n symbols → piece ≡ symbols_of m (length (take width (drop (at * size) symbols))) columns (a + n)
    → HasFront (symbols_of m size columns) size a (n + 1) (put_mid (at * size) width symbols piece)
stripe-turn m size columns a n at width count symbols piece long low e w before made =
    let part : length (take width (drop (at * size) symbols)) ≡ size = length-part size count at width symbols long (omega arith) w in
    let is : piece ≡ symbols_of m size columns (a + n) = made ∙ ap (λ k. symbols_of m k columns (a + n)) part in
    let room : n * size ≤ length symbols = omega (arith, place_end size count (length symbols) n long low) in
    front-write (symbols_of m size columns) size a n at width symbols piece before e room
    (ap length is ∙ length-codeword m size (symbols_in size m.columns columns) (a + n)) is

-- the symbols of data are the first of the codeword, where they stand first
module _ (m : Code) (size : ℕ) (columns : List ℕ) (first : IsSystematic m) (long : length columns ≡ m.columns * size) where
  data-front : (n : ℕ) → n ≤ m.columns → HasFront (symbols_of m size columns) size 0 n columns
  data-front zero low = ap (λ k. take k columns) (zero-mul size)
  data-front (suc n) low =
      let here : n < m.columns = omega arith in
      let end : suc n * size ≡ n * size + size = omega (arith, suc-mul n size) in
      let last : suc n ≡ n + 1 = omega arith in
      ap (λ k. take k columns) end
      ∙ take-add (n * size) size columns
      ∙ ap₂ (λ xs ys. xs ++ ys) (data-front n (omega arith)) (sym (codeword-first m size columns long first n here) ∙ ap (symbols_of m size columns) (sym (zero-add n)))
      ∙ sym (flat_map-more (symbols_of m size columns) 0 n)
      ∙ ap (λ k. flat_map (symbols_of m size columns) (range_with_len 0 k)) (sym last)

  -- so with the symbols behind them they are the whole stripe
  pub stripe-whole : (stripe others : List ℕ) → stripe ≡ columns ++ others
      → others ≡ flat_map (symbols_of m size columns) (range_with_len m.columns (length m.rows - m.columns))
      → stripe ≡ flat_map (symbols_of m size columns) (range_with_len 0 (length m.rows))
  stripe-whole stripe others e made =
      let all : m.columns + (length m.rows - m.columns) ≡ length m.rows = omega (arith, first.few) in
      e
      ∙ ap₂ (λ xs ys. xs ++ ys) (front-all (symbols_of m size columns) size 0 m.columns columns (data-front m.columns (omega arith)) long)
      (made ∙ ap (λ b. flat_map (symbols_of m size columns) (range_with_len b (length m.rows - m.columns))) (sym (zero-add m.columns)))
      ∙ sym (flat_map-split (symbols_of m size columns) 0 m.columns (length m.rows - m.columns))
      ∙ ap (λ k. flat_map (symbols_of m size columns) (range_with_len 0 k)) all

-- they are read straight to their places
pub stripe-read : (m : Code) (size : ℕ) → IsSystematic m → (number : ℕ) (columns stripe others : List ℕ) (told : Option (List ℕ)) (len at count : ℕ)
    → IfSome told (λ bytes. columns ≡ take len (drop at bytes)) → len ≡ m.columns * size → at ≡ number * (m.columns * size) → length columns ≡ m.columns * size
    → stripe ≡ columns ++ others → count ≡ m.columns → others ≡ flat_map (symbols_of m size columns) (range_with_len count (length m.rows - count))
    → IfSome told (λ bytes. stripe ≡ flat_map (symbols_of m size (take (m.columns * size) (drop (number * (m.columns * size)) bytes))) (range_with_len 0 (length m.rows)))
stripe-read m size first number columns stripe others None len at count read l a long joined k made = tt
stripe-read m size first number columns stripe others (Some bytes) len at count read l a long joined k made =
    stripe-whole m size columns first long stripe others joined (made ∙ (λ j. flat_map (symbols_of m size columns) (range_with_len (k j) (length m.rows - k j))))
    ∙ ap (λ d. flat_map (symbols_of m size d) (range_with_len 0 (length m.rows))) (read ∙ (λ j. take (l j) (drop (a j) bytes)))
