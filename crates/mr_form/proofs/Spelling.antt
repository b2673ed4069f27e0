-- The text of a matrix is read as that matrix.
use Rattle.std.proofs.Common.{◌≡◌, ℕ, suc, zero, ◌+◌, ◌*◌, ◌^◌, ◌<◌, ◌≤◌, Bool, true, false, cond, not, ◌&&◌, nat_lt, List, [], ◌∷◌, ◌++◌, length, get_or, map, flat_map, take, drop, replicate, All, Some, None, is_some, Ok, Err, append_assoc, refl, sym, ap, ap₂, ◌∙◌, arith, eqb, codes, decimal}
use Rattle.std.specs.List.{list_all, join_with_byte}
use Rattle.std.proofs.Math.Nat.{le-mul_of_pos_right, mul_comm}
use Rattle.std.proofs.lemmas.Bool.{not-true, ne_eqb}
use Rattle.std.proofs.lemmas.Bool.Decides.{nat_tests}
use Rattle.std.proofs.lemmas.List.{append-nil}
use Rattle.std.proofs.lemmas.List.Sums.{AllPass-from_list_all, list_all-from_AllPass}
use Rattle.std.proofs.lemmas.List.Folds.{list_all-append}
use Rattle.std.proofs.lemmas.List.Elements.{All-from_get_or}
use Rattle.std.proofs.lemmas.List.Splits.{slice_split_at}
use Rattle.mr_model.specs.Code.{Code, Dimensions, IsDimensions, priced_code, dimensions}
use Rattle.mr_model.proofs.Finding.{find_below-is}
use Rattle.mr_bits.specs.Shapes.{IsShapeNumber, shape_of}
use Rattle.mr_bits.specs.Matrices.{symbol_count, IsMatrixCode}
use Rattle.mr_text.proofs.NumberLaws.{is_number-decimal}
use Rattle.mr_form.specs.declared.faults.LineKind.TheVariants.{Head, Price, Row, Extra}
use Rattle.mr_form.specs.declared.faults.MatrixFault.TheVariants.{Bad}
use Rattle.mr_form.specs.declared.heads.Version.{Version}
use Rattle.mr_form.specs.declared.heads.Version.TheVariants.{One, Two}
use Rattle.mr_form.specs.MatrixText.{ended, head_text, price_text, row_text, are_ones, version_for, price_lines, matrix_text, lines, line_at, line_fault, is_end, head_of, head_fault, is_price_line, prices_of, price_fault, is_row, row_of, row_fault, first_bad_row, after_rows, read_rows, after_prices, read_body, after_shape, after_head, matrix_of}
use Rattle.mr_form.proofs.HeadLaws.{no_byte}
use Rattle.mr_form.proofs.LineLaws.{fault-ended}
use Rattle.mr_form.proofs.RowTexts.{length-row_text, row_text-at, is_row-text, row_of-text}
use Rattle.mr_form.proofs.HeadTexts.{head_of-text}
use Rattle.mr_form.proofs.PriceTexts.{ones-are, price-small, is_price_line-text, prices_of-text}

-- ---- what is not a text of one line

-- no line feed stands in a line
abbrev NoFeed : List ℕ → Type 0
NoFeed line = All (λ b. eqb b 10 ≡ false) line

feeds : List ℕ → Bool
feeds line = list_all (λ b. not (eqb b 10)) line

no_feed : (line : List ℕ) → feeds line ≡ true → NoFeed line
unfolding feeds
no_feed line h k d low = not-true _ (AllPass-from_list_all (λ b. not (eqb b 10)) line h k d low)

number_feeds : (n : ℕ) → n < 1000000000 → feeds (decimal n) ≡ true
unfolding feeds
number_feeds n small = list_all-from_AllPass _ _ (λ k d low. ap not (no_byte 10 refl (decimal n) (is_number-decimal n small) k d low))

joined_feeds : (a b : List ℕ) → feeds a ≡ true → feeds b ≡ true → feeds (a ++ 32 ∷ b) ≡ true
unfolding feeds
joined_feeds a b p q = list_all-append (λ v. not (eqb v 10)) a (32 ∷ b) ∙ ap₂ (λ s t. s && t) p q

sizes_feeds : (n w k : ℕ) → IsShapeNumber n → IsShapeNumber w → IsShapeNumber k → feeds (decimal n ++ 32 ∷ (decimal w ++ 32 ∷ decimal k)) ≡ true
sizes_feeds n w k hn hw hk = joined_feeds (decimal n) (decimal w ++ 32 ∷ decimal k) (number_feeds n (omega (arith, hn.few)))
    (joined_feeds (decimal w) (decimal k) (number_feeds w (omega (arith, hw.few))) (number_feeds k (omega (arith, hk.few))))

head_feeds : (version : Version) (n w k : ℕ) → IsShapeNumber n → IsShapeNumber w → IsShapeNumber k → feeds (head_text version n w k) ≡ true
unfolding feeds head_text
head_feeds One n w k hn hw hk = sizes_feeds n w k hn hw hk
head_feeds Two n w k hn hw hk = sizes_feeds n w k hn hw hk

numbers_feeds : (first prices : List ℕ) → feeds first ≡ true → ((i : ℕ) → i < length prices → get_or prices i 0 < 1000000000)
    → feeds (join_with_byte 32 (first ∷ map decimal prices)) ≡ true
numbers_feeds first [] h small = h
numbers_feeds first (p ∷ prices) h small =
    joined_feeds first (join_with_byte 32 (decimal p ∷ map decimal prices)) h
    (numbers_feeds (decimal p) prices (number_feeds p (small 0 (omega arith))) (λ i low. small (suc i) (omega arith)))

price_feeds : (prices : List ℕ) → ((i : ℕ) → i < length prices → get_or prices i 0 < 1000000000) → feeds (price_text prices) ≡ true
unfolding price_text feeds
price_feeds prices small = numbers_feeds (codes "price") prices refl small

row_no_feed : (k row : ℕ) → NoFeed (row_text k row)
row_no_feed k row = All-from_get_or (λ b. eqb b 10 ≡ false) (row_text k row) 0
    (λ c low. ne_eqb _ _ (λ e. omega (arith, e, row_text-at k row c (omega (arith, length-row_text k row)))))

-- ---- the lines of a matrix text

-- an ended line at the front
lines-ended : (line rest : List ℕ) → NoFeed line → lines (ended line ++ rest) ≡ line ∷ lines rest
lines-ended line rest h = ap lines (append_assoc line (10 ∷ []) rest) ∙ slice_split_at (λ b. eqb b 10) line 10 rest h refl

body-lines : (k : ℕ) (rows : List ℕ) → lines (flat_map (λ row. ended (row_text k row)) rows) ≡ map (row_text k) rows ++ [] ∷ []
body-lines k [] = refl
body-lines k (row ∷ rows) = lines-ended (row_text k row) _ (row_no_feed k row) ∙ ap (λ l. row_text k row ∷ l) (body-lines k rows)

-- ---- nothing is wrong with them

first_good : (k row : ℕ) (rows : List ℕ) → line_fault (is_row k) Row (row_text k row ∷ (map (row_text k) rows ++ [] ∷ [])) ≡ None
unfolding line_fault
first_good k row [] = ap (λ t. cond t None (Some Row)) (is_row-text k row)
first_good k row (next ∷ rows) = ap (λ t. cond t None (Some Row)) (is_row-text k row)

pub row_good : (k : ℕ) (rows : List ℕ) (i : ℕ) → i < length rows → row_fault k (map (row_text k) rows ++ [] ∷ []) i ≡ None
row_good k [] i low = absurd (omega arith)
row_good k (row ∷ rows) zero low = first_good k row rows
row_good k (row ∷ rows) (suc i) low = row_good k rows i (omega arith)

-- ---- what is left of them, and what is read of them

drop-body : (k : ℕ) (rows : List ℕ) → drop (length rows) (map (row_text k) rows ++ [] ∷ []) ≡ [] ∷ []
drop-body k [] = refl
drop-body k (row ∷ rows) = drop-body k rows

take-body : (k : ℕ) (rows : List ℕ) → take (length rows) (map (row_text k) rows ++ [] ∷ []) ≡ map (row_text k) rows
take-body k [] = refl
take-body k (row ∷ rows) = ap (λ l. row_text k row ∷ l) (take-body k rows)

rows-read : (k : ℕ) (rows : List ℕ) → ((i : ℕ) → i < length rows → get_or rows i 0 < 2 ^ k) → map row_of (map (row_text k) rows) ≡ rows
rows-read k [] h = refl
rows-read k (row ∷ rows) h = ap₂ (λ r l. r ∷ l) (row_of-text k row (h 0 (omega arith))) (rows-read k rows (λ i low. h (suc i) (omega arith)))

-- ---- the text of a matrix is read as that matrix

within_limit : (n : ℕ) → n ≤ 128 → nat_lt 128 n ≡ false
within_limit n few = grind (arith, nat_tests, few)

shape-ok : (d : Dimensions) → IsDimensions d → shape_of d.devices d.symbols_per_device d.columns ≡ Ok d
shape-ok d h = rw (within_limit (d.devices * d.symbols_per_device) h.few_symbols, within_limit d.columns h.few_columns) refl

devices-number : (d : Dimensions) → IsDimensions d → IsShapeNumber d.devices
devices-number d h = record { some = h.some_devices; few = omega (arith, le-mul_of_pos_right d.devices h.some_symbols, h.few_symbols) }

symbols-number : (d : Dimensions) → IsDimensions d → IsShapeNumber d.symbols_per_device
symbols-number d h = record { some = h.some_symbols; few = omega (arith, le-mul_of_pos_right d.symbols_per_device h.some_devices, h.few_symbols, mul_comm d.devices d.symbols_per_device) }

columns-number : (d : Dimensions) → IsDimensions d → IsShapeNumber d.columns
columns-number d h = record { some = h.some_columns; few = omega (arith, h.few_columns) }

-- the lines of the rows, behind which nothing stands
abbrev pub row_lines : Code → List (List ℕ)
row_lines m = map (row_text m.columns) m.rows ++ [] ∷ []

abbrev row_bytes : Code → List ℕ
row_bytes m = flat_map (λ row. ended (row_text m.columns row)) m.rows

abbrev body_bytes : Code → List ℕ
body_bytes m = flat_map ended (price_lines m.prices) ++ row_bytes m

abbrev pub head_line : Code → List ℕ
head_line m = head_text (version_for m.prices) m.devices m.symbols_per_device m.columns

module _ (m : Code) (h : IsMatrixCode m) where
  pub head-read : head_of (head_line m) ≡ Some (record { version = version_for m.prices; n = m.devices; w = m.symbols_per_device; k = m.columns })
  head-read = head_of-text m.devices m.symbols_per_device m.columns
      (devices-number (dimensions m) h.shape) (symbols-number (dimensions m) h.shape) (columns-number (dimensions m) h.shape) (version_for m.prices)

  text : lines (matrix_text m) ≡ head_line m ∷ lines (body_bytes m)
  unfolding matrix_text
  text = lines-ended _ _ (no_feed _ (head_feeds (version_for m.prices) m.devices m.symbols_per_device m.columns
      (devices-number (dimensions m) h.shape) (symbols-number (dimensions m) h.shape) (columns-number (dimensions m) h.shape)))

  no_head_fault : head_fault (lines (matrix_text m)) ≡ None
  no_head_fault = fault-ended (λ line. is_some (head_of line)) Head _ _ (body_bytes m) text ∙ ap (λ o. cond (is_some o) None (Some Head)) head-read

  -- ---- the rows

  no_bad_row : first_bad_row (dimensions m) (row_lines m) ≡ None
  no_bad_row = find_below-is _ _ None (λ i low. ap is_some (row_good m.columns m.rows i (omega (arith, h.count))))

  at_end : is_end (drop (symbol_count (dimensions m)) (row_lines m)) ≡ true
  unfolding is_end
  at_end = ap (λ n. is_end (drop n (row_lines m))) (sym h.count) ∙ ap is_end (drop-body m.columns m.rows)

  all_rows : map row_of (take (symbol_count (dimensions m)) (row_lines m)) ≡ m.rows
  all_rows = ap (λ n. map row_of (take n (row_lines m))) (sym h.count)
      ∙ ap (map row_of) (take-body m.columns m.rows) ∙ rows-read m.columns m.rows (λ i low. h.columns i 0 low)

  rows-given : (prices : List ℕ) (line : ℕ) → read_rows (dimensions m) prices line (row_lines m) ≡ Ok (priced_code (dimensions m) m.rows prices)
  rows-given prices line =
      ap (after_rows (dimensions m) prices line (row_lines m)) no_bad_row
      ∙ (λ i. cond (at_end i) (Ok (priced_code (dimensions m) (all_rows i) prices)) (Err (Bad (line + symbol_count (dimensions m)) Extra)))

  -- ---- the lines behind the head

  ones-read : are_ones m.prices ≡ true → read_body One (dimensions m) (lines (row_bytes m)) ≡ Ok m
  ones-read e =
      ap (read_rows (dimensions m) (replicate m.devices 1) 2) (body-lines m.columns m.rows)
      ∙ rows-given (replicate m.devices 1) 2
      ∙ ap (λ (ps : List ℕ). Ok (priced_code (dimensions m) m.rows ps)) (sym (ones-are m.prices e ∙ ap (λ (n : ℕ). replicate n 1) h.price_count))

  priced-text : lines (flat_map ended (price_text m.prices ∷ []) ++ row_bytes m) ≡ price_text m.prices ∷ lines (row_bytes m)
  priced-text = ap (λ (l : List ℕ). lines (l ++ row_bytes m)) (append-nil (ended (price_text m.prices)))
      ∙ lines-ended _ _ (no_feed _ (price_feeds m.prices (price-small m.prices h.priced)))

  module _ (others : are_ones m.prices ≡ false) where
    no_price_fault : price_fault m.devices (lines (flat_map ended (price_text m.prices ∷ []) ++ row_bytes m)) ≡ None
    no_price_fault = fault-ended (is_price_line m.devices) Price _ _ (row_bytes m) priced-text
        ∙ ap (λ t. cond t None (Some Price)) (is_price_line-text m.prices h.priced m.devices h.price_count others)

    prices-read : read_body Two (dimensions m) (lines (flat_map ended (price_text m.prices ∷ []) ++ row_bytes m)) ≡ Ok m
    prices-read =
        ap (after_prices (dimensions m) (lines (flat_map ended (price_text m.prices ∷ []) ++ row_bytes m))) no_price_fault
        ∙ (λ i. read_rows (dimensions m) (prices_of (line_at (priced-text i) 0)) 3 (drop 1 (priced-text i)))
        ∙ (λ i. read_rows (dimensions m) (prices_of-text m.prices h.priced i) 3 (body-lines m.columns m.rows i))
        ∙ rows-given m.prices 3

  body-read : read_body (version_for m.prices) (dimensions m) (lines (body_bytes m)) ≡ Ok m
  body-read = go (are_ones m.prices) refl
    where
      go : (t : Bool) → are_ones m.prices ≡ t → read_body (version_for m.prices) (dimensions m) (lines (body_bytes m)) ≡ Ok m
      go true e = (λ i. read_body (cond (e i) One Two) (dimensions m) (lines (flat_map ended (cond (e i) [] (price_text m.prices ∷ [])) ++ row_bytes m)))
          ∙ ones-read e
      go false e = (λ i. read_body (cond (e i) One Two) (dimensions m) (lines (flat_map ended (cond (e i) [] (price_text m.prices ∷ [])) ++ row_bytes m)))
          ∙ prices-read e

  -- the lines of the text
  body-text : lines (body_bytes m) ≡ price_lines m.prices ++ row_lines m
  body-text = go (are_ones m.prices) refl
    where
      go : (t : Bool) → are_ones m.prices ≡ t → lines (body_bytes m) ≡ price_lines m.prices ++ row_lines m
      go true e = (λ i. lines (flat_map ended (cond (e i) [] (price_text m.prices ∷ [])) ++ row_bytes m)) ∙ body-lines m.columns m.rows
          ∙ sym (ap (λ (t : Bool). cond t [] (price_text m.prices ∷ []) ++ row_lines m) e)
      go false e = (λ i. lines (flat_map ended (cond (e i) [] (price_text m.prices ∷ [])) ++ row_bytes m)) ∙ priced-text
          ∙ ap (λ (l : List (List ℕ)). price_text m.prices ∷ l) (body-lines m.columns m.rows)
          ∙ sym (ap (λ (t : Bool). cond t [] (price_text m.prices ∷ []) ++ row_lines m) e)

  pub matrix-lines : lines (matrix_text m) ≡ head_line m ∷ (price_lines m.prices ++ row_lines m)
  matrix-lines = text ∙ ap (λ (l : List (List ℕ)). head_line m ∷ l) body-text

  pub matrix_of-text : matrix_of (matrix_text m) ≡ Ok m
  unfolding matrix_of
  matrix_of-text =
      (λ i. after_head (no_head_fault i) ((ap (λ t. head_of (line_at t 0)) text ∙ head-read) i) ((ap (drop 1) text) i))
      ∙ ap (λ r. after_shape (version_for m.prices) r (lines (body_bytes m))) (shape-ok (dimensions m) h.shape)
      ∙ body-read
