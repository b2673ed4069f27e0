-- The rows of a matrix text, line by line.
use Rattle.std.proofs.Common.{◌≡◌, ℕ, ◌+◌, ◌^◌, ◌<◌, Bool, true, cond, List, [], ◌∷◌, ◌++◌, length, get_or, take, drop, set, map, All, Some, None, is_some, unwrap_or, Ok, Err, refl, sym, ap, ap₂, subst, ◌∙◌, arith, length-drop, length-take, length-set, below_more}
use Rattle.std.proofs.lemmas.Bool.{eqb-true, and_parts}
use Rattle.std.proofs.lemmas.List.{take_more, take_more_set, get_or-drop, map-append, drop-drop, get_or-take}
use Rattle.std.proofs.lemmas.List.Elements.{All-map, All-from_get_or}
use Rattle.mr_model.specs.Code.{Dimensions, priced_code}
use Rattle.mr_model.proofs.Finding.{find_below-is, set_below-lt}
use Rattle.mr_bits.specs.Matrices.{symbol_count}
use Rattle.mr_form.specs.declared.faults.LineKind.{LineKind}
use Rattle.mr_form.specs.declared.faults.LineKind.TheVariants.{Row, Extra}
use Rattle.mr_form.specs.declared.faults.MatrixFault.TheVariants.{Bad}
use Rattle.mr_form.specs.MatrixText.{line_at, line_fault, is_end, is_row, ones_below, row_of, row_fault, first_bad_row, after_rows, read_rows}
use Rattle.mr_form.proofs.LineLaws.{good-line}

-- The first i rows are read, nothing is wrong with them, and `left` are the lines behind them.
pub record IsReadSoFar (k : ℕ) (body left : List (List ℕ)) (i : ℕ) (rows : List ℕ) : Type 0 where
  pub left_is : left ≡ drop i body
  pub good : (j : ℕ) → j < i → row_fault k body j ≡ None
  pub rows_are : take i rows ≡ map row_of (take i body)
  pub room : length rows ≡ 128

pub read-start : (k : ℕ) (body : List (List ℕ)) (rows : List ℕ) → length rows ≡ 128 → IsReadSoFar k body body 0 rows
read-start k body rows room = record { left_is = refl; good = λ j lt. absurd (omega arith); rows_are = refl; room = room }

drop-more : {X : Type 0} (xs : List X) (i : ℕ) → drop 1 (drop i xs) ≡ drop (i + 1) xs
drop-more xs i = drop-drop 1 i xs

-- one row more
pub read-more : (k : ℕ) (body left next : List (List ℕ)) (i row : ℕ) (rows : List ℕ) → IsReadSoFar k body left i rows → i < 128
    → row_fault k left 0 ≡ None → row ≡ row_of (line_at left 0) → next ≡ drop 1 left → IsReadSoFar k body next (i + 1) (set rows i row)
read-more k body left next i row rows h within good row_is next_is = record {
  left_is = next_is ∙ ap (drop 1) h.left_is ∙ drop-more body i;
  good = below_more _ _ h.good here;
  rows_are = take_more_set rows i row (omega (arith, h.room)) ∙ ap₂ (λ l r. l ++ r ∷ []) h.rows_are (row_is ∙ ap row_of line)
      ∙ sym (map-append row_of (take i body) (get_or body i [] ∷ [])) ∙ sym (ap (map row_of) (take_more body i [] there));
  room = length-set rows i row ∙ h.room;
}
  where
    here : row_fault k body i ≡ None
    here = subst (λ l. line_fault (is_row k) Row l ≡ None) h.left_is good

    there : i < length body
    there = omega (arith, (good-line (is_row k) Row (drop i body) here).more, length-drop i body)

    line : line_at left 0 ≡ get_or body i []
    line = ap (λ l. line_at l 0) h.left_is ∙ get_or-drop i body 0 [] ∙ ap (λ n. get_or body n []) (omega arith)

-- ---- what comes of the rows

module _ (d : Dimensions) (prices : List ℕ) (line : ℕ) (body left : List (List ℕ)) (rows : List ℕ) where
  -- something is wrong with row i
  pub body-bad : (i : ℕ) (kind : LineKind) → IsReadSoFar d.columns body left i rows → i < symbol_count d
      → row_fault d.columns left 0 ≡ Some kind → Err (Bad (line + i) kind) ≡ read_rows d prices line body
  body-bad i kind h within bad = sym (ap (after_rows d prices line body) first ∙ ap (λ o. Err (Bad (line + i) (unwrap_or o Row))) here)
    where
      here : row_fault d.columns body i ≡ Some kind
      here = subst (λ l. line_fault (is_row d.columns) Row l ≡ Some kind) h.left_is bad

      first : first_bad_row d body ≡ Some i
      first = find_below-is (symbol_count d) (λ j. is_some (row_fault d.columns body j)) (Some i)
          (record { in_range = within; passes = ap is_some here; least = λ j lt. ap is_some (h.good j lt) })

  -- nothing is wrong with any row
  body-good : IsReadSoFar d.columns body left (symbol_count d) rows → first_bad_row d body ≡ None
  body-good h = find_below-is (symbol_count d) (λ j. is_some (row_fault d.columns body j)) None (λ j lt. ap is_some (h.good j lt))

  pub body-end : (t : Bool) → IsReadSoFar d.columns body left (symbol_count d) rows → is_end left ≡ t
      → read_rows d prices line body
      ≡ cond t (Ok (priced_code d (take (symbol_count d) rows) prices)) (Err (Bad (line + symbol_count d) Extra))
  body-end t h e =
      ap (after_rows d prices line body) (body-good h)
      ∙ ap (λ l. cond (is_end l) (Ok (priced_code d (map row_of (take (symbol_count d) body)) prices)) (Err (Bad (line + symbol_count d) Extra))) (sym h.left_is)
      ∙ ap (λ u. cond u (Ok (priced_code d (map row_of (take (symbol_count d) body)) prices)) (Err (Bad (line + symbol_count d) Extra))) e
      ∙ ap (λ r. cond t (Ok (priced_code d r prices)) (Err (Bad (line + symbol_count d) Extra))) (sym h.rows_are)

-- each row has columns of the matrix alone
pub row-below : (k : ℕ) (line : List ℕ) → is_row k line ≡ true → row_of line < 2 ^ k
unfolding is_row ones_below
row-below k line h = subst (λ n. row_of line < 2 ^ n) (eqb-true _ _ (and_parts _ _ h).0) (set_below-lt (length line) _)

pub rows-below : (k n : ℕ) (body left : List (List ℕ)) (rows : List ℕ) → IsReadSoFar k body left n rows → All (λ r. r < 2 ^ k) (take n rows)
rows-below k n body left rows h = subst (All (λ r. r < 2 ^ k)) (sym h.rows_are)
    (All-map (λ r. r < 2 ^ k) row_of (take n body) (All-from_get_or (λ line. row_of line < 2 ^ k) (take n body) [] each))
  where
    line : (j : ℕ) → j < n → line_at (drop j body) 0 ≡ get_or (take n body) j []
    line j lt = get_or-drop j body 0 [] ∙ ap (λ i. get_or body i []) (omega arith) ∙ sym (get_or-take n body j [] lt)

    each : (j : ℕ) → j < length (take n body) → row_of (get_or (take n body) j []) < 2 ^ k
    each j lt = let small : j < n = omega (arith, length-take n body) in
        subst (λ l. row_of l < 2 ^ k) (line j small) (row-below k (line_at (drop j body) 0) (good-line (is_row k) Row (drop j body) (h.good j small)).formed)
