-- The first fault of a text, as a property of its lines.
use Rattle.std.proofs.Common.{◌≡◌, ℕ, zero, suc, ◌+◌, ◌-◌, ◌*◌, ◌^◌, ◌<◌, ◌≤◌, Bool, true, false, cond, List, [], ◌∷◌, ◌++◌, length, get_or, map, take, drop, replicate, All, Option, Some, None, is_some, unwrap_or, Result, Ok, Err, IfErr, append_assoc, refl, sym, ap, ap₂, subst, ◌∙◌, arith, pow_pos}
use Rattle.std.proofs.Math.Seq.{take-append-add, take-append_seam}
use Rattle.std.proofs.lemmas.Bool.{both_ways, not-true}
use Rattle.std.proofs.lemmas.List.{get_or-append-add, get_or-drop, get_or-take, length-append, length-drop, length-map, length-replicate, length-take, get_or-replicate, map-append}
use Rattle.std.proofs.lemmas.List.Elements.{All-map, All-append, All-from_get_or}
use Rattle.mr_model.specs.Code.{Code, Dimensions, IsDimensions, priced_code}
use Rattle.mr_model.proofs.Finding.{FindsBelow, find_below-finds}
use Rattle.mr_bits.specs.declared.errors.Large.{Large}
use Rattle.mr_bits.specs.Shapes.{shape_of}
use Rattle.mr_bits.specs.Matrices.{symbol_count, IsMatrixCode, IsPriceList}
use Rattle.mr_text.specs.Lines.{BeginsText, IsFirstBadLine}
use Rattle.mr_form.specs.declared.faults.LineKind.{LineKind}
use Rattle.mr_form.specs.declared.faults.LineKind.TheVariants.{Head, Price, Row, Extra}
use Rattle.mr_form.specs.declared.faults.MatrixFault.{MatrixFault}
use Rattle.mr_form.specs.declared.faults.MatrixFault.TheVariants.{Bad, Large as TooLarge}
use Rattle.mr_form.specs.declared.heads.Version.{Version}
use Rattle.mr_form.specs.declared.heads.Version.TheVariants.{One, Two}
use Rattle.mr_form.specs.declared.heads.Heading.{Heading}
use Rattle.mr_form.specs.MatrixText.{head_text, price_text, row_text, are_ones, version_for, price_lines, lines, line_at, is_end, head_of, head_fault, is_price_line, prices_of, price_fault, matrix_text, is_row, row_of, row_fault, first_bad_row, after_rows, after_prices, read_body, after_shape, after_head, matrix_of}
use Rattle.mr_form.specs.FirstFaults.{IsMatrixText, IsFirstFault}
use Rattle.mr_form.proofs.LineLaws.{lines-some, some_none, good-line, good-fault}
use Rattle.mr_form.proofs.BodyLaws.{row-below}
use Rattle.mr_form.proofs.RowTexts.{text-row_of}
use Rattle.mr_form.proofs.HeadTexts.{head-is}
use Rattle.mr_form.proofs.PriceLaws.{price-line, prices-good}
use Rattle.mr_form.proofs.PriceTexts.{ones-all, ones-priced, is_price_line-text, text-prices_of}
use Rattle.mr_form.proofs.Spelling.{head_line, row_lines, head-read, matrix-lines, row_good}
use Rattle.mr_form.proofs.Readings.{uncons, not_some, IsShape, shape-is, shape-limits}

-- ---- the lines of a matrix, and lines that begin as they do

abbrev matrix_lines : Code → List (List ℕ)
matrix_lines m = head_line m ∷ (price_lines m.prices ++ row_lines m)

-- The first n lines are those of the matrix m, and a line stands behind them.
record IsBegun (m : Code) (n : ℕ) (text : List (List ℕ)) : Type 0 where
  pub limits : IsMatrixCode m
  pub more : n < length text
  pub few : n ≤ suc (length (price_lines m.prices) + length m.rows)
  pub same : (i : ℕ) → i < n → line_at text i ≡ line_at (matrix_lines m) i

lines-count : (m : Code) → length (matrix_lines m) ≡ suc (length (price_lines m.prices) + length m.rows) + 1
lines-count m = omega (arith, length-append (price_lines m.prices) (row_lines m), length-append (map (row_text m.columns) m.rows) ([] ∷ []), length-map m.rows (row_text m.columns))

begun : (bytes : List ℕ) (n : ℕ) (b : BeginsText IsMatrixText n bytes) → IsBegun b.is_text.matrix n (lines bytes)
begun bytes n b =
    let m = b.is_text.matrix in
    let is : lines b.text ≡ matrix_lines m = ap lines b.is_text.spelled ∙ matrix-lines m b.is_text.limits in
    record {
      limits = b.is_text.limits;
      more = b.ended;
      few = omega (arith, b.whole, ap length is, lines-count m);
      same = λ i low. sym (get_or-take n (lines bytes) i [] low) ∙ ap (λ (l : List (List ℕ)). get_or l i []) b.same
          ∙ get_or-take n (lines b.text) i [] low ∙ ap (λ (l : List (List ℕ)). get_or l i []) is;
    }

begins : (bytes : List ℕ) (n : ℕ) (m : Code) → IsMatrixCode m → n < length (lines bytes) → n ≤ suc (length (price_lines m.prices) + length m.rows)
    → take n (lines bytes) ≡ take n (matrix_lines m) → BeginsText IsMatrixText n bytes
begins bytes n m h more few same = record {
  text = matrix_text m;
  is_text = record { matrix = m; limits = h; spelled = refl };
  ended = more;
  whole = omega (arith, few, ap length (matrix-lines m h), lines-count m);
  same = same ∙ ap (take n) (sym (matrix-lines m h));
}

-- ---- matrices without a column

zeros-below : (k n : ℕ) → All (λ r. r < 2 ^ k) (replicate n 0)
zeros-below k n i d low =
    let e = get_or-replicate {A = ℕ} n i 0 d (omega (arith, low, length-replicate {A = ℕ} n 0)) in
    omega (arith, e, pow_pos k)

twos-priced : (n : ℕ) → IsPriceList (replicate n 2)
twos-priced n k d low =
    let e = get_or-replicate {A = ℕ} n k 2 d (omega (arith, low, length-replicate {A = ℕ} n 2)) in
    (omega (arith, e), omega (arith, e))

twos-others : (n : ℕ) → 1 ≤ n → are_ones (replicate n 2) ≡ false
twos-others zero some = absurd (omega arith)
twos-others (suc n) some = refl

-- rows that are read, and rows without a column behind them
abbrev filled : ℕ → List ℕ → List ℕ
filled n rows = rows ++ replicate (n - length rows) 0

filled-code : (d : Dimensions) (prices rows : List ℕ) → IsDimensions d → length prices ≡ d.devices → IsPriceList prices
    → length rows ≤ symbol_count d → All (λ r. r < 2 ^ d.columns) rows → IsMatrixCode (priced_code d (filled (symbol_count d) rows) prices)
filled-code d prices rows shape count priced few columns = record {
  shape = shape;
  count = omega (arith, few, length-append rows (replicate (symbol_count d - length rows) 0), length-replicate {A = ℕ} (symbol_count d - length rows) 0);
  columns = All-append (λ r. r < 2 ^ d.columns) rows (replicate (symbol_count d - length rows) 0) columns (zeros-below d.columns (symbol_count d - length rows));
  price_count = count;
  priced = priced;
}

abbrev smallest : Dimensions
smallest = record { devices = 1; symbols_per_device = 1; columns = 1 }

smallest-limits : IsDimensions smallest
smallest-limits = record { some_devices = omega arith; some_symbols = omega arith; some_columns = omega arith; few_symbols = omega arith; few_columns = omega arith }

rows-spelled : (k : ℕ) (text : List (List ℕ)) → ((i : ℕ) → i < length text → is_row k (get_or text i []) ≡ true) → map (row_text k) (map row_of text) ≡ text
rows-spelled k [] h = refl
rows-spelled k (line ∷ text) h = ap₂ (λ (a : List ℕ) (l : List (List ℕ)). a ∷ l) (text-row_of k line (h 0 (omega arith))) (rows-spelled k text (λ i low. h (suc i) (omega arith)))

-- the first line of what is left from line i on
drop-at : (text : List (List ℕ)) (i : ℕ) → line_at (drop i text) 0 ≡ line_at text i
drop-at text i = get_or-drop i text 0 [] ∙ ap (λ (n : ℕ). line_at text n) (omega arith)

some_same : {X : Type 0} (x y : X) → ◌≡◌ {A = Option X} (Some x) (Some y) → x ≡ y
some_same x y e = cc

-- ---- versions

two-others : (prices : List ℕ) → version_for prices ≡ Two → are_ones prices ≡ false
two-others prices e = go (are_ones prices) e
  where
    go : (t : Bool) → cond t One Two ≡ Two → t ≡ false
    go true h = cc
    go false h = refl

same-count : (prices others : List ℕ) → version_for prices ≡ version_for others → length (price_lines prices) ≡ length (price_lines others)
same-count prices others e = go (are_ones prices) (are_ones others) e
  where
    go : (t u : Bool) → cond t One Two ≡ cond u One Two
        → length (cond t [] (price_text prices ∷ [])) ≡ length (cond u [] (price_text others ∷ []))
    go true true h = refl
    go true false h = cc
    go false true h = cc
    go false false h = refl

-- ---- a bad line 1

module _ (bytes : List ℕ) where
  -- something is wrong with line 1
  head-first : (kind : LineKind) → head_fault (lines bytes) ≡ Some kind → IsFirstBadLine IsMatrixText 1 bytes
  head-first kind bad = record {
    before = begins bytes 0 (priced_code smallest (filled 1 []) (replicate 1 1))
        (filled-code smallest (replicate 1 1) [] smallest-limits refl (ones-priced 1) (omega arith) (λ i d low. absurd (omega (arith, low))))
        (omega (arith, ap length (lines-some bytes).is)) (omega arith) refl;
    bad = λ b.
        let g = begun bytes 1 b in
        let named = ap head_of (g.same 0 (omega arith)) ∙ head-read b.is_text.matrix g.limits in
        some_none kind (sym bad ∙ good-fault (λ line. is_some (head_of line)) Head (lines bytes) g.more (ap is_some named));
  }

-- ---- a bad line behind the head

module _ (bytes : List ℕ) (head : Heading) (d : Dimensions) (limits : IsDimensions d) (shape : IsShape head.n head.w head.k d)
    (named : head_of (line_at (lines bytes) 0) ≡ Some head) (more : 1 < length (lines bytes)) where
  -- a matrix that begins so has this heading
  same-heading : (m : Code) (n : ℕ) → 1 ≤ n → IsBegun m n (lines bytes)
      → ◌≡◌ {A = Heading} (record { version = version_for m.prices; n = m.devices; w = m.symbols_per_device; k = m.columns }) head
  same-heading m n some g = some_same _ head (sym (ap head_of (g.same 0 (omega (arith, some))) ∙ head-read m g.limits) ∙ named)

  same-symbols : (m : Code) (n : ℕ) → 1 ≤ n → IsBegun m n (lines bytes) → length m.rows ≡ symbol_count d
  same-symbols m n some g =
      g.limits.count ∙ ap₂ (λ (a b : ℕ). a * b) (ap (λ (h : Heading). h.n) (same-heading m n some g)) (ap (λ (h : Heading). h.w) (same-heading m n some g))
      ∙ ap symbol_count shape.is

  first-line : (prices : List ℕ) → version_for prices ≡ head.version
      → line_at (lines bytes) 0 ≡ head_text (version_for prices) d.devices d.symbols_per_device d.columns
  first-line prices is = (head-is _ head named).spelled
      ∙ (λ i. head_text (sym is i) (shape.is i).devices (shape.is i).symbols_per_device (shape.is i).columns)

  all-lines : lines bytes ≡ line_at (lines bytes) 0 ∷ drop 1 (lines bytes)
  all-lines = uncons (lines bytes) (omega (arith, more))

  -- the line of the prices
  prices-first : (kind : LineKind) → head.version ≡ Two → price_fault d.devices (drop 1 (lines bytes)) ≡ Some kind → IsFirstBadLine IsMatrixText 2 bytes
  prices-first kind two bad = record {
    before = begins bytes 1 (priced_code d (filled (symbol_count d) []) (replicate d.devices 2))
        (filled-code d (replicate d.devices 2) [] limits (length-replicate {A = ℕ} d.devices 2) (twos-priced d.devices) (omega arith) (λ i e low. absurd (omega (arith, low))))
        more (omega arith)
        (ap (take 1) all-lines ∙ ap (λ (l : List ℕ). l ∷ [])
        (first-line (replicate d.devices 2) (ap (λ t. cond t One Two) (twos-others d.devices limits.some_devices) ∙ sym two)));
    bad = λ b.
        let m = b.is_text.matrix in
        let g = begun bytes 2 b in
        let same = same-heading m 2 (omega arith) g in
        let others = two-others m.prices (ap (λ (h : Heading). h.version) same ∙ two) in
        let devices : m.devices ≡ d.devices = ap (λ (h : Heading). h.n) same ∙ ap (λ (e : Dimensions). e.devices) shape.is in
        let line : line_at (drop 1 (lines bytes)) 0 ≡ price_text m.prices =
        drop-at (lines bytes) 1 ∙ g.same 1 (omega arith) ∙ ap (λ t. line_at (cond t [] (price_text m.prices ∷ []) ++ row_lines m) 0) others in
        let formed : is_price_line d.devices (line_at (drop 1 (lines bytes)) 0) ≡ true =
        ap (is_price_line d.devices) line ∙ is_price_line-text m.prices g.limits.priced d.devices (g.limits.price_count ∙ devices) others in
        some_none kind (sym bad ∙ good-fault (is_price_line d.devices) Price (drop 1 (lines bytes)) (omega (arith, g.more, length-drop 1 (lines bytes))) formed);
  }

  -- the rows behind these prices, where the first r are good
  module _ (prices : List ℕ) (rows : List (List ℕ)) (version_is : head.version ≡ version_for prices) (count : length prices ≡ d.devices)
      (priced : IsPriceList prices) (parts : drop 1 (lines bytes) ≡ price_lines prices ++ rows) (some : 0 < length rows) where
    whole : lines bytes ≡ line_at (lines bytes) 0 ∷ (price_lines prices ++ rows)
    whole = all-lines ∙ ap (λ (l : List (List ℕ)). line_at (lines bytes) 0 ∷ l) parts

    whole-count : length (lines bytes) ≡ suc (length (price_lines prices) + length rows)
    whole-count = ap length whole ∙ ap suc (length-append (price_lines prices) rows)

    module _ (r : ℕ) (good : (j : ℕ) → j < r → row_fault d.columns rows j ≡ None) where
      formed-row : (j : ℕ) → j < r → is_row d.columns (get_or rows j []) ≡ true
      formed-row j low = ap (is_row d.columns) (sym (drop-at rows j)) ∙ (good-line (is_row d.columns) Row (drop j rows) (good j low)).formed

      rows-more : r < length rows
      rows-more = go r refl
        where
          go : (s : ℕ) → r ≡ s → r < length rows
          go zero e = omega (arith, e, some)
          go (suc s) e = omega (arith, e, (good-line (is_row d.columns) Row (drop s rows) (good s (omega (arith, e)))).more, length-drop s rows)

      read-count : length (take r rows) ≡ r
      read-count = omega (arith, length-take r rows, rows-more)

      each-row : (j : ℕ) → j < length (take r rows) → is_row d.columns (get_or (take r rows) j []) ≡ true
      each-row j low = ap (is_row d.columns) (get_or-take r rows j [] (omega (arith, low, read-count))) ∙ formed-row j (omega (arith, low, read-count))

      read-columns : All (λ v. v < 2 ^ d.columns) (map row_of (take r rows))
      read-columns = All-map (λ v. v < 2 ^ d.columns) row_of (take r rows)
          (All-from_get_or (λ line. row_of line < 2 ^ d.columns) (take r rows) [] (λ j low. row-below d.columns (get_or (take r rows) j []) (each-row j low)))

      abbrev begun_code : Code
      begun_code = priced_code d (filled (symbol_count d) (map row_of (take r rows))) prices

      taken : take r (row_lines begun_code) ≡ take r rows
      taken =
          ap (λ (l : List (List ℕ)). take r (l ++ [] ∷ [])) (map-append (row_text d.columns) (map row_of (take r rows)) (replicate (symbol_count d - length (map row_of (take r rows))) 0))
          ∙ ap (λ (l : List (List ℕ)). take r ((l ++ map (row_text d.columns) (replicate (symbol_count d - length (map row_of (take r rows))) 0)) ++ [] ∷ [])) (rows-spelled d.columns (take r rows) each-row)
          ∙ ap (take r) (append_assoc (take r rows) (map (row_text d.columns) (replicate (symbol_count d - length (map row_of (take r rows))) 0)) ([] ∷ []))
          ∙ ap (λ (n : ℕ). take n (take r rows ++ (map (row_text d.columns) (replicate (symbol_count d - length (map row_of (take r rows))) 0) ++ [] ∷ []))) (sym read-count)
          ∙ take-append_seam (take r rows) (map (row_text d.columns) (replicate (symbol_count d - length (map row_of (take r rows))) 0) ++ [] ∷ [])

      -- the lines before row r begin a matrix text
      begin-rows : r ≤ symbol_count d → BeginsText IsMatrixText (suc (length (price_lines prices) + r)) bytes
      begin-rows few = begins bytes (suc (length (price_lines prices) + r)) begun_code
          (filled-code d prices (map row_of (take r rows)) limits count priced (omega (arith, few, length-map (take r rows) row_of, read-count)) read-columns)
          (omega (arith, whole-count, rows-more))
          (omega (arith, few, length-map (take r rows) row_of, read-count, length-append (map row_of (take r rows)) (replicate (symbol_count d - length (map row_of (take r rows))) 0), length-replicate {A = ℕ} (symbol_count d - length (map row_of (take r rows))) 0))
          (ap (take (suc (length (price_lines prices) + r))) whole
          ∙ ap (λ (l : List (List ℕ)). line_at (lines bytes) 0 ∷ l) (take-append-add (price_lines prices) rows r)
          ∙ ap (λ (l : List (List ℕ)). line_at (lines bytes) 0 ∷ (price_lines prices ++ l)) (sym taken)
          ∙ ap (λ (l : List (List ℕ)). line_at (lines bytes) 0 ∷ l) (sym (take-append-add (price_lines prices) (row_lines begun_code) r))
          ∙ ap (λ (l : List ℕ). l ∷ take (length (price_lines prices) + r) (price_lines prices ++ row_lines begun_code)) (first-line prices (sym version_is)))

      module _ (m : Code) (g : IsBegun m (suc (suc (length (price_lines prices) + r))) (lines bytes)) where
        version-same : version_for m.prices ≡ version_for prices
        version-same = ap (λ (h : Heading). h.version) (same-heading m (suc (suc (length (price_lines prices) + r))) (omega arith) g) ∙ version_is

        lines-same : length (price_lines m.prices) ≡ length (price_lines prices)
        lines-same = same-count m.prices prices version-same

        -- row r is a row of the matrix
        row-formed : r < symbol_count d → row_fault d.columns rows r ≡ None
        row-formed low =
            let symbols = same-symbols m (suc (suc (length (price_lines prices) + r))) (omega arith) g in
            let columns : m.columns ≡ d.columns = ap (λ (h : Heading). h.k) (same-heading m (suc (suc (length (price_lines prices) + r))) (omega arith) g) ∙ ap (λ (e : Dimensions). e.columns) shape.is in
            let theirs : line_at (drop r (row_lines m)) 0 ≡ line_at (matrix_lines m) (suc (length (price_lines prices) + r)) =
            drop-at (row_lines m) r ∙ sym (get_or-append-add (price_lines m.prices) (row_lines m) r []) ∙ ap (λ (n : ℕ). line_at (price_lines m.prices ++ row_lines m) (n + r)) lines-same in
            let ours : line_at (drop r rows) 0 ≡ line_at (lines bytes) (suc (length (price_lines prices) + r)) =
            drop-at rows r ∙ sym (get_or-append-add (price_lines prices) rows r []) ∙ ap (λ (l : List (List ℕ)). line_at l (suc (length (price_lines prices) + r))) (sym whole) in
            let formed : is_row m.columns (line_at (drop r (row_lines m)) 0) ≡ true =
            (good-line (is_row m.columns) Row (drop r (row_lines m)) (row_good m.columns m.rows r (omega (arith, low, symbols)))).formed in
            let here : is_row d.columns (line_at (drop r rows) 0) ≡ true =
            ap₂ is_row (sym columns) (ours ∙ g.same (suc (length (price_lines prices) + r)) (omega arith) ∙ sym theirs) ∙ formed in
            good-fault (is_row d.columns) Row (drop r rows) (omega (arith, g.more, whole-count, length-drop r rows)) here

        -- no line stands behind the last row
        no-more : r ≡ symbol_count d → ⊥
        no-more e = omega (arith, e, g.few, lines-same, same-symbols m (suc (suc (length (price_lines prices) + r))) (omega arith) g)

    -- line `line`, counted from 1, is that of row r
    module _ (r line : ℕ) (at_row : line ≡ suc (suc (length (price_lines prices) + r))) (good : (j : ℕ) → j < r → row_fault d.columns rows j ≡ None)
        (few : r ≤ symbol_count d) where
      first-bad : ((m : Code) → IsBegun m (suc (suc (length (price_lines prices) + r))) (lines bytes) → ⊥) → IsFirstBadLine IsMatrixText line bytes
      first-bad never = record {
        before = subst (λ (n : ℕ). BeginsText IsMatrixText n bytes) (omega (arith, at_row)) (begin-rows r good few);
        bad = subst (λ (n : ℕ). BeginsText IsMatrixText n bytes → ⊥) (sym at_row) (λ b. never b.is_text.matrix (begun bytes _ b));
      }

    rows-first : (line : ℕ) (fault : MatrixFault) (bad : Option ℕ) → line ≡ length (price_lines prices) + 2
        → FindsBelow (symbol_count d) (λ i. is_some (row_fault d.columns rows i)) bad → after_rows d prices line rows bad ≡ Err fault → IsFirstFault bytes fault
    rows-first line fault (Some i) start found e =
        let is : ◌≡◌ {A = MatrixFault} (Bad (line + i) (unwrap_or (row_fault d.columns rows i) Row)) fault = cc in
        subst (λ (f : MatrixFault). IsFirstFault bytes f) is
        (first-bad i (line + i) (omega (arith, start)) (λ j low. not_some _ (found.least j low)) (omega (arith, found.in_range))
        (λ m g. both_ways (is_some (row_fault d.columns rows i)) (ap is_some (row-formed i (λ j low. not_some _ (found.least j low)) m g found.in_range)) found.passes))
    rows-first line fault None start found e = go (is_end (drop (symbol_count d) rows)) e
      where
        go : (t : Bool) → ◌≡◌ {A = Result Code MatrixFault} (cond t (Ok (priced_code d (map row_of (take (symbol_count d) rows)) prices)) (Err (Bad (line + symbol_count d) Extra))) (Err fault)
            → IsFirstFault bytes fault
        go true h = cc
        go false h =
            let is : ◌≡◌ {A = MatrixFault} (Bad (line + symbol_count d) Extra) fault = cc in
            subst (λ (f : MatrixFault). IsFirstFault bytes f) is
            (first-bad (symbol_count d) (line + symbol_count d) (omega (arith, start)) (λ j low. not_some _ (found j low)) (omega arith)
            (λ m g. no-more (symbol_count d) (λ j low. not_some _ (found j low)) m g refl))

  -- the lines behind the head
  body-first : (version : Version) (fault : MatrixFault) → head.version ≡ version → read_body version d (drop 1 (lines bytes)) ≡ Err fault → IsFirstFault bytes fault
  body-first One fault is e =
      let ones : List ℕ = replicate d.devices 1 in
      rows-first ones (drop 1 (lines bytes)) (is ∙ sym (ap (λ t. cond t One Two) (ones-all d.devices))) (length-replicate {A = ℕ} d.devices 1) (ones-priced d.devices)
      (sym (ap (λ t. cond t [] (price_text ones ∷ []) ++ drop 1 (lines bytes)) (ones-all d.devices)))
      (omega (arith, more, length-drop 1 (lines bytes))) 2 fault (first_bad_row d (drop 1 (lines bytes)))
      (omega (arith, ap (λ t. length (cond t [] (price_text ones ∷ []))) (ones-all d.devices)))
      (find_below-finds _ _) e
  body-first Two fault is e = go (price_fault d.devices (drop 1 (lines bytes))) refl e
    where
      go : (o : Option LineKind) → price_fault d.devices (drop 1 (lines bytes)) ≡ o → after_prices d (drop 1 (lines bytes)) o ≡ Err fault → IsFirstFault bytes fault
      go (Some kind) bad h =
          let same : ◌≡◌ {A = MatrixFault} (Bad 2 kind) fault = cc in
          subst (λ (f : MatrixFault). IsFirstFault bytes f) same (prices-first kind is bad)
      go None good h =
          let line = line_at (drop 1 (lines bytes)) 0 in
          let fine = good-line (is_price_line d.devices) Price (drop 1 (lines bytes)) good in
          let told = price-line d.devices line fine.formed in
          let others : are_ones (prices_of line) ≡ false = not-true _ told.some in
          rows-first (prices_of line) (drop 1 (drop 1 (lines bytes))) (is ∙ sym (ap (λ t. cond t One Two) others)) told.count (prices-good _ told.each)
          (uncons (drop 1 (lines bytes)) (omega (arith, fine.more)) ∙ ap (λ (l : List ℕ). l ∷ drop 1 (drop 1 (lines bytes))) (text-prices_of d.devices line limits.some_devices fine.formed)
          ∙ sym (ap (λ t. cond t [] (price_text (prices_of line) ∷ []) ++ drop 1 (drop 1 (lines bytes))) others))
          (omega (arith, fine.more, length-drop 1 (drop 1 (lines bytes)))) 3 fault (first_bad_row d (drop 1 (drop 1 (lines bytes))))
          (omega (arith, ap (λ t. length (cond t [] (price_text (prices_of line) ∷ []))) others))
          (find_below-finds _ _) h

-- ---- the whole

module _ (bytes : List ℕ) (head : Heading) (none : head_fault (lines bytes) ≡ None) (named : head_of (line_at (lines bytes) 0) ≡ Some head) where
  shape-first : (shape : Result Dimensions Large) (fault : MatrixFault) → shape_of head.n head.w head.k ≡ shape
      → after_shape head.version shape (drop 1 (lines bytes)) ≡ Err fault → IsFirstFault bytes fault
  shape-first (Err large) fault is e =
      let same : ◌≡◌ {A = MatrixFault} (TooLarge large) fault = cc in
      subst (λ (f : MatrixFault). IsFirstFault bytes f) same (record { named = head; no_fault = none; head_is = named; too_large = is })
  shape-first (Ok d) fault is e =
      let line = head-is _ head named in
      let shape = shape-is head.n head.w head.k d is in
      body-first bytes head d (shape-limits head.n head.w head.k d line.n line.w line.k shape) shape named
      (good-line (λ line. is_some (head_of line)) Head (lines bytes) none).more head.version fault refl e

fault-first : (bytes : List ℕ) (fault : MatrixFault) → matrix_of bytes ≡ Err fault → IsFirstFault bytes fault
unfolding matrix_of
fault-first bytes fault e = go (head_fault (lines bytes)) refl (head_of (line_at (lines bytes) 0)) refl e
  where
    go : (wrong : Option LineKind) → head_fault (lines bytes) ≡ wrong → (head : Option Heading) → head_of (line_at (lines bytes) 0) ≡ head
        → after_head wrong head (drop 1 (lines bytes)) ≡ Err fault → IsFirstFault bytes fault
    go (Some kind) bad head named h =
        let same : ◌≡◌ {A = MatrixFault} (Bad 1 kind) fault = cc in
        subst (λ (f : MatrixFault). IsFirstFault bytes f) same (head-first bytes kind bad)
    go None none (Some head) named h = shape-first bytes head none named (shape_of head.n head.w head.k) fault refl h
    go None none None named h = absurd (both_ways (is_some (head_of (line_at (lines bytes) 0))) (ap is_some named)
        (good-line (λ line. is_some (head_of line)) Head (lines bytes) none).formed)

-- the fault that is answered
pub answer-first : (bytes : List ℕ) (answer : Result Code MatrixFault) → answer ≡ matrix_of bytes → IfErr answer (IsFirstFault bytes)
answer-first bytes (Ok m) e = tt
answer-first bytes (Err fault) e = fault-first bytes fault (sym e)
