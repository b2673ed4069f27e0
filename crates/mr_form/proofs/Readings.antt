-- What is read as a matrix is its text, and is within the limits.
use Rattle.std.proofs.Common.{◌≡◌, ℕ, suc, ◌*◌, ◌^◌, ◌<◌, ◌≤◌, Bool, true, false, cond, nat_lt, List, [], ◌∷◌, ◌++◌, length, get_or, map, flat_map, take, drop, replicate, All, Option, Some, None, is_some, Result, Ok, Err, IfOk, append_assoc, refl, sym, ap, ap₂, subst, ◌∙◌, arith, eqb}
use Rattle.std.specs.List.{join_with_byte}
use Rattle.std.proofs.lemmas.Bool.{eqb-true, ltb-false, not-true}
use Rattle.std.proofs.lemmas.Grind.{flat_map-append}
use Rattle.std.proofs.lemmas.List.{append-nil, take-append-drop, get_or-drop, get_or-take, length-take, length-drop, length-map, length-replicate}
use Rattle.std.proofs.lemmas.List.Elements.{All-map, All-from_get_or}
use Rattle.std.proofs.lemmas.List.Splits.{join_with_byte-slice_split}
use Rattle.mr_model.specs.Code.{Code, Dimensions, IsDimensions, priced_code}
use Rattle.mr_model.proofs.Finding.{FindsBelow, find_below-finds}
use Rattle.mr_bits.specs.declared.errors.Large.{Large}
use Rattle.mr_bits.specs.declared.errors.What.TheVariants.{Symbols, Columns}
use Rattle.mr_bits.specs.Shapes.{IsShapeNumber, shape_of}
use Rattle.mr_bits.specs.Matrices.{symbol_count, IsMatrixCode, IsPriceList}
use Rattle.mr_form.specs.declared.faults.LineKind.{LineKind}
use Rattle.mr_form.specs.declared.faults.LineKind.TheVariants.{Head, Price, Row}
use Rattle.mr_form.specs.declared.faults.MatrixFault.{MatrixFault}
use Rattle.mr_form.specs.declared.faults.MatrixFault.TheVariants.{Bad}
use Rattle.mr_form.specs.declared.heads.Version.{Version}
use Rattle.mr_form.specs.declared.heads.Version.TheVariants.{One, Two}
use Rattle.mr_form.specs.declared.heads.Heading.{Heading}
use Rattle.mr_form.specs.MatrixText.{ended, head_text, price_text, row_text, are_ones, version_for, price_lines, matrix_text, lines, line_at, is_end, head_of, head_fault, is_price_line, prices_of, price_fault, is_row, row_of, row_fault, first_bad_row, after_rows, read_rows, after_prices, read_body, after_shape, after_head, matrix_of}
use Rattle.mr_form.proofs.LineLaws.{good-line}
use Rattle.mr_form.proofs.BodyLaws.{row-below}
use Rattle.mr_form.proofs.Spelling.{matrix_of-text}
use Rattle.mr_form.proofs.RowTexts.{text-row_of}
use Rattle.mr_form.proofs.HeadTexts.{head-is}
use Rattle.mr_form.proofs.PriceLaws.{price-line, prices-good}
use Rattle.mr_form.proofs.PriceTexts.{ones-all, ones-priced, text-prices_of}

-- ---- lines joined

join-ended : (text : List (List ℕ)) → join_with_byte 10 (text ++ [] ∷ []) ≡ flat_map ended text
join-ended [] = refl
join-ended (line ∷ []) = sym (append-nil (ended line))
join-ended (line ∷ next ∷ more) = ap (λ l. line ++ 10 ∷ l) (join-ended (next ∷ more)) ∙ sym (append_assoc line (10 ∷ []) (flat_map ended (next ∷ more)))

pub uncons : (text : List (List ℕ)) → 0 < length text → text ≡ line_at text 0 ∷ drop 1 text
uncons [] some = absurd (omega arith)
uncons (line ∷ more) some = refl

empty : (line : List ℕ) → eqb (length line) 0 ≡ true → line ≡ []
empty [] h = refl
empty (b ∷ line) h = absurd (omega (arith, eqb-true (length (b ∷ line)) 0 h))

end-is : (text : List (List ℕ)) → is_end text ≡ true → text ≡ [] ∷ []
unfolding is_end
end-is [] h = cc
end-is (line ∷ []) h = ap (λ l. l ∷ []) (empty line h)
end-is (line ∷ next ∷ more) h = cc

rows-texts : (k : ℕ) (text : List (List ℕ)) → ((i : ℕ) → i < length text → is_row k (get_or text i []) ≡ true)
    → flat_map ended text ≡ flat_map (λ row. ended (row_text k row)) (map row_of text)
rows-texts k [] h = refl
rows-texts k (line ∷ text) h =
    ap₂ (λ a b. ended a ++ b) (sym (text-row_of k line (h 0 (omega arith)))) (rows-texts k text (λ i low. h (suc i) (omega arith)))

-- ---- what an answer comes of

record IsAfterHead (m : Code) (fault : Option LineKind) (head : Option Heading) (body : List (List ℕ)) : Type 0 where
  pub heading : Heading
  pub no_fault : fault ≡ None
  pub head_is : head ≡ Some heading
  pub rest : after_shape heading.version (shape_of heading.n heading.w heading.k) body ≡ Ok m

after_head-is : (m : Code) (fault : Option LineKind) (head : Option Heading) (body : List (List ℕ)) → after_head fault head body ≡ Ok m → IsAfterHead m fault head body
after_head-is m None (Some head) body e = record { heading = head; no_fault = refl; head_is = refl; rest = e }
after_head-is m None None body e = cc
after_head-is m (Some kind) head body e = cc

record IsAfterShape (m : Code) (version : Version) (shape : Result Dimensions Large) (body : List (List ℕ)) : Type 0 where
  pub dimensions : Dimensions
  pub shape_is : shape ≡ Ok dimensions
  pub rest : read_body version dimensions body ≡ Ok m

after_shape-is : (m : Code) (version : Version) (shape : Result Dimensions Large) (body : List (List ℕ)) → after_shape version shape body ≡ Ok m → IsAfterShape m version shape body
after_shape-is m version (Ok d) body e = record { dimensions = d; shape_is = refl; rest = e }
after_shape-is m version (Err large) body e = cc

chosen : {X E : Type 0} (t : Bool) (x : X) (fault : E) (z : X) → ◌≡◌ {A = Result X E} (cond t (Ok x) (Err fault)) (Ok z) → (t ≡ true) × (x ≡ z)
chosen true x fault z e = (refl, cc)
chosen false x fault z e = cc

chosen_last : {X E : Type 0} (t u : Bool) (x : X) (first second : E) (z : X) → ◌≡◌ {A = Result X E} (cond t (Err first) (cond u (Err second) (Ok x))) (Ok z)
    → (t ≡ false) × (u ≡ false) × (x ≡ z)
chosen_last true u x first second z e = cc
chosen_last false true x first second z e = cc
chosen_last false false x first second z e = (refl, refl, cc)

pub not_some : {X : Type 0} (o : Option X) → is_some o ≡ false → o ≡ None
not_some None h = refl
not_some (Some x) h = cc

record IsAfterRows (m : Code) (d : Dimensions) (prices : List ℕ) (body : List (List ℕ)) (bad : Option ℕ) : Type 0 where
  pub none_bad : bad ≡ None
  pub ends : is_end (drop (symbol_count d) body) ≡ true
  pub is : priced_code d (map row_of (take (symbol_count d) body)) prices ≡ m

after_rows-is : (m : Code) (d : Dimensions) (prices : List ℕ) (line : ℕ) (body : List (List ℕ)) (bad : Option ℕ)
    → after_rows d prices line body bad ≡ Ok m → IsAfterRows m d prices body bad
after_rows-is m d prices line body (Some i) e = cc
after_rows-is m d prices line body None e = let p = chosen _ _ _ _ e in record { none_bad = refl; ends = p.0; is = p.1 }

-- a shape is within the limits
pub record IsShape (n w k : ℕ) (d : Dimensions) : Type 0 where
  pub is : ◌≡◌ {A = Dimensions} (record { devices = n; symbols_per_device = w; columns = k }) d
  pub few_symbols : n * w ≤ 128
  pub few_columns : k ≤ 128

pub shape-is : (n w k : ℕ) (d : Dimensions) → shape_of n w k ≡ Ok d → IsShape n w k d
shape-is n w k d e =
    let p = chosen_last (nat_lt 128 (n * w)) (nat_lt 128 k) _ (record { what = Symbols; number = n * w }) (record { what = Columns; number = k }) d e in
    record { is = p.2; few_symbols = ltb-false _ _ p.0; few_columns = ltb-false _ _ p.1 }

pub shape-limits : (n w k : ℕ) (d : Dimensions) → IsShapeNumber n → IsShapeNumber w → IsShapeNumber k → IsShape n w k d → IsDimensions d
shape-limits n w k d hn hw hk h = subst IsDimensions h.is (record {
  some_devices = hn.some;
  some_symbols = hw.some;
  some_columns = hk.some;
  few_symbols = h.few_symbols;
  few_columns = h.few_columns;
})

-- ---- the prices, with or without a line of them

-- The lines behind the head are those of the prices, if any, and then the rows.
record IsBody (m : Code) (d : Dimensions) (version : Version) (body : List (List ℕ)) : Type 0 where
  pub prices : List ℕ
  pub line : ℕ
  pub rows : List (List ℕ)
  pub version_is : version ≡ version_for prices
  pub count : length prices ≡ d.devices
  pub priced : IsPriceList prices
  pub parts : body ≡ price_lines prices ++ rows
  pub rest : read_rows d prices line rows ≡ Ok m

no_fault : (m : Code) (d : Dimensions) (body : List (List ℕ)) (fault : Option LineKind) → after_prices d body fault ≡ Ok m
    → (fault ≡ None) × (read_rows d (prices_of (line_at body 0)) 3 (drop 1 body) ≡ Ok m)
no_fault m d body None e = (refl, e)
no_fault m d body (Some kind) e = cc

body-is : (m : Code) (d : Dimensions) (version : Version) (body : List (List ℕ)) → 1 ≤ d.devices → read_body version d body ≡ Ok m → IsBody m d version body
body-is m d One body some e = record {
  prices = replicate d.devices 1;
  line = 2;
  rows = body;
  version_is = sym (ap (λ t. cond t One Two) (ones-all d.devices));
  count = length-replicate {A = ℕ} d.devices 1;
  priced = ones-priced d.devices;
  parts = sym (ap (λ t. cond t [] (price_text (replicate d.devices 1) ∷ []) ++ body) (ones-all d.devices));
  rest = e;
}
body-is m d Two body some e =
    let p = no_fault m d body (price_fault d.devices body) e in
    let good = good-line (is_price_line d.devices) Price body p.0 in
    let told = price-line d.devices (line_at body 0) good.formed in
    let others : are_ones (prices_of (line_at body 0)) ≡ false = not-true _ told.some in
    record {
      prices = prices_of (line_at body 0);
      line = 3;
      rows = drop 1 body;
      version_is = sym (ap (λ t. cond t One Two) others);
      count = told.count;
      priced = prices-good _ told.each;
      parts = uncons body (omega (arith, good.more))
          ∙ ap (λ (l : List ℕ). l ∷ drop 1 body) (text-prices_of d.devices (line_at body 0) some good.formed)
          ∙ sym (ap (λ t. cond t [] (price_text (prices_of (line_at body 0)) ∷ []) ++ drop 1 body) others);
      rest = p.1;
    }

-- ---- the whole

record IsAllRows (k n : ℕ) (body : List (List ℕ)) : Type 0 where
  pub each : (i : ℕ) → i < length (take n body) → is_row k (get_or (take n body) i []) ≡ true

good_rows : (d : Dimensions) (body : List (List ℕ)) → first_bad_row d body ≡ None → IsAllRows d.columns (symbol_count d) body
good_rows d body none = record { each = each }
  where
    good : (i : ℕ) → i < symbol_count d → is_some (row_fault d.columns body i) ≡ false
    good = subst (FindsBelow (symbol_count d) (λ j. is_some (row_fault d.columns body j))) none (find_below-finds (symbol_count d) (λ j. is_some (row_fault d.columns body j)))

    line : (i : ℕ) → i < symbol_count d → line_at (drop i body) 0 ≡ get_or (take (symbol_count d) body) i []
    line i low = get_or-drop i body 0 [] ∙ ap (λ j. get_or body j []) (omega arith) ∙ sym (get_or-take (symbol_count d) body i [] low)

    each : (i : ℕ) → i < length (take (symbol_count d) body) → is_row d.columns (get_or (take (symbol_count d) body) i []) ≡ true
    each i within = let low : i < symbol_count d = omega (arith, length-take (symbol_count d) body) in
        subst (λ l. is_row d.columns l ≡ true) (line i low)
        (good-line (is_row d.columns) Row (drop i body) (not_some _ (good i low))).formed

-- the bytes of a text, by its lines
text-lines : (bytes first : List ℕ) (front rows : List (List ℕ)) (n : ℕ) → lines bytes ≡ first ∷ (front ++ rows) → is_end (drop n rows) ≡ true
    → bytes ≡ ended first ++ (flat_map ended front ++ flat_map ended (take n rows))
text-lines bytes first front rows n e ends =
    sym (join_with_byte-slice_split 10 bytes)
    ∙ ap (join_with_byte 10) (e
    ∙ ap (λ (l : List (List ℕ)). first ∷ (front ++ l)) (sym (take-append-drop n rows) ∙ ap (λ (l : List (List ℕ)). take n rows ++ l) (end-is _ ends))
    ∙ ap (λ (l : List (List ℕ)). first ∷ l) (sym (append_assoc front (take n rows) ([] ∷ []))))
    ∙ join-ended (first ∷ (front ++ take n rows))
    ∙ ap (λ (l : List ℕ). ended first ++ l) (flat_map-append ended front (take n rows))

-- What a text is that is read as a matrix.
record IsText (bytes : List ℕ) (m : Code) : Type 0 where
  pub spelled : bytes ≡ matrix_text m
  pub limits : IsMatrixCode m

module _ (d : Dimensions) (rows : List (List ℕ)) where
  rows-count : is_end (drop (symbol_count d) rows) ≡ true → length (map row_of (take (symbol_count d) rows)) ≡ symbol_count d
  rows-count ends = omega (arith, length-map (take (symbol_count d) rows) row_of, length-take (symbol_count d) rows, length-drop (symbol_count d) rows, ap length (end-is _ ends))

  rows-columns : IsAllRows d.columns (symbol_count d) rows → All (λ r. r < 2 ^ d.columns) (map row_of (take (symbol_count d) rows))
  rows-columns h = All-map (λ r. r < 2 ^ d.columns) row_of (take (symbol_count d) rows)
      (All-from_get_or (λ line. row_of line < 2 ^ d.columns) (take (symbol_count d) rows) [] (λ i low. row-below d.columns (get_or (take (symbol_count d) rows) i []) (h.each i low)))

text-is : (bytes : List ℕ) (m : Code) → matrix_of bytes ≡ Ok m → IsText bytes m
unfolding matrix_of matrix_text
text-is bytes m e =
    let h = after_head-is m (head_fault (lines bytes)) (head_of (line_at (lines bytes) 0)) (drop 1 (lines bytes)) e in
    let s = after_shape-is m h.heading.version (shape_of h.heading.n h.heading.w h.heading.k) (drop 1 (lines bytes)) h.rest in
    let d = s.dimensions in
    let head = head-is _ h.heading h.head_is in
    let shape = shape-is h.heading.n h.heading.w h.heading.k d s.shape_is in
    let limits = shape-limits h.heading.n h.heading.w h.heading.k d head.n head.w head.k shape in
    let b = body-is m d h.heading.version (drop 1 (lines bytes)) limits.some_devices s.rest in
    let r = after_rows-is m d b.prices b.line b.rows (first_bad_row d b.rows) b.rest in
    let more = (good-line (λ line. is_some (head_of line)) Head (lines bytes) h.no_fault).more in
    let rows = good_rows d b.rows r.none_bad in
    record {
      spelled =
          text-lines bytes (line_at (lines bytes) 0) (price_lines b.prices) b.rows (symbol_count d)
          (uncons (lines bytes) (omega (arith, more)) ∙ ap (λ (l : List (List ℕ)). line_at (lines bytes) 0 ∷ l) b.parts) r.ends
          ∙ (λ i. ended ((head.spelled ∙ (λ j. head_text (b.version_is j) (shape.is j).devices (shape.is j).symbols_per_device (shape.is j).columns)) i)
          ++ (flat_map ended (price_lines b.prices) ++ rows-texts d.columns (take (symbol_count d) b.rows) rows.each i))
          ∙ ap matrix_text r.is;
      limits = subst IsMatrixCode r.is (record {
        shape = limits;
        count = rows-count d b.rows r.ends;
        columns = rows-columns d b.rows rows;
        price_count = b.count;
        priced = b.priced;
      });
    }

-- what is read as a matrix is its text
pub text-matrix_of : (bytes : List ℕ) (m : Code) → matrix_of bytes ≡ Ok m → bytes ≡ matrix_text m
text-matrix_of bytes m e = (text-is bytes m e).spelled

-- what is read as a matrix is within the limits
pub matrix_of-limits : (bytes : List ℕ) (m : Code) → matrix_of bytes ≡ Ok m → IsMatrixCode m
matrix_of-limits bytes m e = (text-is bytes m e).limits

-- ---- the answers of the code

-- something is wrong with the first line
pub answer-bad : (bytes : List ℕ) (kind : LineKind) → head_fault (lines bytes) ≡ Some kind → Err (Bad 1 kind) ≡ matrix_of bytes
unfolding matrix_of
answer-bad bytes kind e = sym (ap (λ f. after_head f (head_of (line_at (lines bytes) 0)) (drop 1 (lines bytes))) e)

-- the first line names this heading
pub answer-shape : (bytes : List ℕ) (head : Heading) → head_fault (lines bytes) ≡ None → head_of (line_at (lines bytes) 0) ≡ Some head
    → after_shape head.version (shape_of head.n head.w head.k) (drop 1 (lines bytes)) ≡ matrix_of bytes
unfolding matrix_of
answer-shape bytes head e f = sym (λ i. after_head (e i) (f i) (drop 1 (lines bytes)))

-- what is read is spelled so
pub answer-read : (bytes : List ℕ) (answer : Result Code MatrixFault) → answer ≡ matrix_of bytes → IfOk answer (λ m. bytes ≡ matrix_text m)
answer-read bytes (Ok m) e = text-matrix_of bytes m (sym e)
answer-read bytes (Err fault) e = tt

-- what is spelled so is read
pub answer-spelled : (bytes : List ℕ) (answer : Result Code MatrixFault) → answer ≡ matrix_of bytes
    → (m : Code) → IsMatrixCode m → bytes ≡ matrix_text m → answer ≡ Ok m
answer-spelled bytes answer e m h is = e ∙ ap matrix_of is ∙ matrix_of-text m h
