-- The text of a matrix, and what is read from a text: the matrix, or the
-- first expected line that is not of its form.
use Rattle.std.specs.Prelude.{ℕ, ◌+◌, ◌==◌, nat_le, Bool, false, not, ◌&&◌, ◌||◌, List, [], ◌∷◌, ◌++◌, map, flat_map, take, drop, replicate, length, slice_index, slice_index_or, Option, Some, None, is_some, unwrap_or, Result, Ok, Err, codes, decimal, if◌then◌else◌}
use Rattle.std.specs.Int.{bit_at}
use Rattle.std.specs.List.{list_all, range_with_len, join_with_byte}
use Rattle.std.specs.Str.{bytes_eq}
use Rattle.mr_model.specs.Sets.{set_below, find_below}
use Rattle.mr_model.specs.Code.{Code, Dimensions, priced_code, greatest_price}
use Rattle.mr_bits.specs.declared.errors.Large.{Large}
use Rattle.mr_bits.specs.Shapes.{shape_of}
use Rattle.mr_bits.specs.Matrices.{symbol_count}
use Rattle.mr_text.specs.Lines.{pieces}
use Rattle.mr_text.specs.Numbers.{number_of}
use Rattle.mr_form.specs.declared.faults.LineKind.{LineKind}
use Rattle.mr_form.specs.declared.faults.LineKind.TheVariants.{Missing, NoEnd, Head, Price, Row, Extra}
use Rattle.mr_form.specs.declared.faults.MatrixFault.{MatrixFault}
use Rattle.mr_form.specs.declared.faults.MatrixFault.TheVariants.{Bad, Large as TooLarge}
use Rattle.mr_form.specs.declared.heads.Version.{Version}
use Rattle.mr_form.specs.declared.heads.Version.TheVariants.{One, Two}
use Rattle.mr_form.specs.declared.heads.Heading.{Heading}

-- ---- bytes

abbrev pub line_feed : ℕ
line_feed = 10

abbrev pub space : ℕ
space = 32

abbrev pub digit_zero : ℕ
digit_zero = 48

abbrev pub digit_one : ℕ
digit_one = 49

-- ---- the text of a matrix: the line `matrix V n w k` with the version V, in version 2 the line
-- `price` with a price for each device, and for each symbol upwards a line of k bytes `0` or `1`

-- a line, and its line feed
abbrev pub ended : List ℕ → List ℕ
ended line = line ++ line_feed ∷ []

-- words, with single spaces between them
abbrev pub spaced : List (List ℕ) → List ℕ
spaced words = join_with_byte space words

abbrev pub version_text : Version → List ℕ
version_text One = codes "1"
version_text Two = codes "2"

unfoldable pub head_text : Version → ℕ → ℕ → ℕ → List ℕ
head_text version n w k =
    spaced (codes "matrix" ∷ version_text version ∷ decimal n ∷ decimal w ∷ decimal k ∷ [])

unfoldable pub price_text : List ℕ → List ℕ
price_text prices = spaced (codes "price" ∷ map decimal prices)

-- byte c is `1` where column c is in the row, and else `0`
unfoldable pub row_text : ℕ → ℕ → List ℕ
row_text k row = map (λ c. digit_zero + bit_at row c) (range_with_len 0 k)

-- each price is 1
abbrev pub are_ones : List ℕ → Bool
are_ones prices = list_all (λ p. p == 1) prices

-- version 1 is the one of the prices 1
abbrev pub version_for : List ℕ → Version
version_for prices = if are_ones prices then One else Two

-- the line of the prices, where the text has one
abbrev pub price_lines : List ℕ → List (List ℕ)
price_lines prices = if are_ones prices then [] else price_text prices ∷ []

unfoldable pub matrix_text : Code → List ℕ
matrix_text m = ended (head_text (version_for m.prices) m.devices m.symbols_per_device m.columns)
    ++ (flat_map ended (price_lines m.prices)
    ++ flat_map (λ row. ended (row_text m.columns row)) m.rows)

-- ---- lines and words

-- the lines of a text. No line feed stands behind the last, which
-- is empty where a line feed ends the text.
abbrev pub lines : List ℕ → List (List ℕ)
lines bytes = pieces line_feed bytes

-- what stands between the spaces of a line
abbrev pub words : List ℕ → List (List ℕ)
words line = pieces space line

abbrev pub line_at : List (List ℕ) → ℕ → List ℕ
line_at text i = slice_index_or text i []

-- What is wrong with an expected line, where `left` are the lines from it on: no byte is left
-- there, or no line feed, or the line is not of its form.
unfoldable pub line_fault : (List ℕ → Bool) → LineKind → List (List ℕ) → Option LineKind
line_fault is_formed kind [] = Some Missing
line_fault is_formed kind (line ∷ []) = Some (if length line == 0 then Missing else NoEnd)
line_fault is_formed kind (line ∷ next ∷ more) = if is_formed line then None else Some kind

-- no byte is left
unfoldable pub is_end : List (List ℕ) → Bool
is_end [] = false
is_end (line ∷ []) = length line == 0
is_end (line ∷ next ∷ more) = false

-- ---- the head

abbrev pub at_least_one : Option ℕ → Option ℕ
at_least_one None = None
at_least_one (Some n) = if nat_le 1 n then Some n else None

-- a number of at least 1
unfoldable pub size_of : List ℕ → Option ℕ
size_of word = at_least_one (number_of word)

abbrev pub version_of : List ℕ → Option Version
version_of word =
    if bytes_eq word (codes "1") then Some One
    else if bytes_eq word (codes "2") then Some Two
    else None

abbrev pub heading : Option Version → Option ℕ → Option ℕ → Option ℕ → Option Heading
heading (Some version) (Some n) (Some w) (Some k) =
    Some (record { version = version; n = n; w = w; k = k })
heading _ _ _ _ = None

-- five words: `matrix`, the version and the sizes
abbrev pub head_words : List (List ℕ) → Option Heading
head_words (name ∷ version ∷ n ∷ w ∷ k ∷ []) =
    if bytes_eq name (codes "matrix")
    then heading (version_of version) (size_of n) (size_of w) (size_of k)
    else None
head_words _ = None

-- the version and the sizes that the line `matrix V n w k` names, with single spaces
unfoldable pub head_of : List ℕ → Option Heading
head_of line = head_words (words line)

-- what is wrong with the first line
abbrev pub head_fault : List (List ℕ) → Option LineKind
head_fault text = line_fault (λ line. is_some (head_of line)) Head text

-- ---- prices

-- the number that a word spells, or 0, which is no price
abbrev pub number_in : List ℕ → ℕ
number_in word = unwrap_or (number_of word) 0

abbrev pub is_price : ℕ → Bool
is_price number = nat_le 1 number && nat_le number greatest_price

-- n prices
abbrev pub are_prices : ℕ → List ℕ → Bool
are_prices n numbers = (length numbers == n) && list_all is_price numbers

-- the numbers behind the first word
abbrev pub prices_of : List ℕ → List ℕ
prices_of line = map number_in (drop 1 (words line))

-- `price` and n prices, not all of them 1, with single spaces
unfoldable pub is_price_line : ℕ → List ℕ → Bool
is_price_line n line = are_prices n (prices_of line)
    && (bytes_eq (line_at (words line) 0) (codes "price") && not (are_ones (prices_of line)))

-- what is wrong with the line of the prices
abbrev pub price_fault : ℕ → List (List ℕ) → Option LineKind
price_fault n body = line_fault (is_price_line n) Price body

-- ---- rows

-- each byte is `0` or `1`
unfoldable pub are_bits : List ℕ → Bool
are_bits line = list_all (λ b. b == digit_zero || b == digit_one) line

-- k bytes, each `0` or `1`
unfoldable pub is_row : ℕ → List ℕ → Bool
is_row k line = length line == k && are_bits line

-- the set of the places below n at which `1` stands
unfoldable pub ones_below : ℕ → List ℕ → ℕ
ones_below n line = set_below n (λ c. slice_index line c == digit_one)

-- the set of the places at which `1` stands
abbrev pub row_of : List ℕ → ℕ
row_of line = ones_below (length line) line

-- what is wrong with row i, where `body` are the lines from row 0 on
abbrev pub row_fault : ℕ → List (List ℕ) → ℕ → Option LineKind
row_fault k body i = line_fault (is_row k) Row (drop i body)

-- the first row that something is wrong with
abbrev pub first_bad_row : Dimensions → List (List ℕ) → Option ℕ
first_bad_row d body = find_below (symbol_count d) (λ i. is_some (row_fault d.columns body i))

-- ---- the whole: line 1 is the head, in version 2 line 2 has the prices, the rows follow, and
-- nothing follows them

abbrev pub after_rows : Dimensions → List ℕ → ℕ → List (List ℕ) → Option ℕ → Result Code MatrixFault
after_rows d prices first body (Some i) =
    Err (Bad (first + i) (unwrap_or (row_fault d.columns body i) Row))
after_rows d prices first body None =
    if is_end (drop (symbol_count d) body)
    then Ok (priced_code d (map row_of (take (symbol_count d) body)) prices)
    else Err (Bad (first + symbol_count d) Extra)

-- the matrix with these prices whose rows are the lines of the
-- body, where row 0 is line `first` of the text
abbrev pub read_rows : Dimensions → List ℕ → ℕ → List (List ℕ) → Result Code MatrixFault
read_rows d prices first body = after_rows d prices first body (first_bad_row d body)

abbrev pub after_prices : Dimensions → List (List ℕ) → Option LineKind → Result Code MatrixFault
after_prices d body (Some kind) = Err (Bad 2 kind)
after_prices d body None = read_rows d (prices_of (line_at body 0)) 3 (drop 1 body)

-- what the lines behind the head tell
abbrev pub read_body : Version → Dimensions → List (List ℕ) → Result Code MatrixFault
read_body One d body = read_rows d (replicate d.devices 1) 2 body
read_body Two d body = after_prices d body (price_fault d.devices body)

abbrev pub after_shape : Version → Result Dimensions Large → List (List ℕ) → Result Code MatrixFault
after_shape version (Err large) body = Err (TooLarge large)
after_shape version (Ok d) body = read_body version d body

abbrev pub after_head : Option LineKind → Option Heading → List (List ℕ) → Result Code MatrixFault
after_head None (Some head) body = after_shape head.version (shape_of head.n head.w head.k) body
after_head None None body = Err (Bad 1 Head)
after_head (Some kind) _ body = Err (Bad 1 kind)

-- the matrix that a text spells, or its first fault
unfoldable pub matrix_of : List ℕ → Result Code MatrixFault
matrix_of bytes = let text = lines bytes in
    after_head (head_fault text) (head_of (line_at text 0)) (drop 1 text)
