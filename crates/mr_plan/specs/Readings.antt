-- The reading of a plan from its text: word by word in a line, line by line in the text, with the first bad line.
use Rattle.std.specs.Prelude.{ℕ, ◌+◌, ◌^◌, ◌==◌, ◌&&◌, Bool, false, nat_lt, nat_le, List, [], ◌∷◌, length, bit_or, codes, Option, Some, None, Result, Ok, Err, option_and_then, if◌then◌else◌}
use Rattle.std.specs.Option.{option_map, ok_or}
use Rattle.std.specs.Str.{bytes_eq}
use Rattle.mr_model.specs.Plans.{Recipe}
use Rattle.mr_text.specs.Lines.{pieces}
use Rattle.mr_text.specs.Numbers.{number_of}
use Rattle.mr_bits.specs.declared.matrices.TheConstants.{MOST_SYMBOLS}
use Rattle.mr_plan.specs.declared.errors.PlanLine.{PlanLine}
use Rattle.mr_plan.specs.declared.kinds.Kind.{Kind}
use Rattle.mr_plan.specs.declared.kinds.Kind.TheVariants.{Least, Spent, Given}
use Rattle.mr_plan.specs.Plans.{PlanParts}
use Rattle.mr_plan.specs.PlanText.{head_text}

-- ---- words

-- the words that are left, by single spaces: none where no bytes are
abbrev pub words_of : Option (List ℕ) → List (List ℕ)
words_of None = []
words_of (Some bytes) = pieces 32 bytes

-- ---- one line

-- the number of a symbol, from `least` on
unfoldable pub symbol_of : ℕ → List ℕ → Option ℕ
symbol_of least word =
    option_and_then (λ n. if nat_le least n && nat_lt n MOST_SYMBOLS then Some n else None) (number_of word)

-- the set of the symbols that these words are, strictly upwards from `least` on
unfoldable pub set_of_words : ℕ → List (List ℕ) → Option ℕ
set_of_words least [] = Some 0
set_of_words least (word ∷ words) =
    option_and_then (λ n. option_map (bit_or (2 ^ n)) (set_of_words (n + 1) words))
    (symbol_of least word)

-- a word, and then the symbols of a set
abbrev pub set_after : List ℕ → List (List ℕ) → Option ℕ
set_after word [] = None
set_after word (first ∷ words) = if bytes_eq first word then set_of_words 0 words else None

-- a symbol from `least` on, `=`, and the symbols of a set
abbrev pub recipe_of_words : ℕ → List (List ℕ) → Option Recipe
recipe_of_words least [] = None
recipe_of_words least (first ∷ words) =
    option_and_then (λ symbol.
    option_map (λ set. record { symbol = symbol; equation = set }) (set_after (codes "=") words))
    (symbol_of least first)

-- what the lines say: the first, that of the set, and that of a recipe behind the recipes of symbols below `least`
unfoldable pub kind_of : List ℕ → Option Kind
kind_of line =
    if bytes_eq line (head_text Least) then Some Least
    else if bytes_eq line (head_text Spent) then Some Spent
    else if bytes_eq line (head_text Given) then Some Given
    else None

unfoldable pub set_of : List ℕ → Option ℕ
set_of line = set_after (codes "set") (pieces 32 line)

unfoldable pub recipe_of : ℕ → List ℕ → Option Recipe
recipe_of least line = recipe_of_words least (pieces 32 line)

-- ---- the lines in order: each step reads the line of this number, and what is not of its form is refused there

infixl 10 ◌>>=◌
abbrev pub ◌>>=◌ : {A B : Type 0} → Result A PlanLine → (A → Result B PlanLine) → Result B PlanLine
Ok a >>= next = next a
Err e >>= next = Err e

abbrev pub bad_line : ℕ → PlanLine
bad_line line = record { line = line }

-- the next line, and what is left behind it: refused where there is no line feed
unfoldable pub next_line : ℕ → List (List ℕ) → Result (List ℕ × List (List ℕ)) PlanLine
next_line line [] = Err (bad_line line)
next_line line (first ∷ left) = if length left == 0 then Err (bad_line line) else Ok (first, left)

-- nothing follows the last line feed
abbrev pub is_over : List (List ℕ) → Bool
is_over [] = false
is_over (first ∷ left) = (length first == 0) && (length left == 0)

-- recipes up to the line `end`, and nothing behind it
unfoldable pub read_recipes : ℕ → ℕ → List (List ℕ) → Result (List Recipe) PlanLine
read_recipes line least [] = Err (bad_line line)
read_recipes line least (first ∷ left) =
    if length left == 0 then Err (bad_line line)
    else if bytes_eq first (codes "end")
    then (if is_over left then Ok [] else Err (bad_line (line + 1)))
    else (ok_or (recipe_of least first) (bad_line line) >>= λ recipe.
    read_recipes (line + 1) (recipe.symbol + 1) left >>= λ recipes. Ok (recipe ∷ recipes))

-- the plan of which the bytes are the text, or else the first bad line
unfoldable pub read_plan : List ℕ → Result PlanParts PlanLine
read_plan bytes = do
  first ← next_line 1 (pieces 10 bytes)
  kind ← ok_or (kind_of first.0) (bad_line 1)
  second ← next_line 2 first.1
  set ← ok_or (set_of second.0) (bad_line 2)
  recipes ← read_recipes 3 0 second.1
  Ok (record { kind = kind; set = set; recipes = recipes })
