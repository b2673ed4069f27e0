-- How the words after a command's name are read, from left to right.
use Rattle.std.specs.Prelude.{ℕ, Bool, true, false, List, [], ◌∷◌, ◌++◌, Option, Some, None, ◌==◌, codes, if◌then◌else◌, find, option_map, bytes_eq}
use Rattle.std.specs.List.{list_any, before_first, after_first}

-- a word or a name, by its bytes
abbrev pub Text : Type 0
Text = List ℕ

-- of an option: the second step, where the first gave something to take it from
infixl 10 ◌>>=◌
abbrev pub ◌>>=◌ : {X Y : Type 0} → Option X → (X → Option Y) → Option Y
None >>= next = None
(Some x) >>= next = next x

-- what a command takes: the places, each of which is wanted, in order; the options with a value; and the flags
pub record Syntax : Type 0 where
  pub places : List Text
  pub valued : List Text
  pub flags : List Text

-- the names that were given, each with its text; a flag's text is `true`
abbrev pub Given : Type 0
Given = List (Text × Text)

-- where the reading stands between two words
pub record Reading : Type 0 where
  pub given : Given
  -- the names of the places that are to come
  pub left : List Text
  -- the option whose value is the next word
  pub wants : Option Text
  -- `--` was met
  pub is_past : Bool

abbrev pub nothing_read : Syntax → Reading
nothing_read s = record { given = []; left = s.places; wants = None; is_past = false }

-- what a word is by itself
pub data Word : Type 0 where
  -- `--`
  dashes : Word
  -- `--name`, or `--name=value`
  option : Text → Option Text → Word
  -- another word that begins with `-` and has more than one byte
  strange : Word
  plain : Word

-- `=`
abbrev pub is_equals : ℕ → Bool
is_equals byte = byte == 61

-- what follows the first `=`
abbrev pub value_after : Text → Option Text
value_after text = if list_any is_equals text then Some (after_first is_equals text) else None

-- a word that begins with `--`, by what follows
abbrev pub dashed : Text → Word
dashed [] = dashes
dashed (x ∷ xs) = option (before_first is_equals (x ∷ xs)) (value_after (x ∷ xs))

-- the code of `-` is 45
abbrev pub word_of : Text → Word
word_of [] = plain
word_of (x ∷ []) = plain
word_of (x ∷ y ∷ rest) = if x == 45 then (if y == 45 then dashed rest else strange) else plain

abbrev pub is_among : Text → List Text → Bool
is_among name names = list_any (λ n. bytes_eq n name) names

abbrev pub has_name : Text → Given → Bool
has_name name given = list_any (λ g. bytes_eq g.0 name) given

-- the text that was given to the name
abbrev pub text_in : Given → Text → Option Text
text_in given name = option_map (λ g. g.1) (find (λ g. bytes_eq g.0 name) given)

-- the name is given this text, where it has none yet
abbrev pub give : Text → Text → Reading → Option Reading
give name text r =
    if has_name name r.given then None
    else Some (record r { given = r.given ++ (name, text) ∷ []; wants = None })

-- the word goes to the next place
abbrev pub next_place : List Text → Text → Reading → Option Reading
next_place [] word r = None
next_place (name ∷ left) word r = give name word (record r { left = left })

abbrev pub give_place : Text → Reading → Option Reading
give_place word r = next_place r.left word r

-- `--name=value`, and `--name`
abbrev pub give_option : Syntax → Text → Option Text → Reading → Option Reading
give_option s name (Some value) r = if is_among name s.valued then give name value r else None
give_option s name None r = if is_among name s.valued then Some (record r { wants = Some name })
    else (if is_among name s.flags then give name (codes "true") r else None)

-- a word where no value is wanted
abbrev pub read_free : Syntax → Text → Word → Reading → Option Reading
read_free s word dashes r = Some (record r { is_past = true })
read_free s word (option name value) r = give_option s name value r
read_free s word strange r = None
read_free s word plain r = give_place word r

-- a word that is to be the option's value
abbrev pub read_value : Text → Text → Word → Reading → Option Reading
read_value name word plain r = give name word r
read_value name word _ r = None

abbrev pub read_word : Syntax → Text → Bool → Option Text → Reading → Option Reading
read_word s word true wants r = give_place word r
read_word s word false (Some name) r = read_value name word (word_of word) r
read_word s word false None r = read_free s word (word_of word) r

-- one more word is read; None where it is refused
abbrev pub read_next : Syntax → Reading → Text → Option Reading
read_next s r word = read_word s word r.is_past r.wants r

unfoldable pub read_from : Syntax → List Text → Reading → Option Reading
read_from s [] r = Some r
read_from s (word ∷ rest) r = read_next s r word >>= read_from s rest

-- the words may end where no option wants its value and no place is to come
abbrev pub at_end : Option Text → List Text → Given → Option Given
at_end None [] given = Some given
at_end _ _ given = None

abbrev pub given_at_end : Reading → Option Given
given_at_end r = at_end r.wants r.left r.given

-- what the words give, each name at most once and each place exactly; None where they are refused
abbrev pub given_of : Syntax → List Text → Option Given
given_of s words = read_from s words (nothing_read s) >>= given_at_end
