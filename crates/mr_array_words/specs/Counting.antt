-- How many words are places, where the words are in the grammar.
use Rattle.std.specs.Prelude.{Bool, List, None, Option, Some, [], false, if◌then◌else◌, nat_le, true, ℕ, ◌&&◌, ◌+◌, ◌-◌, ◌∷◌}
use Rattle.mr_words.specs.Grammar.{Text, Word, dashes, option, plain, word_of}
use Rattle.mr_array_words.specs.declared.counting.TheConstants.{DEVICE_LIMIT}
use Rattle.mr_array_words.specs.declared.counting.Turn.{Turn}
use Rattle.mr_array_words.specs.declared.counting.Turn.TheVariants.{Any, Place, Value}

-- whether the word is a place, where it is not a value
abbrev pub is_plain : Word → Bool
is_plain plain = true
is_plain _ = false

-- whether the word is a place
abbrev pub is_place : Turn → Text → Bool
is_place Any word = is_plain (word_of word)
is_place Value word = false
is_place Place word = true

-- what follows a word that is not a value: a value follows an option that has none by `=`
abbrev pub behind : Word → Turn
behind dashes = Place
behind (option name None) = Value
behind _ = Any

-- what follows a word
abbrev pub turn_after : Turn → Text → Turn
turn_after Any word = behind (word_of word)
turn_after Value word = Any
turn_after Place word = Place

-- the number of places among the words
unfoldable pub places_from : Turn → List Text → ℕ
places_from turn [] = 0
places_from turn (word ∷ words) =
    (if is_place turn word then 1 else 0) + places_from (turn_after turn word) words

-- the number of devices, where it lies between the least and the limit and so many places stand before them
abbrev pub count_between : ℕ → ℕ → ℕ → Option ℕ
count_between before least places =
    if nat_le (before + least) places && nat_le places (before + DEVICE_LIMIT)
    then Some (places - before) else None
