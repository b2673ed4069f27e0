-- What the readers of words answer.
use Rattle.std.specs.Prelude.{◌≡◌, Bool, false, List, Option, Some, None, Result, Ok, Err, drop, ⊤, codes, bytes_eq}
use Rattle.clap.specs.Words.{first_value, found_of}
use Rattle.clap.specs.declared.parser.matches.ArgMatches.{ArgMatches}
use Rattle.mr_words.specs.Grammar.{Given, Syntax, Text, given_of, is_among, text_in}
use Rattle.mr_words.specs.declared.errors.WordsError.{WordsError}
use Rattle.mr_words.specs.declared.errors.WordsError.TheVariants.{Usage, Memory}

-- the answer is the value that there is, and Usage exactly where there is none; want of memory may come at any time
abbrev pub Reads : {X : Type 0} → Option X → Result X WordsError → Type 0
Reads value (Ok x) = value ≡ Some x
Reads value (Err Usage) = value ≡ None
Reads value (Err Memory) = ⊤

-- the flag was given
abbrev pub is_set : Option Text → Bool
is_set None = false
is_set (Some text) = bytes_eq text (codes "true")

-- the matches have the texts that were given to the places and options, and the flags that were given
abbrev pub HasTexts : Syntax → Given → ArgMatches → Type 0
HasTexts s given m =
    ((name : Text) → is_among name s.flags ≡ false
    → first_value (found_of m) name ≡ text_in given name)
    × ((name : Text) → is_set (first_value (found_of m) name) ≡ is_set (text_in given name))

-- the matches are those of what the words after the first give, and Usage comes exactly where they are refused
abbrev pub ParsesBy : Syntax → List Text → Result ArgMatches WordsError → Type 0
ParsesBy s words (Ok m) =
    (given : Given) × (given_of s (drop 1 words) ≡ Some given) × HasTexts s given m
ParsesBy s words (Err Usage) = given_of s (drop 1 words) ≡ None
ParsesBy s words (Err Memory) = ⊤
