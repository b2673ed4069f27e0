-- `drill NUMBER`
use Rattle.std.specs.Prelude.{List, [], ◌∷◌, Option, Some, codes}
use Rattle.mr_words.specs.Grammar.{Syntax, Text, ◌>>=◌, given_of, text_in}
use Rattle.mr_words.specs.Texts.{number_in}
use Rattle.mr_words.specs.declared.drill_words.DrillWords.{DrillWords}

abbrev pub drill_syntax : Syntax
drill_syntax = record { places = codes "number" ∷ []; valued = []; flags = [] }

-- what the texts of the names mean
abbrev pub drill_from : (Text → Option Text) → Option DrillWords
drill_from text = do
  number ← number_in (text (codes "number"))
  Some (record { number = number })

-- what the words after `drill` ask
abbrev pub drill_of : List Text → Option DrillWords
drill_of words = given_of drill_syntax words >>= (λ given. drill_from (text_in given))
