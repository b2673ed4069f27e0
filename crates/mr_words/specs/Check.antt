-- `check MATRIX LOST PLAN`
use Rattle.std.specs.Prelude.{List, [], ◌∷◌, Option, Some, codes}
use Rattle.mr_words.specs.Grammar.{Syntax, Text, ◌>>=◌, given_of, text_in}
use Rattle.mr_words.specs.Texts.{file_of, lost_of}
use Rattle.mr_words.specs.declared.check_words.CheckWords.{CheckWords}

abbrev pub check_syntax : Syntax
check_syntax = record {
  places = codes "matrix" ∷ codes "lost" ∷ codes "plan" ∷ [];
  valued = [];
  flags = [];
}

-- what the texts of the names mean
abbrev pub check_from : (Text → Option Text) → Option CheckWords
check_from text = do
  matrix ← file_of (text (codes "matrix"))
  lost ← lost_of (text (codes "lost"))
  plan ← file_of (text (codes "plan"))
  Some (record { matrix = matrix; lost = lost; plan = plan })

-- what the words after `check` ask
abbrev pub check_of : List Text → Option CheckWords
check_of words = given_of check_syntax words >>= (λ given. check_from (text_in given))
