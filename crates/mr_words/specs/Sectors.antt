-- `sectors MATRIX IMAGE LOST BAD [--budget C]`
use Rattle.std.specs.Prelude.{List, [], ◌∷◌, Option, Some, codes}
use Rattle.mr_words.specs.Grammar.{Syntax, Text, ◌>>=◌, given_of, text_in}
use Rattle.mr_words.specs.Texts.{budget_of, file_of, lost_of}
use Rattle.mr_words.specs.declared.sectors_words.SectorsWords.{SectorsWords}

abbrev pub sectors_syntax : Syntax
sectors_syntax = record {
  places = codes "matrix" ∷ codes "image" ∷ codes "lost" ∷ codes "bad" ∷ [];
  valued = codes "budget" ∷ [];
  flags = [];
}

-- what the texts of the names mean
abbrev pub sectors_from : (Text → Option Text) → Option SectorsWords
sectors_from text = do
  matrix ← file_of (text (codes "matrix"))
  image ← file_of (text (codes "image"))
  lost ← lost_of (text (codes "lost"))
  bad ← file_of (text (codes "bad"))
  budget ← budget_of (text (codes "budget"))
  Some (record { matrix = matrix; image = image; lost = lost; bad = bad; budget = budget })

-- what the words after `sectors` ask
abbrev pub sectors_words_of : List Text → Option SectorsWords
sectors_words_of words = given_of sectors_syntax words >>= (λ given. sectors_from (text_in given))
