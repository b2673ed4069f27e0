-- `encode MATRIX DATA STRIPES BYTES`
use Rattle.std.specs.Prelude.{List, [], ◌∷◌, Option, Some, codes}
use Rattle.mr_words.specs.Grammar.{Syntax, Text, ◌>>=◌, given_of, text_in}
use Rattle.mr_words.specs.Texts.{file_of, number_in}
use Rattle.mr_words.specs.declared.encode_words.EncodeWords.{EncodeWords}

abbrev pub encode_syntax : Syntax
encode_syntax = record {
  places = codes "matrix" ∷ codes "payload" ∷ codes "stripes" ∷ codes "bytes" ∷ [];
  valued = [];
  flags = [];
}

-- what the texts of the names mean
abbrev pub encode_from : (Text → Option Text) → Option EncodeWords
encode_from text = do
  matrix ← file_of (text (codes "matrix"))
  payload ← file_of (text (codes "payload"))
  stripes ← number_in (text (codes "stripes"))
  bytes ← number_in (text (codes "bytes"))
  Some (record { matrix = matrix; payload = payload; stripes = stripes; bytes = bytes })

-- what the words after `encode` ask
abbrev pub encode_of : List Text → Option EncodeWords
encode_of words = given_of encode_syntax words >>= (λ given. encode_from (text_in given))
