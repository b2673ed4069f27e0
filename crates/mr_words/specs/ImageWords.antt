-- `convert MATRIX IMAGE` and `scrub MATRIX IMAGE`
use Rattle.std.specs.Prelude.{List, [], ◌∷◌, Option, Some, codes}
use Rattle.mr_words.specs.Grammar.{Syntax, Text, ◌>>=◌, given_of, text_in}
use Rattle.mr_words.specs.Texts.{file_of}
use Rattle.mr_words.specs.declared.image_words.ImageWords.{ImageWords}

abbrev pub image_syntax : Syntax
image_syntax = record { places = codes "matrix" ∷ codes "image" ∷ []; valued = []; flags = [] }

-- what the texts of the names mean
abbrev pub image_from : (Text → Option Text) → Option ImageWords
image_from text = do
  matrix ← file_of (text (codes "matrix"))
  image ← file_of (text (codes "image"))
  Some (record { matrix = matrix; image = image })

-- what the words after such a command ask
abbrev pub image_words_of : List Text → Option ImageWords
image_words_of words = given_of image_syntax words >>= (λ given. image_from (text_in given))
