-- `make rdp P` and `make evenodd P`
use Rattle.std.specs.Prelude.{List, [], ◌∷◌, Option, Some, codes}
use Rattle.mr_words.specs.Grammar.{Syntax, Text, ◌>>=◌, given_of, text_in}
use Rattle.mr_words.specs.Texts.{code_of, prime_of}
use Rattle.mr_words.specs.declared.make_words.MakeWords.{MakeWords}

abbrev pub make_syntax : Syntax
make_syntax = record { places = codes "code" ∷ codes "prime" ∷ []; valued = []; flags = [] }

-- what the texts of the names mean
abbrev pub make_from : (Text → Option Text) → Option MakeWords
make_from text = do
  code ← code_of (text (codes "code"))
  prime ← prime_of code (text (codes "prime"))
  Some (record { code = code; prime = prime })

-- what the words after `make` ask
abbrev pub make_of : List Text → Option MakeWords
make_of words = given_of make_syntax words >>= (λ given. make_from (text_in given))
