-- The words of `table MATRIX [--workers W] [--budget C]`, the one command of this top call.
use Rattle.std.specs.Prelude.{List, [], ◌∷◌, Option, Some, None, ℕ, bytes_eq, codes, drop, if◌then◌else◌}
use Rattle.mr_words.specs.Grammar.{Syntax, Text, ◌>>=◌, given_of, text_in}
use Rattle.mr_words.specs.Texts.{file_of, number_or, workers_of}
use Rattle.mr_late.specs.declared.words.TableWords.{TableWords}
use Rattle.mr_late.specs.declared.words.TheConstants.{DEFAULT_TABLE_BUDGET, TABLE_BUDGET_LIMIT}

abbrev pub table_syntax : Syntax
table_syntax = record {
  places = codes "matrix" ∷ [];
  valued = codes "workers" ∷ codes "budget" ∷ [];
  flags = [];
}

-- what the texts of the names mean
abbrev pub table_from : (Text → Option Text) → Option TableWords
table_from text = do
  matrix ← file_of (text (codes "matrix"))
  workers ← workers_of (text (codes "workers"))
  budget ← number_or DEFAULT_TABLE_BUDGET 0 TABLE_BUDGET_LIMIT (text (codes "budget"))
  Some (record { matrix = matrix; workers = workers; budget = budget })

-- what the words after `table` ask
abbrev pub table_words_of : List Text → Option TableWords
table_words_of words = given_of table_syntax words >>= (λ given. table_from (text_in given))

-- what the words ask, of which the first is this command
abbrev pub command_words : List ℕ → List (List ℕ) → Option TableWords
command_words command words =
    if bytes_eq command (codes "table") then table_words_of (drop 1 words) else None

-- what the words after the program's name ask
unfoldable pub late_words_of : List (List ℕ) → Option TableWords
late_words_of [] = None
late_words_of (command ∷ rest) = command_words command (command ∷ rest)
