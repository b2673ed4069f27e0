-- `plan MATRIX LOST [--workers W] [--budget C]`
use Rattle.std.specs.Prelude.{List, [], ◌∷◌, Option, Some, codes}
use Rattle.mr_words.specs.Grammar.{Syntax, Text, ◌>>=◌, given_of, text_in}
use Rattle.mr_words.specs.Texts.{budget_of, file_of, lost_of, workers_of}
use Rattle.mr_words.specs.declared.plan_words.PlanWords.{PlanWords}

abbrev pub plan_syntax : Syntax
plan_syntax = record {
  places = codes "matrix" ∷ codes "lost" ∷ [];
  valued = codes "workers" ∷ codes "budget" ∷ [];
  flags = [];
}

-- what the texts of the names mean
abbrev pub plan_from : (Text → Option Text) → Option PlanWords
plan_from text = do
  matrix ← file_of (text (codes "matrix"))
  lost ← lost_of (text (codes "lost"))
  workers ← workers_of (text (codes "workers"))
  budget ← budget_of (text (codes "budget"))
  Some (record { matrix = matrix; lost = lost; workers = workers; budget = budget })

-- what the words after `plan` ask
abbrev pub plan_of : List Text → Option PlanWords
plan_of words = given_of plan_syntax words >>= (λ given. plan_from (text_in given))
