-- `leastplan MATRIX LOST [--workers W] [--budget C]`
use Rattle.std.specs.Prelude.{List, None, Option, Some, codes, ℕ}
use Rattle.mr_words.specs.Grammar.{Text, given_of, text_in, ◌>>=◌}
use Rattle.mr_words.specs.Plan.{plan_syntax}
use Rattle.mr_words.specs.Texts.{file_of, lost_of, workers_of}
use Rattle.mr_least_words.specs.Budgets.{budget_number}
use Rattle.mr_least_words.specs.declared.budgets.TheConstants.{GREATEST_BUDGET}
use Rattle.mr_least_words.specs.declared.words.LeastWords.{LeastWords}

-- the budget, which is the greatest where none is given
abbrev pub budget_of : Option Text → Option ℕ
budget_of None = Some GREATEST_BUDGET
budget_of (Some text) = budget_number text

-- what the texts of the names mean
abbrev pub least_from : (Text → Option Text) → Option LeastWords
least_from text = do
  matrix ← file_of (text (codes "matrix"))
  lost ← lost_of (text (codes "lost"))
  workers ← workers_of (text (codes "workers"))
  budget ← budget_of (text (codes "budget"))
  Some (record { matrix = matrix; lost = lost; workers = workers; budget = budget })

-- what the words after the program's name ask, in the syntax of `plan`
abbrev pub least_of : List Text → Option LeastWords
least_of words = given_of plan_syntax words >>= (λ given. least_from (text_in given))
