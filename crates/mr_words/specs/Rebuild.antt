-- `rebuild MATRIX IMAGE LOST [--workers W] [--budget C] [--plan FILE] [--live]`
use Rattle.std.specs.Prelude.{List, [], ◌∷◌, Option, Some, codes}
use Rattle.mr_words.specs.Grammar.{Syntax, Text, ◌>>=◌, given_of, text_in}
use Rattle.mr_words.specs.Reads.{is_set}
use Rattle.mr_words.specs.Texts.{budget_of, file_of, file_or_none, lost_of, workers_of}
use Rattle.mr_words.specs.declared.rebuild_words.RebuildWords.{RebuildWords}

abbrev pub rebuild_syntax : Syntax
rebuild_syntax = record {
  places = codes "matrix" ∷ codes "image" ∷ codes "lost" ∷ [];
  valued = codes "workers" ∷ codes "budget" ∷ codes "plan" ∷ [];
  flags = codes "live" ∷ [];
}

-- what the texts of the names mean
abbrev pub rebuild_from : (Text → Option Text) → Option RebuildWords
rebuild_from text = do
  matrix ← file_of (text (codes "matrix"))
  image ← file_of (text (codes "image"))
  lost ← lost_of (text (codes "lost"))
  workers ← workers_of (text (codes "workers"))
  budget ← budget_of (text (codes "budget"))
  plan ← file_or_none (text (codes "plan"))
  Some (record {
    matrix = matrix;
    image = image;
    lost = lost;
    workers = workers;
    budget = budget;
    plan = plan;
    live = is_set (text (codes "live"));
  })

-- what the words after `rebuild` ask
abbrev pub rebuild_of : List Text → Option RebuildWords
rebuild_of words = given_of rebuild_syntax words >>= (λ given. rebuild_from (text_in given))
