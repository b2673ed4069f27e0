-- `scatter MATRIX FIRST LOST DEVICE..`
use Rattle.std.specs.Prelude.{List, None, Option, Some, [], codes, if◌then◌else◌, length, ℕ, ◌==◌, ◌∷◌}
use Rattle.mr_words.specs.Grammar.{Syntax, Text, ◌>>=◌}
use Rattle.mr_words.specs.Lost.{lost_numbers}
use Rattle.mr_words.specs.Texts.{file_of, lost_of, number_in}
use Rattle.mr_array_words.specs.Devices.{asked_with, count_in, each_of}
use Rattle.mr_array_words.specs.declared.scatter_words.ScatterWords.{ScatterWords}

-- what is asked: texts by their characters
pub record ScatterAsked : Type 0 where
  pub matrix : List ℕ
  pub first : ℕ
  pub lost : List ℕ
  pub devices : List (List ℕ)

-- what the words that were read ask
abbrev pub scatter_asked : ScatterWords → ScatterAsked
scatter_asked words = record {
  matrix = words.matrix;
  first = words.first;
  lost = words.lost;
  devices = words.devices.items;
}

-- the places, where those of the devices have these names
abbrev pub scatter_syntax : List Text → Syntax
scatter_syntax devices = record {
  places = codes "matrix" ∷ codes "first" ∷ codes "lost" ∷ devices;
  valued = [];
  flags = [];
}

-- the LOST word, where it lists so many devices
abbrev pub lost_with : ℕ → List ℕ → Option (List ℕ)
lost_with count lost = if length (lost_numbers lost) == count then Some lost else None

abbrev pub lost_list_of : ℕ → Option Text → Option (List ℕ)
lost_list_of count text = lost_of text >>= lost_with count

-- what the texts of the names mean
abbrev pub scatter_from : List Text → (Text → Option Text) → Option ScatterAsked
scatter_from names text = do
  matrix ← file_of (text (codes "matrix"))
  first ← number_in (text (codes "first"))
  lost ← lost_list_of (length names) (text (codes "lost"))
  devices ← each_of (λ name. file_of (text name)) names
  Some (record { matrix = matrix; first = first; lost = lost; devices = devices })

-- what the words after `scatter` ask: there are 0 to 128 devices
abbrev pub scatter_of : List Text → Option ScatterAsked
scatter_of words = count_in scatter_syntax 0 129 words
    >>= (λ count. asked_with scatter_syntax scatter_from count words)
