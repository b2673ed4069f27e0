-- The words of `arrays`.
use Rattle.std.specs.Prelude.{List, None, Option, [], bytes_eq, codes, if◌then◌else◌, option_map, ◌∷◌}
use Rattle.mr_words.specs.Grammar.{Text}
use Rattle.mr_array_words.specs.Gather.{GatherAsked, gather_asked, gather_of}
use Rattle.mr_array_words.specs.Scatter.{ScatterAsked, scatter_asked, scatter_of}
use Rattle.mr_array_words.specs.declared.words.ArrayWords.{ArrayWords}
use Rattle.mr_array_words.specs.declared.words.ArrayWords.TheVariants.{Gather, Scatter}

-- what is asked, by the command
pub data ArrayAsked : Type 0 where
  to_gather : GatherAsked → ArrayAsked
  to_scatter : ScatterAsked → ArrayAsked

-- what the words that were read ask
abbrev pub array_asked : ArrayWords → ArrayAsked
array_asked (Gather words) = to_gather (gather_asked words)
array_asked (Scatter words) = to_scatter (scatter_asked words)

-- what the words after the command ask
abbrev pub command_asked : Text → List Text → Option ArrayAsked
command_asked command words =
    if bytes_eq command (codes "gather") then option_map to_gather (gather_of words)
    else (if bytes_eq command (codes "scatter") then option_map to_scatter (scatter_of words) else None)

-- what the words after the program's name ask, if they are in the grammar
unfoldable pub array_words_of : List Text → Option ArrayAsked
array_words_of [] = None
array_words_of (command ∷ words) = command_asked command words
