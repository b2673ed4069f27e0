-- `gather MATRIX BYTES FIRST STRIPES [--plan FILE] DEVICE..`
use Rattle.std.specs.Prelude.{List, None, Option, Some, [], bytes_eq, codes, if◌then◌else◌, option_map, ℕ, ◌∷◌}
use Rattle.mr_words.specs.Grammar.{Syntax, Text, ◌>>=◌}
use Rattle.mr_words.specs.Texts.{file_of, file_or_none, number_in}
use Rattle.mr_array_words.specs.Devices.{asked_with, count_in, each_of}
use Rattle.mr_array_words.specs.declared.gather_words.GatherWords.{GatherWords}

-- what is asked: texts by their characters, and None for a device that is lost
pub record GatherAsked : Type 0 where
  pub matrix : List ℕ
  pub bytes : ℕ
  pub first : ℕ
  pub stripes : ℕ
  pub plan : Option (List ℕ)
  pub devices : List (Option (List ℕ))

-- what the words that were read ask
abbrev pub gather_asked : GatherWords → GatherAsked
gather_asked words = record {
  matrix = words.matrix;
  bytes = words.bytes;
  first = words.first;
  stripes = words.stripes;
  plan = words.plan;
  devices = words.devices.items;
}

-- the places and the option, where the devices' places have these names
abbrev pub gather_syntax : List Text → Syntax
gather_syntax devices = record {
  places = codes "matrix" ∷ codes "bytes" ∷ codes "first" ∷ codes "stripes" ∷ devices;
  valued = codes "plan" ∷ [];
  flags = [];
}

-- the name of a device file, by its characters: `-` stands for a device that is lost
abbrev pub kept_file : List ℕ → Option (List ℕ)
kept_file name = if bytes_eq name (codes "-") then None else Some name

abbrev pub gather_device : Option Text → Option (Option (List ℕ))
gather_device text = option_map kept_file (file_of text)

-- what the texts of the names mean
abbrev pub gather_from : List Text → (Text → Option Text) → Option GatherAsked
gather_from names text = do
  matrix ← file_of (text (codes "matrix"))
  bytes ← number_in (text (codes "bytes"))
  first ← number_in (text (codes "first"))
  stripes ← number_in (text (codes "stripes"))
  plan ← file_or_none (text (codes "plan"))
  devices ← each_of (λ name. gather_device (text name)) names
  Some (record {
    matrix = matrix;
    bytes = bytes;
    first = first;
    stripes = stripes;
    plan = plan;
    devices = devices;
  })

-- what the words after `gather` ask: there are 1 to 128 devices
abbrev pub gather_of : List Text → Option GatherAsked
gather_of words = count_in gather_syntax 1 128 words
    >>= (λ count. asked_with gather_syntax gather_from count words)
