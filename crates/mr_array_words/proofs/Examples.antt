-- Words of `arrays`, and what they ask.
use Rattle.std.proofs.Common.{◌≡◌, List, [], ◌∷◌, Option, Some, None, codes, refl}
use Rattle.std.specs.Str.{chars}
use Rattle.mr_text.specs.Numbers.{is_number, number_of}
use Rattle.mr_words.specs.Grammar.{Text, given_of, read_from, text_in, ◌>>=◌}
use Rattle.mr_words.specs.Lost.{is_lost_word, lost_numbers}
use Rattle.mr_array_words.specs.Devices.{each_of}
use Rattle.mr_array_words.specs.Gather.{GatherAsked, gather_from, gather_syntax}
use Rattle.mr_array_words.specs.Scatter.{ScatterAsked, scatter_from, scatter_syntax}
use Rattle.mr_array_words.specs.Words.{array_words_of, to_scatter}

-- what words ask with one device and with two, whatever the names of their places
abbrev one : List Text
one = codes "0" ∷ []

abbrev two : List Text
two = codes "0" ∷ codes "1" ∷ []

abbrev gather_with : List Text → List Text → Option GatherAsked
gather_with names words = given_of (gather_syntax names) words >>= (λ given. gather_from names (text_in given))

abbrev scatter_with : List Text → List Text → Option ScatterAsked
scatter_with names words = given_of (scatter_syntax names) words >>= (λ given. scatter_from names (text_in given))

-- the option may stand anywhere before `--`, and `-` stands for a lost device
gathered : gather_with two (codes "m" ∷ codes "8" ∷ codes "2" ∷ codes "4" ∷ codes "a" ∷ codes "--plan" ∷ codes "p" ∷ codes "-" ∷ [])
    ≡ Some (record {
      matrix = codes "m";
      bytes = 8;
      first = 2;
      stripes = 4;
      plan = Some (codes "p");
      devices = Some (codes "a") ∷ None ∷ [];
    })
unfolding read_from each_of number_of is_number chars
gathered = refl

-- behind `--` all words are places
past : gather_with one (codes "m" ∷ codes "8" ∷ codes "2" ∷ codes "4" ∷ codes "--" ∷ codes "--plan" ∷ [])
    ≡ Some (record {
      matrix = codes "m";
      bytes = 8;
      first = 2;
      stripes = 4;
      plan = None;
      devices = Some (codes "--plan") ∷ [];
    })
unfolding read_from each_of number_of is_number chars
past = refl

-- of `scatter` the name `-` is one like any other
scattered : scatter_with two (codes "m" ∷ codes "2" ∷ codes "0,3" ∷ codes "-" ∷ codes "b" ∷ [])
    ≡ Some (record { matrix = codes "m"; first = 2; lost = codes "0,3"; devices = codes "-" ∷ codes "b" ∷ [] })
unfolding read_from each_of number_of is_number is_lost_word lost_numbers chars
scattered = refl

-- no device is lost, and none is named
none_lost : array_words_of (codes "scatter" ∷ codes "m" ∷ codes "2" ∷ codes "none" ∷ [])
    ≡ Some (to_scatter (record { matrix = codes "m"; first = 2; lost = codes "none"; devices = [] }))
unfolding array_words_of read_from each_of number_of is_number is_lost_word lost_numbers chars
none_lost = refl

-- a device more than LOST lists, and one fewer
one_more : scatter_with two (codes "m" ∷ codes "2" ∷ codes "3" ∷ codes "a" ∷ codes "b" ∷ []) ≡ None
unfolding read_from each_of number_of is_number is_lost_word lost_numbers chars
one_more = refl

one_fewer : scatter_with one (codes "m" ∷ codes "2" ∷ codes "0,3" ∷ codes "a" ∷ []) ≡ None
unfolding read_from each_of number_of is_number is_lost_word lost_numbers chars
one_fewer = refl

-- an empty name, a command that there is not, and no words
empty_name : gather_with one (codes "m" ∷ codes "8" ∷ codes "2" ∷ codes "4" ∷ codes "" ∷ []) ≡ None
unfolding read_from each_of number_of is_number chars
empty_name = refl

help : array_words_of (codes "--help" ∷ []) ≡ None
unfolding array_words_of
help = refl

nothing : array_words_of [] ≡ None
unfolding array_words_of
nothing = refl
