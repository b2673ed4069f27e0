-- Words, and what they ask.
use Rattle.std.proofs.Common.{◌≡◌, ℕ, Bool, true, false, List, [], ◌∷◌, Option, Some, None, codes, refl}
use Rattle.std.specs.Str.{chars}
use Rattle.mr_text.specs.Numbers.{is_number, number_of}
use Rattle.mr_words.specs.Encode.{encode_of}
use Rattle.mr_words.specs.Grammar.{read_from}
use Rattle.mr_words.specs.Lost.{is_lost_word, lost_numbers}
use Rattle.mr_words.specs.Make.{make_of}
use Rattle.mr_words.specs.Plan.{plan_of}
use Rattle.mr_words.specs.Rebuild.{rebuild_of}
use Rattle.mr_words.specs.declared.code.Code.TheVariants.{Rdp}
use Rattle.mr_words.specs.declared.plan_words.PlanWords.{PlanWords}
use Rattle.mr_words.specs.declared.rebuild_words.RebuildWords.{RebuildWords}

abbrev row : ℕ → Option PlanWords
row budget = Some (record { matrix = codes "r3"; lost = codes "0"; workers = 4; budget = budget })

-- a place, an option and its value may stand anywhere before `--`; after it all words are places
plain : plan_of (codes "r3" ∷ codes "0" ∷ []) ≡ row 4194304
unfolding read_from is_lost_word number_of is_number chars
plain = refl

joined : plan_of (codes "--budget=11" ∷ codes "r3" ∷ codes "0" ∷ []) ≡ row 11
unfolding read_from is_lost_word number_of is_number chars
joined = refl

past : plan_of (codes "r3" ∷ codes "--budget" ∷ codes "11" ∷ codes "--" ∷ codes "0" ∷ []) ≡ row 11
unfolding read_from is_lost_word number_of is_number chars
past = refl

-- LOST words
equal : plan_of (codes "r3" ∷ codes "0,0" ∷ []) ≡ None
unfolding read_from is_lost_word number_of is_number chars
equal = refl

downwards : plan_of (codes "r3" ∷ codes "1,0" ∷ []) ≡ None
unfolding read_from is_lost_word number_of is_number chars
downwards = refl

leading_zero : plan_of (codes "r3" ∷ codes "01" ∷ []) ≡ None
unfolding read_from is_lost_word number_of is_number chars
leading_zero = refl

numbers : lost_numbers (codes "0,12,13") ≡ 0 ∷ 12 ∷ 13 ∷ []
unfolding lost_numbers number_of is_number
numbers = refl

no_numbers : lost_numbers (codes "none") ≡ []
unfolding lost_numbers number_of is_number
no_numbers = refl

-- a place that is not there, a number out of its bounds, an option twice, a shortened one, one that there is not, a value that looks like an option
no_lost : plan_of (codes "r3" ∷ []) ≡ None
unfolding read_from is_lost_word number_of is_number chars
no_lost = refl

no_word : plan_of [] ≡ None
unfolding read_from is_lost_word number_of is_number chars
no_word = refl

many_workers : plan_of (codes "r3" ∷ codes "0" ∷ codes "--workers" ∷ codes "65" ∷ []) ≡ None
unfolding read_from is_lost_word number_of is_number chars
many_workers = refl

no_workers : plan_of (codes "r3" ∷ codes "0" ∷ codes "--workers" ∷ codes "0" ∷ []) ≡ None
unfolding read_from is_lost_word number_of is_number chars
no_workers = refl

twice : plan_of (codes "--budget=1" ∷ codes "r3" ∷ codes "0" ∷ codes "--budget=1" ∷ []) ≡ None
unfolding read_from is_lost_word number_of is_number chars
twice = refl

shortened : plan_of (codes "--budg=1" ∷ codes "r3" ∷ codes "0" ∷ []) ≡ None
unfolding read_from is_lost_word number_of is_number chars
shortened = refl

not_there : plan_of (codes "r3" ∷ codes "0" ∷ codes "--live" ∷ []) ≡ None
unfolding read_from is_lost_word number_of is_number chars
not_there = refl

as_option : plan_of (codes "--budget" ∷ codes "-1" ∷ codes "r3" ∷ codes "0" ∷ []) ≡ None
unfolding read_from is_lost_word number_of is_number chars
as_option = refl

-- the makers
rdp : make_of (codes "rdp" ∷ codes "11" ∷ []) ≡ Some (record { code = Rdp; prime = 11 })
unfolding read_from number_of is_number
rdp = refl

evenodd : make_of (codes "evenodd" ∷ codes "11" ∷ []) ≡ None
unfolding read_from number_of is_number
evenodd = refl

-- an image to be made: its numbers have no leading zero and at most nine digits
encode : encode_of (codes "r3" ∷ codes "data" ∷ codes "2" ∷ codes "999999999" ∷ []) ≡ Some (record { matrix = codes "r3"; payload = codes "data"; stripes = 2; bytes = 999999999 })
unfolding read_from number_of is_number chars
encode = refl

stripes_leading_zero : encode_of (codes "r3" ∷ codes "data" ∷ codes "01" ∷ codes "8" ∷ []) ≡ None
unfolding read_from number_of is_number chars
stripes_leading_zero = refl

bytes_ten_digits : encode_of (codes "r3" ∷ codes "data" ∷ codes "2" ∷ codes "1000000000" ∷ []) ≡ None
unfolding read_from number_of is_number chars
bytes_ten_digits = refl

-- an image to be rebuilt, by a plan that is found, and by a given one, whose name may be `-` but not empty
abbrev rebuild_row : Option (List ℕ) → Bool → Option RebuildWords
rebuild_row plan live = Some (record { matrix = codes "r3"; image = codes "im"; lost = codes "0"; workers = 4; budget = 4194304; plan = plan; live = live })

no_plan : rebuild_of (codes "r3" ∷ codes "im" ∷ codes "0" ∷ []) ≡ rebuild_row None false
unfolding read_from is_lost_word number_of is_number chars
no_plan = refl

plan_between : rebuild_of (codes "r3" ∷ codes "--plan=p=1" ∷ codes "im" ∷ codes "0" ∷ []) ≡ rebuild_row (Some (codes "p=1")) false
unfolding read_from is_lost_word number_of is_number chars
plan_between = refl

plan_dash : rebuild_of (codes "r3" ∷ codes "im" ∷ codes "0" ∷ codes "--plan" ∷ codes "-" ∷ []) ≡ rebuild_row (Some (codes "-")) false
unfolding read_from is_lost_word number_of is_number chars
plan_dash = refl

plan_empty : rebuild_of (codes "r3" ∷ codes "im" ∷ codes "0" ∷ codes "--plan=" ∷ []) ≡ None
unfolding read_from is_lost_word number_of is_number chars
plan_empty = refl

live : rebuild_of (codes "r3" ∷ codes "--live" ∷ codes "im" ∷ codes "0" ∷ []) ≡ rebuild_row None true
unfolding read_from is_lost_word number_of is_number chars
live = refl

live_twice : rebuild_of (codes "r3" ∷ codes "im" ∷ codes "--live" ∷ codes "0" ∷ codes "--live" ∷ []) ≡ None
unfolding read_from is_lost_word number_of is_number chars
live_twice = refl

live_value : rebuild_of (codes "r3" ∷ codes "im" ∷ codes "0" ∷ codes "--live=true" ∷ []) ≡ None
unfolding read_from is_lost_word number_of is_number chars
live_value = refl
