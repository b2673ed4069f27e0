-- A LOST word: `none`, or numbers strictly upwards, joined by single commas.
use Rattle.std.specs.Prelude.{ℕ, Bool, true, List, [], ◌∷◌, map, Option, Some, None, Result, Ok, Err, ◌==◌, ◌&&◌, ◌||◌, nat_le, nat_lt, codes, bytes_eq, filter_map, find}
use Rattle.std.specs.List.{list_all, list_any, slice_split}
use Rattle.std.specs.Str.Parse.{digits_value}
use Rattle.mr_model.specs.Sets.{set_below}
use Rattle.mr_text.specs.Numbers.{is_number, number_of}
use Rattle.mr_words.specs.Grammar.{Text}

-- the parts between the commas (44)
abbrev pub parts : Text → List Text
parts word = slice_split (λ byte. byte == 44) word

-- each is less than all after it
abbrev pub is_upwards : List ℕ → Bool
is_upwards [] = true
is_upwards (x ∷ xs) = list_all (nat_lt x) xs && is_upwards xs

abbrev pub part_numbers : Text → List ℕ
part_numbers word = map (digits_value 10) (parts word)

abbrev pub are_upwards : Text → Bool
are_upwards word = list_all is_number (parts word) && is_upwards (part_numbers word)

unfoldable pub is_lost_word : Text → Bool
is_lost_word word = bytes_eq word (codes "none") || are_upwards word

-- the numbers among the parts: of `none` there are none, and of every other LOST word each part is one
unfoldable pub lost_numbers : Text → List ℕ
lost_numbers word = filter_map number_of (parts word)

-- ---- the lost devices, where there are so many devices

-- the first number that is no device's
abbrev pub first_beyond : ℕ → List ℕ → Option ℕ
first_beyond devices numbers = find (nat_le devices) numbers

-- the devices that are among the numbers, as a set
abbrev pub device_set : ℕ → List ℕ → ℕ
device_set devices numbers =
    set_below devices (λ device. list_any (λ number. number == device) numbers)

abbrev pub beyond_or : Option ℕ → ℕ → Result ℕ ℕ
beyond_or (Some number) set = Err number
beyond_or None set = Ok set

-- the set of the lost devices, or the first number that is none
unfoldable pub devices_of : ℕ → List ℕ → Result ℕ ℕ
devices_of devices numbers = beyond_or (first_beyond devices numbers) (device_set devices numbers)
