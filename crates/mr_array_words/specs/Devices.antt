-- Places for device files, of which there may be more or fewer.
use Rattle.std.specs.Prelude.{List, Option, Some, [], decimal, find, is_some, map, option_map, ℕ, ◌∷◌}
use Rattle.std.specs.List.{range_with_len}
use Rattle.mr_words.specs.Grammar.{Syntax, Text, given_of, text_in, ◌>>=◌}

-- the names of so many places for devices: what is printed of 0, 1 and so on
abbrev pub device_names : ℕ → List Text
device_names count = map decimal (range_with_len 0 count)

-- Of so many numbers from `least` on, the number of devices with which the grammar takes the words. It takes them
-- with one number at most.
abbrev pub count_in : (List Text → Syntax) → ℕ → ℕ → List Text → Option ℕ
count_in syntax least numbers words =
    find (λ count. is_some (given_of (syntax (device_names count)) words)) (range_with_len least numbers)

-- what the words ask with so many devices
abbrev pub asked_with : {X : Type 0} → (List Text → Syntax)
    → (List Text → (Text → Option Text) → Option X) → ℕ → List Text → Option X
asked_with syntax from count words =
    given_of (syntax (device_names count)) words >>= (λ given. from (device_names count) (text_in given))

-- the value of each name, where each has one
unfoldable pub each_of : {X : Type 0} → (Text → Option X) → List Text → Option (List X)
each_of value [] = Some []
each_of value (name ∷ names) =
    value name >>= (λ x. option_map (λ xs. x ∷ xs) (each_of value names))
