-- Numbers as the texts of this project write them.
use Rattle.std.specs.Prelude.{ℕ, Bool, List, Option, Some, None, ◌==◌, ◌&&◌, ◌||◌, not, nat_lt, nat_le, length, slice_index, codes, if◌then◌else◌}
use Rattle.std.specs.Char.{is_ascii_digit}
use Rattle.std.specs.List.{list_all}
use Rattle.std.specs.Str.{bytes_eq}
use Rattle.std.specs.Str.Parse.{digits_value}

-- the greatest number that a text may name
abbrev pub greatest_number : ℕ
greatest_number = 999999999

-- one to nine digits, of which the first is not 0 (its code is 48)
abbrev pub is_long_number : List ℕ → Bool
is_long_number text = nat_lt 0 (length text) && (nat_le (length text) 9
    && (not (slice_index text 0 == 48) && list_all is_ascii_digit text))

-- `0`, or one to nine digits of which the first is not 0
unfoldable pub is_number : List ℕ → Bool
is_number text = bytes_eq text (codes "0") || is_long_number text

-- the number that the text is, if it is one
unfoldable pub number_of : List ℕ → Option ℕ
number_of text = if is_number text then Some (digits_value 10 text) else None
