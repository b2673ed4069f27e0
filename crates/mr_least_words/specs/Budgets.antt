-- A budget of up to ten digits.
use Rattle.std.specs.Prelude.{List, None, Option, Some, decimal, if◌then◌else◌, nat_le, ℕ, ◌&&◌}
use Rattle.std.specs.Str.{bytes_eq}
use Rattle.std.specs.Str.Parse.{digits_value}
use Rattle.mr_least_words.specs.declared.budgets.TheConstants.{GREATEST_BUDGET}

-- the number that the digits of a text write, where the text is what is printed of it and it is no
-- greater than the greatest budget
unfoldable pub budget_number : List ℕ → Option ℕ
budget_number text =
    if bytes_eq (decimal (digits_value 10 text)) text
    && nat_le (digits_value 10 text) GREATEST_BUDGET
    then Some (digits_value 10 text) else None
