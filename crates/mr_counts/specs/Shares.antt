-- How the right to know the whole is cut.
use Rattle.std.specs.Prelude.{ℕ}

-- The parts of the whole, and so the seats that a table can have: each seat is one part, and a seat
-- may have more that are not split off yet. Which seat has all parts knows what all seats did.
abbrev pub whole_share : ℕ
whole_share = 4096
