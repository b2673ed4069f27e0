-- What an eye tells.
use Rattle.std.specs.Prelude.{ℕ, List, Option}
use Rattle.mr_io.specs.Counts.{counted}
use Rattle.mr_io.specs.declared.duty.Duty.{Duty}

-- What an eye tells: the bytes of its file, where they are told, its duty, and how many bytes it took.
pub record Sight : Type 0 where
  pub bytes : Option (List ℕ)
  pub duty : Duty
  pub taken : ℕ

-- The eye as it is lent.
abbrev pub fresh_sight : Option (List ℕ) → Duty → Sight
fresh_sight bytes duty = record { bytes = bytes; duty = duty; taken = 0 }

-- The eye after so many bytes more.
abbrev pub sight_with : Sight → ℕ → Sight
sight_with sight count = record sight { taken = counted sight.taken count }
