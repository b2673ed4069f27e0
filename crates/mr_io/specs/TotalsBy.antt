-- Totals by duty.
use Rattle.std.specs.Prelude.{ℕ}
use Rattle.mr_io.specs.Counts.{counted}
use Rattle.mr_io.specs.declared.duty.Duty.{Duty}
use Rattle.mr_io.specs.declared.duty.Duty.TheVariants.{Text, Head, Mend, Live, Copy}
use Rattle.mr_io.specs.declared.totals.Totals.{Totals}

-- The total of a duty.
abbrev pub total_of : Totals → Duty → ℕ
total_of totals Text = totals.text
total_of totals Head = totals.head
total_of totals Mend = totals.mend
total_of totals Live = totals.live
total_of totals Copy = totals.copy

-- The totals after so many bytes more of this duty.
abbrev pub totals_with : Totals → Duty → ℕ → Totals
totals_with totals Text bytes = record totals { text = counted totals.text bytes }
totals_with totals Head bytes = record totals { head = counted totals.head bytes }
totals_with totals Mend bytes = record totals { mend = counted totals.mend bytes }
totals_with totals Live bytes = record totals { live = counted totals.live bytes }
totals_with totals Copy bytes = record totals { copy = counted totals.copy bytes }
