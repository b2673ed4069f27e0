-- Bytes taken, added up by duty.
use Rattle.std.specs.Prelude.{ℕ, ◌+◌, ◌≤◌, List, [], ◌∷◌}
use Rattle.mr_io.specs.Counts.{counted}
use Rattle.mr_io.specs.Sights.{Sight}
use Rattle.mr_io.specs.declared.duty.Duty.{Duty}
use Rattle.mr_io.specs.declared.duty.Duty.TheVariants.{Text, Head, Mend, Live, Copy}
use Rattle.mr_io.specs.declared.totals.Totals.{Totals}

-- No bytes of any duty.
abbrev pub no_bytes : Totals
no_bytes = record { text = 0; head = 0; mend = 0; live = 0; copy = 0 }

-- The bytes of both, duty by duty.
abbrev pub added : Totals → Totals → Totals
added a b = record {
  text = a.text + b.text;
  head = a.head + b.head;
  mend = a.mend + b.mend;
  live = a.live + b.live;
  copy = a.copy + b.copy;
}

-- So many bytes of one duty.
abbrev pub bytes_of : Duty → ℕ → Totals
bytes_of Text count = record no_bytes { text = count }
bytes_of Head count = record no_bytes { head = count }
bytes_of Mend count = record no_bytes { mend = count }
bytes_of Live count = record no_bytes { live = count }
bytes_of Copy count = record no_bytes { copy = count }

-- Totals after so many bytes more of each duty; each stops at the last number of 64 bits.
abbrev pub grown : Totals → Totals → Totals
grown old more = record {
  text = counted old.text more.text;
  head = counted old.head more.head;
  mend = counted old.mend more.mend;
  live = counted old.live more.live;
  copy = counted old.copy more.copy;
}

-- What the eyes that see this took in all.
abbrev pub taken_by : List Sight → Totals
taken_by [] = no_bytes
taken_by (sight ∷ sights) = added (bytes_of sight.duty sight.taken) (taken_by sights)

-- So many bytes for each of these duties.
abbrev pub bytes_for : (Duty → ℕ) → List Duty → Totals
bytes_for count [] = no_bytes
bytes_for count (duty ∷ duties) = added (bytes_of duty (count duty)) (bytes_for count duties)

-- These totals stand between those after the least and those after the most bytes of each duty. Where
-- these are the same for a duty, its total is exact.
pub record GrewWithin (old new least most : Totals) : Type 0 where
  pub text_least : counted old.text least.text ≤ new.text
  pub text_most : new.text ≤ counted old.text most.text
  pub head_least : counted old.head least.head ≤ new.head
  pub head_most : new.head ≤ counted old.head most.head
  pub mend_least : counted old.mend least.mend ≤ new.mend
  pub mend_most : new.mend ≤ counted old.mend most.mend
  pub live_least : counted old.live least.live ≤ new.live
  pub live_most : new.live ≤ counted old.live most.live
  pub copy_least : counted old.copy least.copy ≤ new.copy
  pub copy_most : new.copy ≤ counted old.copy most.copy

-- Whatever totals these bytes are added to, they then stand between those after the least and those
-- after the most.
abbrev pub TakesWithin : Totals → Totals → Totals → Type 0
TakesWithin taken least most = (old : Totals) → GrewWithin old (grown old taken) least most
