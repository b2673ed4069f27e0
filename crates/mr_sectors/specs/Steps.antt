-- The steps of a repair: the eyes that it asks for, and the bytes that they take.
use Rattle.std.specs.Prelude.{ℕ, ◌*◌, List, Ok}
use Rattle.mr_io.specs.declared.duty.Duty.TheVariants.{Copy, Mend}
use Rattle.mr_patch.specs.Damages.{DamageParts, copy_reads, set_reads}
use Rattle.mr_steps.specs.Readings.{Reading, file_taking, given, ◌>>=◌}
use Rattle.mr_steps.specs.Sinks.{Output}
use Rattle.mr_sectors.specs.Repairs.{repair_output}

-- the bytes of the symbols that are read for those that fail: in each stripe the set of its plan
abbrev pub mend_bytes : DamageParts → ℕ → ℕ
mend_bytes d budget = set_reads d budget d.layout.stripes * d.layout.symbol_bytes

-- the bytes of the symbols that do not fail
abbrev pub copy_bytes : DamageParts → ℕ
copy_bytes d = copy_reads d d.layout.stripes * d.layout.symbol_bytes

-- the image is copied by an eye, and what is written of it
unfoldable pub copy_answer : (List ℕ → List ℕ) → List ℕ → DamageParts → ℕ → Reading Output
copy_answer contents image d budget = do
  bytes ← file_taking (copy_bytes d) contents image Copy
  given (Ok (repair_output d budget bytes))

-- before that an eye is asked for that reads the same file for what fails
unfoldable pub repair_answer : (List ℕ → List ℕ) → List ℕ → DamageParts → ℕ → Reading Output
repair_answer contents image d budget =
    file_taking (mend_bytes d budget) contents image Mend >>= λ _.
    copy_answer contents image d budget
