-- What a repair needs, and what is written of it.
use Rattle.std.specs.Prelude.{◌≡◌, ℕ, List, [], ◌∷◌, codes, decimal}
use Rattle.mr_cache.specs.Cache.{budget_of, code_of}
use Rattle.mr_patch.specs.Damages.{DamageParts, patched_file, set_reads}
use Rattle.mr_patch.specs.Rooms.{IsRoomFor}
use Rattle.mr_steps.specs.Faults.{joined}
use Rattle.mr_steps.specs.Sinks.{Output}
use Rattle.mr_sectors.specs.declared.repairing.Repair.{Repair}
use Rattle.mr_sectors.specs.declared.repairing.Repaired.{Repaired}
use Rattle.mr_sectors.specs.Counts.{mended_of, patterns_of}

-- the budget of a repair's plans
abbrev pub budget_in : Repair → ℕ
budget_in repair = budget_of repair.cache

-- The repair is made for this damage: its plans are of the code, its room is for the image, and it knows how
-- many patterns there are and how many symbols fail.
pub record IsReady (d : DamageParts) (repair : Repair) : Type 0 where
  pub code : code_of repair.cache ≡ d.code
  pub room : IsRoomFor d.layout repair.room
  pub patterns : repair.counts.patterns ≡ patterns_of d
  pub mended : repair.counts.mended ≡ mended_of d

-- ---- what is written

-- the three lines of the report: how many patterns, how many symbols that failed, how many that were read
unfoldable pub report_text : ℕ → ℕ → ℕ → List ℕ
report_text patterns mended reads =
    joined (codes "patterns " ∷ decimal patterns ∷ codes "\nmended " ∷ decimal mended
    ∷ codes "\nreads " ∷ decimal reads ∷ codes "\n" ∷ [])

-- what is written of an image file with these bytes, whose plans are within the budget: the patched file, and
-- in the report its patterns, the symbols that failed and the members of the sets that were read
abbrev pub repair_output : DamageParts → ℕ → List ℕ → Output
repair_output d budget bytes = record {
  out = patched_file d budget bytes;
  report = report_text (patterns_of d) (mended_of d) (set_reads d budget d.layout.stripes);
}

-- what is written of a repair
abbrev pub repaired_output : Repaired → Output
repaired_output repaired = record {
  out = repaired.image.items;
  report = report_text repaired.counts.patterns repaired.counts.mended repaired.reads;
}
