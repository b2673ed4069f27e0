-- What is known of the files of the system and of their eyes.
use Rattle.std.specs.Prelude.{ℕ}
use Rattle.mr_io.specs.Sights.{Sight}
use Rattle.mr_io.specs.declared.totals.Totals.{Totals}

-- An eye tells no bytes, but its duty, the bytes that it took and its faults.
pub record DiskEyeState : Type 0 where
  pub sight : Sight
  pub faults : ℕ

-- The files tell no contents, but the totals and the faults.
pub record DiskState : Type 0 where
  pub totals : Totals
  pub faults : ℕ
