-- What is known of a run: its status, and what it made of its sinks and totals.
use Rattle.std.specs.Prelude.{List, Option, ℕ}
use Rattle.mr_io.specs.Taking.{Held, Takes}
use Rattle.mr_io.specs.declared.totals.Totals.{Totals}

-- The status of a run, and its sinks and totals before and after it.
pub record Ran : Type 0 where
  pub status : ℕ
  pub out_old : Option Held
  pub out_new : Option Held
  pub report_old : Option Held
  pub report_new : Option Held
  pub totals_old : Totals
  pub totals_new : Totals

-- the sinks took these bytes
abbrev pub Wrote : Ran → List ℕ → List ℕ → Type 0
Wrote ran out report =
    Takes ran.out_old ran.out_new out × Takes ran.report_old ran.report_new report
