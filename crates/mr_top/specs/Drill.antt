-- The command `drill`: what it writes.
use Rattle.std.specs.Prelude.{Ok, Result, [], ℕ}
use Rattle.mr_drill_run.specs.Summaries.{summary_of, summary_text}
use Rattle.mr_steps.specs.Sinks.{Output}
use Rattle.mr_steps.specs.declared.fault.Fault.{Fault}

-- drill NUMBER: the summary, and nothing in the report. Nothing is refused.
abbrev pub drill_given : ℕ → Result Output Fault
drill_given number = Ok (record { out = summary_text (summary_of number); report = [] })
