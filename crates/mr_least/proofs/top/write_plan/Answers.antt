use Rattle.std.proofs.Common.{inl, refl}
use Rattle.mr_steps.specs.declared.fault.Fault.TheVariants.{WriteFault}
use Rattle.mr_steps.proofs.Sinks.{front_all}
use Rattle.mr_least.proofs.top.write_plan.Goals as goal

pub returns-in-Err-print-clause-cut : goal.returns-in-Err-print-clause-cut
returns-in-Err-print-clause-cut g c = λ _. front_all c.in-Ok.ensures.puts.ok

pub returns-in-Err-clause-reported : goal.returns-in-Err-clause-reported
returns-in-Err-clause-reported g c = λ _.
    inl (WriteFault, record { same = refl; given = λ foreseen. absurd (foreseen.1 refl) }, c.refuse.ensures.line)
