use Rattle.std.proofs.Common.{inl, refl, subst}
use Rattle.mr_steps.specs.Sinks.{TakesFront}
use Rattle.mr_steps.specs.declared.fault.Fault.TheVariants.{WriteFault}
use Rattle.mr_steps.proofs.Sinks.{front_all}
use Rattle.mr_ready.proofs.writing.write_rebuilt.Goals as goal

pub returns-in-Err-print_report-clause-cut : goal.returns-in-Err-print_report-clause-cut
returns-in-Err-print_report-clause-cut g c =
    subst (λ bytes. TakesFront (g.O.Sink.held c.args.out.now) (g.O.Sink.held c.put_all.new.sink) bytes) c.deref.ensures.value (front_all c.in-Ok.ensures.puts.ok)

pub returns-in-Err-clause-reported : goal.returns-in-Err-clause-reported
returns-in-Err-clause-reported g c =
    inl (WriteFault, record { same = refl; given = λ foreseen. absurd (foreseen.1 refl) }, c.refuse-status.ensures.line)

pub returns-in-Err-clause-line : goal.returns-in-Err-clause-line
returns-in-Err-clause-line g c = inl (WriteFault, refl, c.refuse-status.ensures.line)
