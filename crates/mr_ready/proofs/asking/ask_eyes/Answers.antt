use Rattle.std.proofs.lemmas.List.{get_or_default}
use Rattle.mr_io.specs.declared.duty.Duty.TheVariants.{Text}
use Rattle.mr_ready.proofs.Lending.{on-err, refuses}
use Rattle.mr_ready.proofs.asking.ask_eyes.Goals as goal

pub returns-in_err-eye-clause-refused : goal.returns-in_err-eye-clause-refused
returns-in_err-eye-clause-refused g c =
    on-err c.from_residual.result
    (refuses g.F.E.Eye.sight g.F.E.Eye.faults _ _ _ _ _ _ _ _ c.args.duties.now c.loop-duty.duty-index _ _ c.loop-duty.invariant.0 c.loop-duty-test.true (get_or_default c.args.duties.now c.loop-duty.duty-index Text _ c.loop-duty-test.true) c.in_err-eye.field-0.0
    c.in_err-eye.ensures.failed c.in_err-eye.ensures.memory)
