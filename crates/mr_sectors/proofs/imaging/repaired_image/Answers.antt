use Rattle.std.proofs.Common.{Err, Ok, ap}
use Rattle.std.proofs.lemmas.Result.{err_from_is_err_and}
use Rattle.mr_io.specs.declared.duty.Duty.TheVariants.{Mend}
use Rattle.mr_patch.specs.Damages.{parts_of}
use Rattle.mr_sectors.specs.Repairs.{budget_in, repair_output, repaired_output}
use Rattle.mr_sectors.proofs.RepairSteps.{both-grows, both-reads, eyes-same, gives-both, mend-alone, no-mend, no-repair}
use Rattle.mr_sectors.proofs.imaging.repaired_image.Goals as goal

pub returns-in_err-mend_eye-clause-reads : goal.returns-in_err-mend_eye-clause-reads
returns-in_err-mend_eye-clause-reads g c =
    let p = err_from_is_err_and c.from_residual.result c.from_residual.ensures.1 in
    rw p.1 (no-mend repaired_output (parts_of c.args.patching.now.damage) (budget_in c.args.repair) c.as_str-name.ensures.characters _ _ _ _
    c.in_err-mend_eye.ensures.failed c.in_err-mend_eye.ensures.memory p.2)

pub returns-in-Ok-repaired-clause-reads : goal.returns-in-Ok-repaired-clause-reads
returns-in-Ok-repaired-clause-reads g c =
    both-reads repaired_output (parts_of c.args.patching.now.damage) (budget_in c.args.repair) c.as_str-name.ensures.characters _ _ _ _ _
    (g.F.E.Eye.sight c.in-Ok.eye).bytes (Ok c.in-Ok-repaired.repaired) c.in_ok-mend_eye.ensures.given c.in-Ok.ensures.given c.retire.ensures.told c.retire-in-Ok.ensures.told
    (ap (λ sight. sight.bytes) c.in-Ok.ensures.fresh.0)
    (gives-both (parts_of c.args.patching.now.damage) (budget_in c.args.repair) (repaired_output c.in-Ok-repaired.repaired)
    (g.F.E.Eye.sight c.in_ok-mend_eye.mend_eye).bytes (g.F.E.Eye.sight c.in-Ok.eye).bytes
    (eyes-same _ Mend _ _ (g.F.E.Eye.sight c.in_ok-mend_eye.mend_eye).bytes (g.F.E.Eye.sight c.in-Ok.eye).bytes c.in_ok-mend_eye.ensures.given
    (ap (λ sight. sight.bytes) c.in_ok-mend_eye.ensures.fresh.0) (ap (λ sight. sight.bytes) c.in-Ok.ensures.fresh.0))
    c.in-Ok-repaired.ensures.repaired)

pub returns-in-Ok-repaired-clause-totals : goal.returns-in-Ok-repaired-clause-totals
returns-in-Ok-repaired-clause-totals g c =
    both-grows repaired_output (parts_of c.args.patching.now.damage) (budget_in c.args.repair) c.as_str-name.ensures.characters _ _
    (g.F.Files.totals c.args.files.now) (g.F.Files.totals c.eye.new.self) (g.F.Files.totals c.eye-2.new.self) (g.F.Files.totals c.retire.new.self) (g.F.Files.totals c.retire-in-Ok.new.self)
    (g.F.E.Eye.sight c.in_ok-mend_eye.mend_eye) (g.F.E.Eye.sight c.carry-repaired.new.mend_eye) (g.F.E.Eye.sight c.in-Ok.eye) (g.F.E.Eye.sight c.carry-repaired.new.copy_eye)
    (Ok c.in-Ok-repaired.repaired) c.in_ok-mend_eye.ensures.given c.in_ok-mend_eye.ensures.totals c.in_ok-mend_eye.ensures.fresh.0 c.in-Ok.ensures.totals c.in-Ok.ensures.fresh.0
    c.in-Ok-repaired.ensures.mend_taken c.in-Ok-repaired.ensures.copy_taken c.retire.ensures.totals c.retire-in-Ok.ensures.totals

pub returns-in-Err-repaired-clause-reads : goal.returns-in-Err-repaired-clause-reads
returns-in-Err-repaired-clause-reads g c =
    both-reads repaired_output (parts_of c.args.patching.now.damage) (budget_in c.args.repair) c.as_str-name.ensures.characters _ _ _ _ _
    (g.F.E.Eye.sight c.in-Ok.eye).bytes (Err c.from.result) c.in_ok-mend_eye.ensures.given c.in-Ok.ensures.given c.retire.ensures.told c.retire-in-Ok.ensures.told
    (ap (λ sight. sight.bytes) c.in-Ok.ensures.fresh.0)
    (λ bytes _. no-repair repaired_output (λ b. Ok (repair_output (parts_of c.args.patching.now.damage) (budget_in c.args.repair) b)) c.in-Err-repaired.error c.from.result c.from.ensures bytes)

pub returns-in-Err-clause-reads : goal.returns-in-Err-clause-reads
returns-in-Err-clause-reads g c =
    mend-alone repaired_output (parts_of c.args.patching.now.damage) (budget_in c.args.repair) c.as_str-name.ensures.characters _ _ _ _
    c.in-Err.error c.from-in-Err.result c.in_ok-mend_eye.ensures.given c.in-Err.ensures.failed c.in-Err.ensures.memory c.from-in-Err.ensures c.retire-in-Err.ensures.told
