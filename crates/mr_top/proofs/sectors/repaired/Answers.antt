use Rattle.std.proofs.lemmas.Result.{err_from_is_err_and}
use Rattle.std.proofs.Common.{Err, Ok}
use Rattle.mr_patch.specs.Damages.{parts_of}
use Rattle.mr_sectors.specs.Repairs.{repaired_output}
use Rattle.mr_sectors.specs.Steps.{repair_answer}
use Rattle.mr_steps.proofs.Chains.{reads_named}
use Rattle.mr_steps.proofs.Growing.{grows_named}
use Rattle.mr_top.proofs.Sectoring.{repair-err, repair-grows, repair-reads, stripe-err}
use Rattle.mr_top.proofs.sectors.repaired.Goals as goal

pub returns-in-Err-clause-reads : goal.returns-in-Err-clause-reads
returns-in-Err-clause-reads g c = stripe-err c.args.image.now c.args.budget (parts_of c.args.patching.now.damage) _ c.in-Err.field-0 c.in-Err.ensures.found

pub returns-in_err-repaired-clause-reads : goal.returns-in_err-repaired-clause-reads
returns-in_err-repaired-clause-reads g c =
    let p = err_from_is_err_and c.from_residual-in_err-repaired.result c.from_residual-in_err-repaired.ensures.1 in
    rw (p.1, p.2) (repair-err c.args.image.now c.args.budget (parts_of c.args.patching.now.damage) _ _ c.in_default.ensures.none c.in_err-repaired.field-0.0
    (reads_named repaired_output _ _ (Err c.in_err-repaired.field-0.0) (λ budget contents. repair_answer contents c.args.image.now (parts_of c.args.patching.now.damage) budget)
    c.in_ok-repair.ensures.budget c.in_err-repaired.ensures.reads))

pub returns-clause-reads : goal.returns-clause-reads
returns-clause-reads g c = repair-reads c.args.image.now c.args.budget (parts_of c.args.patching.now.damage) _ _ c.in_default.ensures.none c.in_ok-repaired.repaired
    (reads_named repaired_output _ _ (Ok c.in_ok-repaired.repaired) (λ budget contents. repair_answer contents c.args.image.now (parts_of c.args.patching.now.damage) budget)
    c.in_ok-repair.ensures.budget c.in_ok-repaired.ensures.reads)

pub returns-clause-totals : goal.returns-clause-totals
returns-clause-totals g c = repair-grows c.args.image.now c.args.budget (parts_of c.args.patching.now.damage) _ (g.F.Files.told c.repaired_image.new.files) c.in_default.ensures.none _ _ c.in_ok-repaired.repaired
    (grows_named _ _ _ (Ok c.in_ok-repaired.repaired) (λ budget contents. repair_answer contents c.args.image.now (parts_of c.args.patching.now.damage) budget)
    c.in_ok-repair.ensures.budget c.in_ok-repaired.ensures.totals)
