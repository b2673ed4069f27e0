use Rattle.std.proofs.Common.{Err}
use Rattle.std.proofs.lemmas.Result.{err_from_is_err_and}
use Rattle.mr_sectors.proofs.RepairLaws.{damage-from}
use Rattle.mr_top.proofs.DamageSteps.{at-code, at-head, at-list, at-lost, damage-grows, damage-reads, file-kept, past-code, past-head, past-lost}
use Rattle.mr_top.proofs.damage_read.read_damage.Goals as goal

pub returns-in_err-matrix-clause-reads : goal.returns-in_err-matrix-clause-reads
returns-in_err-matrix-clause-reads g c =
    let p = err_from_is_err_and c.from_residual.result c.from_residual.ensures.1 in
    rw (p.1, p.2) (at-code c.args.words.now _ _ _ c.in_err-matrix.ensures.reads)

pub returns-in_err-lost-clause-reads : goal.returns-in_err-lost-clause-reads
returns-in_err-lost-clause-reads g c =
    let p = err_from_is_err_and c.from_residual-in_err-lost.result c.from_residual-in_err-lost.ensures.1 in
    rw (p.1, p.2) (past-code c.args.words.now (Err c.in_err-lost.field-0.0) _ _ _ c.in_ok-matrix.matrix c.in_ok-matrix.ensures.reads
    (at-lost c.args.words.now _ _ _ c.in_err-lost.ensures.given))

pub returns-in_err-head-clause-reads : goal.returns-in_err-head-clause-reads
returns-in_err-head-clause-reads g c =
    let p = err_from_is_err_and c.from_residual-in_err-head.result c.from_residual-in_err-head.ensures.1 in
    rw (p.1, p.2) (past-code c.args.words.now (Err c.in_err-head.field-0.0) _ _ _ c.in_ok-matrix.matrix c.in_ok-matrix.ensures.reads
    (past-lost c.args.words.now (Err c.in_err-head.field-0.0) _ _ _ c.in_ok-lost.lost c.in_ok-lost.ensures.given
    (at-head c.args.words.now _ _ _ _ c.in_ok-lost.lost c.in_err-head.ensures.reads)))

pub returns-in_err-sectors-clause-reads : goal.returns-in_err-sectors-clause-reads
returns-in_err-sectors-clause-reads g c =
    let p = err_from_is_err_and c.from_residual-in_err-sectors.result c.from_residual-in_err-sectors.ensures.1 in
    rw (p.1, p.2) (past-code c.args.words.now (Err c.in_err-sectors.field-0.0) _ _ _ c.in_ok-matrix.matrix c.in_ok-matrix.ensures.reads
    (past-lost c.args.words.now (Err c.in_err-sectors.field-0.0) _ _ _ c.in_ok-lost.lost c.in_ok-lost.ensures.given
    (past-head c.args.words.now (Err c.in_err-sectors.field-0.0) _ _ _ _ c.in_ok-lost.lost c.in_ok-head.head c.in_ok-head.ensures.reads
    (at-list c.args.words.now _ _ _ c.in_ok-matrix.matrix _ _ c.in_err-sectors.ensures.reads))))

pub returns-clause-reads : goal.returns-clause-reads
returns-clause-reads g c = damage-reads c.args.words.now _ _ _ _
    (record { matrix = c.in_ok-matrix.matrix; lost = c.in_ok-lost.lost; head = c.in_ok-head.head; sectors = c.in_ok-sectors.sectors })
    c.in_ok-matrix.ensures.reads c.in_ok-lost.ensures.given c.in_ok-head.ensures.reads c.in_ok-sectors.ensures.reads

pub returns-clause-totals : goal.returns-clause-totals
returns-clause-totals g c = damage-grows c.args.words.now _ _ _ _
    (record { matrix = c.in_ok-matrix.matrix; lost = c.in_ok-lost.lost; head = c.in_ok-head.head; sectors = c.in_ok-sectors.sectors })
    c.in_ok-matrix.ensures.reads c.in_ok-lost.ensures.given c.in_ok-head.ensures.reads c.in_ok-sectors.ensures.reads
    _ _ _ _ c.in_ok-matrix.ensures.totals c.in_ok-head.ensures.totals c.in_ok-sectors.ensures.totals

pub returns-clause-damage : goal.returns-clause-damage
returns-clause-damage g c = damage-from c.in_ok-head.head c.in_ok-matrix.matrix c.in_ok-lost.lost c.in_ok-sectors.sectors.items c.in_ok-matrix.ensures.code
    (record { devices = c.in_ok-head.ensures.devices; symbols = c.in_ok-head.ensures.symbols }) c.in_ok-lost.ensures.below c.in_ok-sectors.ensures.sectors

pub returns-clause-long : goal.returns-clause-long
returns-clause-long g c = file-kept _ _ c.args.words.now.image c.in_ok-head.head c.in_ok-sectors.ensures.kept c.in_ok-head.ensures.fits
