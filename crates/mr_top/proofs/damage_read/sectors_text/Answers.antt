use Rattle.std.proofs.lemmas.Result.{err_from_is_err_and}
use Rattle.mr_sector.specs.Sectors.{sectors_of}
use Rattle.mr_steps.proofs.Chains.{gives_named}
use Rattle.mr_top.specs.Sectors.{or_bad_sectors}
use Rattle.mr_top.proofs.DamageSteps.{list-err, list-grows, list-reads}
use Rattle.mr_top.proofs.damage_read.sectors_text.Goals as goal

pub returns-in_err-bytes-clause-reads : goal.returns-in_err-bytes-clause-reads
returns-in_err-bytes-clause-reads g c =
    let p = err_from_is_err_and c.from_residual.result c.from_residual.ensures.1 in
    rw (p.1, p.2) (list-err c.args.bad.now c.args.lost c.args.head.now _ _ _ c.in_err-bytes.ensures.reads)

pub returns-clause-reads : goal.returns-clause-reads
returns-clause-reads g c = list-reads c.args.bad.now c.args.lost c.args.head.now _ _ c.in_ok-bytes.bytes c.sectors_in.result c.in_ok-bytes.ensures.reads
    (gives_named (λ sectors. sectors.items) c.sectors_in.result (λ bytes. or_bad_sectors (sectors_of c.args.head.now c.args.lost bytes)) c.deref.ensures.value c.sectors_in.ensures.given)

pub returns-clause-totals : goal.returns-clause-totals
returns-clause-totals g c = list-grows c.args.bad.now c.args.lost c.args.head.now _ _ c.in_ok-bytes.bytes c.sectors_in.result c.in_ok-bytes.ensures.reads _ _ c.in_ok-bytes.ensures.totals
