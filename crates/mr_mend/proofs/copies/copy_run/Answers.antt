use Rattle.std.proofs.lemmas.Result.{on_ok_weaker}
use Rattle.mr_mend.proofs.Runs.{run-inside, run-put, run-read}
use Rattle.mr_mend.proofs.copies.copy_run.Goals as goal

pub slice_bounds-read_at-end : goal.slice_bounds-read_at-end
slice_bounds-read_at-end g c = run-inside c.args.head.now c.args.stripe c.args.run.first c.args.run.«end» c.place-place.result c.from.result c.bytes.result c.args.image.now
    c.requires.stripe c.requires.first c.requires.«end» c.requires.image c.place-place.ensures.place c.from.ensures c.bytes.ensures.number

pub returns-clause-copied : goal.returns-clause-copied
returns-clause-copied g c =
    on_ok_weaker c.read_at.result
    (run-read c.args.head.now c.args.stripe c.args.run.first c.args.run.«end» c.place-place.result c.from.result c.bytes.result (g.E.Eye.sight c.args.eye.now).bytes c.read_at.new.buf c.args.image.now _
    c.requires.stripe c.requires.first c.requires.«end» c.requires.image c.place-place.ensures.place c.from.ensures c.bytes.ensures.number
    (run-put c.args.head.now c.args.stripe c.args.run.first c.args.run.«end» c.place-place.result c.from.result c.bytes.result c.read_at.new.buf c.args.image.now
    c.requires.stripe c.requires.first c.requires.«end» c.requires.image c.place-place.ensures.place c.from.ensures c.bytes.ensures.number c.read_at.auto.buf))
    c.read_at.ensures.read

pub returns-clause-kept : goal.returns-clause-kept
returns-clause-kept g c =
    let put = run-put c.args.head.now c.args.stripe c.args.run.first c.args.run.«end» c.place-place.result c.from.result c.bytes.result c.read_at.new.buf c.args.image.now
    c.requires.stripe c.requires.first c.requires.«end» c.requires.image c.place-place.ensures.place c.from.ensures c.bytes.ensures.number c.read_at.auto.buf in put.kept
