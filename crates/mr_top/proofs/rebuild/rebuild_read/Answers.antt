use Rattle.std.proofs.Common.{chars}
use Rattle.std.proofs.lemmas.Result.{err_from_is_err_and}
use Rattle.mr_top.specs.Outcomes.{finding_of}
use Rattle.mr_top.specs.RebuildSteps.{parts_of, rebuild_by}
use Rattle.mr_steps.proofs.Chains.{reads_memory}
use Rattle.mr_top.proofs.ImageSteps.{fits-told, ready-err, ready-lent, ready-order, ready-reads}
use Rattle.mr_top.proofs.LawfulReplies.{singles-used_for}
use Rattle.mr_top.proofs.Rotations.{plans-mendable}
use Rattle.mr_top.proofs.rebuild.rebuild_read.Goals as goal

pub returns-in_err-singles-clause-reads : goal.returns-in_err-singles-clause-reads
returns-in_err-singles-clause-reads g c =
    let p = err_from_is_err_and c.from_residual.result c.from_residual.ensures.1 in
    rw (p.1, p.2) (reads_memory (finding_of g.F.E.Eye.sight) _ (λ contents. rebuild_by contents c.args.words.now (parts_of c.args.read) c.args.asks.items))

pub returns-in_err-chosen-clause-reads : goal.returns-in_err-chosen-clause-reads
returns-in_err-chosen-clause-reads g c =
    let p = err_from_is_err_and c.from_residual-in_err-chosen.result c.from_residual-in_err-chosen.ensures.1 in
    rw (p.1, p.2) (reads_memory (finding_of g.F.E.Eye.sight) _ (λ contents. rebuild_by contents c.args.words.now (parts_of c.args.read) c.args.asks.items))

pub make-requires-clause-plans : goal.make-requires-clause-plans
make-requires-clause-plans g c κs within = plans-mendable c.args.read.head c.args.read.matrix c.args.read.lost c.in_ok-chosen.chosen.plans c.requires.read.code
    c.requires.read.fits c.in_ok-chosen.ensures.valid c.requires.read.below

pub make-requires-clause-singles : goal.make-requires-clause-singles
make-requires-clause-singles g c κs within = singles-used_for c.args.read.head c.args.read.matrix c.args.read.lost c.in_ok-chosen.chosen.plans c.requires.read.code
    c.requires.read.fits c.requires.read.below c.in_ok-chosen.ensures.valid c.args.words.now.budget c.in_ok-singles.singles.items c.args.words.now.live c.in_ok-singles.ensures

pub make-requires-clause-fits : goal.make-requires-clause-fits
make-requires-clause-fits g c κs within = fits-told _ _ _ c.args.read.head c.as_str.ensures.characters c.requires.long

pub returns-in-Err-clause-reads : goal.returns-in-Err-clause-reads
returns-in-Err-clause-reads g c = ready-err g.F.E.Eye.sight c.args.words.now (parts_of c.args.read) c.args.asks.items _ _ (chars c.as_str.result.now) c.as_str.ensures.characters
    c.in-Err.error c.from.result c.from.ensures c.in-Err.ensures.refused

pub returns-in-Ok-clause-reads : goal.returns-in-Ok-clause-reads
returns-in-Ok-clause-reads g c = ready-reads g.F.E.Eye.sight c.args.words.now (parts_of c.args.read) c.args.asks.items _ _ (chars c.as_str.result.now) c.as_str.ensures.characters
    c.in-Ok.ready
    (ready-order c.args.words.now (parts_of c.args.read) c.args.asks c.in_ok-chosen.chosen.plans c.in_ok-chosen.chosen.lines c.in_ok-singles.singles c.in-Ok.ready.order
    c.in-Ok.ensures.order c.in_ok-chosen.ensures.plans c.in_ok-chosen.ensures.lines c.in_ok-singles.ensures)
    c.in-Ok.ensures.told c.in-Ok.ensures.image

pub returns-in-Ok-clause-held : goal.returns-in-Ok-clause-held
returns-in-Ok-clause-held g c = (
  c.in-Ok.ensures.ready,
  ready-lent g.F.E.Eye.sight c.args.words.now (parts_of c.args.read) c.args.asks.items _ _ (chars c.as_str.result.now) c.as_str.ensures.characters
      c.in-Ok.ready
      (ready-order c.args.words.now (parts_of c.args.read) c.args.asks c.in_ok-chosen.chosen.plans c.in_ok-chosen.chosen.lines c.in_ok-singles.singles c.in-Ok.ready.order
      c.in-Ok.ensures.order c.in_ok-chosen.ensures.plans c.in_ok-chosen.ensures.lines c.in_ok-singles.ensures)
      c.in-Ok.ensures.told c.in-Ok.ensures.image,
)
