use Rattle.mr_io.proofs.Consuming.{front_none}
use Rattle.std.proofs.Common.{◌+◌, [], subst, sym}
use Rattle.mr_io.specs.Reading.{ReadsFront}
use Rattle.std.proofs.lemmas.Result.{err_from_is_err_and}
use Rattle.mr_top.specs.RebuildSteps.{image_read, parts_of, rebuild_answer}
use Rattle.mr_mend.specs.Scripts.{script_limit}
use Rattle.mr_top.specs.Rebuild.{image_accepted}
use Rattle.mr_top.specs.Outcomes.{finding_of}
use Rattle.mr_steps.specs.Steps.{EndsScript}
use Rattle.mr_steps.proofs.Growing.{unread-same, unread-then}
use Rattle.mr_top.proofs.Accepting.{image-tells}
use Rattle.mr_top.proofs.ImageSteps.{asks-err, asks-then, asks_next}
use Rattle.mr_top.proofs.WithScript.{kept-value, on-ok, with-err}
use Rattle.mr_top.proofs.rebuild.rebuild.Goals as goal

pub returns-in_err-read-clause-follows : goal.returns-in_err-read-clause-follows
unfolding rebuild_answer
returns-in_err-read-clause-follows g c =
    let p = err_from_is_err_and c.from_residual.result c.from_residual.ensures.1 in
    rw (p.1, p.2) (with-err parts_of (finding_of g.F.E.Eye.sight) _ _ _ _ _ _ (λ contents. image_read contents c.args.words.now)
    (λ contents left read. asks_next contents left c.args.words.now read) c.in_err-read.ensures.reads)

pub returns-in_err-asks-clause-follows : goal.returns-in_err-asks-clause-follows
returns-in_err-asks-clause-follows g c =
    let p = err_from_is_err_and c.from_residual-in_err-asks.result c.from_residual-in_err-asks.ensures.1 in
    rw (p.1, p.2) (asks-err g.F.E.Eye.sight c.args.words.now _ _ _ _ _ c.in_ok-read.read c.in_ok-read.ensures.reads c.in_ok-read.ensures.totals _ c.in_err-asks.ensures.given)

pub returns-in_err-asks-clause-kept : goal.returns-in_err-asks-clause-kept
returns-in_err-asks-clause-kept g c = kept-value parts_of _ _ c.in_ok-read.read (λ contents. image_read contents c.args.words.now)
    (λ contents. image_accepted contents c.args.words.now) _ _ (λ contents. image-tells contents [] c.args.words.now) c.in_ok-read.ensures.reads

pub returns-clause-follows : goal.returns-clause-follows
returns-clause-follows g c = asks-then g.F.E.Eye.sight c.args.words.now _ _ _ _ _ c.in_ok-read.read c.in_ok-read.ensures.reads c.in_ok-read.ensures.totals _ _ c.in_ok-asks.asks _
    c.in_ok-asks.ensures.given c.rebuild_read.ensures.reads c.rebuild_read.ensures.totals

pub returns-clause-kept : goal.returns-clause-kept
returns-clause-kept g c = kept-value parts_of _ _ c.in_ok-read.read (λ contents. image_read contents c.args.words.now)
    (λ contents. image_accepted contents c.args.words.now) _ _ (λ contents. image-tells contents [] c.args.words.now) c.in_ok-read.ensures.reads

pub returns-clause-ended : goal.returns-clause-ended
returns-clause-ended g c = subst (λ s. EndsScript (g.S.Source.left c.args.lent.now.script.now) (g.S.Source.left s) c.rebuild_read.result) (sym c.rebuild_read.ensures.kept)
    (on-ok c.rebuild_read.result _ c.in_ok-asks.ensures.ended)

pub returns-in_err-read-clause-script_front : goal.returns-in_err-read-clause-script_front
returns-in_err-read-clause-script_front g c = front_none _ _

pub returns-clause-script_front : goal.returns-clause-script_front
returns-clause-script_front g c = subst (λ s. ReadsFront (g.S.Source.left c.args.lent.now.script.now) (g.S.Source.left s) (script_limit + 1))
    (sym c.rebuild_read.ensures.kept) c.in_ok-asks.ensures.front

pub returns-clause-unread : goal.returns-clause-unread
returns-clause-unread g c = unread-then _ _ _ c.in_ok-read.ensures.unread (unread-same _ _ c.rebuild_read.ensures.totals)
