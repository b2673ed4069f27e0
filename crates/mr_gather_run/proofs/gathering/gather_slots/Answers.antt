use Rattle.std.proofs.Common.{Err, ap, inr, subst}
use Rattle.mr_gather.specs.Slots.{AreLong}
use Rattle.mr_gather.proofs.SlotLaws.{fails-after, keeps-more, tells-kept}
use Rattle.mr_gather_run.specs.Tasks.{end_of, task_in}
use Rattle.mr_gather_run.proofs.gathering.gather_slots.Goals as goal

pub returns-in-Ok-clause-put : goal.returns-in-Ok-clause-put
returns-in-Ok-clause-put g c devices told =
    c.in-Ok.ensures.put devices (tells-kept g.E.Eye.sight g.E.Eye.faults devices (λ _. 0) c.args.slots.now c.reach.new.slots c.in_ok-reach.ensures.taken told)

pub returns-in-Err-Read-clause-cut : goal.returns-in-Err-Read-clause-cut
returns-in-Err-Read-clause-cut g c =
    let long : AreLong g.E.Eye.sight (end_of (task_in c.args.task.now)) c.args.slots.now =
    subst (λ e. AreLong g.E.Eye.sight e c.args.slots.now) c.end_of_stripes.ensures (c.in_ok-reach.ensures.long c.if-not-branch.false) in
    inr (
      long,
      λ devices told. c.in-Err-Read.ensures.front devices
          (tells-kept g.E.Eye.sight g.E.Eye.faults devices (λ _. 0) c.args.slots.now c.reach.new.slots c.in_ok-reach.ensures.taken told),
    )

pub returns-in-Err-Read-clause-kept : goal.returns-in-Err-Read-clause-kept
returns-in-Err-Read-clause-kept g c =
    keeps-more g.E.Eye.sight g.E.Eye.faults c.args.slots.now c.reach.new.slots c.gather.new.eyes c.reach.ensures.kept c.in-Err-Read.ensures.kept

pub returns-in-Err-Read-clause-failed : goal.returns-in-Err-Read-clause-failed
returns-in-Err-Read-clause-failed g c _ =
    fails-after g.E.Eye.sight g.E.Eye.faults (λ _. 0) c.args.slots.now c.reach.new.slots c.gather.new.eyes c.in_ok-reach.ensures.taken (c.in-Err-Read.ensures.read (ap Err c.in-Err-Read.field-0-is))
