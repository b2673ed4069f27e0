use Rattle.std.proofs.Common.{Option, IfSome, subst}
use Rattle.std.proofs.lemmas.List.Elements.{All-pop}
use Rattle.mr_amend.specs.declared.caller.Caller.{Caller}
use Rattle.mr_amend.specs.Callers.{IsDone}
use Rattle.mr_amend.proofs.Gathering.{begins, goes}
use Rattle.mr_amend.proofs.amend.Amend.gather.Goals as goal

pub loop-caller-init : goal.loop-caller-init
loop-caller-init c =
    let b = c.args.self.now in
    let taken = All-pop (IsDone b) _ _ _ c.pop.ensures.items c.requires.done in
    let done : IsDone b c.in-Some.first = subst (λ (r : Option Caller). IfSome r (IsDone b)) c.in-Some.is taken.1 in
    record { done = taken.0; gathered = begins b _ _ c.in-Some.first c.in-Some.ensures.items done c.requires.all }

pub join-requires-clause-other : goal.join-requires-clause-other
join-requires-clause-other c =
    let b = c.args.self.now in
    let old = c.loop-caller.invariant in
    let taken = All-pop (IsDone b) _ _ _ c.pop-in-loop-caller.ensures.items old.done in
    subst (λ (r : Option Caller). IfSome r (IsDone b)) c.in-Some-pop.is taken.1

pub loop-caller-preserved : goal.loop-caller-preserved
loop-caller-preserved c =
    let b = c.args.self.now in
    let old = c.loop-caller.invariant in
    let taken = All-pop (IsDone b) _ _ _ c.pop-in-loop-caller.ensures.items old.done in
    let done : IsDone b c.in-Some-pop.caller = subst (λ (r : Option Caller). IfSome r (IsDone b)) c.in-Some-pop.is taken.1 in
    record { done = taken.0; gathered = goes b _ _ _ c.loop-caller.first c.in-Some-pop.caller c.join.new.caller c.in-Some-pop.ensures.items done c.join.ensures.done c.join.ensures.made old.gathered }
