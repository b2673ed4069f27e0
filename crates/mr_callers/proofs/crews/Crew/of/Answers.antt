use Rattle.std.proofs.Common.{◌≡◌, ◌++◌, List, length, All, sym, ap, ◌∙◌, subst, arith}
use Rattle.std.proofs.lemmas.List.Elements.{All-push}
use Rattle.mr_amend.specs.Callers.{view}
use Rattle.mr_callers.specs.Jobs.{HaveRoom, callers_of, numbers_of}
use Rattle.mr_callers.specs.declared.crews.CallerJob.{CallerJob}
use Rattle.mr_callers.proofs.Listing.{gained}
use Rattle.mr_callers.proofs.crews.Crew.of.Goals as goal

pub loop-caller-preserved : goal.loop-caller-preserved
loop-caller-preserved c =
    let old = c.loop-caller.invariant in
    let push = c.push_reserved.ensures in
    let pop = c.in-Some.ensures.items in
    let one = ap length pop in
    let len = push.len in
    let cap = push.capacity in
    record {
      all = ap (λ (l : List CallerJob). callers_of l ++ c.pop_front.new.self.items) push.items ∙ gained (λ (job : CallerJob). job.caller) c.loop-caller.crew.jobs.items _ c.loop-caller.left.items c.pop_front.new.self.items pop ∙ old.all;
      numbers = subst (All (λ (job : CallerJob). numbers_of job.slots.items ≡ (view job.caller).asks)) (sym push.items) (All-push (λ (job : CallerJob). numbers_of job.slots.items ≡ (view job.caller).asks) _ _ old.numbers c.in_ok-slots.ensures.numbers);
      replies = subst (All (λ (job : CallerJob). HaveRoom c.args.size job.slots.items)) (sym push.items) (All-push (λ (job : CallerJob). HaveRoom c.args.size job.slots.items) _ _ old.replies c.in_ok-slots.ensures.rooms);
      no_callers = old.no_callers;
      no_slots = old.no_slots;
      jobs_room = omega (arith, old.jobs_room, one, len, cap);
      callers_room = omega (arith, old.callers_room, one, len);
      slots_room = omega (arith, old.slots_room, one, len);
    }
