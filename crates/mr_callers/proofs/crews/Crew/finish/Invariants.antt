use Rattle.std.proofs.Common.{◌≡◌, ◌++◌, ◌+◌, ◌≤◌, length, map, vec_len, vec_capacity, Vec}
use Rattle.std.specs.Global.{Global}
use Rattle.mr_account.specs.declared.slots.Slot.{Slot}
use Rattle.mr_callers.specs.Jobs.{callers_of, slots_of}
use Rattle.mr_callers.proofs.crews.Crew.finish.Given as goal

-- the callers and the slots of the jobs that are left follow those that were taken out
abbrev pub invariant-loop-job : goal.invariant-loop-job
invariant-loop-job l = record {
  callers : l.callers.items ++ callers_of l.left.items ≡ callers_of l.fn.self.jobs.items;
  slots : map (λ (v : Vec Slot Global). v.items) l.slots.items ++ slots_of l.left.items ≡ slots_of l.fn.self.jobs.items;
  callers_room : vec_len l.callers + length l.left.items ≤ vec_capacity l.callers;
  slots_room : vec_len l.slots + length l.left.items ≤ vec_capacity l.slots;
}

abbrev pub decreases-loop-job : goal.decreases-loop-job
decreases-loop-job l = length l.left.items
