use Rattle.std.proofs.Common.{◌≡◌, ◌++◌, ◌+◌, ◌≤◌, [], length, vec_len, vec_capacity, All}
use Rattle.mr_amend.specs.Callers.{view}
use Rattle.mr_callers.specs.Jobs.{HaveRoom, callers_of, numbers_of}
use Rattle.mr_callers.specs.declared.crews.CallerJob.{CallerJob}
use Rattle.mr_callers.proofs.crews.Crew.of.Given as goal

-- the callers that are left follow those that have slots
abbrev pub invariant-loop-caller : goal.invariant-loop-caller
invariant-loop-caller l = record {
  all : callers_of l.crew.jobs.items ++ l.left.items ≡ l.fn.callers.items;
  numbers : All (λ (job : CallerJob). numbers_of job.slots.items ≡ (view job.caller).asks) l.crew.jobs.items;
  replies : All (λ (job : CallerJob). HaveRoom l.fn.size job.slots.items) l.crew.jobs.items;
  no_callers : l.crew.callers.items ≡ [];
  no_slots : l.crew.slots.items ≡ [];
  jobs_room : vec_len l.crew.jobs + length l.left.items ≤ vec_capacity l.crew.jobs;
  callers_room : vec_len l.crew.jobs + length l.left.items ≤ vec_capacity l.crew.callers;
  slots_room : vec_len l.crew.jobs + length l.left.items ≤ vec_capacity l.crew.slots;
}

abbrev pub decreases-loop-caller : goal.decreases-loop-caller
decreases-loop-caller l = length l.left.items
