use Rattle.std.proofs.Common.{◌≡◌, ◌≤◌, length, take, vec_len, vec_capacity}
use Rattle.mr_amend.specs.Callers.{view}
use Rattle.mr_callers.specs.Jobs.{HaveRoom, numbers_of}
use Rattle.mr_callers.proofs.crews.slots_for.Given as goal

-- the slots of the asks below this one are made
abbrev pub invariant-loop-index : goal.invariant-loop-index
invariant-loop-index l = record {
  numbers : numbers_of l.slots.items ≡ take l.index (view l.fn.caller).asks;
  rooms : HaveRoom l.fn.size l.slots.items;
  many : vec_len l.slots ≡ l.index;
  room : length (view l.fn.caller).asks ≤ vec_capacity l.slots;
}
