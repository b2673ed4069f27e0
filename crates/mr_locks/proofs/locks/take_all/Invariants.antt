use Rattle.std.proofs.Common.{◌≡◌, ℕ, ◌<◌, ◌≤◌, false, get_or, take, vec_capacity}
use Rattle.std.specs.Slots.{slots_items, slots_filled, slots_len}
use Rattle.std.specs.Slots.Ownership.{Filled}
use Rattle.mr_locks.proofs.locks.take_all.Given as goal

abbrev pub invariant-loop-slot : goal.invariant-loop-slot
invariant-loop-slot l = record {
  items : slots_items l.closed.slots ≡ slots_items l.initial.closed.slots;
  count : slots_len l.closed.slots ≡ slots_len l.initial.closed.slots;
  words : l.closed.words ≡ l.initial.closed.words;
  filled : Filled (slots_filled l.closed.slots) l.slot (slots_len l.closed.slots);
  taken : (k : ℕ) → k < l.slot → get_or (slots_filled l.closed.slots) k false ≡ false;
  stripes : l.stripes.items ≡ take l.slot (slots_items l.initial.closed.slots);
  room : slots_len l.closed.slots ≤ vec_capacity l.stripes;
}
