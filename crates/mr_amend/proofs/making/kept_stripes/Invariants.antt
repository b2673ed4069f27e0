use Rattle.std.proofs.Common.{◌≡◌, ◌+◌, ◌<◌, ◌≤◌, ℕ, vec_capacity, length, drop, slice_index_or}
use Rattle.mr_history.specs.declared.kept.KeptStripe.{KeptStripe}
use Rattle.mr_history.specs.Histories.{names_of, IsFresh}
use Rattle.mr_amend.proofs.making.kept_stripes.Given as goal

abbrev pub invariant-loop-stripe : goal.invariant-loop-stripe
invariant-loop-stripe l = record {
  left : l.bytes.items ≡ drop (length l.kept.items) l.initial.bytes.items;
  many : length l.kept.items + length l.bytes.items ≡ length l.initial.bytes.items;
  room : length l.initial.bytes.items ≤ vec_capacity l.kept;
  each : (t : ℕ) (d : KeptStripe) → t < length l.kept.items → IsFresh (names_of l.terms) t (slice_index_or l.kept.items t d);
}

abbrev pub decreases-loop-stripe : goal.decreases-loop-stripe
decreases-loop-stripe l = length l.bytes.items
