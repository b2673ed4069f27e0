use Rattle.std.specs.Prelude.{option_copied}
use Rattle.mr_plan.specs.Readings.{words_of, set_of_words}
use Rattle.mr_plan.proofs.ReadLaws.{IsSoFar, left_length}
use Rattle.mr_plan.proofs.reading.read_members.Given as goal

-- the symbols so far, and those of the words left
abbrev pub invariant-loop-left : goal.invariant-loop-left
invariant-loop-left l = IsSoFar (set_of_words 0 (words_of (option_copied l.fn.words))) l.set l.least l.left

abbrev pub decreases-loop-left : goal.decreases-loop-left
decreases-loop-left l = left_length l.left
