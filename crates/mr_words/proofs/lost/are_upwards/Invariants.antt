use Rattle.std.proofs.Common.{◌≡◌, drop, length}
use Rattle.mr_words.specs.Lost.{parts}
use Rattle.mr_words.proofs.Upwards.{rises_from}
use Rattle.mr_words.proofs.lost.are_upwards.Given as goal

abbrev pub invariant-loop-part : goal.invariant-loop-part
invariant-loop-part l = rises_from l.least (drop (length l.yielded) (parts l.word)) ≡ rises_from 0 (parts l.word)
