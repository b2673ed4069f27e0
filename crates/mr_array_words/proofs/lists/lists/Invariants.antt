use Rattle.std.proofs.Common.{◌≡◌, ◌+◌, length}
use Rattle.mr_words.specs.Lost.{parts}
use Rattle.mr_array_words.proofs.Listing.{numbers_left}
use Rattle.mr_array_words.proofs.lists.lists.Given as goal

abbrev pub invariant-loop-part : goal.invariant-loop-part
invariant-loop-part l = numbers_left (parts l.word) 0 + l.left ≡ l.count + numbers_left (parts l.word) (length l.yielded)
