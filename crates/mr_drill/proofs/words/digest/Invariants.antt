use Rattle.std.proofs.Common.{◌≡◌}
use Rattle.mr_drill.specs.Words.{digest_of_words}
use Rattle.mr_drill.proofs.words.digest.Given as goal

-- the digest of the first words
abbrev pub invariant-loop-number : goal.invariant-loop-number
invariant-loop-number l = l.digest ≡ digest_of_words l.bytes l.number
