use Rattle.std.proofs.Common.{◌≡◌}
use Rattle.mr_encode.proofs.FrontLaws.{HasFront}
use Rattle.mr_drill.specs.Words.{after_words}
use Rattle.mr_drill.proofs.WordLaws.{drawn_word}
use Rattle.mr_drill.proofs.words.Generator.fill.Given as goal

-- the first words are drawn, each to its place
abbrev pub invariant-loop-number : goal.invariant-loop-number
invariant-loop-number l = record {
  front : HasFront (drawn_word l.fn.self) 8 0 l.number l.bytes;
  last : l.self ≡ after_words l.fn.self l.number;
}
