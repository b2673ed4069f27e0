use Rattle.std.proofs.Common.{◌≡◌, ◌+◌, ◌≤◌, drop, map, string_bytes}
use Rattle.mr_array_words.specs.Counting.{places_from}
use Rattle.mr_array_words.specs.declared.counting.Turn.TheVariants.{Any}
use Rattle.mr_array_words.proofs.counting.count_places.Given as goal

abbrev pub invariant-loop-word : goal.invariant-loop-word
invariant-loop-word l = (l.count + places_from l.turn (map string_bytes (drop l.word-index l.words)) ≡ places_from Any (map string_bytes l.words))
    × (l.count ≤ l.word-index)
