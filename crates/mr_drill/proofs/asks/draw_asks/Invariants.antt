use Rattle.std.proofs.Common.{◌≡◌, ◌*◌}
use Rattle.mr_drill.specs.Words.{after_words}
use Rattle.mr_drill.specs.Asks.{asks_drawn}
use Rattle.mr_drill.proofs.asks.draw_asks.Given as goal

-- the first asks are drawn, each by two words
abbrev pub invariant-loop : goal.invariant-loop
invariant-loop l = record {
  asks : l.asks.items ≡ asks_drawn l.fn.generator l.counter;
  last : l.generator ≡ after_words l.fn.generator (2 * l.counter);
}
