-- The reads of a drill.
use Rattle.std.specs.Prelude.{ℕ, ◌+◌, ◌*◌, ◌^◌, ◌%◌, ◌/◌, List, map}
use Rattle.std.specs.List.{range_with_len}
use Rattle.mr_mend.specs.declared.asks.Ask.{Ask}
use Rattle.mr_drill.specs.declared.asks.TheConstants.{STRIPES, SYMBOLS}
use Rattle.mr_drill.specs.Words.{word_at}

-- ask k of a generator that holds x: two words are drawn for each, the first for its stripe
abbrev pub ask_at : ℕ → ℕ → Ask
ask_at x k = record {
  stripe = word_at x (2 * k) / 2 ^ 32 % STRIPES;
  symbol = word_at x (2 * k + 1) / 2 ^ 32 % SYMBOLS;
}

-- the first n asks
abbrev pub asks_drawn : ℕ → ℕ → List Ask
asks_drawn x n = map (ask_at x) (range_with_len 0 n)
