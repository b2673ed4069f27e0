use Rattle.std.proofs.Common.{◌≡◌, ◌++◌, drop, length, filter_map}
use Rattle.mr_text.specs.Numbers.{number_of}
use Rattle.mr_words.specs.Lost.{parts}
use Rattle.mr_scatter_run.proofs.lost.numbers_of.Given as goal

-- the numbers so far, and those of the parts that are left
abbrev pub invariant-loop-part : goal.invariant-loop-part
invariant-loop-part l = l.list.items ++ filter_map number_of (drop (length l.yielded) (parts l.word)) ≡ filter_map number_of (parts l.word)
