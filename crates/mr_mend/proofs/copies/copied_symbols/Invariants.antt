use Rattle.std.proofs.Common.{◌≡◌}
use Rattle.mr_mend.proofs.CopySets.{copied_below}
use Rattle.mr_mend.proofs.copies.copied_symbols.Given as goal

abbrev pub invariant-loop-symbol : goal.invariant-loop-symbol
invariant-loop-symbol l = l.copied ≡ copied_below l.recipes l.symbol
