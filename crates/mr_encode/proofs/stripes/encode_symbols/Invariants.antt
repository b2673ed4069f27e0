use Rattle.std.proofs.Common.{◌-◌}
use Rattle.mr_encode.proofs.FrontLaws.{HasFront}
use Rattle.mr_encode.proofs.StripeLaws.{symbols_of}
use Rattle.mr_encode.proofs.stripes.encode_symbols.Given as goal

-- the symbols so far are those of the codeword
abbrev pub invariant-loop-symbol : goal.invariant-loop-symbol
invariant-loop-symbol g l = HasFront (symbols_of l.matrix l.size l.columns) l.size l.first (l.symbol - l.first) l.symbols
