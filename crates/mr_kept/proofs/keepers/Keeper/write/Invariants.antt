use Rattle.mr_encode.proofs.FrontLaws.{HasFront}
use Rattle.mr_encode.proofs.StripeLaws.{symbols_of}
use Rattle.mr_kept.proofs.keepers.Keeper.write.Given as goal

-- the symbols so far are those of the codeword
abbrev pub invariant-loop-number : goal.invariant-loop-number
invariant-loop-number g l = HasFront (symbols_of l.code l.size l.payload) l.size 0 l.number l.bytes
