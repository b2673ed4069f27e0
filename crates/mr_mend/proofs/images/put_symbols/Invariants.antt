use Rattle.mr_mend.proofs.Putting.{PutBelow}
use Rattle.mr_mend.proofs.images.put_symbols.Given as goal

-- the symbols of the first k recipes are put
abbrev pub invariant-loop-k : goal.invariant-loop-k
invariant-loop-k l = PutBelow l.fn.head l.recipes l.fn.stripe l.k l.symbols l.fn.image l.image
