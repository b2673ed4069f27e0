use Rattle.std.proofs.Common.{◌≡◌, ◌++◌, map, take, bit_xor}
use Rattle.mr_null.proofs.nulls.double.Given as goal

-- behind the old list the sets below the index, each turned
abbrev pub invariant-loop-index : goal.invariant-loop-index
invariant-loop-index l = l.masks.items ≡ l.fn.masks.items ++ map (λ v. bit_xor v l.generator) (take l.index l.fn.masks.items)
