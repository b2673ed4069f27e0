use Rattle.std.proofs.Common.{◌≡◌, ℕ, ◌^◌, ◌<◌, List, length}
use Rattle.mr_model.specs.Sets.{below}
use Rattle.mr_model.proofs.Loops.{IsRest}
use Rattle.mr_image.specs.Images.{xor_symbols}
use Rattle.mr_encode.specs.Data.{symbols_in}
use Rattle.mr_kept.specs.Kept.{IsAround}
use Rattle.mr_kept.proofs.keepers.xor_around.Given as goal

-- the symbol is the XOR of those of the set below m
abbrev pub invariant-loop-source : goal.invariant-loop-source
invariant-loop-source g l = (goal.iterator-loop-source g).can_next l.source-iterator × (goal.iterator-loop-source g).is_finite l.source-iterator
    × ((m : ℕ) × IsRest l.fn.set m l.source-iterator
    × ((n : ℕ) (stripe : List ℕ) → l.fn.set < 2 ^ n → IsAround (length l.fn.symbol) l.own stripe l.fn.around.0.now l.fn.around.1.now
    → l.symbol ≡ xor_symbols (length l.fn.symbol) (symbols_in (length l.fn.symbol) n stripe) (below m l.fn.set)))
