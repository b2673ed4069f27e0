use Rattle.std.proofs.Common.{◌≡◌, ℕ, List, flat_map, length}
use Rattle.mr_model.specs.Plans.{Recipe}
use Rattle.mr_mend.specs.Mending.{with_symbol}
use Rattle.mr_mend.proofs.Slots.{filled}
use Rattle.mr_mend.proofs.stripes.add_symbol.Given as goal

-- the symbol was added to the slots of the first k recipes
abbrev pub invariant-loop-k : goal.invariant-loop-k
invariant-loop-k g l = (held : Recipe → List ℕ) → ((r : Recipe) → length (held r) ≡ length l.symbol) → l.fn.slots ≡ flat_map held l.recipes
    → l.slots ≡ filled (λ (r : Recipe). with_symbol l.number l.symbol r (held r)) held l.k l.recipes
