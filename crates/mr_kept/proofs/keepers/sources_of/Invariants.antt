use Rattle.std.proofs.Common.{◌≡◌, drop}
use Rattle.mr_image.specs.Images.{equation_of}
use Rattle.mr_kept.proofs.keepers.sources_of.Given as goal

-- it is not among those before
abbrev pub invariant-loop-recipe : goal.invariant-loop-recipe
invariant-loop-recipe l = equation_of l.recipes l.symbol ≡ equation_of (drop l.recipe-index l.recipes) l.symbol
