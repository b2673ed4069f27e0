-- The place of the recipe of a symbol.
use Rattle.std.proofs.Common.{◌≡◌, ◌≢◌, ℕ, ◌<◌, Bool, true, false, List, length, get_or, refl}
use Rattle.mr_model.specs.Plans.{Recipe}
use Rattle.mr_mend.specs.Mending.{has_recipe}
use Rattle.mr_mend.proofs.Turns.{has_recipe-stands}

-- where no recipe is of a symbol, it has none
pub none-has_recipe : (recipes : List Recipe) (i : ℕ) → ((k : ℕ) (d : Recipe) → k < length recipes → (get_or recipes k d).symbol ≢ i) → has_recipe recipes i ≡ false
none-has_recipe recipes i none = go (has_recipe recipes i) refl
  where
    go : (b : Bool) → has_recipe recipes i ≡ b → b ≡ false
    go false e = refl
    go true e =
        let at = has_recipe-stands recipes i e in
        let d : Recipe = record { symbol = 0; equation = 0 } in
        absurd (none at.index d at.low (at.is d))
