-- The slots of the recipes of one stripe, and what is put out of them to its places.
use Rattle.std.proofs.Common.{◌≡◌, ℕ, ◌+◌, ◌*◌, ◌≤◌, List, take, length, Option, Some, None, sym, subst, ◌∙◌, arith}
use Rattle.std.specs.Prelude.{IfSome}
use Rattle.std.proofs.Math.Nat.{add-mul}
use Rattle.std.proofs.lemmas.List.{length-take-le}
use Rattle.std.proofs.lemmas.Nat.{mul-le}
use Rattle.mr_model.specs.Plans.{Recipe}
use Rattle.mr_image.specs.Images.{Layout, image_of, stripe_symbols, every_stripe}
use Rattle.mr_plan.specs.Plans.{PlanParts}
use Rattle.mr_board.specs.Rights.{lost_bytes}
use Rattle.mr_mend.specs.Mending.{IsMendable, PutsSymbols}
use Rattle.mr_mend.proofs.Turns.{puts-mended}
use Rattle.mr_patch.specs.Mending.{HoldsRebuilt}
use Rattle.mr_patch.specs.Rooms.{stripe_room}
use Rattle.mr_patch.proofs.StripePlans.{recipes-few}

module _ (l : Layout) (plan : PlanParts) (may : IsMendable l plan) where
  module _ (recipes : List Recipe) (are : recipes ≡ plan.recipes) where
    -- the slots of the recipes are some of those of a stripe
    pub slots-fit : (size room : ℕ) (slots : List ℕ) → size ≡ l.symbol_bytes → room ≡ stripe_room l → length slots + size ≡ room → length recipes * size ≤ length slots
    slots-fit size room slots size_is room_is rest =
        let few : length recipes ≤ stripe_symbols l = subst (λ (rs : List Recipe). length rs ≤ stripe_symbols l) (sym are) (recipes-few l plan may) in
        omega (arith, mul-le (length recipes) size (stripe_symbols l) l.symbol_bytes few (omega (arith, size_is)), add-mul (stripe_symbols l) 1 l.symbol_bytes, size_is, room_is, rest)

    -- and so many bytes
    pub slots-are : (size : ℕ) (slots : List ℕ) → size ≡ l.symbol_bytes → length recipes * size ≤ length slots
        → length (take (length recipes * size) slots) ≡ length plan.recipes * l.symbol_bytes
    slots-are size slots size_is fit = length-take-le (length recipes * size) slots fit ∙ (λ j. length (are j) * size_is j)

    -- what is put out of the slots are the rebuilt symbols
    pub slots-put : (s : ℕ) (told : Option (List ℕ)) (slots before now : List ℕ)
        → IfSome told (λ bytes. slots ≡ lost_bytes l (every_stripe plan.recipes) (image_of l bytes) s)
        → PutsSymbols l recipes s slots before now → IfSome told (λ bytes. HoldsRebuilt l plan.recipes s (image_of l bytes) now)
    slots-put s None slots before now made puts = tt
    slots-put s (Some bytes) slots before now made puts = record {
      same = puts-mended l plan may (image_of l bytes) s slots before now made (subst (λ (rs : List Recipe). PutsSymbols l rs s slots before now) are puts);
    }
