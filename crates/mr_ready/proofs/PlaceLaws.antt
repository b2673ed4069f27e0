-- The mended symbols are put to their places, recipe by recipe and stripe by stripe.
use Rattle.std.proofs.Common.{◌≡◌, ℕ, ◌+◌, ◌<◌, ◌≤◌, ⊎_elim, true, List, take, length, get_or, All, Some, refl, sym, ap, ◌∙◌, arith}
use Rattle.std.specs.Prelude.{slice_index}
use Rattle.std.proofs.lemmas.Bool.{cases_eq}
use Rattle.std.proofs.lemmas.List.{get_or_default, length-map}
use Rattle.mr_board.specs.Boards.{IsBoardOf}
use Rattle.mr_board.specs.declared.board.Board.{Board}
use Rattle.mr_image.specs.Images.{Layout, image_of, mended, stripe_symbols}
use Rattle.mr_mend.specs.Mending.{AreMendable, HoldsMended, IsUpwards, has_recipe}
use Rattle.mr_mend.proofs.Lists.{symbol_at}
use Rattle.mr_mend.proofs.Places.{IsPut}
use Rattle.mr_mend.proofs.Turns.{has_recipe-stands}
use Rattle.mr_model.specs.Plans.{Recipe}
use Rattle.mr_plan.specs.PlanLists.{recipes_at, symbols_of}
use Rattle.mr_plan.specs.Plans.{PlanParts}
use Rattle.mr_ready.specs.Placing.{PutsMended}

no_recipe : Recipe
no_recipe = record { symbol = 0; equation = 0 }

module _ (b : Board) (l : Layout) (plans : List PlanParts) where
  abbrev Recipes : ℕ → List Recipe
  Recipes s = recipes_at plans s

  upwards : AreMendable l plans → (s : ℕ) → IsUpwards (symbols_of (recipes_at plans s))
  unfolding recipes_at
  upwards may s = (may.each s).upwards

  in-range : AreMendable l plans → (s : ℕ) → All (λ (r : Recipe). r.symbol < stripe_symbols l) (recipes_at plans s)
  unfolding recipes_at
  in-range may s = (may.each s).symbols

  -- ---- one stripe

  -- the symbols of the first n recipes stand at their places, the other stripes and the head are as before
  pub record PutBelow (s n : ℕ) (before now : List ℕ) : Type 0 where
    pub there : (bytes : List ℕ) → IsBoardOf b l plans (Some bytes) → (k : ℕ) (d : Recipe) → k < n → k < length (recipes_at plans s)
        → image_of l now s (get_or (recipes_at plans s) k d).symbol ≡ mended l (recipes_at plans) (image_of l bytes) s (get_or (recipes_at plans s) k d).symbol
    pub others : (t i : ℕ) → (t ≡ s → ⊥) → i < stripe_symbols l → image_of l now t i ≡ image_of l before t i
    pub front : take 32 now ≡ take 32 before

  pub put-start : (s : ℕ) (before : List ℕ) → PutBelow s 0 before before
  put-start s before = record { there = λ bytes is k d below low. absurd (omega arith); others = λ t i other low. refl; front = refl }

  pub put-turn : (s n : ℕ) (r : Recipe) (y before now after : List ℕ) → AreMendable l plans → n < length (recipes_at plans s) → r ≡ get_or (recipes_at plans s) n r
      → PutBelow s n before now → IsPut l s r.symbol y now after
      → ((bytes : List ℕ) → IsBoardOf b l plans (Some bytes) → y ≡ mended l (recipes_at plans) (image_of l bytes) s r.symbol)
      → PutBelow s (n + 1) before after
  put-turn s n r y before now after may here is h put right = record {
    there = λ bytes board k d below low. ⊎_elim
        (λ (e : k ≡ n).
        let same : get_or (recipes_at plans s) k d ≡ r = ap (λ j. get_or (recipes_at plans s) j d) e ∙ get_or_default (recipes_at plans s) n d r here ∙ sym is in
        ap (λ (q : Recipe). image_of l after s q.symbol) same ∙ put.there ∙ right bytes board ∙ ap (λ (q : Recipe). mended l (recipes_at plans) (image_of l bytes) s q.symbol) (sym same))
        (λ (apart : k ≡ n → ⊥).
        put.others s (get_or (recipes_at plans s) k d).symbol (in-range may s k d low) (λ same equal. absurd (omega (arith, less k d (omega arith) low, equal)))
        ∙ h.there bytes board k d (omega arith) low)
        (cases_eq k n);
    others = λ t i other low. put.others t i low (λ same equal. other same) ∙ h.others t i other low;
    front = put.front ∙ h.front;
  }
    where
      less : (k : ℕ) (d : Recipe) → k < n → k < length (recipes_at plans s) → (get_or (recipes_at plans s) k d).symbol < r.symbol
      less k d below low = omega (arith, upwards may s k n below (omega (arith, here, length-map (recipes_at plans s) (λ (q : Recipe). q.symbol))), symbol_at (recipes_at plans s) k d low, symbol_at (recipes_at plans s) n r here, ap (λ (q : Recipe). q.symbol) is)

  pub put-all : (s n : ℕ) (before now : List ℕ) → length (recipes_at plans s) ≤ n → PutBelow s n before now → PutsMended b l plans s before now
  put-all s n before now all h = record { there = λ bytes board k d low. h.there bytes board k d (omega arith) low; others = h.others; front = h.front }

  -- ---- all stripes

  -- the first n stripes hold their mended symbols
  pub record HoldsBelow (n : ℕ) (start now : List ℕ) : Type 0 where
    pub done : (bytes : List ℕ) → IsBoardOf b l plans (Some bytes) → (s i : ℕ) → s < n → i < stripe_symbols l → has_recipe (recipes_at plans s) i ≡ true
        → image_of l now s i ≡ mended l (recipes_at plans) (image_of l bytes) s i
    pub front : take 32 now ≡ take 32 start

  pub holds-start : (start : List ℕ) → HoldsBelow 0 start start
  holds-start start = record { done = λ bytes board s i below low has_one. absurd (omega arith); front = refl }

  pub holds-turn : (n : ℕ) (start now after : List ℕ) → HoldsBelow n start now → PutsMended b l plans n now after → HoldsBelow (n + 1) start after
  holds-turn n start now after h puts = record {
    done = λ bytes board s i below low has_one. ⊎_elim
        (λ (e : s ≡ n).
        let at = has_recipe-stands (recipes_at plans n) i (ap (λ t. has_recipe (recipes_at plans t) i) (sym e) ∙ has_one) in
        let is : (get_or (recipes_at plans n) at.index no_recipe).symbol ≡ i = at.is no_recipe in
        ap (λ t. image_of l after t i) e ∙ ap (image_of l after n) (sym is) ∙ puts.there bytes board at.index no_recipe at.low
        ∙ ap (mended l (recipes_at plans) (image_of l bytes) n) is ∙ ap (λ t. mended l (recipes_at plans) (image_of l bytes) t i) (sym e))
        (λ (other : s ≡ n → ⊥). puts.others s i other low ∙ h.done bytes board s i (omega arith) low has_one)
        (cases_eq s n);
    front = puts.front ∙ h.front;
  }

  pub holds-all : (n : ℕ) (start now : List ℕ) → l.stripes ≤ n → HoldsBelow n start now → (bytes : List ℕ) → IsBoardOf b l plans (Some bytes) → HoldsMended l (recipes_at plans) (image_of l bytes) now
  holds-all n start now all h bytes board = record { same = λ s i here low has_one. h.done bytes board s i (omega arith) low has_one }

-- the symbol of a recipe, by its place
pub own-symbol : (recipes : List Recipe) (k : ℕ) (r : Recipe) → k < length recipes → r ≡ get_or recipes k r → slice_index (symbols_of recipes) k ≡ r.symbol
own-symbol recipes k r low is = symbol_at recipes k r low ∙ ap (λ (q : Recipe). q.symbol) (sym is)

pub symbol-low : (l : Layout) (plans : List PlanParts) (s k : ℕ) (r : Recipe) → AreMendable l plans → k < length (recipes_at plans s) → r ≡ get_or (recipes_at plans s) k r → r.symbol < stripe_symbols l
unfolding recipes_at
symbol-low l plans s k r may low is = omega (arith, (may.each s).symbols k r low, ap (λ (q : Recipe). q.symbol) is)
