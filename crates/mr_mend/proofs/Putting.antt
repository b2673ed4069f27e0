-- The symbols of the recipes are put to their places in a stripe, one after the other.
use Rattle.std.proofs.Common.{◌≡◌, ℕ, ◌+◌, ◌*◌, ◌<◌, ◌≤◌, ⊎_elim, List, take, drop, length, get_or, All, refl, sym, ap, ◌∙◌, arith}
use Rattle.std.proofs.lemmas.Bool.{cases_eq}
use Rattle.std.proofs.lemmas.List.{get_or_default, length-map}
use Rattle.mr_model.specs.Plans.{Recipe}
use Rattle.mr_image.specs.Images.{Layout, stripe_symbols, image_of}
use Rattle.mr_mend.specs.Mending.{IsUpwards, PutsSymbols}
use Rattle.mr_plan.specs.PlanLists.{symbols_of}
use Rattle.mr_mend.proofs.Lists.{symbol_at}
use Rattle.mr_mend.proofs.Places.{IsPut}

-- the symbols of the first n recipes stand at their places, the other stripes and the head are as before
pub record PutBelow (l : Layout) (recipes : List Recipe) (s n : ℕ) (symbols before now : List ℕ) : Type 0 where
  pub there : (k : ℕ) (d : Recipe) → k < n → k < length recipes → image_of l now s (get_or recipes k d).symbol ≡ take l.symbol_bytes (drop (k * l.symbol_bytes) symbols)
  pub others : (t i : ℕ) → (t ≡ s → ⊥) → i < stripe_symbols l → image_of l now t i ≡ image_of l before t i
  pub front : take 32 now ≡ take 32 before

module _ (l : Layout) (recipes : List Recipe) (s : ℕ) (symbols before : List ℕ) where
  pub put-start : PutBelow l recipes s 0 symbols before before
  put-start = record { there = λ k d below low. absurd (omega arith); others = λ t i other low. refl; front = refl }

  pub put-turn : (n : ℕ) (r : Recipe) (y now after : List ℕ) → All (λ (q : Recipe). q.symbol < stripe_symbols l) recipes → IsUpwards (symbols_of recipes)
      → n < length recipes → r ≡ get_or recipes n r → PutBelow l recipes s n symbols before now
      → IsPut l s r.symbol y now after → y ≡ take l.symbol_bytes (drop (n * l.symbol_bytes) symbols) → PutBelow l recipes s (n + 1) symbols before after
  put-turn n r y now after in_range up here is h put y_is =
      record {
        there = λ k d below low. ⊎_elim
            (λ (e : k ≡ n).
            let same : get_or recipes k d ≡ r = ap (λ j. get_or recipes j d) e ∙ at_n d ∙ sym is in
            ap (λ (q : Recipe). image_of l after s q.symbol) same ∙ put.there ∙ y_is ∙ ap (λ j. take l.symbol_bytes (drop (j * l.symbol_bytes) symbols)) (sym e))
            (λ (apart : k ≡ n → ⊥).
            put.others s (get_or recipes k d).symbol (in_range k d low) (λ same equal. absurd (omega (arith, less k d (omega arith) low, equal)))
            ∙ h.there k d (omega arith) low)
            (cases_eq k n);
        others = λ t i other low. put.others t i low (λ same equal. other same) ∙ h.others t i other low;
        front = put.front ∙ h.front;
      }
    where
      at_n : (d : Recipe) → get_or recipes n d ≡ get_or recipes n r
      at_n d = get_or_default recipes n d r here

      less : (k : ℕ) (d : Recipe) → k < n → k < length recipes → (get_or recipes k d).symbol < r.symbol
      less k d below low = omega (arith, up k n below (omega (arith, here, length-map recipes (λ (q : Recipe). q.symbol))), symbol_at recipes k d low, symbol_at recipes n r here, ap (λ (q : Recipe). q.symbol) is)

  pub put-all : (n : ℕ) (now : List ℕ) → length recipes ≤ n → PutBelow l recipes s n symbols before now → PutsSymbols l recipes s symbols before now
  put-all n now all h = record { there = λ k d low. h.there k d (omega arith) low; others = h.others; front = h.front }

-- the part of the symbols that is copied, as the code writes its place and its length
pub copied_part : (l : Layout) (k size count : ℕ) (symbols y : List ℕ) → size ≡ l.symbol_bytes → count ≡ size → y ≡ take count (drop (k * size) symbols)
    → y ≡ take l.symbol_bytes (drop (k * l.symbol_bytes) symbols)
copied_part l k size count symbols y size_is count_is e = e ∙ (λ j. take ((count_is ∙ size_is) j) (drop (k * size_is j) symbols))
