-- A stripe whose symbols without a recipe are those of an image gives, by the recipes, the stripe of the mended image.
use Rattle.std.proofs.Common.{◌≡◌, ℕ, zero, suc, ◌+◌, ◌-◌, ◌*◌, ◌<◌, ◌≤◌, false, List, [], ◌∷◌, ◌++◌, take, drop, map, flat_map, length, get_or, All, Option, Some, None, IfSome, refl, sym, ap, ap₂, subst, ◌∙◌, arith, zero-add, length-take, length-drop}
use Rattle.std.specs.Prelude.{is_some, Vec}
use Rattle.std.specs.Global.{Global}
use Rattle.std.specs.List.{range_with_len}
use Rattle.std.proofs.Math.Nat.{add-mul, mul_assoc}
use Rattle.std.proofs.lemmas.List.{drop-drop, drop-take, take-take, length-map}
use Rattle.std.proofs.lemmas.Nat.{row_fits}
use Rattle.std.proofs.lemmas.List.FromFn.{get_or-map-range_with_len, length-map-range_with_len}
use Rattle.mr_model.proofs.Lists.{map-range-split}
use Rattle.mr_model.proofs.SetLaws.{member-below}
use Rattle.mr_plan.specs.Plans.{PlanParts}
use Rattle.mr_plan.specs.PlanLists.{plan_at, recipes_at}
use Rattle.mr_image.specs.Images.{Layout, stripe_symbols, Image, image_of, stripe_of, mended, equation_of, rebuilt}
use Rattle.mr_image.specs.Heads.{file_bytes}
use Rattle.mr_encode.proofs.ColumnLaws.{place_end}
use Rattle.mr_mend.specs.Mending.{has_recipe, HoldsCopies}
use Rattle.mr_kept.specs.Kept.{stripe_bytes, symbol_in, all_symbols, stripe_body, mended_symbol, mended_bytes, AreAmendable, items_of, stripe_in, HoldsOpenings}
use Rattle.mr_kept.proofs.PartLaws.{xor_symbols-same, symbols-at}
use Rattle.mr_kept.proofs.MendLaws.{sources-fit, sources-apart}

flat_map-range-same : (f g : ℕ → List ℕ) (n a : ℕ) → ((i : ℕ) → i < n → f (a + i) ≡ g (a + i)) → flat_map f (range_with_len a n) ≡ flat_map g (range_with_len a n)
flat_map-range-same f g zero a same = refl
flat_map-range-same f g (suc n) a same =
    let first : a + 0 ≡ a = omega arith in
    ap₂ (λ x y. x ++ y) (ap f (sym first) ∙ same 0 (omega arith) ∙ ap g first)
    (flat_map-range-same f g n (a + 1) (λ i low. let on : a + 1 + i ≡ a + suc i = omega arith in ap f on ∙ same (suc i) (omega (arith, low)) ∙ ap g (sym on)))

-- the bytes of stripe s, whose symbols without a recipe are those of the image
module _ (l : Layout) (plans : List PlanParts) (may : AreAmendable l plans) (image : Image) (s : ℕ) (bytes : List ℕ) (long : length bytes ≡ stripe_bytes l)
    (same : (i : ℕ) → i < stripe_symbols l → has_recipe (recipes_at plans s) i ≡ false → symbol_in l.symbol_bytes bytes i ≡ image s i) where
  symbol-opened : (i : ℕ) → i < stripe_symbols l → mended_symbol l (recipes_at plans s) bytes i ≡ mended l (recipes_at plans) image s i
  unfolding mended_symbol mended recipes_at
  symbol-opened i low = go (equation_of (recipes_at plans s) i) refl
    where
      go : (o : Option ℕ) → equation_of (recipes_at plans s) i ≡ o
          → rebuilt l.symbol_bytes (all_symbols l bytes) (symbol_in l.symbol_bytes bytes i) (equation_of (recipes_at plans s) i)
          ≡ rebuilt l.symbol_bytes (stripe_of l image s) (image s i) (equation_of (recipes_at plans s) i)
      go None is =
          ap (rebuilt l.symbol_bytes (all_symbols l bytes) (symbol_in l.symbol_bytes bytes i)) is ∙ same i low (ap is_some is)
          ∙ sym (ap (rebuilt l.symbol_bytes (stripe_of l image s) (image s i)) is)
      go (Some e) is =
          ap (rebuilt l.symbol_bytes (all_symbols l bytes) (symbol_in l.symbol_bytes bytes i)) is
          ∙ xor_symbols-same l.symbol_bytes (all_symbols l bytes) (stripe_of l image s) e (λ j member.
          let j_low : j < stripe_symbols l = member-below (stripe_symbols l) e j (sources-fit l (plan_at plans s) (may.each s) bytes long i e is).0 member in
          symbols-at l.symbol_bytes (stripe_symbols l) bytes j j_low
          ∙ same j j_low (ap is_some (sources-apart l (plan_at plans s) (may.each s) bytes long i e is j member))
          ∙ sym (get_or-map-range_with_len (image s) 0 (stripe_symbols l) j j [] j_low (zero-add j)))
          ∙ sym (ap (rebuilt l.symbol_bytes (stripe_of l image s) (image s i)) is)

  opened-stripe : mended_bytes l (recipes_at plans s) bytes ≡ stripe_body l (mended l (recipes_at plans) image) s
  unfolding mended_bytes
  opened-stripe = flat_map-range-same (mended_symbol l (recipes_at plans s) bytes) (mended l (recipes_at plans) image s) (stripe_symbols l) 0
      (λ i low. let e : 0 + i ≡ i = zero-add i in ap (mended_symbol l (recipes_at plans s) bytes) e ∙ symbol-opened i low ∙ ap (mended l (recipes_at plans) image s) (sym e))

-- ---- the stripes of a file

module _ (l : Layout) (file : List ℕ) (long : length file ≡ file_bytes l) where
  stripe-end : (s : ℕ) → s < l.stripes → 32 + s * stripe_bytes l + stripe_bytes l ≤ length file
  stripe-end s low =
      let row : s * stripe_bytes l + stripe_bytes l ≤ l.stripes * stripe_bytes l = row_fits s (stripe_bytes l) l.stripes (stripe_bytes l) low (omega arith) in
      omega (arith, row, long, mul_assoc l.stripes (stripe_symbols l) l.symbol_bytes)

  -- as the code writes it
  pub stripe-room : (s at width : ℕ) → s < l.stripes → width ≡ stripe_bytes l → at ≡ 32 + s * width → at + width ≤ length file
  stripe-room s at width low w e =
      subst (λ k. k + width ≤ length file) (sym e) (subst (λ k. 32 + s * k + k ≤ length file) (sym w) (stripe-end s low))

  length-stripe_in : (s : ℕ) → s < l.stripes → length (stripe_in l file s) ≡ stripe_bytes l
  length-stripe_in s low = omega (arith, length-take (stripe_bytes l) (drop (32 + s * stripe_bytes l) file), length-drop (32 + s * stripe_bytes l) file, stripe-end s low)

  -- its symbols are those of the file
  symbol-of : (s i : ℕ) → i < stripe_symbols l → symbol_in l.symbol_bytes (stripe_in l file s) i ≡ image_of l file s i
  symbol-of s i low =
      let size : ℕ = l.symbol_bytes in
      let end : i * size + size ≤ stripe_bytes l = place_end size (stripe_symbols l) (stripe_bytes l) i refl low in
      let left : ℕ = stripe_bytes l - i * size in
      let whole : stripe_bytes l ≡ i * size + left = omega (arith, end) in
      let at : 32 + s * stripe_bytes l + i * size ≡ 32 + (s * stripe_symbols l + i) * size = omega (arith, add-mul (s * stripe_symbols l) i size, mul_assoc s (stripe_symbols l) size) in
      ap (λ n. take size (drop (i * size) (take n (drop (32 + s * stripe_bytes l) file)))) whole
      ∙ ap (take size) (drop-take (i * size) left (drop (32 + s * stripe_bytes l) file))
      ∙ take-take size left (drop (i * size) (drop (32 + s * stripe_bytes l) file)) (omega (arith, end))
      ∙ ap (take size) (drop-drop (i * size) (32 + s * stripe_bytes l) file)
      ∙ ap (λ n. take size (drop n file)) at

  module _ (stripes : List (Vec ℕ Global)) (are : items_of stripes ≡ map (stripe_in l file) (range_with_len 0 l.stripes)) where
    pub length-stripes : length stripes ≡ l.stripes
    length-stripes = sym (length-map stripes (λ (v : Vec ℕ Global). v.items)) ∙ ap length are ∙ length-map-range_with_len (stripe_in l file) 0 l.stripes

    stripe-at : (s : ℕ) (d : List ℕ) → s < l.stripes → get_or (items_of stripes) s d ≡ stripe_in l file s
    stripe-at s d low = ap (λ xs. get_or xs s d) are ∙ get_or-map-range_with_len (stripe_in l file) 0 l.stripes s s d low (zero-add s)

    pub stripe-widths : All (λ bytes. length bytes ≡ stripe_bytes l) (items_of stripes)
    stripe-widths s d low =
        let here : s < l.stripes = omega (arith, low, ap length are, length-map-range_with_len (stripe_in l file) 0 l.stripes) in
        ap length (stripe-at s d here) ∙ length-stripe_in s here

    stripes-opened : (plans : List PlanParts) → AreAmendable l plans → (image : Image) → HoldsCopies l (recipes_at plans) image file
        → HoldsOpenings l (recipes_at plans) image (items_of stripes)
    stripes-opened plans may image holds = record {
      opened = λ s low.
          ap (mended_bytes l (recipes_at plans s)) (stripe-at s [] low)
          ∙ opened-stripe l plans may image s (stripe_in l file s) (length-stripe_in s low) (λ i inside none. symbol-of s i inside ∙ holds.same s i low inside none);
    }

    pub stripes-told : (plans : List PlanParts) → AreAmendable l plans → (told : Option (List ℕ)) → IfSome told (λ bytes. HoldsCopies l (recipes_at plans) (image_of l bytes) file)
        → IfSome told (λ bytes. HoldsOpenings l (recipes_at plans) (image_of l bytes) (items_of stripes))
    stripes-told plans may None h = tt
    stripes-told plans may (Some bytes) h = stripes-opened plans may (image_of l bytes) h

-- one stripe more
map-range-more : {X : Type 0} (f : ℕ → X) (n : ℕ) → map f (range_with_len 0 (n + 1)) ≡ map f (range_with_len 0 n) ++ f n ∷ []
map-range-more f n = map-range-split f n 1 0 ∙ ap (λ k. map f (range_with_len 0 n) ++ f k ∷ []) (zero-add n)

pub stripes-more : (l : Layout) (file : List ℕ) (n : ℕ) (stripes : List (List ℕ)) (bytes : List ℕ) → stripes ≡ map (stripe_in l file) (range_with_len 0 n) → bytes ≡ stripe_in l file n
    → stripes ++ bytes ∷ [] ≡ map (stripe_in l file) (range_with_len 0 (n + 1))
stripes-more l file n stripes bytes e is = (λ j. e j ++ is j ∷ []) ∙ sym (map-range-more (stripe_in l file) n)

-- what is read of a stripe, as the code writes its place and its length
pub stripe-read : (l : Layout) (file : List ℕ) (s at width size : ℕ) → width ≡ stripe_bytes l → at ≡ 32 + s * width → size ≡ width → take size (drop at file) ≡ stripe_in l file s
stripe-read l file s at width size w e z = (λ j. take (z j) (drop (e j) file)) ∙ (λ j. take (w j) (drop (32 + s * w j) file))
