-- The bytes of a file are its head and its symbols: a file with a head and the symbols of an image is the file of that image.
use Rattle.std.proofs.Common.{◌≡◌, ℕ, ◌<◌, Bool, true, false, List, ◌++◌, take, drop, length, Option, Some, None, refl, ◌∙◌}
use Rattle.std.specs.Prelude.{is_some, IfSome}
use Rattle.std.proofs.lemmas.List.{take_at}
use Rattle.mr_model.specs.Plans.{Recipe}
use Rattle.mr_image.specs.Images.{Layout, Image, stripe_symbols, image_of, stripe_of, equation_of, rebuilt, mended}
use Rattle.mr_image.specs.Heads.{head_bytes, file_bytes}
use Rattle.mr_image.proofs.FileLaws.{file-is}
use Rattle.mr_mend.specs.Mending.{has_recipe, HoldsMended, HoldsCopies, KeepsMended, mended_file}

-- ---- a rebuilt file

-- a symbol without a recipe is as it was
pub mended-without : (l : Layout) (recipes : ℕ → List Recipe) (image : Image) (s i : ℕ) → has_recipe (recipes s) i ≡ false → image s i ≡ mended l recipes image s i
unfolding mended
mended-without l recipes image s i lacks = go (equation_of (recipes s) i) lacks
  where
    go : (o : Option ℕ) → is_some o ≡ false → image s i ≡ rebuilt l.symbol_bytes (stripe_of l image s) (image s i) o
    go None e = refl
    go (Some x) e = cc

module _ (l : Layout) (recipes : ℕ → List Recipe) (start mended_only bytes : List ℕ) where
  -- with the head, then each symbol with a recipe, and then each without one, the file is the mended one
  pub rebuilt-is : (told : List ℕ) → length bytes ≡ file_bytes l → take 32 start ≡ head_bytes l → take 32 mended_only ≡ take 32 start
      → HoldsMended l recipes (image_of l told) mended_only → KeepsMended l recipes mended_only bytes → HoldsCopies l recipes (image_of l told) bytes
      → bytes ≡ mended_file l recipes told
  rebuilt-is told long head front holds keeps copies =
      file-is l (mended l recipes (image_of l told)) bytes long (keeps.front ∙ front ∙ head)
      (λ s i here low. go s i here low (has_recipe (recipes s) i) refl)
    where
      go : (s i : ℕ) → s < l.stripes → i < stripe_symbols l → (b : Bool) → has_recipe (recipes s) i ≡ b → image_of l bytes s i ≡ mended l recipes (image_of l told) s i
      go s i here low true e = keeps.same s i here low e ∙ holds.same s i here low e
      go s i here low false e = copies.same s i here low e ∙ mended-without l recipes (image_of l told) s i e

-- a vector after all of it was written as a slice
pub rejoined : (len : ℕ) (written before : List ℕ) → length written ≡ len → take len (written ++ drop (length written) before) ≡ written
rejoined len written before long = take_at written (drop (length written) before) len long

-- what is told implies less
pub told-weaker : (o : Option (List ℕ)) (P Q : List ℕ → Type 0) → ((bytes : List ℕ) → P bytes → Q bytes) → IfSome o P → IfSome o Q
told-weaker None P Q weaker h = tt
told-weaker (Some bytes) P Q weaker h = weaker bytes h
