-- The file in which what fails is mended and the others are copied is the patched one; and where the others come from data it is that of the codewords.
use Rattle.std.proofs.Common.{◌≡◌, ℕ, List, ◌++◌, take, length, Option, Some, None, ap, subst, ◌∙◌, arith}
use Rattle.std.specs.Prelude.{IfSome}
use Rattle.mr_bits.specs.Matrices.{IsMatrixCode}
use Rattle.mr_model.specs.Plans.{Recipe}
use Rattle.mr_image.specs.Images.{Layout, IsLayout, Image, image_of, mended, code_image}
use Rattle.mr_image.specs.Heads.{head_bytes, file_bytes}
use Rattle.mr_image.proofs.Codewords.{image_body-same}
use Rattle.mr_image.proofs.RotatedLaws.{codes-of}
use Rattle.mr_mend.specs.Mending.{HoldsMended, HoldsCopies, KeepsMended, mended_file}
use Rattle.mr_mend.proofs.Wholes.{rebuilt-is, told-weaker}
use Rattle.mr_sector.proofs.PatchLaws.{mends-patched}
use Rattle.mr_sector.proofs.PatternLaws.{patches-codewords}
use Rattle.mr_patch.specs.Damages.{DamageParts, IsDamage, IsDetermined, code_at, failed_at, recipes_at, patched_file, patched_image}
use Rattle.mr_patch.specs.Copying.{HoldsOthers, KeepsFailed}
use Rattle.mr_patch.specs.Laws.{GivesCodeFiles}
use Rattle.mr_patch.proofs.StripePlans.{failed-few, has-failed, lacks-other}

-- with the head, what is mended and what is copied the file is the mended one, where two eyes tell one file
rebuilt-told : (l : Layout) (recipes : ℕ → List Recipe) (start mended_only bytes : List ℕ) (mend copy : Option (List ℕ)) → length bytes ≡ file_bytes l → take 32 start ≡ head_bytes l → take 32 mended_only ≡ take 32 start
    → IfSome mend (λ first. HoldsMended l recipes (image_of l first) mended_only) → KeepsMended l recipes mended_only bytes → IfSome copy (λ second. HoldsCopies l recipes (image_of l second) bytes)
    → IfSome mend (λ first. copy ≡ Some first → bytes ≡ mended_file l recipes first)
rebuilt-told l recipes start mended_only bytes mend copy long head front holds keeps copies = go mend holds
  where
    go : (o : Option (List ℕ)) → IfSome o (λ first. HoldsMended l recipes (image_of l first) mended_only) → IfSome o (λ first. copy ≡ Some first → bytes ≡ mended_file l recipes first)
    go None h = tt
    go (Some first) h = λ same. rebuilt-is l recipes start mended_only bytes first long head front h keeps (subst (λ o. IfSome o (λ second. HoldsCopies l recipes (image_of l second) bytes)) same copies)

module _ (d : DamageParts) (may : IsLayout d.layout) (budget : ℕ) where
  kept-mended : (before now : List ℕ) → KeepsFailed d before now → KeepsMended d.layout (recipes_at d budget) before now
  kept-mended before now h = record { same = λ s i here low holds. h.same s i here low (has-failed d budget s i holds); front = h.front }

  held-copies : (image : Image) (bytes : List ℕ) → HoldsOthers d image bytes → HoldsCopies d.layout (recipes_at d budget) image bytes
  held-copies image bytes h = record { same = λ s i here low lacks. h.same s i here low (lacks-other d budget s i (omega (arith, low, may.few_symbols)) lacks) }

  -- the mended file is the patched one
  module _ (is : IsMatrixCode d.code) (damage : IsDamage d) (known : IsDetermined d) where
    mended-patched : (bytes : List ℕ) → mended_file d.layout (recipes_at d budget) bytes ≡ patched_file d budget bytes
    mended-patched bytes = ap (λ body. head_bytes d.layout ++ body)
        (image_body-same d.layout (mended d.layout (recipes_at d budget) (image_of d.layout bytes)) (patched_image d budget (image_of d.layout bytes))
        (λ s i here low. (mends-patched d.layout).symbols (code_at d) (failed_at d) budget (image_of d.layout bytes) s i (failed-few d may is damage known budget s here)))

    -- the head, what is mended, and then what is copied
    pub patched-told : (start made bytes : List ℕ) (mend copy : Option (List ℕ)) → length bytes ≡ file_bytes d.layout → take 32 start ≡ head_bytes d.layout
        → take 32 made ≡ take 32 start → IfSome mend (λ told. HoldsMended d.layout (recipes_at d budget) (image_of d.layout told) made)
        → KeepsFailed d made bytes → IfSome copy (λ told. HoldsOthers d (image_of d.layout told) bytes)
        → IfSome mend (λ told. copy ≡ Some told → bytes ≡ patched_file d budget told)
    patched-told start made bytes mend copy long head front holds keeps copies =
        told-weaker mend (λ told. copy ≡ Some told → bytes ≡ mended_file d.layout (recipes_at d budget) told) (λ told. copy ≡ Some told → bytes ≡ patched_file d budget told)
        (λ told h same. h same ∙ mended-patched told)
        (rebuilt-told d.layout (recipes_at d budget) start made bytes mend copy long head front holds (kept-mended made bytes keeps)
        (told-weaker copy (λ told. HoldsOthers d (image_of d.layout told) bytes) (λ told. HoldsCopies d.layout (recipes_at d budget) (image_of d.layout told) bytes) (λ told h. held-copies (image_of d.layout told) bytes h) copies))

pub gives-code-files : (d : DamageParts) → IsLayout d.layout → IsMatrixCode d.code → IsDamage d → GivesCodeFiles d
gives-code-files d may is damage = record {
  file = λ budget bytes columns known from.
      ap (λ body. head_bytes d.layout ++ body)
      (image_body-same d.layout (patched_image d budget (image_of d.layout bytes)) (code_image d.layout (code_at d) columns)
      (λ s i here low. (patches-codewords d.layout may).symbols (code_at d) (failed_at d) budget (image_of d.layout bytes) columns
      (codes-of d.layout d.code is damage.fits) known from s i here low));
}
