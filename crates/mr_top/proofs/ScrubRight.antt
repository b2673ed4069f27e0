-- A scrub names exactly the stripes that are no codewords.
use Rattle.std.proofs.Common.{arith, ◌≡◌, ◌≤◌, ◌<◌, ◌+◌, ◌==◌, ◌||◌, ℕ, zero, suc, Bool, true, false, is_some, List, All, length, flat_map, Option, Some, None, Ok, refl, sym, ◌∙◌, ap, ap₂, subst}
use Rattle.std.specs.List.{list_any, range_with_len}
use Rattle.std.specs.Prelude.{◌↔◌}
use Rattle.std.proofs.Math.Bool.{or-false}
use Rattle.std.proofs.lemmas.Bool.{eqb-false, eqb-true, ne_eqb}
use Rattle.std.proofs.lemmas.List.Folds.{list_any-append}
use Rattle.mr_bits.specs.Matrices.{IsMatrixCode}
use Rattle.mr_image.specs.Images.{Image, Layout, image_of, stripe_of}
use Rattle.mr_image.specs.Rotated.{codes_by}
use Rattle.mr_model.specs.Code.{Code}
use Rattle.mr_scrub.specs.Scrubs.{broken_at, broken_stripe, broken_stripes}
use Rattle.mr_scrub.specs.Stripes.{IsCodeword, fault}
use Rattle.mr_scrub.specs.declared.broken.Broken.{Broken}
use Rattle.mr_scrub.proofs.ScrubLaws.{tells-codewords}
use Rattle.mr_steps.specs.Refusals.{followed_by}
use Rattle.mr_steps.specs.Sinks.{Output}
use Rattle.mr_steps.specs.Texts.{matrix_given}
use Rattle.mr_steps.proofs.Results.{ok-same}
use Rattle.mr_top.specs.Ran.{Ran, Wrote}
use Rattle.mr_top.specs.Rebuild.{head_given}
use Rattle.mr_top.specs.Scrub.{scrub_accepted, scrub_output}
use Rattle.mr_top.specs.ScrubHeadline.{HasScrubbed}
use Rattle.mr_top.proofs.CodewordsOwn.{given-code}
use Rattle.mr_top.proofs.HeadLimits.{HasLimits, head-limits}

-- ---- the stripes that are named

-- a stripe is named
abbrev names : ℕ → List Broken → Bool
names s broken = list_any (λ b. b.stripe == s) broken

module _ (l : Layout) (codes : ℕ → Code) (image : Image) (s : ℕ) where
  abbrev fault_at : ℕ → Option ℕ
  fault_at t = fault (codes t) l.symbol_bytes (stripe_of l image t)

  other-at : (m : Code) (t : ℕ) (o : Option ℕ) → (t == s) ≡ false → names s (broken_at m t o) ≡ false
  other-at m t None other = refl
  other-at m t (Some x) other = ap (λ b. b || false) other

  own-at : (m : Code) (t : ℕ) (o : Option ℕ) → (t == s) ≡ true → names s (broken_at m t o) ≡ is_some o
  own-at m t None own = refl
  own-at m t (Some x) own = ap (λ b. b || false) own

  -- none of the stripes above it is it
  above : (n a : ℕ) → s < a → names s (flat_map (broken_stripe l codes image) (range_with_len a n)) ≡ false
  above zero a high = refl
  above (suc n) a high =
      list_any-append (λ b. b.stripe == s) (broken_stripe l codes image a) (flat_map (broken_stripe l codes image) (range_with_len (a + 1) n))
      ∙ ap₂ (λ x y. x || y) (other-at (codes a) a (fault_at a) (ne_eqb a s (λ same. omega (arith, same, high)))) (above n (a + 1) (omega arith))

  -- of several stripes it is named where it has a fault, by what is said of those behind the first
  step : (n a : ℕ) (b : Bool) → (a == s) ≡ b → (b ≡ false → names s (flat_map (broken_stripe l codes image) (range_with_len (a + 1) n)) ≡ is_some (fault_at s))
      → names s (flat_map (broken_stripe l codes image) (range_with_len a (suc n))) ≡ is_some (fault_at s)
  step n a true own later =
      list_any-append (λ b. b.stripe == s) (broken_stripe l codes image a) (flat_map (broken_stripe l codes image) (range_with_len (a + 1) n))
      ∙ ap₂ (λ x y. x || y) (own-at (codes a) a (fault_at a) own) (above n (a + 1) (omega (arith, eqb-true a s own)))
      ∙ or-false (is_some (fault_at a)) ∙ ap (λ t. is_some (fault_at t)) (eqb-true a s own)
  step n a false other later =
      list_any-append (λ b. b.stripe == s) (broken_stripe l codes image a) (flat_map (broken_stripe l codes image) (range_with_len (a + 1) n))
      ∙ ap (λ x. x || names s (flat_map (broken_stripe l codes image) (range_with_len (a + 1) n))) (other-at (codes a) a (fault_at a) other) ∙ later refl

  among : (n a : ℕ) → a ≤ s → s < a + n → names s (flat_map (broken_stripe l codes image) (range_with_len a n)) ≡ is_some (fault_at s)
  among zero a low high = absurd (omega (arith, low, high))
  among (suc n) a low high =
      step n a (a == s) refl (λ other. among n (a + 1) (let differs = eqb-false a s other in omega (arith, low, differs)) (omega (arith, high)))

whole-named : (m : Code) (l : Layout) (bytes : List ℕ) → IsMatrixCode m → HasLimits m (length bytes) l → All (λ b. b < 256) bytes → (s : ℕ) → s < l.stripes
    → (names s (broken_stripes l (codes_by l m) (image_of l bytes)) ≡ false) ↔ IsCodeword (codes_by l m s) l.symbol_bytes (stripe_of l (image_of l bytes) s)
whole-named m l bytes code limits small s low =
    subst (λ b. (b ≡ false) ↔ IsCodeword (codes_by l m s) l.symbol_bytes (stripe_of l (image_of l bytes) s))
    (sym (among l (codes_by l m) (image_of l bytes) s l.stripes 0 (omega arith) (omega (arith, low))))
    ((tells-codewords l).stripes m bytes code limits.fits limits.long small s low)

-- ---- what is written

pub has-scrubbed : (contents : List ℕ → List ℕ) (matrix image : List ℕ) (ran : Ran) (output : Output) → scrub_accepted contents matrix image ≡ Ok output
    → Wrote ran output.out output.report → (m : Code) (l : Layout) → matrix_given (contents matrix) ≡ Ok m → head_given m (contents image) ≡ Ok l
    → HasScrubbed m l (contents image) ran
has-scrubbed contents matrix image ran output accepted wrote m l reads spells =
    let all : scrub_accepted contents matrix image ≡ Ok (scrub_output m l (contents image)) =
    ap (λ r. followed_by r (λ m. followed_by (head_given m (contents image)) (λ l. Ok (scrub_output m l (contents image))))) reads
    ∙ ap (λ r. followed_by r (λ l. Ok (scrub_output m l (contents image)))) spells in
    let is : output ≡ scrub_output m l (contents image) = ok-same (sym accepted ∙ all) in
    let code = given-code (contents matrix) m reads in
    record {
      broken = broken_stripes l (codes_by l m) (image_of l (contents image));
      wrote = subst (λ (o : Output). Wrote ran o.out o.report) is wrote;
      whole = whole-named m l (contents image) code (head-limits m (contents image) l code spells);
    }
