-- The headline of `scrub`: a stripe of the image is named exactly where it is no codeword.
use Rattle.std.specs.List.{list_any}
use Rattle.std.specs.Prelude.{All, List, Ok, [], false, ℕ, ◌<◌, ◌==◌, ◌≡◌, ◌↔◌}
use Rattle.mr_image.specs.Images.{Layout, image_of, stripe_of}
use Rattle.mr_image.specs.Rotated.{codes_by}
use Rattle.mr_model.specs.Code.{Code}
use Rattle.mr_scrub.specs.Scrubs.{scrub_text}
use Rattle.mr_scrub.specs.Stripes.{IsCodeword}
use Rattle.mr_scrub.specs.declared.broken.Broken.{Broken}
use Rattle.mr_steps.specs.Texts.{matrix_given}
use Rattle.mr_top.specs.Ran.{Ran, Wrote}
use Rattle.mr_top.specs.Rebuild.{head_given}

-- The lines of some stripes were written, and nothing to the report; where the file holds bytes, a
-- stripe is none of these exactly where there are data of which each of its symbols is the XOR that
-- the symbol's row names.
pub record HasScrubbed (m : Code) (l : Layout) (bytes : List ℕ) (ran : Ran) : Type 0 where
  pub broken : List Broken
  pub wrote : Wrote ran (scrub_text l.stripes broken) []
  pub whole : All (λ b. b < 256) bytes → (s : ℕ) → s < l.stripes
      → (list_any (λ b. b.stripe == s) broken ≡ false)
      ↔ IsCodeword (codes_by l m s) l.symbol_bytes (stripe_of l (image_of l bytes) s)

-- `scrub` keeps to the headline.
pub record ScrubsRight (contents : List ℕ → List ℕ) (matrix image : List ℕ) (ran : Ran)
    : Type 0 where
  pub scrubbed : ran.status ≡ 0 → (m : Code) (l : Layout) → matrix_given (contents matrix) ≡ Ok m
      → head_given m (contents image) ≡ Ok l → HasScrubbed m l (contents image) ran
