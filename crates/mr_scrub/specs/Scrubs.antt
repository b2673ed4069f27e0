-- Scrubs: the stripes of an image that are no codewords, and the lines that tell of them.
use Rattle.std.specs.Prelude.{ℕ, ◌+◌, ◌<◌, List, [], ◌∷◌, ◌++◌, flat_map, length, slice_index, slice_index_or, codes, decimal, Option, Some, None, IfSome}
use Rattle.std.specs.List.{range_with_len}
use Rattle.mr_model.specs.Code.{Code}
use Rattle.mr_image.specs.Images.{Layout, Image, stripe_of}
use Rattle.mr_plan.specs.PlanText.{members_text}
use Rattle.mr_scrub.specs.declared.broken.Broken.{Broken}
use Rattle.mr_scrub.specs.Stripes.{checks_of, fault}
use Rattle.mr_scrub.specs.Scans.{code_at, faults_in}

-- ---- broken stripes

-- a stripe with a fault and the check there, and nothing of a stripe without one
abbrev pub broken_at : Code → ℕ → Option ℕ → List Broken
broken_at m s None = []
broken_at m s (Some x) = record { stripe = s; check = slice_index (checks_of m) x } ∷ []

-- stripe s of an image, if it is no codeword
abbrev pub broken_stripe : Layout → (ℕ → Code) → Image → ℕ → List Broken
broken_stripe l codes image s =
    broken_at (codes s) s (fault (codes s) l.symbol_bytes (stripe_of l image s))

-- the stripes of an image that are no codewords, each with the first check that its symbols break, upwards
abbrev pub broken_stripes : Layout → (ℕ → Code) → Image → List Broken
broken_stripes l codes image = flat_map (broken_stripe l codes image) (range_with_len 0 l.stripes)

-- the broken ones of several stripes with these faults, of which the first has number `first`
unfoldable pub broken_by : List Code → ℕ → List (Option ℕ) → List Broken
broken_by codes first faults =
    flat_map (λ k. broken_at (code_at codes (first + k)) (first + k) (slice_index_or faults k None))
    (range_with_len 0 (length faults))

-- each fault is the number of a check of its stripe's code
pub record AreFaults (codes : List Code) (first : ℕ) (faults : List (Option ℕ)) : Type 0 where
  pub in_range : (k : ℕ) → k < length faults → IfSome (slice_index_or faults k None)
      (λ x. x < length (checks_of (code_at codes (first + k))))

-- the broken ones of several stripes, which stand one after another
abbrev pub broken_in : List Code → Layout → ℕ → List ℕ → List Broken
broken_in codes l first bytes = broken_by codes first (faults_in codes l first bytes)

-- ---- their lines

-- the line of a broken stripe: its number, and for each symbol of the check a space and its number
unfoldable pub broken_line : Broken → List ℕ
broken_line b =
    codes "stripe " ++ decimal b.stripe ++ codes " check" ++ members_text b.check ++ codes "\n"

-- the last line: how many stripes there are, and how many of them are broken
unfoldable pub last_line : ℕ → ℕ → List ℕ
last_line stripes bad = codes "stripes " ++ decimal stripes ++ codes " bad " ++ decimal bad ++ codes "\n"

-- the lines of the broken stripes of so many, and the last
abbrev pub scrub_text : ℕ → List Broken → List ℕ
scrub_text stripes broken = flat_map broken_line broken ++ last_line stripes (length broken)
