-- What a board is made for, and how many words it has for each stripe.
use Rattle.std.specs.Prelude.{ℕ, ◌*◌, ◌/◌, List, length}
use Rattle.mr_image.specs.Images.{Layout}
use Rattle.mr_plan.specs.Plans.{PlanParts}
use Rattle.mr_plan.specs.PlanLists.{recipes_at}

-- the layout of an image, the plans of its stripes, and the right words where the image is told
pub record BoardTerms : Type 0 where
  pub head : Layout
  pub plans : List PlanParts
  pub rights : List ℕ

-- the words of one symbol, of eight bytes each
abbrev pub symbol_words : Layout → ℕ
symbol_words l = l.symbol_bytes / 8

-- the words of one stripe: those of its lost symbols, one level behind the other
unfoldable pub stripe_words : Layout → List PlanParts → ℕ
stripe_words l plans = length (recipes_at plans 0) * symbol_words l

-- the stripes of a board, and the words of each
abbrev pub stripes_of : BoardTerms → ℕ
stripes_of terms = terms.head.stripes

abbrev pub words_of : BoardTerms → ℕ
words_of terms = stripe_words terms.head terms.plans
