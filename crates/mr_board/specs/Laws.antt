-- What follows from the rule of a board, and where its right words stand.
use Rattle.std.specs.Prelude.{◌≡◌, ℕ, ◌+◌, ◌*◌, ◌<◌, ◌⊎◌, List, Contains, length, slice_index, Some}
use mathlib.Core.Option.{some}
use lib.ListN.{get_elem?}
use Rattle.mr_image.specs.Images.{Layout, image_of, mended}
use Rattle.mr_plan.specs.Plans.{PlanParts}
use Rattle.mr_plan.specs.PlanLists.{recipes_at, symbols_of}
use Rattle.mr_board.specs.Terms.{BoardTerms, stripes_of, words_of, symbol_words}
use Rattle.mr_board.specs.Rights.{IsRight, word_in, rights_of}
use Rattle.mr_board.specs.Rule.{state, word_at}
use Rattle.mr_board.specs.declared.view.PassView.{PassView}

-- a stripe that is done has right words, and the pass that drew it saw it done
pub record DoneAreSeen (terms : BoardTerms) (words : List ℕ) (views : List PassView) : Type 0 where
  pub right : (t i : ℕ) → t < stripes_of terms → state words t ≡ 1 → i < words_of terms
      → IsRight terms t i (word_at terms words t i)
  pub seen : (t id : ℕ) (v : PassView) → t < stripes_of terms → state words t ≡ 1
      → get_elem? views id ≡ some v → Contains v.draws t → Contains v.seen t

-- each stripe that a pass drew is one that it saw done, one that it gave up, which is not done, or its
-- open stripe
pub record AreSettled (terms : BoardTerms) (words : List ℕ) (views : List PassView) : Type 0 where
  pub drawn : (t id : ℕ) (v : PassView) → t < stripes_of terms → get_elem? views id ≡ some v
      → Contains v.draws t → Contains v.seen t ⊎ (Contains v.gave t ⊎ (v.claimed ≡ Some t))
  pub gave : (t id : ℕ) (v : PassView) → get_elem? views id ≡ some v → Contains v.gave t
      → Contains v.draws t × (state words t ≡ 0)

-- word v of the symbol of level p in stripe s stands at its place
pub record StandAtPlaces (l : Layout) (plans : List PlanParts) (bytes : List ℕ) : Type 0 where
  pub word : (s p v : ℕ) → s < l.stripes → p < length (recipes_at plans 0) → v < symbol_words l
      → slice_index (rights_of l plans (Some bytes))
      ((s * length (recipes_at plans 0) + p) * symbol_words l + v)
      ≡ word_in (mended l (recipes_at plans) (image_of l bytes) s
      (slice_index (symbols_of (recipes_at plans 0)) p)) v
