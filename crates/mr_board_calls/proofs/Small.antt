-- The board of the tests, and what its passes may do.
use Rattle.std.proofs.Common.{◌≡◌, ℕ, ◌+◌, ◌*◌, ◌/◌, ◌<◌, ◌≤◌, List, [], ◌∷◌, ◌++◌, None, length, ap, ap₂, ◌∙◌, arith}
use Rattle.mr_counts.specs.Numbers.{next_above}
use Rattle.mr_counts.proofs.NumberLaws.{next_above-push}
use Rattle.mr_image.specs.Images.{Layout}
use Rattle.mr_plan.specs.Plans.{PlanParts}
use Rattle.mr_plan.specs.PlanLists.{recipes_at}
use Rattle.mr_board.specs.Terms.{BoardTerms, stripes_of, words_of, stripe_words}
use Rattle.mr_board.specs.Rights.{rights_of, terms_for, IsRight}
use Rattle.mr_board.specs.Boards.{board_terms}
use Rattle.mr_board.specs.declared.board.Board.{Board}
use Rattle.mr_board_calls.specs.Menders.{IsSmall}

pub small-is : (b : Board) (head : Layout) (plans : List PlanParts) (stripes : ℕ) → board_terms b ≡ terms_for head plans None
    → head.symbol_bytes ≡ 8 → head.stripes ≡ stripes → length (recipes_at plans 0) ≡ 2 → IsSmall b stripes
unfolding stripe_words rights_of
small-is b head plans stripes is bytes count levels = record {
  stripes_are = ap stripes_of is ∙ count;
  bytes = ap (λ (t : BoardTerms). t.head.symbol_bytes) is ∙ bytes;
  levels = ap (λ (t : BoardTerms). length (recipes_at t.plans 0)) is ∙ levels;
  words = ap words_of is ∙ ap₂ (λ n k. n * (k / 8)) levels bytes;
  untold = ap (λ (t : BoardTerms). t.rights) is;
}

-- where nothing is told each word is right
pub each-right : (terms : BoardTerms) (t i x : ℕ) → terms.rights ≡ [] → IsRight terms t i x
each-right terms t i x none some = absurd (omega (arith, ap (λ (ns : List ℕ). length ns) none, some))

-- the numbers drawn are stripes still
pub drawn-low : (ns : List ℕ) (n stripes : ℕ) → next_above ns ≤ stripes → n < stripes → next_above (ns ++ n ∷ []) ≤ stripes
drawn-low ns n stripes few low = omega (arith, next_above-push ns n, few, low)
