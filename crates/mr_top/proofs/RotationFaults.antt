-- The least rotation that is not determined, as the headline says it.
use Rattle.std.proofs.Common.{arith, ◌≡◌, ◌<◌, ◌≤◌, zero, suc, ℕ, Option, Some, None, sym, ◌∙◌, ap, add-one}
use Rattle.mr_bits.specs.Matrices.{IsMatrixCode}
use Rattle.mr_choices.specs.Rotations.{IsLeastAt, at_rotation, undetermined_at}
use Rattle.mr_choices.specs.declared.errors.UndeterminedAt.{UndeterminedAt}
use Rattle.mr_choices.proofs.AtLaws.{found-at, none-first, none-more, survivors-same}
use Rattle.mr_choices.proofs.ChosenLaws.{rotation-code}
use Rattle.mr_image.specs.Images.{Layout}
use Rattle.mr_image.specs.Rotated.{FitsCode, codes_by, rotations}
use Rattle.mr_model.specs.Code.{Code, undetermined}
use Rattle.mr_model.specs.Rotations.{rotated}
use Rattle.mr_model.proofs.RotationLaws.{rotated-zero}
use Rattle.mr_plan.specs.Plans.{survivors}
use Rattle.mr_top.specs.Headline.{IsLeastRotation}
use Rattle.mr_top.proofs.Wanting.{undetermined-found}

module _ (l : Layout) (m : Code) (lost : ℕ) (is : IsMatrixCode m) (fits : FitsCode l m) where
  abbrev found : Code → Option ℕ
  found k = undetermined k (survivors k lost) lost

  -- what is found in a rotation in use
  found-own : (r : ℕ) → r < rotations l → found (codes_by l m r) ≡ undetermined (rotated m r) (survivors m lost) lost
  found-own r low =
      ap found (rotation-code l m r is fits low) ∙ ap (λ a. undetermined (rotated m r) a lost) (survivors-same m lost r)

  found-first : undetermined (rotated m 0) (survivors m lost) lost ≡ found m
  found-first = ap (λ (k : Code). undetermined k (survivors m lost) lost) (rotated-zero m is.shape.some_symbols is.count)

  not-first : (r t : ℕ) → found m ≡ None → undetermined (rotated m r) (survivors m lost) lost ≡ Some t → r ≡ 0 → ⊥
  not-first r t determined some first =
      let clash : ◌≡◌ {A = Option ℕ} None (Some t) =
      sym determined ∙ sym found-first ∙ ap (λ k. undetermined (rotated m k) (survivors m lost) lost) (sym first) ∙ some in cc

  above-first : (r : ℕ) → (r ≡ 0 → ⊥) → 0 < r
  above-first r other = omega (arith, other)

  -- the least that is found is the least
  pub least-rotation : (at : UndeterminedAt) → found m ≡ None → IsLeastAt m lost (rotations l) at → IsLeastRotation l m lost at.rotation at.symbol
  least-rotation at determined least = record {
    above = above-first at.rotation (not-first at.rotation at.symbol determined least.symbol);
    used = least.low;
    symbol = (undetermined-found (codes_by l m at.rotation) lost).some at.symbol (found-own at.rotation least.low ∙ least.symbol);
    before = λ q i low member. (undetermined-found (codes_by l m q) lost).none (found-own q (omega (arith, low, least.low)) ∙ least.before q low) i member;
  }

  module _ (r t : ℕ) (least : IsLeastRotation l m lost r t) where
    none-at : (q : ℕ) → q < r → undetermined (rotated m q) (survivors m lost) lost ≡ None
    none-at q low =
        sym (found-own q (omega (arith, low, least.used))) ∙ (undetermined-found (codes_by l m q) lost).each (λ i member. least.before q i low member)

    none-below : (k : ℕ) → k ≤ r → undetermined_at m lost k ≡ None
    none-below zero low = none-first m lost
    none-below (suc k) low =
        ap (undetermined_at m lost) (sym (add-one k)) ∙ none-more m lost k (none-below k (omega (arith, low))) (none-at k (omega (arith, low)))

    -- the first rotation is determined
    pub first-determined : found m ≡ None
    first-determined = sym found-first ∙ none-at 0 least.above

    -- and it is what is found
    pub rotation-found : undetermined_at m lost (rotations l) ≡ Some (record { rotation = r; symbol = t })
    rotation-found =
        found-at m lost r (rotations l) (record { rotation = r; symbol = t }) least.used (none-below r (omega arith))
        (ap (at_rotation r) (sym (found-own r least.used) ∙ (undetermined-found (codes_by l m r) lost).all t least.symbol))
