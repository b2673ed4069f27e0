-- The choice for a loss that the others determine, in an image of version 1.
use Rattle.std.proofs.Common.{arith, ◌≡◌, ◌∙◌, ◌<◌, ◌^◌, ℕ, true, false, not, List, [], ◌∷◌, None, Option, Some, get_or, length, map, refl, sym, ap, subst}
use Rattle.std.specs.Int.{bit_at}
use Rattle.std.specs.List.{range_with_len}
use Rattle.std.proofs.lemmas.List.FromFn.{length-map-range_with_len}
use Rattle.mr_bits.specs.Matrices.{IsMatrixCode}
use Rattle.mr_choices.specs.Chosen.{choice_for, chosen_by, line_by, lines_chosen}
use Rattle.mr_choices.specs.Rotations.{undetermined_at}
use Rattle.mr_choices.specs.declared.errors.UndeterminedAt.{UndeterminedAt}
use Rattle.mr_choices.proofs.AtLaws.{none-first, none-more}
use Rattle.mr_image.specs.Images.{Layout}
use Rattle.mr_image.specs.Rotated.{rotations}
use Rattle.mr_image.proofs.RotatedLaws.{rotations-one}
use Rattle.mr_model.specs.Code.{Code, cost, has_equation, survivors, undetermined}
use Rattle.mr_model.specs.Rotations.{rotated}
use Rattle.mr_model.specs.Search.{Choice, Least, Spent, chosen}
use Rattle.mr_model.proofs.Finding.{find_member-none}
use Rattle.mr_model.proofs.RotationLaws.{rotated-zero}
use Rattle.mr_steps.specs.declared.choice_line.ChoiceLine.{ChoiceLine}
use Rattle.mr_drill_run.specs.Costs.{cost_in}

-- no rotation in use is undetermined
pub none-undetermined : (l : Layout) (m : Code) (lost : ℕ) → IsMatrixCode m → l.version ≡ 1
    → ((t : ℕ) → bit_at lost t ≡ 1 → has_equation m (survivors m lost) t ≡ true) → undetermined_at m lost (rotations l) ≡ None
none-undetermined l m lost is first determined =
    let own : undetermined m (survivors m lost) lost ≡ None = find_member-none lost (λ t. not (has_equation m (survivors m lost) t)) (λ t gone. ap not (determined t gone)) in
    let zero_is : rotated m 0 ≡ m = rotated-zero m is.shape.some_symbols is.count in
    ap (undetermined_at m lost) (rotations-one l first)
    ∙ none-more m lost 0 (none-first m lost) (ap (λ (k : Code). undetermined k (survivors m lost) lost) zero_is ∙ own)

pub found-none : (o : Option UndeterminedAt) (at : UndeterminedAt) → o ≡ None → o ≡ Some at → ⊥
found-none o at none found = let clash : ◌≡◌ {A = Option UndeterminedAt} None (Some at) = sym none ∙ found in cc

-- ---- what the plan costs

line-cost : (m : Code) (budget : ℕ) (c : Choice) → cost_in (line_by m budget c) ≡ cost m (chosen c)
unfolding chosen
line-cost m budget (Least set work) = refl
line-cost m budget (Spent set) = refl

-- the first line is that of the code itself
pub first-cost : (l : Layout) (m : Code) (lost budget n : ℕ) (lines : List ChoiceLine) (d line : ChoiceLine) → IsMatrixCode m → l.version ≡ 1 → lines ≡ lines_chosen m lost budget (rotations l)
    → line ≡ get_or lines 0 d → n ≡ cost_in line → n ≡ cost m (chosen (choice_for m lost budget))
first-cost l m lost budget n lines d line is first are line_is cost_is =
    let zero_is : rotated m 0 ≡ m = rotated-zero m is.shape.some_symbols is.count in
    cost_is ∙ ap cost_in (line_is ∙ ap (λ (ls : List ChoiceLine). get_or ls 0 d) (are ∙ ap (lines_chosen m lost budget) (rotations-one l first)))
    ∙ ap (λ (k : Code). cost_in (chosen_by k lost budget).line) zero_is
    ∙ line-cost m budget (choice_for m lost budget)

pub lines-count : (m : Code) (lost budget n : ℕ) (lines : List ChoiceLine) → lines ≡ lines_chosen m lost budget n → length lines ≡ n
lines-count m lost budget n lines are = ap length are ∙ length-map-range_with_len (λ r. (chosen_by (rotated m r) lost budget).line) 0 n
