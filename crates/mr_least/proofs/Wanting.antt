-- The plan that is chosen is the one that is wanted.
use Rattle.std.proofs.Common.{arith, ◌≡◌, ◌<◌, ◌^◌, inl, inr, ℕ, Bool, true, false, cond, length, nat_lt, ◌&&◌, count_ones, refl, sym, ◌∙◌, ap, subst}
use Rattle.std.proofs.lemmas.Bool.{both_ways}
use Rattle.mr_eq.specs.Problems.{IsLoss, Loss}
use Rattle.mr_eq.proofs.LossLaws.{plain-lean-law}
use Rattle.mr_eq.proofs.Losses.{targets-small}
use Rattle.mr_model.specs.Code.{Code, cost, dropped, plain}
use Rattle.mr_model.specs.Laws.{IsLean}
use Rattle.mr_model.specs.Members.{members}
use Rattle.mr_plan.specs.Plans.{PlanParts, plan_of, survivors}
use Rattle.mr_plan.specs.declared.kinds.Kind.TheVariants.{Spent as IsSpent}
use Rattle.mr_plan.proofs.PlanLaws.{plan_of-valid}
use Rattle.mr_steps.specs.Losses.{loss_of}
use Rattle.mr_steps.specs.declared.choice_line.ChoiceLine.TheVariants.{Spent as SpentLine}
use Rattle.mr_choices.specs.Chosen.{chosen_by}
use Rattle.mr_choices.specs.declared.chosen.ChosenPlan.{ChosenPlan}
use Rattle.mr_choices.proofs.Wanted.{chosen-valid, wanted-least, wanted-spent}
use Rattle.mr_least.specs.Choice.{has_too_many, least_by, plain_by}
use Rattle.mr_least.specs.Headline.{IsLeastWanted}

module _ (m : Code) (targets budget : ℕ) (loss : IsLoss (loss_of m targets)) where
  plain-at : has_too_many m targets ≡ true → IsLeastWanted m targets budget (plain_by m targets budget).plan (plain_by m targets budget).line
  plain-at many = record {
    valid = plan_of-valid m (survivors m targets) targets (plain m (survivors m targets) targets) (plain-lean-law (loss_of m targets) loss)
        (targets-small (loss_of m targets) loss);
    least = λ few within. absurd (both_ways _ few many);
    spent = λ past. (refl, refl, refl);
  }

  chosen-at : has_too_many m targets ≡ false → IsLeastWanted m targets budget (chosen_by m targets budget).plan (chosen_by m targets budget).line
  chosen-at few = record {
    valid = chosen-valid m targets budget loss;
    least = λ _ within. wanted-least m targets budget loss within;
    spent = elim [
      | inl many ↦ absurd (both_ways _ few many)
      | inr past ↦ wanted-spent m targets budget loss past
    ];
  }

  at : (b : Bool) → has_too_many m targets ≡ b
      → IsLeastWanted m targets budget (cond b (plain_by m targets budget) (chosen_by m targets budget)).plan (cond b (plain_by m targets budget) (chosen_by m targets budget)).line
  at true many = plain-at many
  at false few = chosen-at few

  pub least-wanted : IsLeastWanted m targets budget (least_by m targets budget).plan (least_by m targets budget).line
  least-wanted = at (has_too_many m targets) refl
