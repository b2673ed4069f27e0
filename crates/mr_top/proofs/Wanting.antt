-- The plan that is used is the one that is wanted.
use Rattle.std.proofs.Common.{◌≡◌, ℕ, List, Option, Some, None, Result, Ok, refl, subst}
use Rattle.mr_bits.specs.declared.errors.What.TheVariants.{PlanBytes}
use Rattle.mr_eq.specs.Problems.{IsLoss}
use Rattle.mr_model.specs.Code.{Code, cost}
use Rattle.mr_plan.specs.Plans.{PlanParts}
use Rattle.mr_plan.specs.declared.kinds.Kind.TheVariants.{Given as IsGiven}
use Rattle.mr_steps.proofs.Results.{gave-then}
pub use Rattle.mr_steps.proofs.LossCases.{Determined, IsFound, Refused, TargetsCases, targets-cases, targets-determined, targets-refused, undetermined-found}
use Rattle.mr_choices.specs.Handed.{as_given, handed_given, plan_file_given, sound_given}
use Rattle.mr_choices.specs.Chosen.{chosen_by}
use Rattle.mr_choices.specs.declared.chosen.ChosenPlan.{ChosenPlan}
use Rattle.mr_choices.proofs.Wanted.{Valid, chosen-valid, wanted-least, wanted-spent}
use Rattle.mr_steps.specs.Texts.{within_limit}
use Rattle.mr_top.specs.Headline.{IsPlanWanted}
use Rattle.mr_steps.specs.Losses.{loss_of}
use Rattle.mr_steps.specs.declared.choice_line.ChoiceLine.TheVariants.{Given as GivenLine}
use Rattle.mr_steps.specs.declared.fault.Fault.{Fault}
use Rattle.mr_top.proofs.CodewordsOwn.{sound-valid}

-- ---- the plan of the search

module _ (m : Code) (targets budget : ℕ) (loss : IsLoss (loss_of m targets)) where
  pub plan-wanted : IsPlanWanted m targets budget None (chosen_by m targets budget).plan (chosen_by m targets budget).line
  plan-wanted = record {
    valid = chosen-valid m targets budget loss;
    least = λ _ within. wanted-least m targets budget loss within;
    spent = λ _ past. wanted-spent m targets budget loss past;
    given = λ bytes e. let clash : ◌≡◌ {A = Option (List ℕ)} None (Some bytes) = e in cc;
  }

-- ---- the plan of a plan file

-- a plan that was handed in
module _ (m : Code) (targets budget : ℕ) (bytes : List ℕ) (chosen : ChosenPlan)
    (reads : plan_file_given m targets (Some bytes) ≡ Ok (Some chosen)) (sound : PlanParts) (text : List ℕ)
    (is : sound_given m targets text ≡ Ok sound) (same : as_given m sound ≡ chosen) where
  sound-wanted : IsPlanWanted m targets budget (Some bytes) chosen.plan chosen.line
  sound-wanted = record {
    valid = subst (λ (c : ChosenPlan). Valid m targets c.plan) same (sound-valid m targets text sound is);
    least = λ e within. let clash : ◌≡◌ {A = Option (List ℕ)} (Some bytes) None = e in cc;
    spent = λ e past. let clash : ◌≡◌ {A = Option (List ℕ)} (Some bytes) None = e in cc;
    given = λ other e. (
      subst (λ (c : ChosenPlan). c.plan.kind ≡ IsGiven) same refl,
      reads,
      subst (λ (c : ChosenPlan). c.line ≡ GivenLine (cost m c.plan.set)) same refl,
    );
  }

handed-is : {a b : ChosenPlan} → ◌≡◌ {A = Result (Option ChosenPlan) Fault} (Ok (Some a)) (Ok (Some b)) → a ≡ b
handed-is e = cc

-- the plan of a plan file is wanted
pub given-wanted : (m : Code) (targets budget : ℕ) (bytes : List ℕ) (chosen : ChosenPlan) → plan_file_given m targets (Some bytes) ≡ Ok (Some chosen)
    → IsPlanWanted m targets budget (Some bytes) chosen.plan chosen.line
given-wanted m targets budget bytes chosen e =
    let a = gave-then (within_limit PlanBytes bytes) (handed_given m targets) (Some chosen) e in
    let b = gave-then (sound_given m targets a.value) (λ plan. Ok (Some (as_given m plan))) (Some chosen) a.holds in
    sound-wanted m targets budget bytes chosen e b.value a.value b.is (handed-is b.holds)

-- a plan is handed in exactly where a plan file is named
pub none-handed : (m : Code) (targets : ℕ) (chosen : ChosenPlan) → plan_file_given m targets None ≡ Ok (Some chosen) → ⊥
none-handed m targets chosen e = let clash : ◌≡◌ {A = Result (Option ChosenPlan) Fault} (Ok None) (Ok (Some chosen)) = e in cc

pub some-handed : (m : Code) (targets : ℕ) (bytes : List ℕ) → plan_file_given m targets (Some bytes) ≡ Ok None → ⊥
some-handed m targets bytes e =
    let a = gave-then (within_limit PlanBytes bytes) (handed_given m targets) None e in
    let b = gave-then (sound_given m targets a.value) (λ plan. Ok (Some (as_given m plan))) None a.holds in
    let clash : ◌≡◌ {A = Result (Option ChosenPlan) Fault} (Ok (Some (as_given m b.value))) (Ok None) = b.holds in cc
