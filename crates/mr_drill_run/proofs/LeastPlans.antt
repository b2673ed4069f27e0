-- The plan of a drill is least.
use Rattle.std.proofs.Common.{arith, ◌≡◌, ◌∙◌, ◌%◌, ◌<◌, ◌≤◌, ℕ, refl, subst}
use Rattle.std.proofs.lemmas.Nat.{mod_below}
use Rattle.mr_bits.specs.Matrices.{IsMatrixCode}
use Rattle.mr_choices.specs.Chosen.{choice_for, plan_by}
use Rattle.mr_choices.proofs.Wanted.{wanted-least}
use Rattle.mr_eq.specs.Laws.{IsFirstSmallest}
use Rattle.mr_model.specs.Code.{Code}
use Rattle.mr_model.specs.Search.{Choice, Least, Spent, chosen, work}
use Rattle.mr_model.specs.Choice.{search_of}
use Rattle.mr_plan.specs.Plans.{survivors}
use Rattle.mr_plan.specs.declared.kinds.Kind.TheVariants.{Least as IsLeast}
use Rattle.mr_steps.specs.Losses.{loss_of}
use Rattle.mr_drill_run.specs.Drills.{drill_code, lost_symbols}
use Rattle.mr_drill_run.specs.declared.running.TheConstants.{BUDGET}
use Rattle.mr_drill_run.proofs.LeastLaws.{drill-loss, drill-work}

plan-set : (m : Code) (targets : ℕ) (c : Choice) → (plan_by m targets c).set ≡ chosen c
unfolding chosen
plan-set m targets (Least set work) = refl
plan-set m targets (Spent set) = refl

module _ (is : IsMatrixCode drill_code) (number : ℕ) where
  device-low : number % 6 < 6
  device-low = mod_below number 6 (omega arith)

  within : work (search_of drill_code (survivors drill_code (lost_symbols number)) (lost_symbols number)) ≤ BUDGET
  within = omega (arith, drill-work is (number % 6) device-low)

  pub least-kind : (plan_by drill_code (lost_symbols number) (choice_for drill_code (lost_symbols number) BUDGET)).kind ≡ IsLeast
  least-kind = (wanted-least drill_code (lost_symbols number) BUDGET (drill-loss is (number % 6) device-low) within).0

  pub least-first : IsFirstSmallest (loss_of drill_code (lost_symbols number)) (chosen (choice_for drill_code (lost_symbols number) BUDGET))
  least-first = subst (IsFirstSmallest (loss_of drill_code (lost_symbols number))) (plan-set drill_code (lost_symbols number) (choice_for drill_code (lost_symbols number) BUDGET))
      (wanted-least drill_code (lost_symbols number) BUDGET (drill-loss is (number % 6) device-low) within).1
