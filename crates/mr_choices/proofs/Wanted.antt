-- The plan of the search is valid, and the best within the budget.
use Rattle.std.proofs.Common.{arith, ◌≡◌, ◌<◌, ◌≤◌, ℕ, refl, sym, subst}
use Rattle.mr_eq.specs.Laws.{IsFirstSmallest}
use Rattle.mr_eq.specs.Problems.{IsLoss}
use Rattle.mr_eq.proofs.LossLaws.{best-law}
use Rattle.mr_eq.proofs.Losses.{loss-cost, targets-small}
use Rattle.mr_model.specs.Choice.{search_of}
use Rattle.mr_model.specs.Code.{Code, cost, plain}
use Rattle.mr_model.specs.Laws.{IsLean}
use Rattle.mr_model.specs.Plans.{IsValidPlan}
use Rattle.mr_model.specs.Search.{Choice, Least, Search, Spent, best, choice, chosen, work}
use Rattle.mr_model.proofs.SearchSingle.{choice-lean}
use Rattle.mr_plan.specs.Plans.{PlanParts, survivors}
use Rattle.mr_plan.specs.declared.kinds.Kind.TheVariants.{Least as IsLeast, Spent as IsSpent}
use Rattle.mr_plan.proofs.PlanLaws.{plan_of-valid}
use Rattle.mr_steps.specs.Losses.{loss_of}
use Rattle.mr_steps.specs.declared.choice_line.ChoiceLine.TheVariants.{Least as LeastLine, Spent as SpentLine}
use Rattle.mr_choices.specs.Chosen.{choice_for, chosen_by, line_by, plan_by}

-- ---- the plan is valid

abbrev pub Valid : Code → ℕ → PlanParts → Type 0
Valid m targets plan = IsValidPlan m (survivors m targets) targets plan.set plan.recipes

pub chosen-valid : (m : Code) (targets budget : ℕ) → IsLoss (loss_of m targets) → Valid m targets (chosen_by m targets budget).plan
unfolding chosen
chosen-valid m targets budget loss = go (choice_for m targets budget) refl
  where
    lean : IsLean m (survivors m targets) targets (chosen (choice_for m targets budget))
    lean = choice-lean m (survivors m targets) targets budget (targets-small (loss_of m targets) loss) loss.determined (loss-cost (loss_of m targets) loss)

    go : (c : Choice) → choice_for m targets budget ≡ c → Valid m targets (plan_by m targets c)
    go (Least set work) e = plan_of-valid m (survivors m targets) targets set (subst (λ c. IsLean m (survivors m targets) targets (chosen c)) e lean) (targets-small (loss_of m targets) loss)
    go (Spent set) e = plan_of-valid m (survivors m targets) targets set (subst (λ c. IsLean m (survivors m targets) targets (chosen c)) e lean) (targets-small (loss_of m targets) loss)

-- ---- the plan of the search

choice-least : (q : Search) (plain budget : ℕ) → work q ≤ budget → choice q plain budget ≡ Least (best q) (work q)
unfolding choice
choice-least q plain budget within = grind (arith, within)

choice-spent : (q : Search) (plain budget : ℕ) → budget < work q → choice q plain budget ≡ Spent plain
unfolding choice
choice-spent q plain budget past = grind (arith, past)

module _ (m : Code) (targets budget : ℕ) (loss : IsLoss (loss_of m targets)) where
  abbrev search : Search
  search = search_of m (survivors m targets) targets

  pub wanted-least : work search ≤ budget
      → ((chosen_by m targets budget).plan.kind ≡ IsLeast) × IsFirstSmallest (loss_of m targets) (chosen_by m targets budget).plan.set
      × ((chosen_by m targets budget).line ≡ LeastLine (cost m (chosen_by m targets budget).plan.set) (work search))
  wanted-least within =
      subst (λ (c : Choice). ((plan_by m targets c).kind ≡ IsLeast) × IsFirstSmallest (loss_of m targets) (plan_by m targets c).set
      × (line_by m budget c ≡ LeastLine (cost m (plan_by m targets c).set) (work search)))
      (sym (choice-least search (plain m (survivors m targets) targets) budget within)) (refl, best-law (loss_of m targets) loss, refl)

  pub wanted-spent : budget < work search
      → ((chosen_by m targets budget).plan.kind ≡ IsSpent) × ((chosen_by m targets budget).plan.set ≡ plain m (survivors m targets) targets)
      × ((chosen_by m targets budget).line ≡ SpentLine (cost m (chosen_by m targets budget).plan.set) budget)
  wanted-spent past =
      subst (λ (c : Choice). ((plan_by m targets c).kind ≡ IsSpent) × ((plan_by m targets c).set ≡ plain m (survivors m targets) targets)
      × (line_by m budget c ≡ SpentLine (cost m (plan_by m targets c).set) budget))
      (sym (choice-spent search (plain m (survivors m targets) targets) budget past)) (refl, refl, refl)
