-- The plan of what a search found.
use Rattle.std.proofs.Common.{◌≡◌, ◌∙◌, ℕ, sym, ap, subst}
use Rattle.mr_model.specs.Code.{Code, cost}
use Rattle.mr_model.specs.Search.{Choice, Least, Spent, chosen}
use Rattle.mr_model.specs.Laws.{IsLean}
use Rattle.mr_model.proofs.SearchSingle.{choice-lean}
use Rattle.mr_eq.specs.Choices.{found_of}
use Rattle.mr_eq.specs.Problems.{Loss, IsLoss}
use Rattle.mr_eq.specs.declared.found.Found.{Found}
use Rattle.mr_eq.specs.declared.found.Found.TheVariants.{Least as FoundLeast, Spent as FoundSpent}
use Rattle.mr_eq.proofs.Losses.{loss-cost, targets-small}
use Rattle.mr_plan.specs.Plans.{PlanParts, plan_of, survivors}
use Rattle.mr_plan.specs.declared.kinds.Kind.TheVariants.{Least as IsLeast, Spent as IsSpent}
use Rattle.mr_choices.specs.declared.chosen.ChosenPlan.{ChosenPlan}
use Rattle.mr_steps.specs.Losses.{loss_of}
use Rattle.mr_choices.specs.Chosen.{choice_for, chosen_by, line_by, plan_by}
use Rattle.mr_steps.specs.declared.choice_line.ChoiceLine.TheVariants.{Least as LeastLine, Spent as SpentLine}

-- what a choice is that was found
found-least : (choice : Choice) (set work : ℕ) → found_of choice ≡ FoundLeast set work → choice ≡ Least set work
found-least (Least s w) set work e = cc
found-least (Spent s) set work e = cc

found-spent : (choice : Choice) (set : ℕ) → found_of choice ≡ FoundSpent set → choice ≡ Spent set
found-spent (Least s w) set e = cc
found-spent (Spent s) set e = cc

module _ (p : Loss) (m : Code) (loss : IsLoss p) (e : p ≡ loss_of m p.targets) (budget : ℕ) where
  there : IsLoss (loss_of m p.targets)
  there = subst (λ (q : Loss). IsLoss q) e loss

  -- what is chosen is lean
  chosen-lean : IsLean m (survivors m p.targets) p.targets (chosen (choice_for m p.targets budget))
  chosen-lean = choice-lean m (survivors m p.targets) p.targets budget (targets-small (loss_of m p.targets) there) there.determined (loss-cost (loss_of m p.targets) there)

  lean-at : (targets set : ℕ) → targets ≡ p.targets → chosen (choice_for m p.targets budget) ≡ set → IsLean m (survivors m targets) targets set
  lean-at targets set te se = subst (λ t. IsLean m (survivors m t) t set) (sym te) (subst (λ s. IsLean m (survivors m p.targets) p.targets s) se chosen-lean)

  pub least-lean : (found : Found) → found ≡ found_of (choice_for m p.targets budget) → (targets set work : ℕ) → targets ≡ p.targets
      → found ≡ FoundLeast set work → IsLean m (survivors m targets) targets set
  unfolding chosen
  least-lean found is targets set work te fe = lean-at targets set te (ap chosen (found-least (choice_for m p.targets budget) set work (sym is ∙ fe)))

  pub spent-lean : (found : Found) → found ≡ found_of (choice_for m p.targets budget) → (targets set : ℕ) → targets ≡ p.targets
      → found ≡ FoundSpent set → IsLean m (survivors m targets) targets set
  unfolding chosen
  spent-lean found is targets set te fe = lean-at targets set te (ap chosen (found-spent (choice_for m p.targets budget) set (sym is ∙ fe)))

  -- the plan and its line
  pub least-chosen : (found : Found) → found ≡ found_of (choice_for m p.targets budget) → (targets set work price : ℕ) (plan : PlanParts) → targets ≡ p.targets
      → found ≡ FoundLeast set work → price ≡ cost m set → plan ≡ plan_of m targets set IsLeast
      → ◌≡◌ {A = ChosenPlan} (record { plan = plan; line = LeastLine price work }) (chosen_by m p.targets budget)
  least-chosen found is targets set work price plan te fe ce pe =
      (λ j. record { plan = (pe ∙ ap (λ t. plan_of m t set IsLeast) te) j; line = LeastLine (ce j) work })
      ∙ ap (λ c. record { plan = plan_by m p.targets c; line = line_by m budget c }) (sym (found-least (choice_for m p.targets budget) set work (sym is ∙ fe)))

  pub spent-chosen : (found : Found) → found ≡ found_of (choice_for m p.targets budget) → (targets set price : ℕ) (plan : PlanParts) → targets ≡ p.targets
      → found ≡ FoundSpent set → price ≡ cost m set → plan ≡ plan_of m targets set IsSpent
      → ◌≡◌ {A = ChosenPlan} (record { plan = plan; line = SpentLine price budget }) (chosen_by m p.targets budget)
  spent-chosen found is targets set price plan te fe ce pe =
      (λ j. record { plan = (pe ∙ ap (λ t. plan_of m t set IsSpent) te) j; line = SpentLine (ce j) budget })
      ∙ ap (λ c. record { plan = plan_by m p.targets c; line = line_by m budget c }) (sym (found-spent (choice_for m p.targets budget) set (sym is ∙ fe)))
