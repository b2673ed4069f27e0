-- What the search of a loss found: the first smallest good set within the budget, and a lean set in any case.
use Rattle.std.proofs.Common.{◌≡◌, ℕ, Bool, true, false, cond, refl, sym, ◌∙◌, ap, subst}
use Rattle.std.specs.Prelude.{nat_le}
use Rattle.std.proofs.lemmas.Bool.{leb-true, leb-false}
use Rattle.mr_model.specs.Code.{plain}
use Rattle.mr_model.specs.Laws.{IsLean}
use Rattle.mr_model.specs.Search.{Choice, Least, Spent, best, choice, chosen, work}
use Rattle.mr_model.specs.Choice.{choice_of}
use Rattle.mr_eq.specs.Problems.{Loss, IsLoss, search_for}
use Rattle.mr_eq.specs.Choices.{found_of}
use Rattle.mr_eq.specs.declared.found.Found.{Found}
use Rattle.mr_eq.proofs.LossLaws.{best-law, choice-lean-law}
use Rattle.mr_front.specs.Searches.{set_of, IsFoundWithin}
use Rattle.mr_front.proofs.LossSteps.{found}

chosen-set : (c : Choice) → chosen c ≡ set_of (found_of c)
unfolding chosen
chosen-set (Least s w) = refl
chosen-set (Spent s) = refl

module _ (p : Loss) (h : IsLoss p) (budget : ℕ) (r : Found) (is : r ≡ found p h budget) where
  pub found-lean : IsLean p.code p.avail p.targets (set_of r)
  found-lean =
      subst (λ s. IsLean p.code p.avail p.targets s) (chosen-set (choice_of p.code p.avail p.targets budget) ∙ ap set_of (sym is))
      (choice-lean-law p h budget)

  pub found-within : IsFoundWithin p budget r
  unfolding choice
  found-within = subst (λ x. IsFoundWithin p budget x) (sym is) (go (nat_le (work (search_for p)) budget) refl)
    where
      go : (b : Bool) → nat_le (work (search_for p)) budget ≡ b
          → IsFoundWithin p budget (found_of (cond b (Least (best (search_for p)) (work (search_for p))) (Spent (plain p.code p.avail p.targets))))
      go true e = (best-law p h, refl, leb-true (work (search_for p)) budget e)
      go false e = (refl, leb-false (work (search_for p)) budget e)
