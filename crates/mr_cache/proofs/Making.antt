-- The plan of a pattern by the problem of its symbols.
use Rattle.std.proofs.Common.{◌≡◌, ◌∙◌, ℕ, ◌^◌, ◌<◌, length, Option, None, Some, Result, Ok, Err, refl, sym, ap, subst}
use Rattle.std.specs.Prelude.{IfOk, IfErr, IsOk}
use Rattle.mr_model.specs.Code.{Code, undetermined, survivors}
use Rattle.mr_model.specs.Rotations.{rotated}
use Rattle.mr_model.proofs.RotationLaws.{count-rotated}
use Rattle.mr_eq.specs.Problems.{Loss, problem_of, unless_undetermined as unless_lost}
use Rattle.mr_eq.specs.declared.problems.Undetermined.{Undetermined as LossUndetermined}
use Rattle.mr_plan.specs.Plans.{PlanParts}
use Rattle.mr_choices.specs.Chosen.{choice_for, plan_by}
use Rattle.mr_cache.specs.Planning.{IsPlannedAs, plan_for, plan_of_pattern, unless_undetermined}
use Rattle.mr_cache.specs.declared.errors.PlanError.{PlanError}
use Rattle.mr_cache.specs.declared.errors.PlanError.TheVariants.{Undetermined, Memory}
use Rattle.mr_cache.specs.declared.patterns.Pattern.{Pattern}

-- a rotation has as many rows
pub rotated-low : (m k : Code) (r lost x : ℕ) → k ≡ rotated m r → x ≡ lost → lost < 2 ^ length m.rows → x < 2 ^ length k.rows
rotated-low m k r lost x is same low =
    subst (λ n. x < 2 ^ n) (sym (ap (λ (c : Code). length c.rows) is ∙ count-rotated m r)) (subst (λ y. y < 2 ^ length m.rows) (sym same) low)

module _ (m k : Code) (budget : ℕ) (p : Pattern) (x : ℕ) (is : k ≡ rotated m p.rotation) (same : x ≡ p.lost) where
  at-pattern : plan_of_pattern m budget p ≡ plan_for k budget x
  unfolding plan_of_pattern
  at-pattern = λ j. plan_for (sym is j) budget (sym same j)

  loss : Loss
  loss = record { code = k; avail = survivors k x; targets = x }

  pub planned-ok : (given : Result Loss LossUndetermined) (problem : Loss) (r : Result PlanParts PlanError) → given ≡ problem_of k (survivors k x) x → given ≡ Ok problem
      → IfOk r (λ plan. plan ≡ plan_by k problem.targets (choice_for k problem.targets budget)) → IfErr r (λ e. e ≡ Memory) → IsPlannedAs m budget p r
  unfolding loss
  planned-ok given problem r value ok plan memory = go (undetermined k (survivors k x) x) refl (sym value ∙ ok)
    where
      with-plan : (o : Option ℕ) → undetermined k (survivors k x) x ≡ o → plan_of_pattern m budget p ≡ unless_undetermined o (plan_by k x (choice_for k x budget))
      with-plan o e = at-pattern ∙ ap (λ q. unless_undetermined q (plan_by k x (choice_for k x budget))) e

      answer : (r : Result PlanParts PlanError) → IfOk r (λ plan. plan ≡ plan_by k problem.targets (choice_for k problem.targets budget)) → IfErr r (λ e. e ≡ Memory)
          → problem.targets ≡ x → plan_of_pattern m budget p ≡ Ok (plan_by k x (choice_for k x budget)) → IsPlannedAs m budget p r
      answer (Ok plan) here memory targets made = made ∙ ap (λ t. Ok (plan_by k t (choice_for k t budget))) (sym targets) ∙ ap (λ q. Ok q) (sym here)
      answer (Err (Undetermined symbol)) here memory targets made = cc
      answer (Err Memory) here memory targets made = subst (λ (q : Result PlanParts ℕ). IsOk q) (sym made) refl

      go : (o : Option ℕ) → undetermined k (survivors k x) x ≡ o → unless_lost o loss ≡ Ok problem → IsPlannedAs m budget p r
      go None e found =
          let targets : problem.targets ≡ x = ap (λ (q : Loss). q.targets) (sym (inside loss problem found)) in
          answer r plan memory targets (with-plan None e)
        where
          inside : (a b : Loss) → ◌≡◌ {A = Result Loss LossUndetermined} (Ok a) (Ok b) → a ≡ b
          inside a b h = cc
      go (Some t) e found = cc

  inside-err : (a b : LossUndetermined) → ◌≡◌ {A = Result Loss LossUndetermined} (Err a) (Err b) → a ≡ b
  inside-err a b h = cc

  pub planned-err : (given : Result Loss LossUndetermined) (e : LossUndetermined) → given ≡ problem_of k (survivors k x) x → given ≡ Err e
      → plan_of_pattern m budget p ≡ Err e.symbol
  unfolding loss
  planned-err given e value err = go (undetermined k (survivors k x) x) refl (sym value ∙ err)
    where
      go : (o : Option ℕ) → undetermined k (survivors k x) x ≡ o → unless_lost o loss ≡ Err e → plan_of_pattern m budget p ≡ Err e.symbol
      go None none found = cc
      go (Some t) some found =
          at-pattern ∙ ap (λ q. unless_undetermined q (plan_by k x (choice_for k x budget))) some
          ∙ ap (λ (u : LossUndetermined). Err u.symbol) (inside-err (record { symbol = t }) e found)
