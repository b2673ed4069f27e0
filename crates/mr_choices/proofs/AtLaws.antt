-- The losses of the rotations, one after the other, and the first that is not determined.
use Rattle.std.proofs.Common.{◌≡◌, ℕ, zero, suc, ◌+◌, ◌-◌, ◌^◌, ◌<◌, [], ◌∷◌, ◌++◌, length, Option, Some, None, Result, Ok, Err, refl, sym, ap, subst, ◌∙◌, ⊎_elim, arith, add-one}
use Rattle.std.proofs.lemmas.Bool.{cases_eq}
use Rattle.std.proofs.lemmas.List.FromFn.{map-range_with_len_more}
use Rattle.mr_model.specs.Sets.{minus}
use Rattle.mr_model.specs.Code.{Code, undetermined}
use Rattle.mr_model.specs.Rotations.{rotated}
use Rattle.mr_model.proofs.RotationLaws.{count-rotated}
use Rattle.mr_eq.specs.Problems.{Loss, unless_undetermined}
use Rattle.mr_eq.specs.declared.problems.Undetermined.{Undetermined}
use Rattle.mr_plan.specs.Plans.{survivors}
use Rattle.mr_eq.proofs.SingleLaws.{survivors-below}
use Rattle.mr_choices.specs.declared.errors.UndeterminedAt.{UndeterminedAt}
use Rattle.mr_choices.specs.Rotations.{loss_at, losses_of, at_rotation, first_of, undetermined_at, IsLeastAt}

-- ---- one rotation

pub below-rotated : (m : Code) (lost r : ℕ) → lost < 2 ^ length m.rows → lost < 2 ^ length (rotated m r).rows
below-rotated m lost r low = subst (λ n. lost < 2 ^ n) (sym (count-rotated m r)) low

pub survivors-rotated : (m : Code) (lost r : ℕ) → survivors m lost < 2 ^ length (rotated m r).rows
survivors-rotated m lost r = below-rotated m (survivors m lost) r (survivors-below m lost)

-- as the code makes them
pub survivors-are : (m : Code) (lost all set : ℕ) → set ≡ minus all lost → all ≡ 2 ^ length m.rows - 1 → set ≡ survivors m lost
survivors-are m lost all set made is = made ∙ ap (λ x. minus x lost) is

pub survivors-same : (m : Code) (lost r : ℕ) → survivors (rotated m r) lost ≡ survivors m lost
survivors-same m lost r = ap (λ n. minus (2 ^ n - 1) lost) (count-rotated m r)

-- what an answer tells
pub found-loss : (o : Option ℕ) (p q : Loss) → ◌≡◌ {A = Result Loss Undetermined} (Ok q) (unless_undetermined o p) → q ≡ p
found-loss None p q e = cc
found-loss (Some t) p q e = cc

pub found-none : (o : Option ℕ) (p q : Loss) → ◌≡◌ {A = Result Loss Undetermined} (Ok q) (unless_undetermined o p) → o ≡ None
found-none None p q e = refl
found-none (Some t) p q e = cc

pub found-symbol : (o : Option ℕ) (p : Loss) (r t : ℕ) → ◌≡◌ {A = Result Loss Undetermined} (Err (record { symbol = t })) (unless_undetermined o p) → at_rotation r o ≡ Some (record { rotation = r; symbol = t })
found-symbol None p r t e = cc
found-symbol (Some u) p r t e =
    let same : ◌≡◌ {A = Undetermined} (record { symbol = t }) (record { symbol = u }) = cc in
    ap (λ (x : Undetermined). Some (record { rotation = r; symbol = x.symbol })) (sym same)

-- ---- all rotations

module _ (m : Code) (lost : ℕ) where
  at : ℕ → Option UndeterminedAt
  at r = at_rotation r (undetermined (rotated m r) (survivors m lost) lost)

  pub none-first : undetermined_at m lost 0 ≡ None
  unfolding undetermined_at
  none-first = refl

  -- one rotation more that is determined
  pub none-more : (r : ℕ) → undetermined_at m lost r ≡ None → undetermined (rotated m r) (survivors m lost) lost ≡ None → undetermined_at m lost (r + 1) ≡ None
  unfolding undetermined_at
  none-more r before here =
      ap (undetermined_at m lost) (add-one r)
      ∙ ap (λ o. first_of o (at_rotation r (undetermined (rotated m r) (survivors m lost) lost))) before ∙ ap (at_rotation r) here

  -- the first that is not
  step : (r : ℕ) (x : UndeterminedAt) → undetermined_at m lost r ≡ None → at_rotation r (undetermined (rotated m r) (survivors m lost) lost) ≡ Some x → undetermined_at m lost (suc r) ≡ Some x
  unfolding undetermined_at
  step r x before here = ap (λ o. first_of o (at_rotation r (undetermined (rotated m r) (survivors m lost) lost))) before ∙ here

  stays : (k : ℕ) (x : UndeterminedAt) (r : ℕ) → undetermined_at m lost r ≡ Some x → undetermined_at m lost (k + r) ≡ Some x
  unfolding undetermined_at
  stays zero x r found = let same : 0 + r ≡ r = omega arith in ap (undetermined_at m lost) same ∙ found
  stays (suc k) x r found =
      let next : suc k + r ≡ suc (k + r) = omega arith in
      ap (undetermined_at m lost) next
      ∙ ap (λ o. first_of o (at_rotation (k + r) (undetermined (rotated m (k + r)) (survivors m lost) lost))) (stays k x r found)

  pub found-at : (r n : ℕ) (x : UndeterminedAt) → r < n → undetermined_at m lost r ≡ None → at_rotation r (undetermined (rotated m r) (survivors m lost) lost) ≡ Some x
      → undetermined_at m lost n ≡ Some x
  found-at r n x low before here =
      let rest : n ≡ (n - suc r) + suc r = omega arith in
      ap (undetermined_at m lost) rest ∙ stays (n - suc r) x (suc r) (step r x before here)

  -- where none is found, each rotation is determined
  pub all-none : (n : ℕ) → undetermined_at m lost n ≡ None → (r : ℕ) → r < n → undetermined (rotated m r) (survivors m lost) lost ≡ None
  unfolding undetermined_at
  all-none zero none r low = absurd (omega arith)
  all-none (suc n) none r low = go (undetermined_at m lost n) refl none (λ before below. all-none n before r below)
    where
      here : (o : Option ℕ) → at_rotation n o ≡ None → o ≡ None
      here None e = refl
      here (Some t) e = cc

      go : (o : Option UndeterminedAt) → undetermined_at m lost n ≡ o → first_of o (at_rotation n (undetermined (rotated m n) (survivors m lost) lost)) ≡ None
          → (undetermined_at m lost n ≡ None → r < n → undetermined (rotated m r) (survivors m lost) lost ≡ None) → undetermined (rotated m r) (survivors m lost) lost ≡ None
      go None before e earlier = ⊎_elim
          (λ (same : r ≡ n). ap (λ k. undetermined (rotated m k) (survivors m lost) lost) same ∙ here (undetermined (rotated m n) (survivors m lost) lost) e)
          (λ (other : r ≡ n → ⊥). earlier before (omega arith))
          (cases_eq r n)
      go (Some y) before e earlier = cc

  pub losses-more : (r : ℕ) → losses_of m lost r ++ loss_at m lost r ∷ [] ≡ losses_of m lost (r + 1)
  losses-more r = sym (map-range_with_len_more (loss_at m lost) 0 r r (omega arith))

  -- a fault names the least rotation, and its least symbol
  pub found-least : (n : ℕ) (x : UndeterminedAt) → undetermined_at m lost n ≡ Some x → IsLeastAt m lost n x
  unfolding undetermined_at
  found-least zero x found = cc
  found-least (suc n) x found = go (undetermined_at m lost n) refl found (found-least n x)
    where
      here : (o : Option ℕ) → undetermined (rotated m n) (survivors m lost) lost ≡ o → undetermined_at m lost n ≡ None → at_rotation n o ≡ Some x → IsLeastAt m lost (suc n) x
      here None is before e = cc
      here (Some t) is before e =
          let same : ◌≡◌ {A = UndeterminedAt} (record { rotation = n; symbol = t }) x = cc in
          subst (λ (y : UndeterminedAt). IsLeastAt m lost (suc n) y) same (record { low = omega arith; symbol = is; before = all-none n before })

      go : (o : Option UndeterminedAt) → undetermined_at m lost n ≡ o → first_of o (at_rotation n (undetermined (rotated m n) (survivors m lost) lost)) ≡ Some x
          → (undetermined_at m lost n ≡ Some x → IsLeastAt m lost n x) → IsLeastAt m lost (suc n) x
      go None before e more = here (undetermined (rotated m n) (survivors m lost) lost) refl before e
      go (Some y) earlier e more =
          let same : ◌≡◌ {A = Option UndeterminedAt} (Some y) (Some x) = e in
          let least : IsLeastAt m lost n x = more (earlier ∙ same) in
          record { low = omega (arith, least.low); symbol = least.symbol; before = least.before }
