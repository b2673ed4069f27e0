-- The single equations of all rotations, one after the other.
use Rattle.std.proofs.Common.{◌≡◌, ℕ, ◌+◌, ◌^◌, ◌<◌, true, List, [], ◌∷◌, ◌++◌, length, sym, ap, subst, ◌∙◌, arith}
use Rattle.std.proofs.lemmas.List.FromFn.{map-range_with_len_more}
use Rattle.mr_model.specs.Code.{Code, is_determined, survivors}
use Rattle.mr_model.specs.Rotations.{rotated}
use Rattle.mr_eq.specs.Problems.{IsLoss, Loss}
use Rattle.mr_eq.specs.Singles.{SinglesOf}
use Rattle.mr_steps.specs.Losses.{loss_of}
use Rattle.mr_choices.specs.Chosen.{singles_chosen}

module _ (m : Code) (lost budget r : ℕ) (code : Code) (p : Loss) (targets : ℕ) (rotation : code ≡ rotated m r) (is : p ≡ loss_of (rotated m r) lost) (own : targets ≡ p.targets) where
  same-lost : targets ≡ lost
  same-lost = own ∙ ap (λ (q : Loss). q.targets) is

  pub singles-below : IsLoss p → targets < 2 ^ length code.rows
  singles-below loss =
      subst (λ (k : Code). targets < 2 ^ length k.rows) (sym rotation)
      (subst (λ t. t < 2 ^ length (rotated m r).rows) (sym same-lost) (subst IsLoss is loss).targets_below)

  pub singles-determined : IsLoss p → is_determined code (survivors code targets) targets ≡ true
  singles-determined loss =
      subst (λ (k : Code). is_determined k (survivors k targets) targets ≡ true) (sym rotation)
      (subst (λ t. is_determined (rotated m r) (survivors (rotated m r) t) t ≡ true) (sym same-lost) (subst IsLoss is loss).determined)

  -- those of one rotation more
  pub singles-turn : (list : List SinglesOf) (made : SinglesOf) → list ≡ singles_chosen m lost budget r
      → made ≡ record { code = code; lost = targets; budget = budget } → list ++ made ∷ [] ≡ singles_chosen m lost budget (r + 1)
  singles-turn list made before e =
      (λ j. before j ++ (e ∙ (λ i. record { code = rotation i; lost = same-lost i; budget = budget })) j ∷ [])
      ∙ sym (map-range_with_len_more (λ k. record { code = rotated m k; lost = lost; budget = budget }) 0 r r (omega arith))
