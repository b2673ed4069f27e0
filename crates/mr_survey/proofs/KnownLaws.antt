-- Sets that are known to be determined.
use Rattle.std.proofs.Common.{◌≡◌, ℕ, ◌^◌, ◌<◌, length, Option, Some, None, Result, Ok, Err, get_or, replicate, refl, sym, ap, subst, ◌∙◌, arith}
use Rattle.std.proofs.lemmas.List.{get_or-replicate}
use Rattle.std.proofs.lemmas.Nat.Bits.{bit_at-zero}
use Rattle.std.proofs.lemmas.List.{length-replicate}
use Rattle.std.specs.Int.{bit_at}
use Rattle.mr_model.specs.Code.{Code, survivors, undetermined}
use Rattle.mr_model.specs.Rotations.{rotated}
use Rattle.mr_model.proofs.RotationLaws.{count-rotated}
use Rattle.mr_bits.specs.Matrices.{IsMatrixCode}
use Rattle.mr_bits.proofs.RowLaws.{devices-few}
use Rattle.mr_eq.specs.Problems.{Loss, problem_of, unless_undetermined}
use Rattle.mr_eq.specs.declared.problems.Undetermined.{Undetermined}
use Rattle.mr_steps.proofs.LossCases.{undetermined-found}
use Rattle.mr_cache.specs.declared.patterns.Pattern.{Pattern}
use Rattle.mr_survey.specs.Surveys.{in_stripe, open_in}
use Rattle.mr_survey.specs.Known.{AreKnown}

-- nothing is open where nothing fails
pub open-none : (m : Code) (r x : ℕ) → x ≡ 0 → open_in m (record { rotation = r; lost = x }) ≡ None
open-none m r x none = (undetermined-found (rotated m r) x).each (λ i member. absurd (omega (arith, member, ap (λ y. bit_at y i) none, bit_at-zero i)))

-- the empty set for each rotation
pub known-first : (m : Code) → IsMatrixCode m → AreKnown m (replicate 128 0)
known-first m is = record {
  enough = omega (arith, devices-few m.devices m.symbols_per_device is.shape.some_symbols, is.shape.few_symbols, length-replicate {A = ℕ} 128 0);
  determined = λ r d low. open-none m r (get_or (replicate 128 0) r d) (get_or-replicate 128 r 0 d (omega (arith, low, length-replicate {A = ℕ} 128 0)));
}

-- ---- the problem of a pattern

module _ (m k : Code) (p : Pattern) (x : ℕ) (is : k ≡ rotated m p.rotation) (same : x ≡ p.lost) where
  pub rotated-low : p.lost < 2 ^ length m.rows → x < 2 ^ length k.rows
  rotated-low low =
      subst (λ n. x < 2 ^ n) (sym (ap (λ (c : Code). length c.rows) is ∙ count-rotated m p.rotation)) (subst (λ y. y < 2 ^ length m.rows) (sym same) low)

  at-pattern : open_in m p ≡ undetermined k (survivors k x) x
  at-pattern = λ j. undetermined (sym is j) (survivors (sym is j) (sym same j)) (sym same j)

  loss : Loss
  loss = record { code = k; avail = survivors k x; targets = x }

  pub looked-ok : (given : Result Loss Undetermined) (problem : Loss) → given ≡ problem_of k (survivors k x) x → given ≡ Ok problem → open_in m p ≡ None
  unfolding loss
  looked-ok given problem value ok = at-pattern ∙ go (undetermined k (survivors k x) x) refl (sym value ∙ ok)
    where
      go : (o : Option ℕ) → undetermined k (survivors k x) x ≡ o → unless_undetermined o loss ≡ Ok problem → undetermined k (survivors k x) x ≡ None
      go None e found = e
      go (Some t) e found = cc

  inside-err : (a b : Undetermined) → ◌≡◌ {A = Result Loss Undetermined} (Err a) (Err b) → a ≡ b
  inside-err a b h = cc

  pub looked-err : (given : Result Loss Undetermined) (e : Undetermined) (stripe : ℕ) → given ≡ problem_of k (survivors k x) x → given ≡ Err e
      → in_stripe stripe (open_in m p) ≡ Some (record { stripe = stripe; symbol = e.symbol })
  unfolding loss
  looked-err given e stripe value err = go (undetermined k (survivors k x) x) refl (sym value ∙ err)
    where
      go : (o : Option ℕ) → undetermined k (survivors k x) x ≡ o → unless_undetermined o loss ≡ Err e
          → in_stripe stripe (open_in m p) ≡ Some (record { stripe = stripe; symbol = e.symbol })
      go None none found = cc
      go (Some t) some found =
          ap (in_stripe stripe) (at-pattern ∙ some) ∙ ap (λ (u : Undetermined). Some (record { stripe = stripe; symbol = u.symbol })) (inside-err (record { symbol = t }) e found)
