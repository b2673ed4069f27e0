-- The stripes of a survey, one after the other, and the first that is not determined.
use Rattle.std.proofs.Common.{◌≡◌, ℕ, zero, suc, ◌+◌, ◌-◌, ◌^◌, ◌<◌, ◌≤◌, ◌==◌, Bool, true, false, cond, List, All, take, length, get_or, Option, Some, None, refl, sym, ap, subst, ◌∙◌, ⊎_elim, arith, add-one, bit_or}
use Rattle.std.proofs.Math.Pow.{pow-lt}
use Rattle.std.proofs.lemmas.Bool.{cases_eq}
use Rattle.std.proofs.lemmas.List.{take_all}
use Rattle.std.proofs.lemmas.Nat.{or_lt}
use Rattle.mr_model.specs.Code.{Code, is_determined, survivors, undetermined}
use Rattle.mr_bits.specs.Matrices.{IsMatrixCode}
use Rattle.mr_eq.proofs.Losses.{determined-from}
use Rattle.mr_eq.proofs.SingleLaws.{determined-none}
use Rattle.mr_image.specs.Images.{stripe_symbols}
use Rattle.mr_mend.specs.declared.asks.Ask.{Ask}
use Rattle.mr_sector.specs.Patterns.{failed, with_sector}
use Rattle.mr_sector.proofs.PatternLaws.{failed-more}
use Rattle.mr_steps.proofs.LossCases.{undetermined-found}
use Rattle.mr_cache.specs.declared.patterns.Pattern.{Pattern}
use Rattle.mr_patch.specs.Damages.{DamageParts, IsDamage, IsDetermined, code_at, failed_at, others_at, pattern_at}
use Rattle.mr_patch.proofs.StripePlans.{code-rotated, rows-count}
use Rattle.mr_survey.specs.declared.errors.UndeterminedIn.{UndeterminedIn}
use Rattle.mr_survey.specs.Surveys.{FindsFirst, IsFirstUndetermined, first_of, first_undetermined, in_stripe, open_at, open_in, undetermined_in}

-- ---- what fails in a stripe are symbols of it

module _ (n lost s : ℕ) (low : lost < 2 ^ n) (sectors : List Ask) (symbols : All (λ (sector : Ask). sector.symbol < n) sectors) where
  some : Ask
  some = record { stripe = 0; symbol = 0 }

  with-low : (set : ℕ) (sector : Ask) → set < 2 ^ n → sector.symbol < n → with_sector s set sector < 2 ^ n
  with-low set sector below small = go (sector.stripe == s)
    where
      go : (b : Bool) → cond b (bit_or set (2 ^ sector.symbol)) set < 2 ^ n
      go true = or_lt n set (2 ^ sector.symbol) below (pow-lt small)
      go false = below

  front-low : (k : ℕ) → k ≤ length sectors → failed lost (take k sectors) s < 2 ^ n
  unfolding failed
  front-low zero within = low
  front-low (suc k) within =
      let here : k < length sectors = omega (arith, within) in
      subst (λ x. x < 2 ^ n) (sym (ap (λ j. failed lost (take j sectors) s) (sym (add-one k)) ∙ failed-more lost s k sectors some here))
      (with-low (failed lost (take k sectors) s) (get_or sectors k some) (front-low k (omega (arith, within))) (symbols k some here))

  pub failed-below : failed lost sectors s < 2 ^ n
  failed-below = subst (λ xs. failed lost xs s < 2 ^ n) (take_all (length sectors) sectors (omega arith)) (front-low (length sectors) (omega arith))

pub stripe-low : (d : DamageParts) → IsDamage d → (s : ℕ) → failed_at d s < 2 ^ stripe_symbols d.layout
stripe-low d damage s = failed-below (stripe_symbols d.layout) d.lost s damage.few d.sectors (λ k e low. (damage.sectors.in_range k e low).symbol)

-- ---- the stripes, one after the other

module _ (d : DamageParts) where
  pub none-first : undetermined_in d 0 ≡ None
  unfolding undetermined_in
  none-first = refl

  -- one stripe more that is determined
  pub none-more : (s : ℕ) → undetermined_in d s ≡ None → open_at d s ≡ None → undetermined_in d (s + 1) ≡ None
  unfolding undetermined_in
  none-more s before here =
      ap (undetermined_in d) (add-one s) ∙ ap (λ o. first_of o (in_stripe s (open_at d s))) before ∙ ap (in_stripe s) here

  -- the first that is not
  step : (s : ℕ) (x : UndeterminedIn) → undetermined_in d s ≡ None → in_stripe s (open_at d s) ≡ Some x → undetermined_in d (suc s) ≡ Some x
  unfolding undetermined_in
  step s x before here = ap (λ o. first_of o (in_stripe s (open_at d s))) before ∙ here

  stays : (k : ℕ) (x : UndeterminedIn) (s : ℕ) → undetermined_in d s ≡ Some x → undetermined_in d (k + s) ≡ Some x
  unfolding undetermined_in
  stays zero x s found = let same : 0 + s ≡ s = omega arith in ap (undetermined_in d) same ∙ found
  stays (suc k) x s found =
      let next : suc k + s ≡ suc (k + s) = omega arith in
      ap (undetermined_in d) next ∙ ap (λ o. first_of o (in_stripe (k + s) (open_at d (k + s)))) (stays k x s found)

  pub found-at : (s n : ℕ) (x : UndeterminedIn) → s < n → undetermined_in d s ≡ None → in_stripe s (open_at d s) ≡ Some x → undetermined_in d n ≡ Some x
  found-at s n x low before here =
      let rest : n ≡ (n - suc s) + suc s = omega arith in
      ap (undetermined_in d) rest ∙ stays (n - suc s) x (suc s) (step s x before here)

  -- where none is found, each is determined
  pub all-none : (n : ℕ) → undetermined_in d n ≡ None → (s : ℕ) → s < n → open_at d s ≡ None
  unfolding undetermined_in
  all-none zero none s low = absurd (omega arith)
  all-none (suc n) none s low = go (undetermined_in d n) refl none (λ before below. all-none n before s below)
    where
      here : (o : Option ℕ) → in_stripe n o ≡ None → o ≡ None
      here None e = refl
      here (Some t) e = cc

      go : (o : Option UndeterminedIn) → undetermined_in d n ≡ o → first_of o (in_stripe n (open_at d n)) ≡ None
          → (undetermined_in d n ≡ None → s < n → open_at d s ≡ None) → open_at d s ≡ None
      go None before e earlier = ⊎_elim
          (λ (same : s ≡ n). ap (open_at d) same ∙ here (open_at d n) e)
          (λ (other : s ≡ n → ⊥). earlier before (omega arith))
          (cases_eq s n)
      go (Some y) before e earlier = cc

  -- where each is determined, none is found
  pub none-all : (n : ℕ) → ((s : ℕ) → s < n → open_at d s ≡ None) → undetermined_in d n ≡ None
  none-all zero each = none-first
  none-all (suc n) each =
      ap (undetermined_in d) (sym (add-one n)) ∙ none-more n (none-all n (λ s low. each s (omega (arith, low)))) (each n (omega arith))

  -- a stripe in which none is open is determined
  pub known-at : (s : ℕ) → open_at d s ≡ None → is_determined (code_at d s) (others_at d s) (failed_at d s) ≡ true
  known-at s none = determined-from (code_at d s) (others_at d s) (failed_at d s) none

  -- what is found is the first
  first-below : (n : ℕ) (x : UndeterminedIn) → n ≤ d.layout.stripes → undetermined_in d n ≡ Some x → IsFirstUndetermined d x
  unfolding undetermined_in
  first-below zero x few found = cc
  first-below (suc n) x few found = go (undetermined_in d n) refl found (first-below n x (omega (arith, few)))
    where
      here : (o : Option ℕ) → open_at d n ≡ o → undetermined_in d n ≡ None → in_stripe n o ≡ Some x → IsFirstUndetermined d x
      here None is before e = cc
      here (Some t) is before e =
          let same : ◌≡◌ {A = UndeterminedIn} (record { stripe = n; symbol = t }) x = cc in
          subst (λ (y : UndeterminedIn). IsFirstUndetermined d y) same (record {
            here = omega (arith, few);
            least = (undetermined-found (code_at d n) (failed_at d n)).some t is;
            before = λ s low. known-at s (all-none n before s low);
          })

      go : (o : Option UndeterminedIn) → undetermined_in d n ≡ o → first_of o (in_stripe n (open_at d n)) ≡ Some x
          → (undetermined_in d n ≡ Some x → IsFirstUndetermined d x) → IsFirstUndetermined d x
      go None before e more = here (open_at d n) refl before e
      go (Some y) earlier e more =
          let same : ◌≡◌ {A = Option UndeterminedIn} (Some y) (Some x) = e in more (earlier ∙ same)

  pub first-found : (x : UndeterminedIn) → first_undetermined d ≡ Some x → IsFirstUndetermined d x
  first-found x found = first-below d.layout.stripes x (omega arith) found

  pub first-only : (x : UndeterminedIn) → IsFirstUndetermined d x → first_undetermined d ≡ Some x
  first-only x h =
      found-at x.stripe d.layout.stripes x h.here
      (none-all x.stripe (λ s low. determined-none (code_at d s) (others_at d s) (failed_at d s) (h.before s low)))
      (ap (in_stripe x.stripe) ((undetermined-found (code_at d x.stripe) (failed_at d x.stripe)).all x.symbol h.least))

  module _ (damage : IsDamage d) where
    pub none-determined : first_undetermined d ≡ None → IsDetermined d
    none-determined none = record {
      few = λ s here. stripe-low d damage s;
      determined = λ s here. known-at s (all-none d.layout.stripes none s here);
    }

    pub determined-first : IsDetermined d → first_undetermined d ≡ None
    determined-first known = none-all d.layout.stripes (λ s low. determined-none (code_at d s) (others_at d s) (failed_at d s) (known.determined s low))

    pub finds-first : FindsFirst d
    finds-first = record { found = first-found; only = first-only; none = none-determined; determined = determined-first }

  module _ (is : IsMatrixCode d.code) (damage : IsDamage d) (s : ℕ) where
    pub pattern-low : failed_at d s < 2 ^ length d.code.rows
    pattern-low = subst (λ n. failed_at d s < 2 ^ n) (sym (rows-count d is damage)) (stripe-low d damage s)

    -- what is open in a stripe is what is open in its pattern
    pub pattern-open : (p : Pattern) → p ≡ pattern_at d s → open_in d.code p ≡ open_at d s
    pattern-open p is_p =
        ap (open_in d.code) is_p
        ∙ ap (λ (k : Code). undetermined k (survivors k (failed_at d s)) (failed_at d s)) (code-rotated d is damage s)
