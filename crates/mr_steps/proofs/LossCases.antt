-- A loss that is determined, and one of which the least symbol that is not is refused.
use Rattle.std.specs.Int.{bit_at}
use Rattle.std.proofs.Common.{◌≡◌, ℕ, Bool, true, false, not, List, Option, Some, None, Ok, Err, refl, ◌∙◌, ap, subst}
use Rattle.mr_model.specs.Code.{Code, has_equation, undetermined}
use Rattle.mr_model.proofs.Finding.{FindsMember, find_member-finds, find_member-is}
use Rattle.mr_plan.specs.Plans.{survivors}
use Rattle.mr_steps.specs.Losses.{determined_given, lost_given, symbols_of_devices, targets_given, unless_symbol}
use Rattle.mr_steps.specs.Refusals.{followed_by}
use Rattle.mr_steps.specs.Undetermined.{IsLeastUndetermined}
use Rattle.mr_steps.specs.declared.fault.Fault.TheVariants.{Undetermined}

-- The least lost symbol that is not determined, and where there is none.
pub record IsFound (m : Code) (lost : ℕ) (o : Option ℕ) : Type 0 where
  pub some : (t : ℕ) → o ≡ Some t → IsLeastUndetermined m lost t
  pub all : (t : ℕ) → IsLeastUndetermined m lost t → o ≡ Some t
  pub none : o ≡ None → (i : ℕ) → bit_at lost i ≡ 1 → has_equation m (survivors m lost) i ≡ true
  pub each : ((i : ℕ) → bit_at lost i ≡ 1 → has_equation m (survivors m lost) i ≡ true) → o ≡ None

pub undetermined-found : (m : Code) (lost : ℕ) → IsFound m lost (undetermined m (survivors m lost) lost)
undetermined-found m lost = record {
  some = λ t e.
      let first : FindsMember lost (λ t. not (has_equation m (survivors m lost) t)) (Some t) =
      subst (λ o. FindsMember lost (λ t. not (has_equation m (survivors m lost) t)) o) e
      (find_member-finds lost (λ t. not (has_equation m (survivors m lost) t))) in
      record {
        member = first.member;
        none = not-true-is (has_equation m (survivors m lost) t) first.passes;
        least = λ i low member. not-false-is (has_equation m (survivors m lost) i) (first.least i low member);
      };
  all = λ t h. find_member-is lost (λ t. not (has_equation m (survivors m lost) t)) (Some t) (record {
    member = h.member;
    passes = ap not h.none;
    least = λ i low member. ap not (h.least i low member);
  });
  none = λ e i member.
      let none : FindsMember lost (λ t. not (has_equation m (survivors m lost) t)) None =
      subst (λ o. FindsMember lost (λ t. not (has_equation m (survivors m lost) t)) o) e
      (find_member-finds lost (λ t. not (has_equation m (survivors m lost) t))) in
      not-false-is (has_equation m (survivors m lost) i) (none i member);
  each = λ h. find_member-is lost (λ t. not (has_equation m (survivors m lost) t)) None (λ i member. ap not (h i member));
}
  where
    not-true-is : (b : Bool) → not b ≡ true → b ≡ false
    not-true-is true e = cc
    not-true-is false e = refl

    not-false-is : (b : Bool) → not b ≡ false → b ≡ true
    not-false-is true e = refl
    not-false-is false e = cc

-- the lost symbols of devices that are read
targets-are : (m : Code) (lost : List ℕ) (devices : ℕ) → lost_given m.devices lost ≡ Ok devices
    → targets_given m lost ≡ determined_given m (symbols_of_devices m devices)
unfolding targets_given
targets-are m lost devices e = ap (λ r. followed_by r (λ devices. determined_given m (symbols_of_devices m devices))) e

-- a symbol that is not determined is refused
pub targets-refused : (m : Code) (lost : List ℕ) (devices t : ℕ) → lost_given m.devices lost ≡ Ok devices
    → IsLeastUndetermined m (symbols_of_devices m devices) t → targets_given m lost ≡ Err (Undetermined t)
targets-refused m lost devices t e h =
    targets-are m lost devices e
    ∙ ap (λ o. unless_symbol o (symbols_of_devices m devices)) ((undetermined-found m (symbols_of_devices m devices)).all t h)

-- symbols that are determined are not
pub targets-determined : (m : Code) (lost : List ℕ) (devices : ℕ) → lost_given m.devices lost ≡ Ok devices
    → undetermined m (survivors m (symbols_of_devices m devices)) (symbols_of_devices m devices) ≡ None → targets_given m lost ≡ Ok (symbols_of_devices m devices)
targets-determined m lost devices e none = targets-are m lost devices e ∙ ap (λ o. unless_symbol o (symbols_of_devices m devices)) none

-- The lost symbols are determined, or the least that is not is refused.
pub data TargetsCases (m : Code) (lost : List ℕ) (set : ℕ) : Type 0 where
  Determined : undetermined m (survivors m set) set ≡ None → targets_given m lost ≡ Ok set → TargetsCases m lost set
  Refused : (t : ℕ) → IsLeastUndetermined m set t → TargetsCases m lost set

pub targets-cases : (m : Code) (lost : List ℕ) (devices : ℕ) → lost_given m.devices lost ≡ Ok devices → TargetsCases m lost (symbols_of_devices m devices)
targets-cases m lost devices e =
    go (undetermined m (survivors m (symbols_of_devices m devices)) (symbols_of_devices m devices)) refl
  where
    go : (o : Option ℕ) → undetermined m (survivors m (symbols_of_devices m devices)) (symbols_of_devices m devices) ≡ o → TargetsCases m lost (symbols_of_devices m devices)
    go None none = Determined none (targets-determined m lost devices e none)
    go (Some t) some = Refused t ((undetermined-found m (symbols_of_devices m devices)).some t some)
