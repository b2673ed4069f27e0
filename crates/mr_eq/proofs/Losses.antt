-- What holds of a loss that is determined: its numbers are small, reading costs, and the survivors are a good set.
use Rattle.std.proofs.Common.{◌≡◌, ℕ, ◌^◌, ◌<◌, ◌≤◌, Bool, true, not, length, None, Some, arith, subst}
use Rattle.std.proofs.Math.Pow.{pow_mono}
use Rattle.std.proofs.lemmas.Bool.{not-true, not-false}
use Rattle.mr_model.specs.Code.{Code, has_equation, is_determined, undetermined, cost}
use Rattle.mr_model.specs.Search.{is_good}
use Rattle.mr_model.proofs.Finding.{all_members-true, FindsMember, find_member-finds}
use Rattle.mr_model.proofs.Apart.{leaves_open, get_or-in_columns}
use Rattle.mr_model.proofs.CheapestLaws.{IsCost}
use Rattle.mr_model.proofs.CostLaws.{price_law}
use Rattle.mr_model.proofs.BoundedLaws.{within-refl}
use Rattle.mr_model.proofs.SearchOf.{good-parts}
use Rattle.mr_bits.specs.Matrices.{IsMatrixCode}
use Rattle.mr_bits.proofs.MatrixLaws.{matrix-priced}
use Rattle.mr_eq.specs.Problems.{Loss, IsLoss, IsUndetermined, search_for}

-- where no target is undetermined, each is determined
pub determined-from : (m : Code) (a targets : ℕ) → undetermined m a targets ≡ None → is_determined m a targets ≡ true
determined-from m a targets e =
    let none : FindsMember targets (λ t. not (has_equation m a t)) None = subst (λ o. FindsMember targets (λ t. not (has_equation m a t)) o) e (find_member-finds targets (λ t. not (has_equation m a t))) in
    all_members-true targets (has_equation m a) (λ t member. not-false (has_equation m a t) (none t member))

-- the least target that has no equation is one that the survivors do not tell
pub undetermined-is : (m : Code) → IsMatrixCode m → (a targets t : ℕ) → undetermined m a targets ≡ Some t
    → IsUndetermined m a targets t
undetermined-is m code a targets t e =
    let open_at : ℕ → Bool = λ i. not (has_equation m a i) in
    let first = subst (λ o. FindsMember targets open_at o) e (find_member-finds targets open_at) in
    record {
      target = first.member;
      lower = λ i low member. not-false (has_equation m a i) (first.least i low member);
      leaves_open = λ size some. leaves_open m a (get_or-in_columns m.columns m.rows code.columns) t size some
          (not-true (has_equation m a t) first.passes);
    }

-- a set of symbols is below 2 ^ 128
pub symbols-small : (m : Code) (x : ℕ) → IsMatrixCode m → x < 2 ^ length m.rows → x < 2 ^ 128
symbols-small m x h low =
    let few : length m.rows ≤ 128 = omega (arith, h.count, h.shape.few_symbols) in
    let power : 2 ^ length m.rows ≤ 2 ^ 128 = pow_mono few in
    omega (arith, low, power)

module _ (p : Loss) (h : IsLoss p) where
  pub avail-small : p.avail < 2 ^ 128
  avail-small = symbols-small p.code p.avail h.code_is h.avail_below

  pub targets-small : p.targets < 2 ^ 128
  targets-small = symbols-small p.code p.targets h.code_is h.targets_below

  -- among the survivors a set costs more than each of its own subsets
  pub loss-cost : IsCost p.avail (cost p.code)
  loss-cost = price_law p.code p.avail (matrix-priced p.code h.code_is) h.avail_below

  -- the survivors are a good set
  pub loss-good : is_good (search_for p) p.avail ≡ true
  loss-good = good-parts p.code p.avail p.targets targets-small p.avail (within-refl p.avail) h.determined
