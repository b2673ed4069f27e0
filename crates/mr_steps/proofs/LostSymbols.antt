-- The symbols that survive a loss.
use Rattle.std.proofs.Common.{arith, ◌≡◌, ◌∙◌, ◌-◌, ◌<◌, ◌^◌, ℕ, length, sym, ap, bit_and, IfOk, Result, Ok, Err}
use Rattle.std.proofs.lemmas.Nat.Bits.{bit_at-lt, bit_at-zero, bit_at_and, same_from_bits}
use Rattle.std.proofs.lemmas.Nat.{pow_pos}
use Rattle.mr_model.specs.Code.{Code}
use Rattle.mr_model.proofs.SetLaws.{Within-le, Within-minus, bit_at_minus}
use Rattle.mr_plan.specs.Plans.{survivors}
use Rattle.mr_eq.specs.Problems.{Loss}
use Rattle.mr_steps.specs.Losses.{loss_of}
use Rattle.mr_steps.specs.declared.fault.Fault.{Fault}

-- the survivors are symbols, and none of them is lost
pub survivors-below : (m : Code) (targets : ℕ) → survivors m targets < 2 ^ length m.rows
survivors-below m targets = let le = Within-le _ _ (Within-minus (2 ^ length m.rows - 1) targets) in omega (arith, le, pow_pos (length m.rows))

pub survivors-apart : (m : Code) (targets : ℕ) → bit_and (survivors m targets) targets ≡ 0
survivors-apart m targets = same_from_bits _ _ (λ i. omega (
  arith,
  bit_at_and (survivors m targets) targets i,
  bit_at_minus (2 ^ length m.rows - 1) targets i,
  bit_at-lt (2 ^ length m.rows - 1) i,
  bit_at-lt targets i,
  bit_at-zero i,
))

-- a loss names its targets itself
pub loss-same : (m : Code) (targets : ℕ) (result : Result Loss Fault) → IfOk result (λ problem. problem ≡ loss_of m targets)
    → IfOk result (λ problem. problem ≡ loss_of m problem.targets)
loss-same m targets (Ok problem) e = e ∙ ap (loss_of m) (sym (ap (λ (q : Loss). q.targets) e))
loss-same m targets (Err fault) e = tt
