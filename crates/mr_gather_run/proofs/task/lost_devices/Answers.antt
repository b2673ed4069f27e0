use Rattle.std.proofs.Common.{arith, ◌≡◌, ◌∙◌, ◌<◌, ◌^◌, ℕ, Bool, None, ap, bit_or, get_or, length, not, refl, sym}
use Rattle.std.proofs.lemmas.List.{get_or_default}
use Rattle.std.specs.Option.{is_none}
use Rattle.mr_form.proofs.RowLaws.{set_below-in, set_below-out}
use Rattle.mr_model.specs.Sets.{set_below}
use Rattle.mr_gather_run.specs.Tasks.{lost_devices}
use Rattle.mr_gather_run.proofs.task.lost_devices.Goals as goal
use Rattle.mr_gather_run.proofs.task.lost_devices.Goals.{then-is_none, else-is_none}

pub loop-number-init : goal.loop-number-init
unfolding set_below
loop-number-init c = refl

pub loop-number-preserved : goal.loop-number-preserved
loop-number-preserved c =
    let p : ℕ → Bool = λ d. is_none (get_or c.args.devices.now d None) in
    let n : ℕ = c.loop-number.number in
    let low : n < length c.args.devices.now = omega (arith, c.loop-number.auto.number-end, c.loop-number-test.true) in
    let item : is_none (get_or c.args.devices.now n None) ≡ is_none c.index-devices-number.result =
    ap is_none (get_or_default c.args.devices.now n None c.index-devices-number.result low ∙ sym c.index-devices-number.is) in
    let told : is_none c.index-devices-number.result ≡ not (not c.is_none.result) = ap not c.is_none.ensures in
    elim c.if-is_none.branch [
      | then-is_none w ↦
          w.lost-is ∙ w.with-lost.ensures ∙ ap (λ s. bit_or s (2 ^ n)) c.loop-number.invariant ∙ set_below-in n p (item ∙ told ∙ ap (λ b. not (not b)) w.if-is_none.true)
      | else-is_none w ↦
          w.lost-is ∙ c.loop-number.invariant ∙ set_below-out n p (item ∙ told ∙ ap (λ b. not (not b)) w.if-is_none.false)
    ]

pub returns : goal.returns
unfolding lost_devices
returns c =
    let end : c.loop-number.number ≡ length c.args.devices.now = omega (arith, c.loop-number.auto.number-end, c.loop-number-test.false) in
    c.loop-number.invariant ∙ ap (λ n. set_below n (λ d. is_none (get_or c.args.devices.now d None))) end
