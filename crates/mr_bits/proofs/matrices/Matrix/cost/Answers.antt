use Rattle.std.proofs.Common.{◌≡◌, ◌+◌, ◌/◌, ◌<◌, ap, ap₂, sym, subst, ◌∙◌, arith, length}
use Rattle.std.specs.Prelude.{slice_index}
use Rattle.mr_model.specs.Code.{cost}
use Rattle.mr_model.specs.Sets.{below}
use Rattle.mr_model.proofs.SetLaws.{member-below, below-zero}
use Rattle.mr_model.proofs.Prices.{cost-none}
use Rattle.mr_model.proofs.CostLaws.{cost-turn}
use Rattle.mr_model.proofs.Loops.{IsRest, IsRest-all, IsRest-none, IsRest-turn}
use Rattle.mr_bits.proofs.MatrixLaws.{symbol-device, matrix-cost}
use Rattle.mr_bits.proofs.matrices.Matrix.cost.Goals as goal

pub loop-member-init : goal.loop-member-init
loop-member-init c = (tt, tt, (0, subst (λ s. IsRest c.args.set 0 s) (sym (c.into_iter-member-iterator.ensures.into_iter_gives ∙ c.symbols-member-items.ensures.all)) (IsRest-all c.args.set), sym (ap (cost c.args.self.now) (below-zero c.args.set) ∙ cost-none c.args.self.now)))

pub device_of-requires : goal.device_of-requires
device_of-requires c =
    let turn = IsRest-turn _ _ _ _ _ c.loop-member.invariant.2.1 c.in-Some.ensures.steps in
    member-below _ _ _ c.requires turn.member

pub price-price-requires : goal.price-price-requires
price-price-requires c =
    let turn = IsRest-turn _ _ _ _ _ c.loop-member.invariant.2.1 c.in-Some.ensures.steps in
    let device = symbol-device c.args.self.now c.shape-within_the_limits.ensures.code c.in-Some.member (member-below _ _ _ c.requires turn.member) in
    omega (arith, device, c.device_of.ensures)

pub loop-member-preserved : goal.loop-member-preserved
loop-member-preserved c =
    let turn = IsRest-turn _ _ _ _ _ c.loop-member.invariant.2.1 c.in-Some.ensures.steps in
    let low : c.in-Some.member < length c.args.self.now.rows = member-below _ _ _ c.requires turn.member in
    let price : c.price-price.result ≡ slice_index c.args.self.now.prices (c.in-Some.member / c.args.self.now.symbols_per_device) =
    c.price-price.ensures ∙ ap (slice_index c.args.self.now.prices) c.device_of.ensures in
    (tt, tt, (c.in-Some.member + 1, turn.rest, ap₂ (λ a b. a + b) c.loop-member.invariant.2.2 price ∙ sym (cost-turn c.args.self.now _ _ _ _ turn low)))

pub overflow_add-total : goal.overflow_add-total
overflow_add-total c =
    let turn = IsRest-turn _ _ _ _ _ c.loop-member.invariant.2.1 c.in-Some.ensures.steps in
    let low : c.in-Some.member < length c.args.self.now.rows = member-below _ _ _ c.requires turn.member in
    let price : c.price-price.result ≡ slice_index c.args.self.now.prices (c.in-Some.member / c.args.self.now.symbols_per_device) =
    c.price-price.ensures ∙ ap (slice_index c.args.self.now.prices) c.device_of.ensures in
    let sum = cost-turn c.args.self.now _ _ _ _ turn low in
    let few = matrix-cost c.args.self.now c.shape-within_the_limits.ensures.code (below (c.in-Some.member + 1) c.args.set) in
    omega (arith, c.loop-member.invariant.2.2, price, sum, few)

pub returns-clause-cost : goal.returns-clause-cost
returns-clause-cost c = c.loop-member.invariant.2.2 ∙ ap (cost c.args.self.now) (IsRest-none _ _ _ c.loop-member.invariant.2.1 c.in-None.ensures.steps.0)

pub returns-clause-few : goal.returns-clause-few
returns-clause-few c =
    let total = c.loop-member.invariant.2.2 ∙ ap (cost c.args.self.now) (IsRest-none _ _ _ c.loop-member.invariant.2.1 c.in-None.ensures.steps.0) in
    omega (arith, total, matrix-cost c.args.self.now c.shape-within_the_limits.ensures.code c.args.set)
