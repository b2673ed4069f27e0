use Rattle.std.proofs.Common.{rules, arith, ◌≡◌, ◌<◌, ℕ, length, subst, ◌∙◌}
use Rattle.mr_locks.specs.Seats.{names}
use Rattle.mr_amend.specs.Callers.{view}
use Rattle.mr_amend.proofs.Deals.{Dealt, all_dealt, asks_count, can_deal, deals_ask_to, deals_mend_to, mends_count, starts_dealt}
use Rattle.mr_amend.proofs.amend.Amend.callers.Goals as goal

pub loop-number-init : goal.loop-number-init
loop-number-init c =
    let did = c.in_ok-callers.ensures in
    starts_dealt c.args.self.now c.args.count c.blanks.new.first (view c.args.first) c.in_ok-callers.callers.items c.requires.view did.count did.callers did.views did.first did.view

pub deal_ask-requires-clause-taker : goal.deal_ask-requires-clause-taker
deal_ask-requires-clause-taker c =
    let some = c.requires.count.0 in
    can_deal c.args.self.now c.args.count c.loop-number.number 0 c.loop-number.number c.loop-number.first c.index_mut.result.now c.loop-number.callers.items (omega (arith, some)) c.loop-number.invariant c.index_mut.ensures.value

pub loop-number-preserved : goal.loop-number-preserved
loop-number-preserved c =
    let b = c.args.self.now in
    let some = c.requires.count.0 in
    let did = c.in_ok-deal_ask.ensures in
    let many = asks_count b c.blanks.new.first (c.in_ok-callers.ensures.view ∙ c.requires.view) in
    let low : c.loop-number.number < length c.blanks.new.first.asks.items = search rules in
    deals_ask_to b c.args.count c.loop-number.number 0 c.loop-number.first c.deal_ask.new.giver c.index_mut.result.now c.deal_ask.new.taker c.loop-number.callers.items (omega (arith, some)) c.loop-number.invariant did.giver did.taker
    (omega (arith, low, many)) c.index_mut.ensures.value did.left did.dealt

pub loop-stripe-init : goal.loop-stripe-init
loop-stripe-init c =
    let b = c.args.self.now in
    let many = asks_count b c.blanks.new.first (c.in_ok-callers.ensures.view ∙ c.requires.view) in
    let last : c.loop-number.number ≡ length c.blanks.new.first.asks.items = search rules in
    subst (λ (x : ℕ). Dealt b c.args.count x 0 c.loop-number.first c.loop-number.callers.items) (last ∙ many) c.loop-number.invariant

pub deal_mend-requires-clause-taker : goal.deal_mend-requires-clause-taker
deal_mend-requires-clause-taker c =
    let some = c.requires.count.0 in
    can_deal c.args.self.now c.args.count _ c.loop-stripe.stripe c.loop-stripe.stripe c.loop-stripe.first c.index_mut-in-loop-stripe.result.now c.loop-stripe.callers.items (omega (arith, some)) c.loop-stripe.invariant c.index_mut-in-loop-stripe.ensures.value

pub loop-stripe-preserved : goal.loop-stripe-preserved
loop-stripe-preserved c =
    let b = c.args.self.now in
    let some = c.requires.count.0 in
    let did = c.in_ok-deal_mend.ensures in
    let many = mends_count b c.args.count c.loop-number.number c.loop-number.first c.loop-number.callers.items c.loop-number.invariant in
    let low : c.loop-stripe.stripe < length c.loop-number.first.mends.items = search rules in
    deals_mend_to b c.args.count (length (names b.locks).ops) c.loop-stripe.stripe c.loop-stripe.first c.deal_mend.new.giver c.index_mut-in-loop-stripe.result.now c.deal_mend.new.taker c.loop-stripe.callers.items (omega (arith, some)) c.loop-stripe.invariant did.giver did.taker
    (omega (arith, low, many)) c.index_mut-in-loop-stripe.ensures.value did.left did.dealt

pub returns-clause-views : goal.returns-clause-views
returns-clause-views c = λ k d low.
    let b = c.args.self.now in
    let many = mends_count b c.args.count c.loop-number.number c.loop-number.first c.loop-number.callers.items c.loop-number.invariant in
    let last : c.loop-stripe.stripe ≡ length c.loop-number.first.mends.items = search rules in
    ((subst (λ (x : ℕ). Dealt b c.args.count (length (names b.locks).ops) x c.loop-stripe.first c.loop-stripe.callers.items) (last ∙ many) c.loop-stripe.invariant).each k d low).1

pub returns-clause-all : goal.returns-clause-all
returns-clause-all c =
    let b = c.args.self.now in
    let many = mends_count b c.args.count c.loop-number.number c.loop-number.first c.loop-number.callers.items c.loop-number.invariant in
    let last : c.loop-stripe.stripe ≡ length c.loop-number.first.mends.items = search rules in
    all_dealt b c.args.count c.loop-stripe.first c.loop-stripe.callers.items
    (subst (λ (x : ℕ). Dealt b c.args.count (length (names b.locks).ops) x c.loop-stripe.first c.loop-stripe.callers.items) (last ∙ many) c.loop-stripe.invariant)
