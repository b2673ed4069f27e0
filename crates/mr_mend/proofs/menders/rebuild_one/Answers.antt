use Rattle.std.proofs.Common.{◌≡◌, ℕ, ◌*◌, ◌<◌, length, sym, ap, subst, ◌∙◌, arith}
use Rattle.std.proofs.lemmas.List.{with_items_is}
use Rattle.mr_plan.specs.PlanLists.{recipes_at}
use Rattle.mr_plan.proofs.PlanListLaws.{own_count}
use Rattle.mr_board.specs.Boards.{board_terms, claimed_stripe, pass_view}
use Rattle.mr_board.specs.Rights.{IsRight}
use Rattle.mr_mend.specs.Menders.{spelled_word}
use Rattle.mr_mend.proofs.Drawing.{words-bytes, claimed-low, lost-right}
use Rattle.mr_mend.proofs.menders.rebuild_one.Goals as goal

pub mend_stripe-requires-clause-lost : goal.mend_stripe-requires-clause-lost
mend_stripe-requires-clause-lost g c =
    let count = own_count c.args.plans.now c.stripe-stripe.result c.at-plan.result.now c.at-plan.ensures.plans c.at-plan.ensures.plan in
    let all : length c.as_mut_slice-2.result.now ≡ length (recipes_at c.args.plans.now 0) * c.args.head.now.symbol_bytes = omega (arith, c.as_mut_slice-2.ensures.len, c.requires.room.lost) in
    all ∙ ap (λ n. n * c.args.head.now.symbol_bytes) count

pub store_words-requires-clause-bytes : goal.store_words-requires-clause-bytes
store_words-requires-clause-bytes g c =
    let all : length c.as_slice.result.now ≡ length (recipes_at c.args.plans.now 0) * c.args.head.now.symbol_bytes =
    omega (arith, c.as_slice.ensures.len, c.as_mut_slice-2.ensures.len, c.mend_stripe.auto.lost, c.requires.room.lost) in
    all ∙ words-bytes c.args.head.now c.args.plans.now (board_terms c.args.board.now) (g.E.Eye.sight c.args.eye.now).bytes c.requires.board c.bytes-within_the_limits.ensures.limits.whole_words

pub store_words-requires-clause-right : goal.store_words-requires-clause-right
store_words-requires-clause-right g c small i inside =
    let terms = board_terms c.args.board.now in
    let told = (g.E.Eye.sight c.args.eye.now).bytes in
    let low = claimed-low c.args.head.now c.args.plans.now terms told (claimed_stripe c.args.claim) (pass_view c.args.pass.now).claimed c.requires.board c.requires.pass.claimed c.requires.claim in
    let lost = c.as_slice.result.now in
    let whole : lost ≡ c.mend_stripe.new.lost = c.as_slice.ensures.value ∙ with_items_is c.args.room.now.lost c.mend_stripe.new.lost (omega (arith, c.mend_stripe.auto.lost, c.as_mut_slice-2.ensures.len)) in
    subst (λ (s : ℕ). IsRight terms s i (spelled_word lost i)) c.stripe-stripe.ensures
    (lost-right c.args.head.now c.args.plans.now terms c.at-plan.result.now told c.stripe-stripe.result i c.mend_stripe.new.lost lost
    c.requires.board c.at-plan.ensures.plan (subst (λ (s : ℕ). s < c.args.head.now.stripes) (sym c.stripe-stripe.ensures) low) c.in-Ok.ensures.mended whole small inside)
