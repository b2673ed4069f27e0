use Rattle.std.proofs.Common.{◌≡◌, ◌<◌, true, false, length, inl, inr, refl, sym, subst, ◌∙◌}
use Rattle.std.specs.Int.{bit_at}
use Rattle.mr_plan.specs.PlanLists.{recipes_at}
use Rattle.mr_eq.specs.Singles.{SinglesOf}
use Rattle.mr_board.specs.Terms.{BoardTerms}
use Rattle.mr_board.specs.Boards.{pass_view}
use Rattle.mr_mend.proofs.Answering.{near-reply, not-seen, lost-where, level-symbol, level-low, on-err, single-at, copied-reply}
use Rattle.mr_mend.proofs.readers.serve.Goals as goal

pub returns-in_err-read_at-in-None-clause-failed : goal.returns-in_err-read_at-in-None-clause-failed
returns-in_err-read_at-in-None-clause-failed g c = on-err _
    (inl (lost-where c.args.plans.now c.at.result.now c.recipes.result.now c.args.ask false false c.at.ensures.plan c.recipes.ensures.all c.in-None.ensures.lost refl, refl))

pub returns-in-None-clause-how : goal.returns-in-None-clause-how
returns-in-None-clause-how g c =
    (lost-where c.args.plans.now c.at.result.now c.recipes.result.now c.args.ask false false c.at.ensures.plan c.recipes.ensures.all c.in-None.ensures.lost refl, refl)

pub copy_out-requires-clause-level : goal.copy_out-requires-clause-level
copy_out-requires-clause-level g c =
    subst (λ (t : BoardTerms). c.in-Some.level < length (recipes_at t.plans 0)) (sym c.requires.board)
    (level-low c.args.plans.now c.at.result.now c.recipes.result.now c.args.ask.stripe c.in-Some.level c.at.ensures.plans c.at.ensures.plan c.recipes.ensures.all c.in-Some.ensures.level)

pub returns-then-look-clause-how : goal.returns-then-look-clause-how
returns-then-look-clause-how g c =
    (lost-where c.args.plans.now c.at.result.now c.recipes.result.now c.args.ask true true c.at.ensures.plan c.recipes.ensures.all c.in-Some.ensures.lost refl, c.copy_out.ensures.same ∙ c.if-look.ensures.looked)

pub returns-then-look-clause-reply : goal.returns-then-look-clause-reply
returns-then-look-clause-reply g c =
    copied-reply c.args.board.now c.args.head.now c.args.plans.now (g.E.Eye.sight c.args.eye.now).bytes c.args.ask.stripe c.in-Some.level c.args.ask.symbol c.copy_out.new.dst c.requires.board c.copy_out.ensures.mended
    (level-symbol c.args.plans.now c.at.result.now c.recipes.result.now c.args.ask.stripe c.in-Some.level c.args.ask.symbol c.at.ensures.plans c.at.ensures.plan c.recipes.ensures.all c.in-Some.ensures.symbol)

pub near-requires-clause-lost : goal.near-requires-clause-lost
near-requires-clause-lost g c =
    subst (λ (x : SinglesOf). bit_at x.lost c.args.ask.symbol ≡ 1)
    (sym (single-at c.args.singles.now c.args.ask.stripe c.index-singles-ask.result c.requires.singles.some c.index-singles-ask.is))
    (c.requires.singles.lost c.args.ask.stripe c.args.ask.symbol
    (lost-where c.args.plans.now c.at.result.now c.recipes.result.now c.args.ask true true c.at.ensures.plan c.recipes.ensures.all c.in-Some.ensures.lost refl))

pub returns-in_err-near-clause-failed : goal.returns-in_err-near-clause-failed
returns-in_err-near-clause-failed g c = on-err _
    (inr (
      lost-where c.args.plans.now c.at.result.now c.recipes.result.now c.args.ask true true c.at.ensures.plan c.recipes.ensures.all c.in-Some.ensures.lost refl,
      c.if-look.ensures.looked,
      not-seen c.args.ask.stripe (pass_view c.args.pass.now) c.look.result c.look.ensures.stays c.if-look.false,
    ))

pub returns-clause-how : goal.returns-clause-how
returns-clause-how g c = (
  lost-where c.args.plans.now c.at.result.now c.recipes.result.now c.args.ask true true c.at.ensures.plan c.recipes.ensures.all c.in-Some.ensures.lost refl,
  c.if-look.ensures.looked,
  not-seen c.args.ask.stripe (pass_view c.args.pass.now) c.look.result c.look.ensures.stays c.if-look.false,
)

pub returns-clause-reply : goal.returns-clause-reply
returns-clause-reply g c =
    near-reply c.args.head.now c.args.singles.now c.index-singles-ask.result c.args.ask (g.E.Eye.sight c.args.eye.now).bytes c.near.new.buf
    (single-at c.args.singles.now c.args.ask.stripe c.index-singles-ask.result c.requires.singles.some c.index-singles-ask.is) c.in_ok-near.ensures.near
