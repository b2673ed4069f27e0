use Rattle.std.proofs.Common.{◌+◌, ◌∙◌, arith, length}
use Rattle.mr_model.proofs.Loops.{IsRest-turn}
use Rattle.mr_model.proofs.SetLaws.{member-below}
use Rattle.mr_image.specs.Images.{near, stripe_symbols}
use Rattle.mr_mend.proofs.XorSets.{single-low, single_set, sum-start, sum-turn, sum-all, sum-taken}
use Rattle.mr_mend.proofs.degraded.near.Goals as goal

pub loop-symbol-init : goal.loop-symbol-init
loop-symbol-init g c = (
  tt,
  tt,
  (
    0,
    sum-start c.args.head.now (single_set c.args.singles.now.code c.args.singles.now.lost c.args.singles.now.budget c.args.ask.symbol) c.args.ask.stripe (single-low c.args.singles.now.code c.args.singles.now.lost c.args.singles.now.budget c.args.ask.symbol c.get-set.result _ c.requires.shape c.get-set.ensures.single.inside c.get-set.ensures.value) (g.E.Eye.sight c.args.eye.now) (g.E.Eye.faults c.args.eye.now)
        c.into_iter-symbol-iterator.result (length c.args.buf.now) c.fill.new.self
        (c.into_iter-symbol-iterator.ensures.into_iter_gives ∙ c.symbols-symbol-items.ensures.all ∙ c.get-set.ensures.value) c.requires.buf (c.fill.ensures.after (λ y same. same)),
  ),
)

pub place-requires-clause-symbol : goal.place-requires-clause-symbol
place-requires-clause-symbol g c =
    let turn = IsRest-turn _ _ _ _ _ c.loop-symbol.invariant.2.1.to_come c.in-Some.ensures.steps in
    member-below (stripe_symbols c.args.head.now) (single_set c.args.singles.now.code c.args.singles.now.lost c.args.singles.now.budget c.args.ask.symbol) c.in-Some.symbol (single-low c.args.singles.now.code c.args.singles.now.lost c.args.singles.now.budget c.args.ask.symbol c.get-set.result _ c.requires.shape c.get-set.ensures.single.inside c.get-set.ensures.value) turn.member

pub loop-symbol-preserved : goal.loop-symbol-preserved
loop-symbol-preserved g c = (
  tt,
  tt,
  (
    c.in-Some.symbol + 1,
    sum-turn c.args.head.now (single_set c.args.singles.now.code c.args.singles.now.lost c.args.singles.now.budget c.args.ask.symbol) c.args.ask.stripe (single-low c.args.singles.now.code c.args.singles.now.lost c.args.singles.now.budget c.args.ask.symbol c.get-set.result _ c.requires.shape c.get-set.ensures.single.inside c.get-set.ensures.value) (g.E.Eye.sight c.args.eye.now) (g.E.Eye.faults c.args.eye.now)
        c.loop-symbol.invariant.2.0 c.loop-symbol.symbol-iterator c.in-Some.symbol c.next.new.self c.place.result (length c.loop-symbol.tmp)
        (g.E.Eye.faults c.loop-symbol.eye) (g.E.Eye.faults c.read_at.new.self) (g.E.Eye.sight c.loop-symbol.eye) (g.E.Eye.sight c.read_at.new.self)
        c.read_at.new.buf c.loop-symbol.buf c.xor_into.new.dst c.loop-symbol.invariant.2.1 c.in-Some.ensures.steps c.place.ensures.place (omega arith) (omega arith)
        c.in_ok-read_at.ensures.read c.in_ok-read_at.ensures.ok c.in_ok-read_at.ensures.cause.quiet c.xor_into.ensures,
  ),
)

pub returns-clause-near : goal.returns-clause-near
unfolding near
returns-clause-near g c =
    sum-all c.args.head.now (single_set c.args.singles.now.code c.args.singles.now.lost c.args.singles.now.budget c.args.ask.symbol) c.args.ask.stripe (single-low c.args.singles.now.code c.args.singles.now.lost c.args.singles.now.budget c.args.ask.symbol c.get-set.result _ c.requires.shape c.get-set.ensures.single.inside c.get-set.ensures.value) (g.E.Eye.sight c.args.eye.now) (g.E.Eye.faults c.args.eye.now)
    c.loop-symbol.invariant.2.0 c.loop-symbol.symbol-iterator (g.E.Eye.faults c.loop-symbol.eye) (g.E.Eye.sight c.loop-symbol.eye) c.loop-symbol.buf
    c.loop-symbol.invariant.2.1 c.in-None.ensures.steps.0

pub returns-clause-taken : goal.returns-clause-taken
returns-clause-taken g c =
    sum-taken c.args.head.now (single_set c.args.singles.now.code c.args.singles.now.lost c.args.singles.now.budget c.args.ask.symbol) c.args.ask.stripe (single-low c.args.singles.now.code c.args.singles.now.lost c.args.singles.now.budget c.args.ask.symbol c.get-set.result _ c.requires.shape c.get-set.ensures.single.inside c.get-set.ensures.value) (g.E.Eye.sight c.args.eye.now) (g.E.Eye.faults c.args.eye.now)
    c.loop-symbol.invariant.2.0 c.loop-symbol.symbol-iterator (g.E.Eye.faults c.loop-symbol.eye) (g.E.Eye.sight c.loop-symbol.eye) c.loop-symbol.buf
    c.loop-symbol.invariant.2.1 c.in-None.ensures.steps.0
