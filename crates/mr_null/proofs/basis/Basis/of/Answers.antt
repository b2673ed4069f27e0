use Rattle.std.proofs.Common.{◌≡◌, ◌+◌, ◌^◌, fold, sym, subst₂, ◌∙◌}
use Rattle.std.proofs.lemmas.Bool.{eqb-true, eqb-false}
use Rattle.mr_model.proofs.SetLaws.{member-below}
use Rattle.mr_model.proofs.Loops.{IsRest-turn}
use Rattle.mr_null.specs.Elimination.{step}
use Rattle.mr_null.proofs.Progress.{IsProgress, IsProgress-start, turn-dropped, turn-kept, IsProgress-end, marked, none-or}
use Rattle.mr_null.proofs.basis.Basis.of.Goals as goal

pub loop-symbol-init : goal.loop-symbol-init
loop-symbol-init c = (
  tt,
  tt,
  (
    0,
    subst₂ (λ s ps. IsProgress c.args.matrix.now c.args.set 0 s 0 ps)
        (sym (c.into_iter-symbol-iterator.ensures.into_iter_gives ∙ c.symbols-symbol-items.ensures.all)) (sym c.new-pivots.ensures) (IsProgress-start c.args.matrix.now c.args.set),
  ),
)

pub row-requires : goal.row-requires
row-requires c =
    let turn = IsRest-turn _ _ _ _ _ c.loop-symbol.invariant.2.1.to_come c.in-Some.ensures.steps in
    member-below _ _ _ c.requires turn.member

pub loop-symbol-preserved-then-not-is_empty : goal.loop-symbol-preserved-then-not-is_empty
loop-symbol-preserved-then-not-is_empty c =
    let before = c.loop-symbol.invariant.2.1 in
    let turn = IsRest-turn _ _ _ _ _ before.to_come c.in-Some.ensures.steps in
    let rest : c.reduced-rest.result ≡ fold step (marked c.args.matrix.now c.in-Some.symbol) c.loop-symbol.pivots.items =
    c.reduced-rest.ensures ∙ (λ j. fold step (record { sum = c.row.ensures j; members = (c.with.ensures ∙ none-or (2 ^ c.in-Some.symbol)) j }) (c.deref.ensures.0 j)) in (
      tt,
      tt,
      (
        c.in-Some.symbol + 1,
        subst₂ (λ k ps. IsProgress c.args.matrix.now c.args.set (c.in-Some.symbol + 1) c.next.new.self k ps)
            (sym c.with-kept.ensures) (sym c.push.ensures.items)
            (turn-kept c.args.matrix.now c.args.set _ _ _ _ _ c.lowest.result c.loop-symbol.pivots.items c.reduced-rest.result before turn rest
            (eqb-false _ _ (sym c.is_empty.ensures ∙ c.if-not-is_empty.true)) c.lowest.ensures.member),
      ),
    )

pub loop-symbol-preserved : goal.loop-symbol-preserved
loop-symbol-preserved c =
    let before = c.loop-symbol.invariant.2.1 in
    let turn = IsRest-turn _ _ _ _ _ before.to_come c.in-Some.ensures.steps in
    let rest : c.reduced-rest.result ≡ fold step (marked c.args.matrix.now c.in-Some.symbol) c.loop-symbol.pivots.items =
    c.reduced-rest.ensures ∙ (λ j. fold step (record { sum = c.row.ensures j; members = (c.with.ensures ∙ none-or (2 ^ c.in-Some.symbol)) j }) (c.deref.ensures.0 j)) in (
      tt,
      tt,
      (
        c.in-Some.symbol + 1,
        turn-dropped c.args.matrix.now c.args.set _ _ _ _ _ c.loop-symbol.pivots.items c.reduced-rest.result before turn rest (eqb-true _ _ (sym c.is_empty.ensures ∙ c.if-not-is_empty.false)),
      ),
    )

pub invariant_of-result : goal.invariant_of-result
invariant_of-result c =
    let done = IsProgress-end c.args.matrix.now _ _ _ _ _ c.loop-symbol.invariant.2.1 c.in-None.ensures.steps.0 in
    record { symbols = c.requires; small = c.symbols-symbol-items.ensures.below_128; kept_is = done.1; elimination = done.0 }
