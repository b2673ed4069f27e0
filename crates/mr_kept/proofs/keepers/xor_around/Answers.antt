use Rattle.std.proofs.Common.{◌+◌, length, sym, ap, subst, ◌∙◌}
use Rattle.mr_model.proofs.SetLaws.{below-zero, member-below}
use Rattle.mr_model.proofs.Loops.{IsRest, IsTurn, IsRest-all, IsRest-none, IsRest-turn}
use Rattle.mr_image.specs.Images.{xor_symbols}
use Rattle.mr_image.proofs.XorLaws.{xor_symbols-none}
use Rattle.mr_encode.specs.Data.{symbols_in}
use Rattle.mr_kept.proofs.PartLaws.{around-turn}
use Rattle.mr_kept.proofs.keepers.xor_around.Goals as goal

pub loop-source-init : goal.loop-source-init
loop-source-init g c = (
  tt,
  tt,
  (
    0,
    subst (λ s. IsRest c.args.set 0 s) (sym (c.into_iter-source-iterator.ensures.into_iter_gives ∙ c.symbols-source-items.ensures.all)) (IsRest-all c.args.set),
    λ n stripe few around.
        c.fill.ensures.after (λ y same. same)
        ∙ sym (ap (xor_symbols (length c.args.symbol.now) (symbols_in (length c.args.symbol.now) n stripe)) (below-zero c.args.set)
        ∙ xor_symbols-none (length c.args.symbol.now) (symbols_in (length c.args.symbol.now) n stripe)),
  ),
)

pub symbol_around-requires : goal.symbol_around-requires
symbol_around-requires g c =
    let turn : IsTurn c.args.set c.loop-source.invariant.2.0 c.in-Some.source c.next.new.self = IsRest-turn _ _ _ _ _ c.loop-source.invariant.2.1 c.in-Some.ensures.steps in
    c.requires c.in-Some.source turn.member

pub loop-source-preserved : goal.loop-source-preserved
loop-source-preserved g c =
    let turn : IsTurn c.args.set c.loop-source.invariant.2.0 c.in-Some.source c.next.new.self = IsRest-turn _ _ _ _ _ c.loop-source.invariant.2.1 c.in-Some.ensures.steps in (
      tt,
      tt,
      (
        c.in-Some.source + 1,
        turn.rest,
        λ n stripe few around.
            around-turn (length c.args.symbol.now) n stripe c.loop-source.symbol c.symbol_around.result.now c.xor_into.new.dst c.args.set _ _ _ turn
            (member-below n c.args.set c.in-Some.source few turn.member)
            c.symbol_around.ensures.size (c.symbol_around.ensures.symbol stripe around) (c.loop-source.invariant.2.2 n stripe few around) c.xor_into.ensures,
      ),
    )

pub returns : goal.returns
returns g c n stripe few around =
    c.loop-source.invariant.2.2 n stripe few around
    ∙ ap (xor_symbols (length c.args.symbol.now) (symbols_in (length c.args.symbol.now) n stripe)) (IsRest-none _ _ _ c.loop-source.invariant.2.1 c.in-None.ensures.steps.0)
