use Rattle.std.proofs.Common.{refl, ap, sym, subst, ◌∙◌, ◌++◌, ◌∷◌, [], ◌+◌}
use Rattle.std.specs.Fmt.{decimal}
use Rattle.std.proofs.lemmas.List.{append_assoc}
use Rattle.mr_plan.proofs.TextLaws.{IsAppending, IsAppending-start, IsAppending-turn, IsAppending-end, IsAppending-room}
use Rattle.mr_plan.proofs.lines.append_members.Goals as goal

pub loop-symbol-init : goal.loop-symbol-init
loop-symbol-init c = (
  tt,
  tt,
  (
    0,
    subst (λ s. IsAppending c.args.line.now.items c.args.set 0 s c.args.line.now.items)
        (sym (c.into_iter-symbol-iterator.ensures.into_iter_gives ∙ c.symbols-symbol-items.ensures.all))
        (IsAppending-start c.args.line.now.items c.args.line.now.items c.args.set refl),
  ),
)

pub loop-symbol-preserved : goal.loop-symbol-preserved
loop-symbol-preserved c = (
  tt,
  tt,
  (
    c.in-Some.symbol + 1,
    IsAppending-turn c.args.line.now.items c.args.set c.loop-symbol.invariant.2.0 c.loop-symbol.symbol-iterator c.in-Some.symbol c.next.new.self
        c.loop-symbol.line.items c.append_number.new.line.items c.loop-symbol.invariant.2.1 c.in-Some.ensures.steps
        (c.append_number.ensures.all ∙ ap (λ xs. xs ++ decimal c.in-Some.symbol) c.push.ensures.items ∙ append_assoc c.loop-symbol.line.items (32 ∷ []) (decimal c.in-Some.symbol)),
  ),
)

pub returns-clause-all : goal.returns-clause-all
returns-clause-all c =
    IsAppending-end c.args.line.now.items c.args.set c.loop-symbol.invariant.2.0 c.loop-symbol.symbol-iterator c.loop-symbol.line.items c.loop-symbol.invariant.2.1 c.in-None.ensures.steps.0

pub returns-clause-room : goal.returns-clause-room
returns-clause-room c =
    IsAppending-room c.args.line.now.items c.args.set c.loop-symbol.invariant.2.0 c.loop-symbol.symbol-iterator c.loop-symbol.line.items c.loop-symbol.invariant.2.1
