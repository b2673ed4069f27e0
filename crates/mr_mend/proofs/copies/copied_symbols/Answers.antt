use Rattle.std.proofs.Common.{◌≡◌, ◌^◌, ◌∙◌, ap, bit_or, arith}
use Rattle.mr_mend.specs.Mending.{has_recipe}
use Rattle.mr_mend.proofs.CopySets.{copied-none, copied-with, copied-without, copied-whole, has_recipe-any}
use Rattle.mr_mend.proofs.copies.copied_symbols.Goals as goal
use Rattle.mr_mend.proofs.copies.copied_symbols.Goals.{then-not-is_rebuilt, else-not-is_rebuilt}

pub loop-symbol-init : goal.loop-symbol-init
loop-symbol-init c = copied-none c.args.recipes.now

pub loop-symbol-preserved : goal.loop-symbol-preserved
loop-symbol-preserved c =
    let tested : c.is_rebuilt.result ≡ has_recipe c.args.recipes.now c.loop-symbol.symbol = c.is_rebuilt.ensures ∙ has_recipe-any c.args.recipes.now c.loop-symbol.symbol in
    elim c.if-not-is_rebuilt.branch [
      | then-not-is_rebuilt w ↦ w.copied-is ∙ w.with-copied.ensures ∙ ap (λ x. bit_or x (2 ^ c.loop-symbol.symbol)) c.loop-symbol.invariant ∙ copied-with c.args.recipes.now c.loop-symbol.symbol c.is_rebuilt.result tested w.if-not-is_rebuilt.true
      | else-not-is_rebuilt w ↦ w.copied-is ∙ c.loop-symbol.invariant ∙ copied-without c.args.recipes.now c.loop-symbol.symbol c.is_rebuilt.result tested w.if-not-is_rebuilt.false
    ]

pub returns : goal.returns
returns c = c.loop-symbol.invariant ∙ copied-whole c.args.head.now c.args.recipes.now c.loop-symbol.symbol (omega arith)
