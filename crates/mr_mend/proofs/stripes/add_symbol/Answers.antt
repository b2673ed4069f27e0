use Rattle.std.proofs.Common.{◌∙◌, arith}
use Rattle.mr_mend.proofs.Adding.{slot-added, slot-kept}
use Rattle.mr_mend.proofs.stripes.add_symbol.Goals as goal
use Rattle.mr_mend.proofs.stripes.add_symbol.Goals.{then-contains, else-contains}

pub loop-k-preserved : goal.loop-k-preserved
loop-k-preserved g c held sizes start =
    elim c.if-contains.branch [
      | then-contains w ↦ w.slots-is ∙ slot-added c.args.number c.args.symbol.now c.args.recipes.now held sizes c.loop-k.k _ c.index-recipes-k.result c.sources.result c.contains.result
          c.loop-k.slots _ c.loop-k-test.true c.index-recipes-k.is c.sources.ensures c.contains.ensures w.if-contains.true
          (omega arith) (c.loop-k.invariant held sizes start) w.xor_into.ensures
      | else-contains w ↦ w.slots-is ∙ slot-kept c.args.number c.args.symbol.now c.args.recipes.now held sizes c.loop-k.k c.index-recipes-k.result c.sources.result c.contains.result
          c.loop-k.slots c.loop-k-test.true c.index-recipes-k.is c.sources.ensures c.contains.ensures w.if-contains.false
          (c.loop-k.invariant held sizes start)
    ]
