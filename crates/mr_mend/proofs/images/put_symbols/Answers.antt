use Rattle.std.proofs.Common.{rules, ◌+◌, ◌*◌, ◌≤◌, length, arith, ◌∙◌, ap}
use Rattle.mr_image.specs.Images.{place}
use Rattle.std.proofs.lemmas.Nat.{row_fits}
use Rattle.mr_mend.proofs.Lists.{symbol-in}
use Rattle.mr_mend.proofs.Places.{is_put}
use Rattle.mr_mend.proofs.Putting.{put-turn, copied_part}
use Rattle.mr_mend.proofs.images.put_symbols.Goals as goal

pub slice_bounds-copy_from_slice-end-in-loop-k : goal.slice_bounds-copy_from_slice-end-in-loop-k
slice_bounds-copy_from_slice-end-in-loop-k c =
    let h : c.loop-k.k * c.bytes-size.result + c.bytes-size.result ≤ length c.args.symbols.now =
    omega (arith, row_fits c.loop-k.k c.bytes-size.result (length c.args.recipes.now) c.args.head.now.symbol_bytes (omega arith) (omega arith)) in
    search rules

pub loop-k-preserved : goal.loop-k-preserved
loop-k-preserved c =
    put-turn c.args.head.now c.args.recipes.now c.args.stripe c.args.symbols.now c.args.image.now c.loop-k.k c.index-recipes-k.result
    c.copy_from_slice.new.self c.loop-k.image _ c.requires.in_range c.requires.upwards (omega arith) c.index-recipes-k.is c.loop-k.invariant
    (is_put c.args.head.now c.args.stripe c.index-recipes-k.result.symbol c.place-at.result _ c.copy_from_slice.new.self c.loop-k.image
    c.requires.stripe (symbol-in c.args.head.now c.args.recipes.now c.loop-k.k c.index-recipes-k.result c.requires.in_range (omega arith) c.index-recipes-k.is) (omega arith)
    (c.place-at.ensures.place ∙ ap (place c.args.head.now c.args.stripe) c.symbol.ensures) (omega arith) (omega arith))
    (copied_part c.args.head.now c.loop-k.k c.bytes-size.result _ c.args.symbols.now c.copy_from_slice.new.self (omega arith) (omega arith) c.copy_from_slice.ensures.after)
