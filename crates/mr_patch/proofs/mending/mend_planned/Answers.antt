use Rattle.std.proofs.Common.{◌*◌, length, sym, ap, ◌∙◌}
use Rattle.std.proofs.lemmas.List.{length-take-le}
use Rattle.mr_patch.proofs.SlotLaws.{slots-fit, slots-are, slots-put}
use Rattle.mr_patch.proofs.mending.mend_planned.Goals as goal

pub slice_bounds-lost-end : goal.slice_bounds-lost-end
slice_bounds-lost-end g c =
    slots-fit c.args.patching.now.damage.head.now c.args.planned.now.plan.now c.requires.plan c.recipes.result.now c.recipes.ensures.all c.bytes-size.result
    (length c.args.room.now) c.split_at_mut-buf.result.1.now c.bytes-size.ensures.number c.requires.room c.split_at_mut-buf.ensures.back_len

pub slice_bounds-lost-end-2 : goal.slice_bounds-lost-end-2
slice_bounds-lost-end-2 g c =
    sym (length-take-le (length c.recipes.result.now * c.bytes-size.result) c.split_at_mut-buf.result.1.now
    (slots-fit c.args.patching.now.damage.head.now c.args.planned.now.plan.now c.requires.plan c.recipes.result.now c.recipes.ensures.all c.bytes-size.result
    (length c.args.room.now) c.split_at_mut-buf.result.1.now c.bytes-size.ensures.number c.requires.room c.split_at_mut-buf.ensures.back_len))

pub mend_stripe-requires-clause-lost : goal.mend_stripe-requires-clause-lost
mend_stripe-requires-clause-lost g c =
    slots-are c.args.patching.now.damage.head.now c.args.planned.now.plan.now c.requires.plan c.recipes.result.now c.recipes.ensures.all c.bytes-size.result
    c.split_at_mut-buf.result.1.now c.bytes-size.ensures.number
    (slots-fit c.args.patching.now.damage.head.now c.args.planned.now.plan.now c.requires.plan c.recipes.result.now c.recipes.ensures.all c.bytes-size.result
    (length c.args.room.now) c.split_at_mut-buf.result.1.now c.bytes-size.ensures.number c.requires.room c.split_at_mut-buf.ensures.back_len)

pub put_symbols-requires-clause-symbols : goal.put_symbols-requires-clause-symbols
put_symbols-requires-clause-symbols g c =
    c.mend_stripe.auto.lost
    ∙ slots-are c.args.patching.now.damage.head.now c.args.planned.now.plan.now c.requires.plan c.recipes.result.now c.recipes.ensures.all c.bytes-size.result
    c.split_at_mut-buf.result.1.now c.bytes-size.ensures.number
    (slots-fit c.args.patching.now.damage.head.now c.args.planned.now.plan.now c.requires.plan c.recipes.result.now c.recipes.ensures.all c.bytes-size.result
    (length c.args.room.now) c.split_at_mut-buf.result.1.now c.bytes-size.ensures.number c.requires.room c.split_at_mut-buf.ensures.back_len)
    ∙ sym (ap (λ rs. length rs * c.args.patching.now.damage.head.now.symbol_bytes) c.recipes-in-Ok.ensures.all)

pub returns-in-Ok-clause-mended : goal.returns-in-Ok-clause-mended
returns-in-Ok-clause-mended g c =
    slots-put c.args.patching.now.damage.head.now c.args.planned.now.plan.now c.requires.plan c.recipes-in-Ok.result.now c.recipes-in-Ok.ensures.all
    c.args.planned.now.stripe (g.E.Eye.sight c.args.eye.now).bytes c.mend_stripe.new.lost c.args.image.now c.put_symbols.new.image c.in-Ok.ensures.mended c.put_symbols.ensures
