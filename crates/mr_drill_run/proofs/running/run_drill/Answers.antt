use Rattle.std.proofs.Common.{arith, ◌≡◌, ◌∙◌, ◌%◌, ◌<◌, ℕ, List, ap, drop, length}
use Rattle.std.proofs.lemmas.Nat.{mod_below}
use Rattle.mr_drill.specs.Words.{after_words, digest_of}
use Rattle.mr_drill_run.specs.Drills.{bytes_from, reads_from}
use Rattle.mr_drill_run.proofs.RunParts.{behind-head, cost-is, given-below, given-data, given-determined, given-devices, given-few, given-fits, given-inside, given-mendable, given-singles, given-version, image-is, replies-is, summary-is, whole-body, whole-replies}
use Rattle.mr_drill_run.proofs.running.run_drill.Goals as goal

pub symbols_of_device-lost-requires : goal.symbols_of_device-lost-requires
symbols_of_device-lost-requires g c = omega (arith, given-devices c.head_of_drills-head.result c.code_of_drills-code.result c.head_of_drills-head.ensures.head c.code_of_drills-code.ensures, mod_below c.args.number 6 (omega arith))

pub damaged_image-requires-clause-devices : goal.damaged_image-requires-clause-devices
damaged_image-requires-clause-devices g c = (given-fits c.head_of_drills-head.result c.code_of_drills-code.result c.head_of_drills-head.ensures.head c.code_of_drills-code.ensures).devices

pub damaged_image-requires-clause-symbols : goal.damaged_image-requires-clause-symbols
damaged_image-requires-clause-symbols g c = (given-fits c.head_of_drills-head.result c.code_of_drills-code.result c.head_of_drills-head.ensures.head c.code_of_drills-code.ensures).symbols

pub damaged_image-requires-clause-version : goal.damaged_image-requires-clause-version
damaged_image-requires-clause-version g c = given-version c.head_of_drills-head.result c.code_of_drills-code.result c.head_of_drills-head.ensures.head c.code_of_drills-code.ensures

pub damaged_image-requires-clause-payload : goal.damaged_image-requires-clause-payload
damaged_image-requires-clause-payload g c =
    given-data c.head_of_drills-head.result c.code_of_drills-code.result c.head_of_drills-head.ensures.head c.code_of_drills-code.ensures c.args.number c.in_ok-drawn.drawn.payload.items
    (c.in_ok-drawn.ensures.payload ∙ ap (λ x. bytes_from x 524288) c.new-generator.ensures)

pub choose-requires-clause-fits : goal.choose-requires-clause-fits
choose-requires-clause-fits g c κs within = given-fits c.head_of_drills-head.result c.code_of_drills-code.result c.head_of_drills-head.ensures.head c.code_of_drills-code.ensures

pub choose-requires-clause-version : goal.choose-requires-clause-version
choose-requires-clause-version g c κs within = given-version c.head_of_drills-head.result c.code_of_drills-code.result c.head_of_drills-head.ensures.head c.code_of_drills-code.ensures

pub choose-requires-clause-lost : goal.choose-requires-clause-lost
choose-requires-clause-lost g c κs within = given-below c.head_of_drills-head.result c.code_of_drills-code.result c.head_of_drills-head.ensures.head c.code_of_drills-code.ensures c.args.number c.symbols_of_device-lost.result c.symbols_of_device-lost.ensures

pub choose-requires-clause-determined : goal.choose-requires-clause-determined
choose-requires-clause-determined g c κs within = given-determined c.head_of_drills-head.result c.code_of_drills-code.result c.head_of_drills-head.ensures.head c.code_of_drills-code.ensures c.args.number c.symbols_of_device-lost.result c.symbols_of_device-lost.ensures

pub rebuilt-requires-clause-plans : goal.rebuilt-requires-clause-plans
rebuilt-requires-clause-plans g c κs within = given-mendable c.head_of_drills-head.result c.code_of_drills-code.result c.head_of_drills-head.ensures.head c.code_of_drills-code.ensures c.head_of_drills-head.ensures.code c.args.number c.symbols_of_device-lost.result c.symbols_of_device-lost.ensures c.in_ok-choice.choice.plans c.in_ok-choice.ensures.plans

pub rebuilt-requires-clause-singles : goal.rebuilt-requires-clause-singles
rebuilt-requires-clause-singles g c κs within =
    given-singles c.head_of_drills-head.result c.code_of_drills-code.result c.head_of_drills-head.ensures.head c.code_of_drills-code.ensures c.head_of_drills-head.ensures.code c.args.number c.symbols_of_device-lost.result c.symbols_of_device-lost.ensures c.in_ok-choice.choice.plans c.in_ok-choice.ensures.plans
    c.in_ok-choice.choice.singles.items c.in_ok-choice.ensures.singles

pub rebuilt-requires-clause-asks : goal.rebuilt-requires-clause-asks
rebuilt-requires-clause-asks g c κs within =
    given-inside c.head_of_drills-head.result c.code_of_drills-code.result c.head_of_drills-head.ensures.head c.code_of_drills-code.ensures c.args.number c.in_ok-drawn.drawn.asks.items
    (c.in_ok-drawn.ensures.asks ∙ ap (λ x. reads_from (after_words x 524288) 64) c.new-generator.ensures)

pub rebuilt-requires-clause-few : goal.rebuilt-requires-clause-few
rebuilt-requires-clause-few g c κs within =
    let few : length c.in_ok-drawn.drawn.asks.items ≡ 64 = given-few c.head_of_drills-head.result c.code_of_drills-code.result c.head_of_drills-head.ensures.head c.code_of_drills-code.ensures c.args.number c.in_ok-drawn.drawn.asks.items
    (c.in_ok-drawn.ensures.asks ∙ ap (λ x. reads_from (after_words x 524288) 64) c.new-generator.ensures) in
    omega arith

pub digest-requires : goal.digest-requires
digest-requires g c =
    ap (λ (xs : List ℕ). length xs % 8) (behind-head c.deref.result.now)
    ∙ whole-body c.head_of_drills-head.result c.code_of_drills-code.result c.head_of_drills-head.ensures.head c.code_of_drills-code.ensures c.deref.result.now
    (ap length c.deref.ensures.value ∙ c.in_ok-made.ensures.buffers.image)

pub digest-requires-2 : goal.digest-requires-2
digest-requires-2 g c =
    whole-replies c.head_of_drills-head.result c.code_of_drills-code.result c.head_of_drills-head.ensures.head c.code_of_drills-code.ensures c.args.number c.in_ok-drawn.drawn.asks.items c.deref-2.result.now
    (c.in_ok-drawn.ensures.asks ∙ ap (λ x. reads_from (after_words x 524288) 64) c.new-generator.ensures)
    (ap length c.deref-2.ensures.value ∙ c.in_ok-made.ensures.buffers.replies)

pub returns : goal.returns
returns g c =
    summary-is c.args.number c.in_ok-choice.choice.cost c.digest.result c.digest-2.result
    (cost-is c.head_of_drills-head.result c.code_of_drills-code.result c.head_of_drills-head.ensures.head c.code_of_drills-code.ensures c.head_of_drills-head.ensures.code c.args.number c.symbols_of_device-lost.result c.symbols_of_device-lost.ensures c.in_ok-choice.choice.plans c.in_ok-choice.ensures.plans c.in_ok-choice.choice.cost c.in_ok-choice.ensures.cost)
    (c.digest.ensures ∙ ap digest_of (behind-head c.deref.result.now ∙ ap (drop 32) c.deref.ensures.value
    ∙ image-is c.head_of_drills-head.result c.code_of_drills-code.result c.head_of_drills-head.ensures.head c.code_of_drills-code.ensures c.head_of_drills-head.ensures.code c.args.number c.symbols_of_device-lost.result c.symbols_of_device-lost.ensures c.in_ok-choice.choice.plans c.in_ok-choice.ensures.plans
    c.head_of_drills-head.ensures.limits c.in_ok-drawn.drawn.payload.items c.in_ok-image.image.items (c.in_ok-drawn.ensures.payload ∙ ap (λ x. bytes_from x 524288) c.new-generator.ensures)
    c.in_ok-image.ensures.lost c.in_ok-made.made.image.items c.in_ok-made.ensures.image))
    (c.digest-2.ensures ∙ ap digest_of (c.deref-2.ensures.value
    ∙ replies-is c.head_of_drills-head.result c.code_of_drills-code.result c.head_of_drills-head.ensures.head c.code_of_drills-code.ensures c.head_of_drills-head.ensures.code c.args.number c.symbols_of_device-lost.result c.symbols_of_device-lost.ensures c.in_ok-choice.choice.plans c.in_ok-choice.ensures.plans
    c.head_of_drills-head.ensures.limits c.in_ok-drawn.drawn.payload.items c.in_ok-image.image.items (c.in_ok-drawn.ensures.payload ∙ ap (λ x. bytes_from x 524288) c.new-generator.ensures)
    c.in_ok-image.ensures.lost c.in_ok-choice.choice.lines.items c.in_ok-choice.choice.singles.items c.in_ok-drawn.drawn.asks.items c.in_ok-made.made.replies.items
    c.in_ok-choice.ensures.singles (c.in_ok-drawn.ensures.asks ∙ ap (λ x. reads_from (after_words x 524288) 64) c.new-generator.ensures)
    c.in_ok-made.ensures.replies c.in_ok-made.ensures.buffers.replies))
