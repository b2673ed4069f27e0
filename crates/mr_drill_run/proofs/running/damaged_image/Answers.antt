use Rattle.std.proofs.Common.{rules, ◌≡◌, ◌∙◌, ap, length}
use Rattle.mr_encode.specs.Data.{columns_of}
use Rattle.mr_image.specs.Heads.{file_bytes}
use Rattle.mr_drill_run.proofs.RunLaws.{length-image, written-back}
use Rattle.mr_drill_run.proofs.running.damaged_image.Goals as goal

pub damage-requires : goal.damage-requires
damage-requires g c =
    let long : length c.in_ok-image.image.items ≡ file_bytes c.args.head.now =
    ap length c.in_ok-image.ensures ∙ length-image c.args.head.now c.args.code.now (columns_of c.args.head.now c.args.code.now.columns c.args.payload.items) in
    search rules

pub returns-clause-long : goal.returns-clause-long
returns-clause-long g c =
    written-back c.in_ok-image.image.len c.damage.new.image c.in_ok-image.image.items (c.damage.auto.image ∙ c.deref_mut.ensures.len)
    ∙ c.damage.auto.image ∙ ap length c.deref_mut.ensures.value ∙ ap length c.in_ok-image.ensures
    ∙ length-image c.args.head.now c.args.code.now (columns_of c.args.head.now c.args.code.now.columns c.args.payload.items)
