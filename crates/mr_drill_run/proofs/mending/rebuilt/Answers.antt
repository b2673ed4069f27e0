use Rattle.std.proofs.Common.{◌∙◌, Some, ap, subst}
use Rattle.mr_ready.specs.Orders.{OrderParts, parts_of_order}
use Rattle.mr_ready.specs.Replying.{AreLawful}
use Rattle.mr_drill_run.proofs.mending.rebuilt.Goals as goal

pub returns-in-Ok-carried-clause-replies : goal.returns-in-Ok-carried-clause-replies
returns-in-Ok-carried-clause-replies g c =
    subst (λ (o : OrderParts). AreLawful o (Some c.args.image.items) c.in-Ok-carried.made.replies.items) (ap parts_of_order c.in-Ok.ensures.order)
    (subst (λ told. AreLawful (parts_of_order c.in-Ok.ready.order) told c.in-Ok-carried.made.replies.items) (c.in-Ok.ensures.image ∙ ap Some c.in_ok-files.ensures)
    c.in-Ok-carried.ensures.replies)
