use Rattle.std.proofs.Common.{◌≡◌, ◌∙◌, ◌++◌, ◌∷◌, [], List, All, Any, Some, Vec, ap, arith, length, map, refl, subst, sym}
use Rattle.std.specs.Prelude.{option_to_list}
use Rattle.std.specs.Vec.Iter.{into_iter_items}
use Rattle.mr_board.specs.Boards.{IsBoardOf}
use Rattle.mr_board.specs.declared.board.Board.{Board}
use Rattle.mr_io.specs.Counts.{Rose}
use Rattle.mr_io.specs.Growth.{TakesWithin, taken_by}
use Rattle.mr_mend.specs.Mending.{mended_file}
use Rattle.mr_plan.specs.PlanLists.{recipes_at}
use Rattle.mr_ready.specs.Crews.{eyes_of}
use Rattle.mr_ready.specs.Lent.{told_by}
use Rattle.mr_ready.specs.Orders.{parts_of_order}
use Rattle.mr_ready.specs.Reads.{least_reads, most_reads}
use Rattle.mr_ready.specs.Replying.{AreLawful}
use Rattle.mr_ready.proofs.DeskLaws.{rejoined-all}
use Rattle.mr_ready.proofs.FinalLaws.{any-left, any-right, board-for, collected, copier-image, copier-told, err-of, final-duties, final-quiet, final-took, image-told, ok-of, servers-image, servers-told}
use Rattle.mr_ready.proofs.LawfulLaws.{final-replies}
use Rattle.mr_ready.proofs.reading.read_image.Goals as goal

pub finish-requires-clause-board : goal.finish-requires-clause-board
finish-requires-clause-board g c =
    board-for c.args.crew.board c.mend_beside-desk.result.0.board c.args.order.now.head c.args.order.now.plans (told_by g.E.Eye.sight (eyes_of c.args.crew)) c.mend_beside-desk.ensures.board c.requires.crew.board

pub finish-requires-clause-seen : goal.finish-requires-clause-seen
finish-requires-clause-seen g c =
    (ok-of c.mend_beside-desk.result.1 _ c.in-Ok.is c.mend_beside-desk.ensures.seen)

pub finish-requires-clause-server : goal.finish-requires-clause-server
finish-requires-clause-server g c =
    servers-image g.E.Eye.sight g.E.Eye.faults (parts_of_order c.args.order.now) (told_by g.E.Eye.sight (eyes_of c.args.crew)) c.args.crew.workers.items (into_iter_items c.args.crew.rest) c.requires.eyes (option_to_list c.mend_beside-desk.result.0.server) c.mend_beside-desk.result.0.copier c.mend_beside-desk.ensures.others c.args.order.now.head c.requires.fits

pub finish-requires-clause-copier : goal.finish-requires-clause-copier
finish-requires-clause-copier g c =
    copier-image g.E.Eye.sight g.E.Eye.faults (parts_of_order c.args.order.now) (told_by g.E.Eye.sight (eyes_of c.args.crew)) c.args.crew.workers.items (into_iter_items c.args.crew.rest) c.requires.eyes (option_to_list c.mend_beside-desk.result.0.server) c.mend_beside-desk.result.0.copier c.mend_beside-desk.ensures.others c.args.order.now.head c.requires.fits

pub finish-requires-clause-buffers : goal.finish-requires-clause-buffers
finish-requires-clause-buffers g c =
    record { image = c.mend_beside-desk.ensures.image; replies = ap length (rejoined-all c.args.buffers.replies.len c.mend_beside-desk.new.replies c.args.buffers.replies.items (c.mend_beside-desk.auto.replies ∙ c.as_mut_slice.ensures.len)) ∙ c.mend_beside-desk.auto.replies ∙ ap length c.as_mut_slice.ensures.value ∙ c.requires.buffers.replies; line = c.requires.buffers.line }

pub returns-in-Ok-finish-clause-duties : goal.returns-in-Ok-finish-clause-duties
returns-in-Ok-finish-clause-duties g c =
    ap (map (λ eye. (g.E.Eye.sight eye).duty)) (collected c.collect.result.items c.finish.new.desk.eyes.items c.mend_beside-desk.result.0.eyes.items (option_to_list c.finish.new.desk.server) c.finish.new.desk.copier c.collect.ensures (ap (λ (v : Vec _ _). v.items) c.finish.ensures.eyes)) ∙ final-duties g.E.Eye.sight g.E.Eye.faults (parts_of_order c.args.order.now) (told_by g.E.Eye.sight (eyes_of c.args.crew)) c.args.crew.workers.items (into_iter_items c.args.crew.rest) c.requires.eyes (omega (arith, c.args.crew.workers.ok.0, c.requires.crew.count))
    c.mend_beside-desk.result.0.eyes.items (option_to_list c.mend_beside-desk.result.0.server) (option_to_list c.finish.new.desk.server) c.mend_beside-desk.result.0.copier c.finish.new.desk.copier c.mend_beside-desk.ensures.others c.mend_beside-desk.ensures.server
    c.mend_beside-desk.ensures.duties c.finish.ensures.server c.finish.ensures.copier

pub returns-in-Err-finish-clause-duties : goal.returns-in-Err-finish-clause-duties
returns-in-Err-finish-clause-duties g c =
    ap (map (λ eye. (g.E.Eye.sight eye).duty)) (collected c.collect-in-Err-finish.result.items c.finish.new.desk.eyes.items c.mend_beside-desk.result.0.eyes.items (option_to_list c.finish.new.desk.server) c.finish.new.desk.copier c.collect-in-Err-finish.ensures (ap (λ (v : Vec _ _). v.items) c.finish.ensures.eyes)) ∙ final-duties g.E.Eye.sight g.E.Eye.faults (parts_of_order c.args.order.now) (told_by g.E.Eye.sight (eyes_of c.args.crew)) c.args.crew.workers.items (into_iter_items c.args.crew.rest) c.requires.eyes (omega (arith, c.args.crew.workers.ok.0, c.requires.crew.count))
    c.mend_beside-desk.result.0.eyes.items (option_to_list c.mend_beside-desk.result.0.server) (option_to_list c.finish.new.desk.server) c.mend_beside-desk.result.0.copier c.finish.new.desk.copier c.mend_beside-desk.ensures.others c.mend_beside-desk.ensures.server
    c.mend_beside-desk.ensures.duties c.finish.ensures.server c.finish.ensures.copier

pub returns-in-Err-clause-duties : goal.returns-in-Err-clause-duties
returns-in-Err-clause-duties g c =
    ap (map (λ eye. (g.E.Eye.sight eye).duty)) (collected c.collect-in-Err.result.items c.mend_beside-desk.result.0.eyes.items c.mend_beside-desk.result.0.eyes.items (option_to_list c.mend_beside-desk.result.0.server) c.mend_beside-desk.result.0.copier c.collect-in-Err.ensures refl) ∙ final-duties g.E.Eye.sight g.E.Eye.faults (parts_of_order c.args.order.now) (told_by g.E.Eye.sight (eyes_of c.args.crew)) c.args.crew.workers.items (into_iter_items c.args.crew.rest) c.requires.eyes (omega (arith, c.args.crew.workers.ok.0, c.requires.crew.count))
    c.mend_beside-desk.result.0.eyes.items (option_to_list c.mend_beside-desk.result.0.server) (option_to_list c.mend_beside-desk.result.0.server) c.mend_beside-desk.result.0.copier c.mend_beside-desk.result.0.copier c.mend_beside-desk.ensures.others c.mend_beside-desk.ensures.server
    c.mend_beside-desk.ensures.duties refl refl

pub returns-in-Ok-finish-clause-took : goal.returns-in-Ok-finish-clause-took
returns-in-Ok-finish-clause-took g c =
    subst (λ (xs : List _). TakesWithin (taken_by (map g.E.Eye.sight xs)) (least_reads (parts_of_order c.args.order.now)) (most_reads (parts_of_order c.args.order.now))) (sym (collected c.collect.result.items c.finish.new.desk.eyes.items c.mend_beside-desk.result.0.eyes.items (option_to_list c.finish.new.desk.server) c.finish.new.desk.copier c.collect.ensures (ap (λ (v : Vec _ _). v.items) c.finish.ensures.eyes)))
    (final-took g.E.Eye.sight g.E.Eye.faults (parts_of_order c.args.order.now) (told_by g.E.Eye.sight (eyes_of c.args.crew)) c.args.crew.workers.items (into_iter_items c.args.crew.rest) c.requires.eyes (omega (arith, c.args.crew.workers.ok.0, c.requires.crew.count))
    c.mend_beside-desk.result.0.eyes.items (option_to_list c.mend_beside-desk.result.0.server) (option_to_list c.finish.new.desk.server) c.mend_beside-desk.result.0.copier c.finish.new.desk.copier c.mend_beside-desk.ensures.others c.mend_beside-desk.ensures.server
    c.mend_beside-desk.ensures.duties c.finish.ensures.server c.finish.ensures.copier
    c.in-Ok-finish.ensures.server_took c.in-Ok-finish.ensures.copier_took (ok-of c.mend_beside-desk.result.1 _ c.in-Ok.is c.mend_beside-desk.ensures.took))

pub returns-in-Ok-finish-clause-quiet : goal.returns-in-Ok-finish-clause-quiet
returns-in-Ok-finish-clause-quiet g c =
    subst (All (λ eye. g.E.Eye.faults eye ≡ 0)) (sym (collected c.collect.result.items c.finish.new.desk.eyes.items c.mend_beside-desk.result.0.eyes.items (option_to_list c.finish.new.desk.server) c.finish.new.desk.copier c.collect.ensures (ap (λ (v : Vec _ _). v.items) c.finish.ensures.eyes)))
    (final-quiet g.E.Eye.sight g.E.Eye.faults (parts_of_order c.args.order.now) (told_by g.E.Eye.sight (eyes_of c.args.crew)) c.args.crew.workers.items (into_iter_items c.args.crew.rest) c.requires.eyes (omega (arith, c.args.crew.workers.ok.0, c.requires.crew.count))
    c.mend_beside-desk.result.0.eyes.items (option_to_list c.mend_beside-desk.result.0.server) (option_to_list c.finish.new.desk.server) c.mend_beside-desk.result.0.copier c.finish.new.desk.copier c.mend_beside-desk.ensures.others c.mend_beside-desk.ensures.server
    c.mend_beside-desk.ensures.duties c.finish.ensures.server c.finish.ensures.copier
    c.in-Ok-finish.ensures.server_took c.in-Ok-finish.ensures.copier_took (ok-of c.mend_beside-desk.result.1 _ c.in-Ok.is c.mend_beside-desk.ensures.quiet))

pub returns-in-Ok-finish-clause-image : goal.returns-in-Ok-finish-clause-image
returns-in-Ok-finish-clause-image g c =
    image-told (λ bytes. c.finish.new.buffers.image.items ≡ mended_file c.args.order.now.head (recipes_at c.args.order.now.plans) bytes) (λ bytes. IsBoardOf c.mend_beside-desk.result.0.board c.args.order.now.head c.args.order.now.plans (Some bytes)) (told_by g.E.Eye.sight (eyes_of c.args.crew)) (g.E.Eye.sight c.mend_beside-desk.result.0.copier).bytes (copier-told g.E.Eye.sight g.E.Eye.faults (parts_of_order c.args.order.now) (told_by g.E.Eye.sight (eyes_of c.args.crew)) c.args.crew.workers.items (into_iter_items c.args.crew.rest) c.requires.eyes (option_to_list c.mend_beside-desk.result.0.server) c.mend_beside-desk.result.0.copier c.mend_beside-desk.ensures.others)
    (λ bytes is. subst (λ (b : Board). IsBoardOf b c.args.order.now.head c.args.order.now.plans (Some bytes)) (sym c.mend_beside-desk.ensures.board) (subst (λ o. IsBoardOf c.args.crew.board c.args.order.now.head c.args.order.now.plans o) is c.requires.crew.board))
    c.in-Ok-finish.ensures.image

pub returns-in-Ok-finish-clause-replies : goal.returns-in-Ok-finish-clause-replies
returns-in-Ok-finish-clause-replies g c =
    final-replies g.E.Eye.sight (parts_of_order c.args.order.now) (told_by g.E.Eye.sight (eyes_of c.args.crew)) c.mend_beside-desk.result.0.server c.mend_beside-desk.result.0.board _ c.finish.new.buffers.replies.items
    (subst (λ (b : Board). IsBoardOf b c.args.order.now.head c.args.order.now.plans (told_by g.E.Eye.sight (eyes_of c.args.crew))) (sym c.mend_beside-desk.ensures.board) c.requires.crew.board) c.mend_beside-desk.ensures.server (servers-told g.E.Eye.sight g.E.Eye.faults (parts_of_order c.args.order.now) (told_by g.E.Eye.sight (eyes_of c.args.crew)) c.args.crew.workers.items (into_iter_items c.args.crew.rest) c.requires.eyes (option_to_list c.mend_beside-desk.result.0.server) c.mend_beside-desk.result.0.copier c.mend_beside-desk.ensures.others) c.requires.fits c.requires.asks
    (λ live. subst (AreLawful (parts_of_order c.args.order.now) (told_by g.E.Eye.sight (eyes_of c.args.crew))) (sym (rejoined-all c.args.buffers.replies.len c.mend_beside-desk.new.replies c.args.buffers.replies.items (c.mend_beside-desk.auto.replies ∙ c.as_mut_slice.ensures.len))) ((ok-of c.mend_beside-desk.result.1 _ c.in-Ok.is c.mend_beside-desk.ensures.replies) live)) c.in-Ok-finish.ensures.replies

pub returns-in-Err-finish-clause-cause : goal.returns-in-Err-finish-clause-cause
returns-in-Err-finish-clause-cause g c =
    subst (Any (λ eye. Rose 0 (g.E.Eye.faults eye))) (sym (collected c.collect-in-Err-finish.result.items c.finish.new.desk.eyes.items c.mend_beside-desk.result.0.eyes.items (option_to_list c.finish.new.desk.server) c.finish.new.desk.copier c.collect-in-Err-finish.ensures (ap (λ (v : Vec _ _). v.items) c.finish.ensures.eyes))) (any-right (λ eye. Rose 0 (g.E.Eye.faults eye)) c.mend_beside-desk.result.0.eyes.items (option_to_list c.finish.new.desk.server ++ c.finish.new.desk.copier ∷ []) c.in-Err-finish.ensures.cause)

pub returns-in-Err-clause-cause : goal.returns-in-Err-clause-cause
returns-in-Err-clause-cause g c =
    subst (Any (λ eye. Rose 0 (g.E.Eye.faults eye))) (sym (collected c.collect-in-Err.result.items c.mend_beside-desk.result.0.eyes.items c.mend_beside-desk.result.0.eyes.items (option_to_list c.mend_beside-desk.result.0.server) c.mend_beside-desk.result.0.copier c.collect-in-Err.ensures refl)) (any-left (λ eye. Rose 0 (g.E.Eye.faults eye)) c.mend_beside-desk.result.0.eyes.items (option_to_list c.mend_beside-desk.result.0.server ++ c.mend_beside-desk.result.0.copier ∷ []) (err-of c.mend_beside-desk.result.1 _ c.in-Err.is c.mend_beside-desk.ensures.cause))
