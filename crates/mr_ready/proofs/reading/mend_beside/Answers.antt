use Rattle.std.proofs.Common.{◌≡◌, ◌∙◌, List, All, Any, ap, arith, length, map, refl, subst, sym}
use Rattle.std.specs.Prelude.{None}
use Rattle.std.specs.Vec.Iter.{into_iter_items}
use Rattle.mr_board.specs.Boards.{IsPassOf, pass_view}
use Rattle.mr_io.specs.Counts.{Rose}
use Rattle.mr_io.specs.Growth.{TakesWithin, taken_by}
use Rattle.mr_mend.specs.Workers.{CanWork}
use Rattle.mr_mend.specs.declared.workers.Worker.{Worker}
use Rattle.mr_ready.specs.Crews.{eyes_of, worker_eyes}
use Rattle.mr_ready.specs.Joining.{HasJoined}
use Rattle.mr_ready.specs.Lent.{told_by}
use Rattle.mr_ready.specs.Orders.{parts_of_order}
use Rattle.mr_ready.specs.Reads.{least_beside, most_beside}
use Rattle.mr_ready.specs.Replying.{AreAnswered, HaveSlots}
use Rattle.mr_ready.proofs.CrewLaws.{can-work}
use Rattle.mr_ready.proofs.DeskLaws.{all-idle, are-answered, duties-same, failed-at, finished-at, have-slots, none-failed, one-failed, passes-are, rejoined-all, seen-all, took-beside, worked-at}
use Rattle.mr_ready.proofs.HireLaws.{others-left, whole-none}
use Rattle.mr_ready.proofs.reading.mend_beside.Goals as goal

pub mend_and_clear-mended-requires-clause-workers : goal.mend_and_clear-mended-requires-clause-workers
mend_and_clear-mended-requires-clause-workers g c =
    λ κs within. subst (λ (xs : List (Worker _)). All (CanWork c.args.order.now.head c.args.order.now.plans c.args.order.now.singles.items c.args.order.now.asks.items g.E.Eye.sight c.args.crew.board) xs) (sym c.as_mut_slice.ensures.value)
    (can-work g.E.Eye.sight g.E.Eye.faults (parts_of_order c.args.order.now) c.args.crew.board (told_by g.E.Eye.sight (eyes_of c.args.crew)) c.args.crew.workers.items (into_iter_items c.args.crew.rest) c.requires.crew.hired c.requires.eyes c.requires.crew.board c.requires.fits c.requires.singles (omega (arith, c.args.crew.workers.ok.0, c.requires.crew.count)))

pub put_replies-requires-clause-readers : goal.put_replies-requires-clause-readers
put_replies-requires-clause-readers g c =
    λ live. subst (HaveSlots (parts_of_order c.args.order.now)) (sym (c.as_slice.ensures.value ∙ (rejoined-all c.args.crew.workers.len c.mend_and_clear-mended.new.workers c.args.crew.workers.items (c.mend_and_clear-mended.ensures.count ∙ c.as_mut_slice.ensures.len)))) (have-slots g.E.Eye.sight g.E.Eye.faults (parts_of_order c.args.order.now) c.args.crew.board (told_by g.E.Eye.sight (eyes_of c.args.crew)) c.args.crew.workers.items c.mend_and_clear-mended.new.workers (into_iter_items c.args.crew.rest) c.requires.crew.hired c.requires.eyes
    (omega (arith, c.args.crew.workers.ok.0, c.requires.crew.count)) (c.mend_and_clear-mended.ensures.count ∙ ap length c.as_mut_slice.ensures.value)
    (worked-at g.E.Eye.sight g.E.Eye.faults c.args.crew.board c.as_mut_slice.result.now c.args.crew.workers.items c.mend_and_clear-mended.new.workers c.as_mut_slice.ensures.value c.mend_and_clear-mended.ensures.worked)
    c.requires.crew.board c.requires.some
    (finished-at g.E.Eye.sight g.E.Eye.faults c.args.order.now.head c.args.order.now.plans c.args.order.now.singles.items c.args.order.now.singles.items c.args.order.now.asks.items c.args.order.now.asks.items c.as_mut_slice.result.now c.args.crew.workers.items c.mend_and_clear-mended.new.workers
    refl refl c.as_mut_slice.ensures.value c.in-Ok.ensures.finished) live)

pub leave-requires-clause-way : goal.leave-requires-clause-way
leave-requires-clause-way g c =
    record {
      pass = c.requires.crew.pass;
      idle = c.requires.crew.idle;
      whole = whole-none (pass_view c.args.crew.pass) c.requires.crew.draws;
      passes = subst (All (λ (w : Worker _). IsPassOf c.args.crew.board w.pass)) (sym (rejoined-all c.args.crew.workers.len c.mend_and_clear-mended.new.workers c.args.crew.workers.items (c.mend_and_clear-mended.ensures.count ∙ c.as_mut_slice.ensures.len))) (passes-are g.E.Eye.sight g.E.Eye.faults (parts_of_order c.args.order.now) c.args.crew.board (told_by g.E.Eye.sight (eyes_of c.args.crew)) c.args.crew.workers.items c.mend_and_clear-mended.new.workers (into_iter_items c.args.crew.rest) c.requires.crew.hired c.requires.eyes
          (omega (arith, c.args.crew.workers.ok.0, c.requires.crew.count)) (c.mend_and_clear-mended.ensures.count ∙ ap length c.as_mut_slice.ensures.value)
          (worked-at g.E.Eye.sight g.E.Eye.faults c.args.crew.board c.as_mut_slice.result.now c.args.crew.workers.items c.mend_and_clear-mended.new.workers c.as_mut_slice.ensures.value c.mend_and_clear-mended.ensures.worked));
      others = subst (All (λ (w : Worker _). (pass_view w.pass).claimed ≡ None)) (sym (rejoined-all c.args.crew.workers.len c.mend_and_clear-mended.new.workers c.args.crew.workers.items (c.mend_and_clear-mended.ensures.count ∙ c.as_mut_slice.ensures.len))) (all-idle g.E.Eye.sight g.E.Eye.faults (parts_of_order c.args.order.now) c.args.crew.board (told_by g.E.Eye.sight (eyes_of c.args.crew)) c.args.crew.workers.items c.mend_and_clear-mended.new.workers (into_iter_items c.args.crew.rest) c.requires.crew.hired c.requires.eyes
          (omega (arith, c.args.crew.workers.ok.0, c.requires.crew.count)) (c.mend_and_clear-mended.ensures.count ∙ ap length c.as_mut_slice.ensures.value)
          (worked-at g.E.Eye.sight g.E.Eye.faults c.args.crew.board c.as_mut_slice.result.now c.args.crew.workers.items c.mend_and_clear-mended.new.workers c.as_mut_slice.ensures.value c.mend_and_clear-mended.ensures.worked));
      empty = c.requires.crew.empty;
      none = c.requires.crew.none;
      room = omega (arith, c.requires.crew.room);
    }

pub leave-requires-in-Err-clause-way : goal.leave-requires-in-Err-clause-way
leave-requires-in-Err-clause-way g c =
    record {
      pass = c.requires.crew.pass;
      idle = c.requires.crew.idle;
      whole = whole-none (pass_view c.args.crew.pass) c.requires.crew.draws;
      passes = subst (All (λ (w : Worker _). IsPassOf c.args.crew.board w.pass)) (sym (rejoined-all c.args.crew.workers.len c.mend_and_clear-mended.new.workers c.args.crew.workers.items (c.mend_and_clear-mended.ensures.count ∙ c.as_mut_slice.ensures.len))) (passes-are g.E.Eye.sight g.E.Eye.faults (parts_of_order c.args.order.now) c.args.crew.board (told_by g.E.Eye.sight (eyes_of c.args.crew)) c.args.crew.workers.items c.mend_and_clear-mended.new.workers (into_iter_items c.args.crew.rest) c.requires.crew.hired c.requires.eyes
          (omega (arith, c.args.crew.workers.ok.0, c.requires.crew.count)) (c.mend_and_clear-mended.ensures.count ∙ ap length c.as_mut_slice.ensures.value)
          (worked-at g.E.Eye.sight g.E.Eye.faults c.args.crew.board c.as_mut_slice.result.now c.args.crew.workers.items c.mend_and_clear-mended.new.workers c.as_mut_slice.ensures.value c.mend_and_clear-mended.ensures.worked));
      others = subst (All (λ (w : Worker _). (pass_view w.pass).claimed ≡ None)) (sym (rejoined-all c.args.crew.workers.len c.mend_and_clear-mended.new.workers c.args.crew.workers.items (c.mend_and_clear-mended.ensures.count ∙ c.as_mut_slice.ensures.len))) (all-idle g.E.Eye.sight g.E.Eye.faults (parts_of_order c.args.order.now) c.args.crew.board (told_by g.E.Eye.sight (eyes_of c.args.crew)) c.args.crew.workers.items c.mend_and_clear-mended.new.workers (into_iter_items c.args.crew.rest) c.requires.crew.hired c.requires.eyes
          (omega (arith, c.args.crew.workers.ok.0, c.requires.crew.count)) (c.mend_and_clear-mended.ensures.count ∙ ap length c.as_mut_slice.ensures.value)
          (worked-at g.E.Eye.sight g.E.Eye.faults c.args.crew.board c.as_mut_slice.result.now c.args.crew.workers.items c.mend_and_clear-mended.new.workers c.as_mut_slice.ensures.value c.mend_and_clear-mended.ensures.worked));
      empty = c.requires.crew.empty;
      none = c.requires.crew.none;
      room = omega (arith, c.requires.crew.room);
    }

pub leave-requires-clause-rest : goal.leave-requires-clause-rest
leave-requires-clause-rest g c =
    c.args.crew.rest.rest.ok.0 ∙ others-left g.E.Eye.sight g.E.Eye.faults (told_by g.E.Eye.sight (eyes_of c.args.crew)) c.args.order.now.workers c.args.order.now.live c.args.crew.workers.items (into_iter_items c.args.crew.rest) c.requires.eyes (omega (arith, c.args.crew.workers.ok.0, c.requires.crew.count))

pub leave-requires-in-Err-clause-rest : goal.leave-requires-in-Err-clause-rest
leave-requires-in-Err-clause-rest g c =
    c.args.crew.rest.rest.ok.0 ∙ others-left g.E.Eye.sight g.E.Eye.faults (told_by g.E.Eye.sight (eyes_of c.args.crew)) c.args.order.now.workers c.args.order.now.live c.args.crew.workers.items (into_iter_items c.args.crew.rest) c.requires.eyes (omega (arith, c.args.crew.workers.ok.0, c.requires.crew.count))

pub returns-in-Ok-clause-duties : goal.returns-in-Ok-clause-duties
returns-in-Ok-clause-duties g c =
    ap (map (λ eye. (g.E.Eye.sight eye).duty)) (c.leave.ensures.eyes ∙ ap worker_eyes (rejoined-all c.args.crew.workers.len c.mend_and_clear-mended.new.workers c.args.crew.workers.items (c.mend_and_clear-mended.ensures.count ∙ c.as_mut_slice.ensures.len))) ∙ duties-same g.E.Eye.sight g.E.Eye.faults (parts_of_order c.args.order.now) c.args.crew.board (told_by g.E.Eye.sight (eyes_of c.args.crew)) c.args.crew.workers.items c.mend_and_clear-mended.new.workers (into_iter_items c.args.crew.rest) c.requires.crew.hired c.requires.eyes
    (omega (arith, c.args.crew.workers.ok.0, c.requires.crew.count)) (c.mend_and_clear-mended.ensures.count ∙ ap length c.as_mut_slice.ensures.value)
    (worked-at g.E.Eye.sight g.E.Eye.faults c.args.crew.board c.as_mut_slice.result.now c.args.crew.workers.items c.mend_and_clear-mended.new.workers c.as_mut_slice.ensures.value c.mend_and_clear-mended.ensures.worked)

pub returns-in-Err-clause-duties : goal.returns-in-Err-clause-duties
returns-in-Err-clause-duties g c =
    ap (map (λ eye. (g.E.Eye.sight eye).duty)) (c.leave-in-Err.ensures.eyes ∙ ap worker_eyes (rejoined-all c.args.crew.workers.len c.mend_and_clear-mended.new.workers c.args.crew.workers.items (c.mend_and_clear-mended.ensures.count ∙ c.as_mut_slice.ensures.len))) ∙ duties-same g.E.Eye.sight g.E.Eye.faults (parts_of_order c.args.order.now) c.args.crew.board (told_by g.E.Eye.sight (eyes_of c.args.crew)) c.args.crew.workers.items c.mend_and_clear-mended.new.workers (into_iter_items c.args.crew.rest) c.requires.crew.hired c.requires.eyes
    (omega (arith, c.args.crew.workers.ok.0, c.requires.crew.count)) (c.mend_and_clear-mended.ensures.count ∙ ap length c.as_mut_slice.ensures.value)
    (worked-at g.E.Eye.sight g.E.Eye.faults c.args.crew.board c.as_mut_slice.result.now c.args.crew.workers.items c.mend_and_clear-mended.new.workers c.as_mut_slice.ensures.value c.mend_and_clear-mended.ensures.worked)

pub returns-in-Ok-clause-took : goal.returns-in-Ok-clause-took
returns-in-Ok-clause-took g c =
    subst (λ (xs : List _). TakesWithin (taken_by (map g.E.Eye.sight xs)) (least_beside (parts_of_order c.args.order.now)) (most_beside (parts_of_order c.args.order.now))) (sym (c.leave.ensures.eyes ∙ ap worker_eyes (rejoined-all c.args.crew.workers.len c.mend_and_clear-mended.new.workers c.args.crew.workers.items (c.mend_and_clear-mended.ensures.count ∙ c.as_mut_slice.ensures.len))))
    (took-beside g.E.Eye.sight g.E.Eye.faults (parts_of_order c.args.order.now) c.args.crew.board (told_by g.E.Eye.sight (eyes_of c.args.crew)) c.args.crew.workers.items c.mend_and_clear-mended.new.workers (into_iter_items c.args.crew.rest) c.requires.crew.hired c.requires.eyes
    (omega (arith, c.args.crew.workers.ok.0, c.requires.crew.count)) (c.mend_and_clear-mended.ensures.count ∙ ap length c.as_mut_slice.ensures.value)
    (worked-at g.E.Eye.sight g.E.Eye.faults c.args.crew.board c.as_mut_slice.result.now c.args.crew.workers.items c.mend_and_clear-mended.new.workers c.as_mut_slice.ensures.value c.mend_and_clear-mended.ensures.worked)
    c.requires.crew.board c.requires.some
    (finished-at g.E.Eye.sight g.E.Eye.faults c.args.order.now.head c.args.order.now.plans c.args.order.now.singles.items c.args.order.now.singles.items c.args.order.now.asks.items c.args.order.now.asks.items c.as_mut_slice.result.now c.args.crew.workers.items c.mend_and_clear-mended.new.workers
    refl refl c.as_mut_slice.ensures.value c.in-Ok.ensures.finished)
    (pass_view c.args.crew.pass) (pass_view c.leave.result.pass)
    (subst (λ (xs : List (Worker _)). HasJoined (pass_view c.args.crew.pass) (map (λ worker. pass_view worker.pass) xs) (pass_view c.leave.result.pass)) (rejoined-all c.args.crew.workers.len c.mend_and_clear-mended.new.workers c.args.crew.workers.items (c.mend_and_clear-mended.ensures.count ∙ c.as_mut_slice.ensures.len)) c.leave.ensures.joined)
    c.requires.crew.draws (omega (arith, c.requires.crew.parts, c.requires.crew.left, c.args.crew.workers.ok.0, c.requires.crew.count)) c.leave.ensures.whole)

pub returns-in-Ok-clause-seen : goal.returns-in-Ok-clause-seen
returns-in-Ok-clause-seen g c =
    seen-all g.E.Eye.sight g.E.Eye.faults (parts_of_order c.args.order.now) c.args.crew.board (told_by g.E.Eye.sight (eyes_of c.args.crew)) c.args.crew.workers.items c.mend_and_clear-mended.new.workers (into_iter_items c.args.crew.rest) c.requires.crew.hired c.requires.eyes
    (omega (arith, c.args.crew.workers.ok.0, c.requires.crew.count)) (c.mend_and_clear-mended.ensures.count ∙ ap length c.as_mut_slice.ensures.value)
    (worked-at g.E.Eye.sight g.E.Eye.faults c.args.crew.board c.as_mut_slice.result.now c.args.crew.workers.items c.mend_and_clear-mended.new.workers c.as_mut_slice.ensures.value c.mend_and_clear-mended.ensures.worked)
    c.requires.crew.board c.requires.some
    (finished-at g.E.Eye.sight g.E.Eye.faults c.args.order.now.head c.args.order.now.plans c.args.order.now.singles.items c.args.order.now.singles.items c.args.order.now.asks.items c.args.order.now.asks.items c.as_mut_slice.result.now c.args.crew.workers.items c.mend_and_clear-mended.new.workers
    refl refl c.as_mut_slice.ensures.value c.in-Ok.ensures.finished)
    (pass_view c.args.crew.pass) (pass_view c.leave.result.pass)
    (subst (λ (xs : List (Worker _)). HasJoined (pass_view c.args.crew.pass) (map (λ worker. pass_view worker.pass) xs) (pass_view c.leave.result.pass)) (rejoined-all c.args.crew.workers.len c.mend_and_clear-mended.new.workers c.args.crew.workers.items (c.mend_and_clear-mended.ensures.count ∙ c.as_mut_slice.ensures.len)) c.leave.ensures.joined)
    c.requires.crew.draws (omega (arith, c.requires.crew.parts, c.requires.crew.left, c.args.crew.workers.ok.0, c.requires.crew.count)) c.leave.ensures.whole

pub returns-in-Ok-clause-replies : goal.returns-in-Ok-clause-replies
returns-in-Ok-clause-replies g c =
    λ live. c.put_replies.ensures (told_by g.E.Eye.sight (eyes_of c.args.crew)) live (subst (AreAnswered (parts_of_order c.args.order.now) (told_by g.E.Eye.sight (eyes_of c.args.crew))) (sym (c.as_slice.ensures.value ∙ (rejoined-all c.args.crew.workers.len c.mend_and_clear-mended.new.workers c.args.crew.workers.items (c.mend_and_clear-mended.ensures.count ∙ c.as_mut_slice.ensures.len)))) (are-answered g.E.Eye.sight g.E.Eye.faults (parts_of_order c.args.order.now) c.args.crew.board (told_by g.E.Eye.sight (eyes_of c.args.crew)) c.args.crew.workers.items c.mend_and_clear-mended.new.workers (into_iter_items c.args.crew.rest) c.requires.crew.hired c.requires.eyes
    (omega (arith, c.args.crew.workers.ok.0, c.requires.crew.count)) (c.mend_and_clear-mended.ensures.count ∙ ap length c.as_mut_slice.ensures.value)
    (worked-at g.E.Eye.sight g.E.Eye.faults c.args.crew.board c.as_mut_slice.result.now c.args.crew.workers.items c.mend_and_clear-mended.new.workers c.as_mut_slice.ensures.value c.mend_and_clear-mended.ensures.worked)
    c.requires.crew.board c.requires.some
    (finished-at g.E.Eye.sight g.E.Eye.faults c.args.order.now.head c.args.order.now.plans c.args.order.now.singles.items c.args.order.now.singles.items c.args.order.now.asks.items c.args.order.now.asks.items c.as_mut_slice.result.now c.args.crew.workers.items c.mend_and_clear-mended.new.workers
    refl refl c.as_mut_slice.ensures.value c.in-Ok.ensures.finished) live))

pub returns-in-Ok-clause-quiet : goal.returns-in-Ok-clause-quiet
returns-in-Ok-clause-quiet g c =
    subst (All (λ eye. g.E.Eye.faults eye ≡ 0)) (sym (c.leave.ensures.eyes ∙ ap worker_eyes (rejoined-all c.args.crew.workers.len c.mend_and_clear-mended.new.workers c.args.crew.workers.items (c.mend_and_clear-mended.ensures.count ∙ c.as_mut_slice.ensures.len)))) (none-failed g.E.Eye.sight g.E.Eye.faults (parts_of_order c.args.order.now) c.args.crew.board (told_by g.E.Eye.sight (eyes_of c.args.crew)) c.args.crew.workers.items c.mend_and_clear-mended.new.workers (into_iter_items c.args.crew.rest) c.requires.crew.hired c.requires.eyes
    (omega (arith, c.args.crew.workers.ok.0, c.requires.crew.count)) (c.mend_and_clear-mended.ensures.count ∙ ap length c.as_mut_slice.ensures.value)
    (worked-at g.E.Eye.sight g.E.Eye.faults c.args.crew.board c.as_mut_slice.result.now c.args.crew.workers.items c.mend_and_clear-mended.new.workers c.as_mut_slice.ensures.value c.mend_and_clear-mended.ensures.worked)
    c.requires.crew.board c.requires.some
    (finished-at g.E.Eye.sight g.E.Eye.faults c.args.order.now.head c.args.order.now.plans c.args.order.now.singles.items c.args.order.now.singles.items c.args.order.now.asks.items c.args.order.now.asks.items c.as_mut_slice.result.now c.args.crew.workers.items c.mend_and_clear-mended.new.workers
    refl refl c.as_mut_slice.ensures.value c.in-Ok.ensures.finished))

pub returns-in-Err-clause-cause : goal.returns-in-Err-clause-cause
returns-in-Err-clause-cause g c =
    subst (Any (λ eye. Rose 0 (g.E.Eye.faults eye))) (sym (c.leave-in-Err.ensures.eyes ∙ ap worker_eyes (rejoined-all c.args.crew.workers.len c.mend_and_clear-mended.new.workers c.args.crew.workers.items (c.mend_and_clear-mended.ensures.count ∙ c.as_mut_slice.ensures.len))))
    (one-failed g.E.Eye.sight g.E.Eye.faults (parts_of_order c.args.order.now) c.args.crew.board (told_by g.E.Eye.sight (eyes_of c.args.crew)) c.args.crew.workers.items c.mend_and_clear-mended.new.workers (into_iter_items c.args.crew.rest) c.requires.crew.hired c.requires.eyes
    (omega (arith, c.args.crew.workers.ok.0, c.requires.crew.count)) (c.mend_and_clear-mended.ensures.count ∙ ap length c.as_mut_slice.ensures.value)
    (worked-at g.E.Eye.sight g.E.Eye.faults c.args.crew.board c.as_mut_slice.result.now c.args.crew.workers.items c.mend_and_clear-mended.new.workers c.as_mut_slice.ensures.value c.mend_and_clear-mended.ensures.worked)
    (failed-at g.E.Eye.faults c.as_mut_slice.result.now c.args.crew.workers.items c.mend_and_clear-mended.new.workers c.as_mut_slice.ensures.value c.in-Err.ensures.failed))
