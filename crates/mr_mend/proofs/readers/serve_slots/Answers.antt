use Rattle.std.proofs.Common.{ℕ, ◌≤◌, Option, List, length, sym, ◌∙◌, subst, arith}
use Rattle.mr_io.specs.Counts.{counted}
use Rattle.mr_board.specs.Boards.{pass_view}
use Rattle.mr_mend.specs.Readers.{ask_at, least_bytes, most_bytes, IsServed}
use Rattle.mr_mend.proofs.SlotTurns.{looked-turn, read-turn, read-end}
use Rattle.mr_mend.proofs.readers.serve_slots.Goals as goal

pub loop-slot-preserved : goal.loop-slot-preserved
loop-slot-preserved g c =
    let task = c.args.task.now in
    let old = c.loop-slot.invariant in
    let done = c.serve_slot.ensures in
    let w = c.serve_slot.new.slot in
    record {
      pass = done.pass;
      looked = looked-turn (pass_view c.args.pass.now) (pass_view c.loop-slot.pass) (pass_view c.serve_slot.new.pass) old.looked done.looked;
      file = record { bytes = done.file.bytes ∙ old.file.bytes; duty = done.file.duty ∙ old.file.duty };
      read = read-turn task.head.now task.plans.now task.singles.now task.asks.now (g.E.Eye.sight c.args.eye.now).bytes c.args.slots.now c.loop-slot.slots c.loop-slot.slot-index _ _ _ w c.slot-item.result
          old.read (omega arith) done.number done.slot
          (subst (λ (told : Option (List ℕ)). IsServed task.head.now task.plans.now task.singles.now task.asks.now told w) old.file.bytes c.in_ok-serve_slot.ensures.served)
          (subst (λ (n : ℕ). counted (g.E.Eye.sight c.loop-slot.eye).taken (least_bytes task.head.now task.plans.now (ask_at task.asks.now n)) ≤ (g.E.Eye.sight c.serve_slot.new.eye).taken) (sym done.number) c.in_ok-serve_slot.ensures.least)
          (subst (λ (n : ℕ). (g.E.Eye.sight c.serve_slot.new.eye).taken ≤ counted (g.E.Eye.sight c.loop-slot.eye).taken (most_bytes task.head.now task.plans.now task.singles.now (ask_at task.asks.now n))) (sym done.number) c.in_ok-serve_slot.ensures.most);
      quiet = c.in_ok-serve_slot.ensures.cause.quiet ∙ old.quiet;
    }

pub returns-clause-read : goal.returns-clause-read
returns-clause-read g c =
    let all : length c.args.slots.now ≤ c.loop-slot.slot-index = omega arith in
    read-end _ _ _ _ _ _ _ _ _ _ c.loop-slot.invariant.read all
