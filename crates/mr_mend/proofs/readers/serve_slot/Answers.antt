use Rattle.std.proofs.Common.{refl, arith}
use Rattle.std.proofs.lemmas.List.{with_items_is}
use Rattle.mr_board.specs.Boards.{pass_view}
use Rattle.mr_mend.proofs.Answering.{slot-served}
use Rattle.mr_mend.proofs.readers.serve_slot.Goals as goal

pub returns-clause-served : goal.returns-clause-served
returns-clause-served g c =
    slot-served c.args.task.now.head.now c.args.task.now.plans.now c.args.task.now.singles.now c.args.task.now.asks.now (g.E.Eye.sight c.args.eye.now).bytes (pass_view c.args.pass.now) (pass_view c.serve.new.pass)
    c.in_ok-serve.field-0 _ c.args.slot.now.number c.serve.new.buf _ refl (with_items_is c.args.slot.now.bytes c.serve.new.buf (omega arith)) c.in_ok-serve.ensures.how c.in_ok-serve.ensures.reply
