use Rattle.mr_io.proofs.Taking.{part_after, puts_err, puts_then}
use Rattle.mr_late.specs.Tables.{answer_text, loss_text}
use Rattle.mr_late.proofs.printing.print_line.Goals as goal

pub returns-in_err-print_loss-clause-puts : goal.returns-in_err-print_loss-clause-puts
returns-in_err-print_loss-clause-puts g c =
    puts_err _ _ _ _ c.from_residual.ensures.0
    (part_after _ _ (loss_text c.args.devices) (answer_text c.args.tabled.now.matrix c.args.tabled.now.budget c.args.answer) c.in_err-print_loss.ensures.puts.err)

pub returns-clause-puts : goal.returns-clause-puts
returns-clause-puts g c = puts_then _ _ _ _ (loss_text c.args.devices) (answer_text c.args.tabled.now.matrix c.args.tabled.now.budget c.args.answer)
    c.in_ok-print_loss.ensures.puts.ok c.print_answer.ensures.puts
