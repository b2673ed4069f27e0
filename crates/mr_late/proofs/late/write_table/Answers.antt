use Rattle.std.proofs.Common.{flat_map, subst}
use Rattle.mr_steps.specs.Sinks.{TakesFront}
use Rattle.mr_steps.proofs.Sinks.{front_part}
use Rattle.mr_late.specs.Tables.{row_text}
use Rattle.mr_late.proofs.late.write_table.Goals as goal

pub returns-in-Err-clause-cut : goal.returns-in-Err-clause-cut
returns-in-Err-clause-cut g c = λ _. subst
    (λ rows. TakesFront (g.O.Sink.held c.args.out.now) (g.O.Sink.held c.print_rows.new.out) (flat_map (row_text c.args.table.now.matrix c.args.table.now.budget) rows))
    c.deref.ensures.value (front_part c.in-Err.ensures.puts.err)
