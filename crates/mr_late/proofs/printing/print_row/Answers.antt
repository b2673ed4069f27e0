use Rattle.mr_late.proofs.Lines.{answer-within}
use Rattle.mr_late.proofs.printing.print_row.Goals as goal

pub print_line-requires : goal.print_line-requires
print_line-requires g c = answer-within _ _ _ _ c.requires.row.answer
