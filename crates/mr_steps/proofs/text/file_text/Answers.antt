use Rattle.mr_steps.specs.TextFiles.{text_file}
use Rattle.mr_steps.proofs.text.file_text.Goals as goal

pub returns-clause-reads : goal.returns-clause-reads
unfolding text_file
returns-clause-reads g c = c.file_within.ensures.reads

pub returns-clause-totals : goal.returns-clause-totals
unfolding text_file
returns-clause-totals g c = c.file_within.ensures.totals
