use Rattle.mr_table.proofs.Views.{parts_of}
use Rattle.mr_table.proofs.laws.passes_have_all_parts.Goals as goal

pub returns : goal.returns
returns c = parts_of
