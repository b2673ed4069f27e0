use Rattle.mr_table.proofs.Views.{alone}
use Rattle.mr_table.proofs.laws.a_whole_pass_is_alone.Goals as goal

pub returns : goal.returns
returns c = alone
