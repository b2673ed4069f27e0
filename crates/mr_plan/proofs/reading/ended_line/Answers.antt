use Rattle.mr_plan.proofs.ReadLaws.{next-split, shorter-split}
use Rattle.mr_plan.proofs.reading.ended_line.Goals as goal

pub returns-clause-value : goal.returns-clause-value
returns-clause-value c = next-split c.args.line c.args.bytes.now c.split_at_byte.result c.ok_or.result c.split_at_byte.ensures.pieces c.ok_or.ensures.value

pub returns-clause-shorter : goal.returns-clause-shorter
returns-clause-shorter c = shorter-split c.args.line c.args.bytes.now c.split_at_byte.result c.ok_or.result c.split_at_byte.ensures.shorter c.ok_or.ensures.value
