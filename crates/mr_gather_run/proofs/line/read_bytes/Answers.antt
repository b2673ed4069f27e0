use Rattle.std.proofs.Common.{arith, rules, ◌*◌, ◌<◌, ◌^◌}
use Rattle.mr_gather_run.proofs.Counting.{members-few, read-fits}
use Rattle.mr_gather_run.proofs.line.read_bytes.Goals as goal

pub overflow_mul-result : goal.overflow_mul-result
overflow_mul-result c =
    let members = members-few c.args.task.now.set in
    let low : c.from-3.result * (c.from.result * c.from-2.result) < 2 ^ 64 =
    read-fits c.from-3.result c.from.result c.from-2.result (omega (arith, c.from-3.ensures)) (omega (arith, c.from.ensures, c.count.ensures.listed, members))
    (omega (arith, c.from-2.ensures, c.bytes.ensures.number, c.bytes.ensures.limits.few_bytes)) in
    search rules
