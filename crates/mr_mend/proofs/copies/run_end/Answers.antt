use Rattle.std.proofs.Common.{◌<◌, arith}
use Rattle.mr_model.proofs.SetLaws.{member-below}
use Rattle.mr_mend.proofs.Runs.{run-found, run-few}
use Rattle.mr_mend.proofs.copies.run_end.Goals as goal

pub overflow_shr-number : goal.overflow_shr-number
overflow_shr-number c = member-below 128 c.args.set c.args.first (omega arith) c.requires

pub overflow_add-result : goal.overflow_add-result
overflow_add-result c =
    let first_low : c.args.first < 128 = member-below 128 c.args.set c.args.first (omega arith) c.requires in
    omega (arith, first_low, run-few c.number.result c.args.first c.trailing_ones.result c.number.type_inv c.trailing_ones.ensures)

pub returns : goal.returns
returns c = run-found c.args.set c.number.result c.args.first c.trailing_ones.result c.number.type_inv c.number.ensures c.requires c.trailing_ones.ensures
