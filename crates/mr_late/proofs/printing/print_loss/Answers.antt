use Rattle.std.proofs.Common.{◌++◌, codes}
use Rattle.mr_io.proofs.Taking.{part_after, part_more, puts_err, puts_then, takes_more}
use Rattle.mr_model.specs.Members.{members}
use Rattle.mr_late.specs.Tables.{listed}
use Rattle.mr_late.proofs.printing.print_loss.Goals as goal

pub returns-in_err-put_all-clause-puts : goal.returns-in_err-put_all-clause-puts
returns-in_err-put_all-clause-puts g c =
    puts_err _ _ _ _ c.from_residual.ensures.0
    (part_after _ _ (codes "loss" ++ listed 32 (members c.args.devices)) (codes " ")
    (part_after _ _ (codes "loss") (listed 32 (members c.args.devices)) c.in_err-put_all.ensures.puts.err))

pub returns-in_err-print_devices-clause-puts : goal.returns-in_err-print_devices-clause-puts
returns-in_err-print_devices-clause-puts g c =
    puts_err _ _ _ _ c.from_residual-in_err-print_devices.ensures.0
    (part_after _ _ (codes "loss" ++ listed 32 (members c.args.devices)) (codes " ")
    (part_more _ _ _ (codes "loss") (listed 32 (members c.args.devices)) c.in_ok-put_all.ensures.puts.ok c.in_err-print_devices.ensures.puts.err))

pub returns-clause-puts : goal.returns-clause-puts
returns-clause-puts g c = puts_then _ _ _ _ (codes "loss" ++ listed 32 (members c.args.devices)) (codes " ")
    (takes_more _ _ _ (codes "loss") (listed 32 (members c.args.devices)) c.in_ok-put_all.ensures.puts.ok c.in_ok-print_devices.ensures.puts.ok)
    c.put_all-2.ensures.puts
