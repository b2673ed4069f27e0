use Rattle.std.proofs.Math.Seq.{map-set_same}
use Rattle.std.proofs.lemmas.Result.{on_ok_weaker, on_err_weaker}
use Rattle.mr_devices.proofs.WriteLaws.{written-one}
use Rattle.mr_devices.proofs.mem.write_in.Goals as goal

pub returns-clause-written : goal.returns-clause-written
returns-clause-written c =
    on_ok_weaker c.write_into.result (written-one c.args.files.now c.index-files-number.result c.write_into.new.file c.args.number c.args.at c.args.bytes.now c.requires.there) c.write_into.ensures.written

pub returns-clause-same : goal.returns-clause-same
returns-clause-same c =
    on_err_weaker c.write_into.result (map-set_same (λ file. file.items) c.args.files.now c.args.number c.write_into.new.file c.index-files-number.result) c.write_into.ensures.same
