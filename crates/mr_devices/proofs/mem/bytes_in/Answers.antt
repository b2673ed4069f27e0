use Rattle.std.proofs.Common.{◌∙◌, ap, cond, drop, map, sym, ◌+◌}
use Rattle.std.specs.Prelude.{Some, chars}
use Rattle.mr_io.specs.FilesStates.{file_of}
use Rattle.mr_devices.proofs.WriteLaws.{file-step}
use Rattle.mr_devices.proofs.mem.bytes_in.Goals as goal

pub returns-then-is : goal.returns-then-is
returns-then-is c =
    c.loop-file.invariant
    ∙ file-step c.args.files.now c.loop-file.file-index c.file-item.result (chars c.args.name.now) c.loop-file-test.true c.file-item.is
    ∙ ap (λ b. cond b (Some c.file-item.result.1.items) (file_of (map (λ file. (file.0, file.1.items)) (drop (c.loop-file.file-index + 1) c.args.files.now)) (chars c.args.name.now))) (sym c.is.ensures ∙ c.if-is.true)
    ∙ ap Some (sym c.as_slice.ensures.value)

pub loop-file-preserved : goal.loop-file-preserved
loop-file-preserved c =
    c.loop-file.invariant
    ∙ file-step c.args.files.now c.loop-file.file-index c.file-item.result (chars c.args.name.now) c.loop-file-test.true c.file-item.is
    ∙ ap (λ b. cond b (Some c.file-item.result.1.items) (file_of (map (λ file. (file.0, file.1.items)) (drop (c.loop-file.file-index + 1) c.args.files.now)) (chars c.args.name.now))) (sym c.is.ensures ∙ c.if-is.false)
