use Rattle.std.proofs.Common.{◌∙◌, sym}
use Rattle.std.specs.Prelude.{bytes_eq, chars}
use Rattle.mr_io.specs.FilesStates.{entry_of}
use Rattle.mr_io.proofs.Lookups.{lookup_here, lookup_past}
use Rattle.mr_io.proofs.mem_files.bytes_of.Goals as goal

pub returns-then-is : goal.returns-then-is
returns-then-is c =
    c.loop-file.invariant
    ∙ lookup_here entry_of (λ key. bytes_eq key (chars c.args.name.now)) c.args.files.now _ _ c.loop-file-test.true c.file-item.is (sym c.is.ensures ∙ c.if-is.true)

pub loop-file-preserved : goal.loop-file-preserved
loop-file-preserved c =
    c.loop-file.invariant
    ∙ lookup_past entry_of (λ key. bytes_eq key (chars c.args.name.now)) c.args.files.now _ _ c.loop-file-test.true c.file-item.is (sym c.is.ensures ∙ c.if-is.false)
