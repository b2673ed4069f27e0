use Rattle.std.proofs.Common.{◌≡◌, drop, map}
use Rattle.std.specs.Prelude.{chars}
use Rattle.mr_io.specs.FilesStates.{entry_of, file_of}
use Rattle.mr_io.proofs.mem_files.bytes_of.Given as goal

abbrev pub invariant-loop-file : goal.invariant-loop-file
invariant-loop-file l = file_of (map entry_of l.files) (chars l.name) ≡ file_of (map entry_of (drop l.file-index l.files)) (chars l.name)
