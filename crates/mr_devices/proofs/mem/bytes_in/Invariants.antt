use Rattle.std.proofs.Common.{◌≡◌, drop, map}
use Rattle.std.specs.Prelude.{chars}
use Rattle.mr_io.specs.FilesStates.{file_of}
use Rattle.mr_devices.proofs.mem.bytes_in.Given as goal

-- the files so far have other names
abbrev pub invariant-loop-file : goal.invariant-loop-file
invariant-loop-file l = file_of (map (λ file. (file.0, file.1.items)) l.files) (chars l.name) ≡ file_of (map (λ file. (file.0, file.1.items)) (drop l.file-index l.files)) (chars l.name)
