use Rattle.std.proofs.Common.{◌≡◌, map}
use Rattle.mr_io.specs.FilesStates.{entry_of}
use Rattle.mr_io.proofs.mem_files.shared.Given as goal

abbrev pub invariant-loop-name : goal.invariant-loop-name
invariant-loop-name l = map entry_of l.made.items ≡ map (λ file. (file.0, file.1.items)) l.yielded
