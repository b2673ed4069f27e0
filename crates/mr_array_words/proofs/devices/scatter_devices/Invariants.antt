use Rattle.std.proofs.Common.{string_bytes}
use Rattle.clap.specs.Words.{first_value, found_of}
use Rattle.mr_words.specs.Texts.{file_of}
use Rattle.mr_array_words.proofs.Each.{AreSoFar}
use Rattle.mr_array_words.proofs.devices.scatter_devices.Given as goal

abbrev pub invariant-loop-name : goal.invariant-loop-name
invariant-loop-name l = AreSoFar (λ name. file_of (first_value (found_of l.matches) name)) string_bytes l.names l.devices.items l.name-index
