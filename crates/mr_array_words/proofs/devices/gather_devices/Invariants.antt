use Rattle.std.proofs.Common.{string_bytes}
use Rattle.clap.specs.Words.{first_value, found_of}
use Rattle.mr_array_words.specs.Gather.{gather_device}
use Rattle.mr_array_words.proofs.Each.{AreSoFar}
use Rattle.mr_array_words.proofs.devices.gather_devices.Given as goal

abbrev pub invariant-loop-name : goal.invariant-loop-name
invariant-loop-name l = AreSoFar (λ name. gather_device (first_value (found_of l.matches) name)) string_bytes l.names l.devices.items l.name-index
