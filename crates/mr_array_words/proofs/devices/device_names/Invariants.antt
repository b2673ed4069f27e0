use Rattle.std.proofs.Common.{◌≡◌, map, string_bytes}
use Rattle.mr_array_words.specs.Devices.{device_names}
use Rattle.mr_array_words.proofs.devices.device_names.Given as goal

abbrev pub invariant-loop-number : goal.invariant-loop-number
invariant-loop-number l = map string_bytes l.names.items ≡ device_names l.number
