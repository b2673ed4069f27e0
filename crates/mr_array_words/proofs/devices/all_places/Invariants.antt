use Rattle.std.proofs.Common.{◌≡◌, ◌++◌, drop, map, string_bytes}
use Rattle.mr_array_words.proofs.devices.all_places.Given as goal

abbrev pub invariant-loop-name : goal.invariant-loop-name
invariant-loop-name l = map (λ name. name.now) l.places.items ++ map string_bytes (drop l.name-index l.devices)
    ≡ map (λ name. name.now) l.before ++ map string_bytes l.devices
