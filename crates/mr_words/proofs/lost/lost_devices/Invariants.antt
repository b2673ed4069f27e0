use Rattle.std.proofs.Common.{◌≡◌, drop, length, filter_map}
use Rattle.mr_text.specs.Numbers.{number_of}
use Rattle.mr_words.specs.Lost.{parts}
use Rattle.mr_words.proofs.LostDevices.{devices_from}
use Rattle.mr_words.proofs.lost.lost_devices.Given as goal

abbrev pub invariant-loop-part : goal.invariant-loop-part
invariant-loop-part l = devices_from l.devices l.lost (filter_map number_of (drop (length l.yielded) (parts l.word)))
    ≡ devices_from l.devices 0 (filter_map number_of (parts l.word))
