-- The name that stands for a lost device.
use Rattle.std.proofs.Common.{◌≡◌, codes, lit<, suc, zero}
use Rattle.std.specs.Str.{IsAscii, chars}
use Rattle.std.proofs.lemmas.Str.{chars-IsAscii}

one_byte : IsAscii (codes "-")
one_byte zero = lit< tt
one_byte (suc i) = lit< tt

pub hyphen_is : chars (codes "-") ≡ codes "-"
hyphen_is = chars-IsAscii (codes "-") one_byte
