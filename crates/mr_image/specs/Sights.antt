-- What an eye must tell of the file of an image, and what it keeps.
use Rattle.std.specs.Prelude.{◌≡◌, length, IfSome}
use Rattle.mr_io.specs.Sights.{Sight}
use Rattle.mr_image.specs.Images.{Layout}
use Rattle.mr_image.specs.Heads.{file_bytes}

-- the file behind the eye, where it is told, has the length that the layout names
abbrev pub HasImage : Layout → Sight → Type 0
HasImage l sight = IfSome sight.bytes (λ bytes. length bytes ≡ file_bytes l)

-- the eye is on the same file, for the same duty
pub record IsSameFile (before now : Sight) : Type 0 where
  pub bytes : now.bytes ≡ before.bytes
  pub duty : now.duty ≡ before.duty
