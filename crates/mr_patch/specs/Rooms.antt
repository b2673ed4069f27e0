-- The memory of a patching.
use Rattle.std.specs.Prelude.{◌≡◌, ℕ, ◌+◌, ◌*◌, vec_len}
use Rattle.mr_image.specs.Images.{Layout, stripe_symbols}
use Rattle.mr_image.specs.Heads.{file_bytes}
use Rattle.mr_patch.specs.declared.rooms.PatchRoom.{PatchRoom}

-- the bytes of one stripe, and of one symbol more
abbrev pub stripe_room : Layout → ℕ
stripe_room l = (stripe_symbols l + 1) * l.symbol_bytes

-- there is room for an image of the layout
pub record IsRoomFor (l : Layout) (room : PatchRoom) : Type 0 where
  pub image : vec_len room.image ≡ file_bytes l
  pub stripe : vec_len room.stripe ≡ stripe_room l
