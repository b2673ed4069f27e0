-- Worked rows: four devices of two symbols each, moved on by one.
use Rattle.std.proofs.Common.{◌≡◌, ◌+◌, ◌*◌, [], ◌∷◌, map, take, refl}
use Rattle.std.specs.List.{range_with_len}
use Rattle.mr_model.specs.Code.{Code}
use Rattle.mr_model.specs.Rotations.{moved, rotated}
use Rattle.mr_image.specs.Images.{Layout, Image, image_body}
use Rattle.mr_image.specs.Heads.{head_bytes, with_version}
use Rattle.mr_image.specs.Rotated.{rotations, converted}

four : Layout
four = record { version = 1; devices = 4; symbols_per_device = 2; symbol_bytes = 1; stripes = 2 }

-- the eight symbols of each stripe, one byte each
counted : Image
counted s i = (10 * s + i) ∷ []

moved_row : map (moved 4 2 1) (range_with_len 0 8) ≡ 6 ∷ 7 ∷ 0 ∷ 1 ∷ 2 ∷ 3 ∷ 4 ∷ 5 ∷ []
unfolding moved
moved_row = refl

moved_by_three : map (moved 4 2 3) (range_with_len 0 8) ≡ 2 ∷ 3 ∷ 4 ∷ 5 ∷ 6 ∷ 7 ∷ 0 ∷ 1 ∷ []
unfolding moved
moved_by_three = refl

-- stripe 0 stays, and in stripe 1 the last device comes first
converted_row : image_body four (converted four counted) ≡ 0 ∷ 1 ∷ 2 ∷ 3 ∷ 4 ∷ 5 ∷ 6 ∷ 7 ∷ 16 ∷ 17 ∷ 10 ∷ 11 ∷ 12 ∷ 13 ∷ 14 ∷ 15 ∷ []
unfolding four counted converted moved
converted_row = refl

mark_row : take 8 (head_bytes (with_version 2 four)) ≡ 77 ∷ 82 ∷ 73 ∷ 77 ∷ 65 ∷ 71 ∷ 69 ∷ 50 ∷ []
unfolding four head_bytes
mark_row = refl

rotations_row : rotations (with_version 2 four) ≡ 2
unfolding four
rotations_row = refl

-- two devices of one symbol: rows change places, prices stay
pair : Code
pair = record { devices = 2; symbols_per_device = 1; columns = 2; rows = 1 ∷ 2 ∷ []; prices = 5 ∷ 7 ∷ [] }

rotated_row : rotated pair 1 ≡ record { devices = 2; symbols_per_device = 1; columns = 2; rows = 2 ∷ 1 ∷ []; prices = 5 ∷ 7 ∷ [] }
unfolding pair rotated moved
rotated_row = refl
