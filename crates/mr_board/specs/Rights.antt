-- The right words of a board: those of the mended image, as numbers.
use Rattle.std.specs.Prelude.{◌≡◌, ℕ, ◌+◌, ◌*◌, ◌^◌, ◌<◌, nat_lt, List, [], map, flat_map, take, drop, length, slice_index, Option, Some, None, if◌then◌else◌}
use Rattle.std.specs.Int.{w64, from_le_bytes}
use Rattle.std.specs.List.{list_all, range_with_len}
use Rattle.mr_model.specs.Plans.{Recipe}
use Rattle.mr_image.specs.Images.{Layout, Image, image_of, mended}
use Rattle.mr_plan.specs.Plans.{PlanParts}
use Rattle.mr_plan.specs.PlanLists.{recipes_at}
use Rattle.mr_board.specs.Terms.{BoardTerms, stripe_words, words_of}

-- the rebuilt symbols of stripe s, in the order of the recipes
abbrev pub lost_bytes : Layout → (ℕ → List Recipe) → Image → ℕ → List ℕ
lost_bytes l recipes image s = flat_map (λ r. mended l recipes image s r.symbol) (recipes s)

-- the word of eight bytes, the lowest first; 2 ^ 64, which is no word, where a number is no byte
unfoldable pub word_of : List ℕ → ℕ
word_of bytes = if list_all (λ b. nat_lt b 256) bytes then from_le_bytes w64 bytes else 2 ^ 64

-- word i of these bytes
abbrev pub word_in : List ℕ → ℕ → ℕ
word_in bytes i = word_of (take 8 (drop (8 * i) bytes))

-- the words of the rebuilt symbols, stripe by stripe, where the bytes of the image file are told;
-- nothing where they are not
unfoldable pub rights_of : Layout → List PlanParts → Option (List ℕ) → List ℕ
rights_of l plans None = []
rights_of l plans (Some bytes) =
    flat_map (λ s. map (word_in (lost_bytes l (recipes_at plans) (image_of l bytes) s))
    (range_with_len 0 (stripe_words l plans))) (range_with_len 0 l.stripes)

-- what a board is made for, where an eye tells these bytes
abbrev pub terms_for : Layout → List PlanParts → Option (List ℕ) → BoardTerms
terms_for l plans told = record { head = l; plans = plans; rights = rights_of l plans told }

-- x is the right word of stripe t at index i; where nothing is told, each word is
abbrev pub IsRight : BoardTerms → ℕ → ℕ → ℕ → Type 0
IsRight terms t i x = 0 < length terms.rights
    → slice_index terms.rights (t * words_of terms + i) ≡ x
