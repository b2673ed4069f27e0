-- The text of an account: a line for each ask, and one for each stripe that an ask names.
use Rattle.std.specs.Prelude.{◌≡◌, ℕ, ◌++◌, nat_lt, if◌then◌else◌, List, [], length, slice_get, Option, Some, None, flat_map, codes, decimal}
use Rattle.std.specs.List.{range_with_len}
use Rattle.hex.specs.Hex.{encode_lower}
use Rattle.mr_ops.specs.declared.ops.Op.{Op}
use Rattle.mr_ops.specs.declared.ops.Op.TheVariants.{Read, Write}
use Rattle.mr_history.specs.declared.entry.Entry.{Entry}
use Rattle.mr_history.specs.declared.entry.Entry.TheVariants.{Ask, Mend}
use Rattle.mr_history.specs.Histories.{Names, ask_count, stripes}
use Rattle.mr_account.specs.Accounts.{Account, IsAmended}

-- ---- the line of an ask

-- `read`, the stripe, the symbol, `place` and the place, with a space behind each
unfoldable pub read_front : ℕ → ℕ → ℕ → List ℕ
read_front t i place =
    codes "read " ++ decimal t ++ codes " " ++ decimal i ++ codes " place " ++ decimal place ++ codes " "

-- the same and the reply, two lower-case hexadecimal digits for each byte
abbrev pub read_line : ℕ → ℕ → ℕ → List ℕ → List ℕ
read_line t i place reply = read_front t i place ++ encode_lower reply ++ codes "\n"

-- `write`, the stripe, `place` and the place
unfoldable pub write_line : ℕ → ℕ → List ℕ
write_line t place = codes "write " ++ decimal t ++ codes " place " ++ decimal place ++ codes "\n"

abbrev pub ask_line : Option Op → ℕ → List ℕ → List ℕ
ask_line None place reply = []
ask_line (Some (Read t i)) place reply = read_line t i place reply
ask_line (Some (Write t payload)) place reply = write_line t place

-- ---- the line of a stripe

-- a space, and the number of an ask or `mend`
unfoldable pub entry_text : Entry → List ℕ
entry_text (Ask k) = codes " " ++ decimal k
entry_text Mend = codes " mend"

-- `history` and the stripe
unfoldable pub history_front : ℕ → List ℕ
history_front t = codes "history " ++ decimal t

-- the same and the entries of the stripe's history, in order
abbrev pub history_text : ℕ → List Entry → List ℕ
history_text t history = history_front t ++ flat_map entry_text history ++ codes "\n"

-- that of a stripe that an ask names, and nothing of another
abbrev pub history_line : Names → ℕ → List Entry → List ℕ
history_line n t history = if nat_lt 0 (ask_count n.ops t) then history_text t history else []

-- ---- what is printed

-- the lines of the asks, in order
abbrev pub asks_text : Names → Account → List ℕ
asks_text n a =
    flat_map (λ k. ask_line (slice_get n.ops k) (a.place k) (a.reply k)) (range_with_len 0 (length n.ops))

-- the lines of the stripes, upwards
abbrev pub histories_text : Names → Account → List ℕ
histories_text n a = flat_map (λ t. history_line n t (a.history t)) (range_with_len 0 (stripes n))

abbrev pub report_of : Names → Account → List ℕ
report_of n a = asks_text n a ++ histories_text n a

-- the bytes of the stripes, upwards
abbrev pub image_of : Names → Account → List ℕ
image_of n a = flat_map a.bytes (range_with_len 0 (stripes n))

-- These bytes are the image and the report of some account that so many callers may give.
pub record MayPrint (n : Names) (callers : ℕ) (image report : List ℕ) : Type 0 where
  pub account : Account
  pub amended : IsAmended n callers account
  pub image_is : image ≡ image_of n account
  pub report_is : report ≡ report_of n account
