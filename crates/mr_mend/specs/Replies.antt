-- The lines of replies: one for each ask.
use Rattle.std.specs.Prelude.{◌≡◌, ℕ, ◌+◌, ◌*◌, max, List, [], ◌∷◌, ◌++◌, flat_map, take, drop, codes, decimal, Option}
use Rattle.hex.specs.Hex.{encode_lower}
use Rattle.mr_io.specs.Taking.{Held, Takes}
use Rattle.mr_image.specs.Images.{Image, Layout}
use Rattle.mr_mend.specs.declared.asks.Ask.{Ask}
use Rattle.mr_mend.specs.declared.limits.TheConstants.{GATHERED, LINE_FRAME}

-- the front of a line: `reply `, the stripe, the symbol, and a space behind each
unfoldable pub reply_front : Ask → List ℕ
reply_front ask =
    codes "reply " ++ decimal ask.stripe ++ codes " " ++ decimal ask.symbol ++ codes " "

-- the line of a reply: the bytes are two lower-case hexadecimal digits each
unfoldable pub reply_line : Ask → List ℕ → List ℕ
reply_line ask bytes = reply_front ask ++ encode_lower bytes ++ codes "\n"

-- room for the line of one reply
abbrev pub line_room : Layout → ℕ
line_room l = 2 * l.symbol_bytes + LINE_FRAME

-- room for the lines that are gathered before they are put: for so many bytes, or those of one line
-- where it has more
abbrev pub lines_room : Layout → ℕ
lines_room l = max (line_room l) GATHERED

-- the lines of the symbols of an image that are asked for
abbrev pub reply_lines : Image → List Ask → List ℕ
reply_lines image asks = flat_map (λ ask. reply_line ask (image ask.stripe ask.symbol)) asks

-- ---- replies that stand one after another in a buffer

-- an ask, and the bytes of its reply
pub record Reply : Type 0 where
  pub ask : Ask
  pub bytes : List ℕ

-- each ask with the next `size` bytes
unfoldable pub replies_in : ℕ → List Ask → List ℕ → List Reply
replies_in size [] bytes = []
replies_in size (ask ∷ asks) bytes =
    record { ask = ask; bytes = take size bytes } ∷ replies_in size asks (drop size bytes)

-- their lines
abbrev pub buffer_lines : ℕ → List Ask → List ℕ → List ℕ
buffer_lines size asks bytes =
    flat_map (λ reply. reply_line reply.ask reply.bytes) (replies_in size asks bytes)

-- ---- bytes that are gathered before they are put

-- of the bytes gathered before, a front was put, and the rest are gathered now
pub record PutsFront (old now : Option Held) (before after : List ℕ) : Type 0 where
  pub front : List ℕ
  pub parts : before ≡ front ++ after
  pub taken : Takes old now front
