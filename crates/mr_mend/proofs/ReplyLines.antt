-- The line of a reply as it is built in a buffer, and the lines of replies that stand one after another.
use Rattle.std.proofs.Common.{◌≡◌, ℕ, zero, suc, ◌+◌, ◌*◌, ◌<◌, ◌≤◌, List, [], ◌∷◌, ◌++◌, flat_map, take, drop, length, get_or, set, All, refl, sym, ap, ap₂, ◌∙◌, arith, zero-mul, Ok, Err}
use Rattle.std.specs.Prelude.{Result, IsOk, OnOk}
use Rattle.std.proofs.Math.Nat.{suc-mul}
use Rattle.std.proofs.Math.Seq.{take-append-add}
use Rattle.std.proofs.lemmas.Grind.{flat_map-append}
use Rattle.std.proofs.lemmas.List.{take_at, take-append-drop, drop_at, drop-drop, take_all, take_more_set}
use Rattle.std.proofs.lemmas.List.Elements.{All-head, All-tail}
use Rattle.hex.specs.Hex.{encode_lower}
use Rattle.mr_io.proofs.Taking.{flat_map-take}
use Rattle.mr_image.specs.Images.{Image}
use Rattle.mr_mend.specs.declared.asks.Ask.{Ask}
use Rattle.mr_mend.specs.Replies.{Reply, reply_front, reply_line, reply_lines, replies_in, buffer_lines}

-- ---- one line

pub encoded : {T E : Type 0} (r : Result T E) (hex symbol : List ℕ) → IsOk r → OnOk r (hex ≡ encode_lower symbol) → hex ≡ encode_lower symbol
encoded (Ok x) hex symbol good is = is
encoded (Err e) hex symbol good is = absurd (grind arith)

-- the front, the digits and the line feed were written to their places
pub line-written : (ask : Ask) (symbol front hex line rest : List ℕ) (at count : ℕ) → front ≡ reply_front ask → hex ≡ encode_lower symbol → length front ≡ at → length hex ≡ count
    → at + count < length (take at (front ++ drop at line) ++ (hex ++ rest))
    → take (at + count + 1) (set (take at (front ++ drop at line) ++ (hex ++ rest)) (at + count) 10) ≡ reply_line ask symbol
unfolding reply_line
line-written ask symbol front hex line rest at count is_front is_hex long_front long_hex here =
    take_more_set (take at (front ++ drop at line) ++ (hex ++ rest)) (at + count) 10 here
    ∙ ap (λ bytes. bytes ++ 10 ∷ []) part
    ∙ (λ j. is_front j ++ is_hex j ++ 10 ∷ [])
  where
    part : take (at + count) (take at (front ++ drop at line) ++ (hex ++ rest)) ≡ front ++ hex
    part =
        ap (λ bytes. take (at + count) (bytes ++ (hex ++ rest))) (take_at front (drop at line) at long_front)
        ∙ ap (λ n. take (n + count) (front ++ (hex ++ rest))) (sym long_front)
        ∙ take-append-add front (hex ++ rest) count
        ∙ ap (λ bytes. front ++ bytes) (take_at hex rest count long_hex)

-- ---- the replies in a buffer

abbrev pub line_of : Reply → List ℕ
line_of reply = reply_line reply.ask reply.bytes

module _ (size : ℕ) where
  pub length-replies_in : (asks : List Ask) (bytes : List ℕ) → length (replies_in size asks bytes) ≡ length asks
  unfolding replies_in
  length-replies_in [] bytes = refl
  length-replies_in (ask ∷ asks) bytes = ap suc (length-replies_in asks (drop size bytes))

  -- reply k
  reply-at : (asks : List Ask) (bytes : List ℕ) (k : ℕ) (ask e : Ask) (d : Reply) → k < length asks → ask ≡ get_or asks k e
      → get_or (replies_in size asks bytes) k d ≡ record { ask = ask; bytes = take size (drop (k * size) bytes) }
  unfolding replies_in
  reply-at [] bytes k ask e d low is = absurd (omega arith)
  reply-at (first ∷ asks) bytes zero ask e d low is = (λ j. record { ask = sym is j; bytes = take size (drop (sym (zero-mul size) j) bytes) })
  reply-at (first ∷ asks) bytes (suc k) ask e d low is =
      reply-at asks (drop size bytes) k ask e d (omega (arith, low)) is
      ∙ (λ j. record { ask = ask; bytes = take size (further j) })
    where
      further : drop (k * size) (drop size bytes) ≡ drop (suc k * size) bytes
      further = drop-drop (k * size) size bytes ∙ ap (λ n. drop n bytes) (omega (arith, suc-mul k size))

  -- the lines of the first k replies
  abbrev pub lines_before : ℕ → List Ask → List ℕ → List ℕ
  lines_before k asks replies = flat_map line_of (take k (replies_in size asks replies))

  -- the lines of the first k replies, and those of the others
  pub lines-split : (asks : List Ask) (replies : List ℕ) (k : ℕ) → buffer_lines size asks replies ≡ lines_before k asks replies ++ flat_map line_of (drop k (replies_in size asks replies))
  lines-split asks replies k =
      ap (flat_map line_of) (sym (take-append-drop k (replies_in size asks replies)))
      ∙ flat_map-append line_of (take k (replies_in size asks replies)) (drop k (replies_in size asks replies))

  -- with reply k, one line more
  pub lines-more : (asks : List Ask) (replies : List ℕ) (k : ℕ) (ask e : Ask) (bytes : List ℕ) → k < length asks → ask ≡ get_or asks k e
      → bytes ≡ take size (drop (k * size) replies) → lines_before k asks replies ++ reply_line ask bytes ≡ lines_before (k + 1) asks replies
  lines-more asks replies k ask e bytes low here part =
      let reply : Reply = record { ask = ask; bytes = bytes } in
      let in_list : k < length (replies_in size asks replies) = omega (arith, low, length-replies_in asks replies) in
      let same : reply_line ask bytes ≡ line_of (get_or (replies_in size asks replies) k reply) =
      ap (reply_line ask) part ∙ ap line_of (sym (reply-at asks replies k ask e reply low here)) in
      ap (λ line. lines_before k asks replies ++ line) same
      ∙ flat_map-take line_of (replies_in size asks replies) k reply in_list

  -- a buffer that holds the symbols of an image has their lines
  pub buffer-lines : (image : Image) (asks : List Ask) → All (λ (ask : Ask). length (image ask.stripe ask.symbol) ≡ size) asks
      → buffer_lines size asks (flat_map (λ (ask : Ask). image ask.stripe ask.symbol) asks) ≡ reply_lines image asks
  unfolding replies_in
  buffer-lines image [] sizes = refl
  buffer-lines image (ask ∷ asks) sizes =
      let symbol : List ℕ = image ask.stripe ask.symbol in
      let rest : List ℕ = flat_map (λ (a : Ask). image a.stripe a.symbol) asks in
      let long : length symbol ≡ size = All-head (λ (a : Ask). length (image a.stripe a.symbol) ≡ size) ask asks sizes in
      ap₂ (λ x y. reply_line ask x ++ y) (take_at symbol rest size long)
      (ap (buffer_lines size asks) (drop_at symbol rest size long)
      ∙ buffer-lines image asks (All-tail (λ (a : Ask). length (image a.stripe a.symbol) ≡ size) ask asks sizes))

  -- all lines
  pub lines-all : (asks : List Ask) (replies : List ℕ) (k : ℕ) → length asks ≤ k → lines_before k asks replies ≡ buffer_lines size asks replies
  lines-all asks replies k all = ap (flat_map line_of) (take_all k (replies_in size asks replies) (omega (arith, all, length-replies_in asks replies)))

-- the part of the buffer that is read, as the code writes its place and its length
pub read_part : (k size count at : ℕ) (replies : List ℕ) → count ≡ size → at ≡ k * size → take count (drop at replies) ≡ take size (drop (k * size) replies)
read_part k size count at replies is_count is_at = ap₂ (λ n m. take n (drop m replies)) is_count is_at
