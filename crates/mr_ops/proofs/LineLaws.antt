-- The line of an ask, from its front on, and which line stands at the front of bytes.
use Rattle.std.proofs.Common.{◌≡◌, ℕ, ◌*◌, ◌^◌, ◌<◌, ◌≤◌, ◌==◌, ◌⊎◌, inl, inr, false, List, [], ◌∷◌, ◌++◌, take, drop, length, get_or, All, Option, Some, None, codes, refl, sym, ap, subst, ◌∙◌, arith, eqb-true}
use Rattle.std.specs.Fmt.{decimal}
use Rattle.std.specs.List.{position_or_len, before_first, after_first}
use Rattle.std.proofs.Math.Nat.{le-mul_of_pos_right}
use Rattle.std.proofs.Math.Seq.{get_or-append_seam}
use Rattle.std.proofs.lemmas.Bool.{ne_eqb}
use Rattle.std.proofs.lemmas.Fmt.{digits_decimal}
use Rattle.std.proofs.lemmas.List.{append_assoc, length-append, take_at, drop_at}
use Rattle.std.proofs.lemmas.List.Elements.{All-from_get_or}
use Rattle.std.proofs.lemmas.List.Splits.{slice_split_at}
use Rattle.std.proofs.lemmas.List.Sums.{split_at_first, passes_at_first}
use Rattle.std.proofs.lemmas.Str.Parse.{not_in_digits}
use Rattle.std.specs.Prelude.{Result, Ok, Err}
use Rattle.hex.specs.Hex.{IsBytes, decode_sized, encode_lower, lower_digits}
use Rattle.hex.specs.declared.error.FromHexError.{FromHexError}
use Rattle.hex.proofs.HexLemmas.{decode_sized-encode_lower, length-encode_with}
use Rattle.mr_text.specs.Lines.{pieces}
use Rattle.mr_text.specs.Numbers.{number_of, greatest_number}
use Rattle.mr_text.proofs.LineLaws.{pieces-some, pieces-same}
use Rattle.mr_text.proofs.NumberLaws.{digits_model, number_of-decimal}
use Rattle.mr_image.specs.Images.{Layout, IsLayout, stripe_symbols}
use Rattle.mr_mend.specs.declared.asks.Ask.{Ask}
use Rattle.mr_mend.specs.Scripts.{IsInRange, ask_line, ask_text}
use Rattle.mr_mend.proofs.NextLines.{next-same}
use Rattle.mr_ops.specs.declared.ops.Op.{Op}
use Rattle.mr_ops.specs.declared.ops.Op.TheVariants.{Read, Write}
use Rattle.mr_ops.specs.declared.unread.Unread.{Unread}
use Rattle.mr_ops.specs.Ops.{BeginsWithNone, IsOpOf, IsPayload, op_line}

-- ---- the parts of a line

-- the line of a write, with what stands behind it
pub write-line : (t : ℕ) (p more : List ℕ) → op_line (Write t p) ++ more ≡ codes "w " ++ (decimal t ++ (codes " " ++ (encode_lower p ++ (codes "\n" ++ more))))
write-line t p more =
    append_assoc (codes "w " ++ decimal t ++ codes " " ++ encode_lower p) (codes "\n") more
    ∙ append_assoc (codes "w " ++ decimal t ++ codes " ") (encode_lower p) (codes "\n" ++ more)
    ∙ append_assoc (codes "w " ++ decimal t) (codes " ") (encode_lower p ++ (codes "\n" ++ more))
    ∙ append_assoc (codes "w ") (decimal t) (codes " " ++ (encode_lower p ++ (codes "\n" ++ more)))

-- bytes of which the first two are known
pub two-front : (bytes : List ℕ) (a b : ℕ) → 2 < length bytes → get_or bytes 0 0 ≡ a → get_or bytes 1 0 ≡ b → bytes ≡ a ∷ b ∷ drop 2 bytes
two-front [] a b long is_a is_b = absurd (omega arith)
two-front (x ∷ []) a b long is_a is_b = absurd (omega arith)
two-front (x ∷ y ∷ rest) a b long is_a is_b = (λ j. is_a j ∷ is_b j ∷ rest)

-- a line has more than two bytes, of which the second is a space, and the first an `r` or a `w`
pub record IsFront (bytes : List ℕ) : Type 0 where
  pub long : 2 < length bytes
  pub space : get_or bytes 1 0 ≡ 32
  pub letter : (get_or bytes 0 0 ≡ 114) ⊎ (get_or bytes 0 0 ≡ 119)

pub line-front : (op : Op) (more : List ℕ) → IsFront (op_line op ++ more)
line-front (Read t i) more =
    let ask : Ask = record { stripe = t; symbol = i } in
    record { long = omega (arith, length-append (ask_line ask) more, length-append (ask_text ask) (codes "\n")); space = refl; letter = inl refl }
line-front (Write t p) more =
    let long = ap length (write-line t p more) in
    let text = length-append (decimal t) (32 ∷ (encode_lower p ++ (10 ∷ more))) in
    record { long = omega (arith, long, text); space = refl; letter = inr refl }

module _ (l : Layout) (k : ℕ) (bytes : List ℕ) where
  -- bytes that are short, or have another front, begin with no line
  pub none-front : (IsFront bytes → ⊥) → BeginsWithNone l k bytes
  none-front out op more in_range is = out (subst IsFront (sym is) (line-front op more))

-- ---- the number of a stripe

-- no digit is a byte below the digits
decimal-without : (c n : ℕ) → c < 48 → n < 2 ^ 64 → All (λ b. (b == c) ≡ false) (decimal n)
decimal-without c n low small = All-from_get_or (λ b. (b == c) ≡ false) (decimal n) 0
    (λ i lt. ne_eqb _ _ (not_in_digits digits_model (decimal n) c (digits_decimal digits_model n small) (λ h. omega (arith, h)) i lt))

module _ (l : Layout) (may : IsLayout l) where
  pub small-stripe : (t : ℕ) → t < l.stripes → t ≤ greatest_number
  small-stripe t low =
      let some : 0 < stripe_symbols l = omega (arith, may.some_devices, le-mul_of_pos_right l.devices may.some_symbols) in
      let once : l.stripes ≤ l.stripes * stripe_symbols l = le-mul_of_pos_right l.stripes some in
      let twice : l.stripes * stripe_symbols l ≤ l.stripes * stripe_symbols l * l.symbol_bytes = le-mul_of_pos_right (l.stripes * stripe_symbols l) may.some_bytes in
      omega (arith, low, once, twice, may.few_in_all)

  module _ (t : ℕ) (low : t < l.stripes) (text more : List ℕ) (is : text ≡ decimal t ++ (codes " " ++ more)) where
    -- the words of a text that begins with one and a space
    pub words-of : pieces 32 text ≡ decimal t ∷ pieces 32 more
    words-of = ap (pieces 32) is ∙ slice_split_at (λ b. b == 32) (decimal t) 32 more
        (decimal-without 32 t (omega arith) (omega (arith, small-stripe t low))) refl

    -- so it has a space
    pub stripe-no_space : pieces 32 text ≡ text ∷ [] → ⊥
    stripe-no_space alone =
        let count : length (decimal t ∷ pieces 32 more) ≡ length (text ∷ []) = ap length (sym words-of ∙ alone) in
        omega (arith, count, pieces-some 32 more)

    module _ (word rest : List ℕ) (split : pieces 32 text ≡ word ∷ pieces 32 rest) where
      same-words : decimal t ∷ pieces 32 more ≡ word ∷ pieces 32 rest
      same-words = sym words-of ∙ split

      -- and what stands before and behind it are these
      pub stripe-word : word ≡ decimal t
      stripe-word = let both = same-words in cc

      pub stripe-rest : rest ≡ more
      stripe-rest = let both = same-words in pieces-same 32 rest more (cc)

      pub stripe-number : number_of word ≡ Some t
      stripe-number = ap number_of stripe-word ∙ number_of-decimal t (omega (arith, small-stripe t low))

      pub stripe-no_number : None ≡ number_of word → ⊥
      stripe-no_number none = let both : ◌≡◌ {A = Option ℕ} None (Some t) = none ∙ stripe-number in cc

      pub stripe-high : (s : ℕ) → Some s ≡ number_of word → l.stripes ≤ s → ⊥
      stripe-high s read high = let both : Some s ≡ Some t = read ∙ stripe-number in let same : s ≡ t = cc in omega (arith, same, low, high)

-- a text that is cut at its first space, of which the front is a number
pub stripe-text : (text word rest : List ℕ) (s : ℕ) → position_or_len (λ b. b == 32) text < length text → word ≡ before_first (λ b. b == 32) text → rest ≡ after_first (λ b. b == 32) text
    → word ≡ decimal s → text ≡ decimal s ++ (codes " " ++ rest)
stripe-text text word rest s here is_word is_rest spelled =
    let space : get_or text (position_or_len (λ b. b == 32) text) 0 ≡ 32 = eqb-true _ _ (passes_at_first (λ b. b == 32) text 0 here) in
    let front : before_first (λ b. b == 32) text ≡ decimal s = sym is_word ∙ spelled in
    split_at_first (λ b. b == 32) text 0 here ∙ (λ j. front j ++ (space j ∷ sym is_rest j))

-- ---- the digits of a payload

module _ (bytes digits more : List ℕ) (place : ℕ) (long : length digits ≡ place) (is : bytes ≡ digits ++ (codes "\n" ++ more)) where
  -- a line feed stands behind them
  pub digits-long : place < length bytes
  digits-long = omega (arith, long, ap length is, length-append digits (10 ∷ more))

  pub digits-feed : get_or bytes place 0 ≡ 10
  digits-feed = ap (λ xs. get_or xs place 0) is ∙ ap (λ n. get_or (digits ++ 10 ∷ more) n 0) (sym long) ∙ get_or-append_seam digits 10 more 0

-- text behind a front that is as long is the same
pub same-fronts : (a b x y : List ℕ) → length a ≡ length b → a ++ x ≡ b ++ y → (a ≡ b) × (x ≡ y)
same-fronts a b x y long is = (
  sym (take_at a x (length a) refl) ∙ ap (take (length a)) is ∙ take_at b y (length a) (sym long),
  sym (drop_at a x (length a) refl) ∙ ap (drop (length a)) is ∙ drop_at b y (length a) (sym long),
)

-- ---- one line at the front

-- bytes that begin with a read begin with no other read, and with no write
read-read : (l : Layout) → IsLayout l → (s i t j : ℕ) (x y : List ℕ) → IsInRange l (record { stripe = s; symbol = i }) → IsInRange l (record { stripe = t; symbol = j })
    → op_line (Read s i) ++ x ≡ op_line (Read t j) ++ y → ◌≡◌ {A = Op} (Read s i) (Read t j)
read-read l may s i t j x y in_a in_b is =
    let behind : ask_line (record { stripe = s; symbol = i }) ++ x ≡ ask_line (record { stripe = t; symbol = j }) ++ y = ap (drop 2) is in
    let same : ◌≡◌ {A = Ask} (record { stripe = s; symbol = i }) (record { stripe = t; symbol = j }) =
    next-same l may (ask_line (record { stripe = s; symbol = i }) ++ x) _ _ x y in_a in_b refl behind in
    (λ k. Read (same k).stripe (same k).symbol)

write-write : (l : Layout) → IsLayout l → (k s t : ℕ) (p q x y : List ℕ) → s < l.stripes → t < l.stripes → IsPayload l k p → IsPayload l k q
    → op_line (Write s p) ++ x ≡ op_line (Write t q) ++ y → ◌≡◌ {A = Op} (Write s p) (Write t q)
write-write l may k s t p q x y low_s low_t in_p in_q is = (λ j. Write (same_stripe j) (same_payload j))
  where
    front : List ℕ
    front = encode_lower p ++ (codes "\n" ++ x)

    other : List ℕ
    other = encode_lower q ++ (codes "\n" ++ y)

    behind : decimal s ++ (codes " " ++ front) ≡ decimal t ++ (codes " " ++ other)
    behind = ap (drop 2) (sym (write-line s p x) ∙ is ∙ write-line t q y)

    lines : pieces 32 (decimal s ++ (codes " " ++ front)) ≡ decimal t ∷ pieces 32 other
    lines = words-of l may t low_t (decimal s ++ (codes " " ++ front)) other behind

    same_stripe : s ≡ t
    same_stripe =
        let word : decimal t ≡ decimal s = stripe-word l may s low_s (decimal s ++ (codes " " ++ front)) front refl (decimal t) other lines in
        let read : Some s ≡ Some t =
        sym (number_of-decimal s (omega (arith, small-stripe l may s low_s))) ∙ ap number_of (sym word) ∙ number_of-decimal t (omega (arith, small-stripe l may t low_t)) in
        cc

    digits : other ≡ front
    digits = stripe-rest l may s low_s (decimal s ++ (codes " " ++ front)) front refl (decimal t) other lines

    same_payload : p ≡ q
    same_payload =
        let long_p = length-encode_with lower_digits p in
        let long_q = length-encode_with lower_digits q in
        let text : encode_lower q ≡ encode_lower p = (same-fronts (encode_lower q) (encode_lower p) (codes "\n" ++ y) (codes "\n" ++ x) (omega (arith, long_p, long_q, in_p.long, in_q.long)) digits).0 in
        let read : ◌≡◌ {A = Result (List ℕ) FromHexError} (Ok p) (Ok q) =
        sym (decode_sized-encode_lower p _ in_p.long in_p.bytes) ∙ ap (λ t. decode_sized t (k * l.symbol_bytes)) (sym text) ∙ decode_sized-encode_lower q _ in_q.long in_q.bytes in
        cc

other-letter : (a b : ℕ) (x y : List ℕ) → a ∷ x ≡ b ∷ y → a ≡ b
other-letter a b x y e = cc

-- bytes begin with the line of one ask at most
pub next-op-same : (l : Layout) → IsLayout l → (k : ℕ) (a b : Op) (x y : List ℕ) → IsOpOf l k a → IsOpOf l k b → op_line a ++ x ≡ op_line b ++ y → a ≡ b
next-op-same l may k (Read s i) (Read t j) x y in_a in_b is = read-read l may s i t j x y in_a in_b is
next-op-same l may k (Read s i) (Write t q) x y in_a in_b is = absurd (omega (arith, other-letter 114 119 _ _ is))
next-op-same l may k (Write s p) (Read t j) x y in_a in_b is = absurd (omega (arith, other-letter 119 114 _ _ is))
next-op-same l may k (Write s p) (Write t q) x y in_a in_b is = write-write l may k s t p q x y in_a.0 in_b.0 in_a.1 in_b.1 is

-- ---- the front is known

-- bytes behind `r` and a space, which begin with no pair of a stripe and a symbol
pub none-read : (l : Layout) (k : ℕ) (rest : List ℕ) → ((ask : Ask) (more : List ℕ) → IsInRange l ask → rest ≡ ask_line ask ++ more → ⊥) → BeginsWithNone l k (codes "r " ++ rest)
none-read l k rest none (Read t i) more in_range is = none (record { stripe = t; symbol = i }) more in_range (ap (drop 2) is)
none-read l k rest none (Write t p) more in_range is = absurd (omega (arith, other-letter 114 119 _ _ is))

-- bytes behind `w` and a space, which begin with no pair of a stripe and a payload
pub none-write : (l : Layout) (k : ℕ) (rest : List ℕ)
    → ((t : ℕ) (p more : List ℕ) → t < l.stripes → IsPayload l k p → rest ≡ decimal t ++ (codes " " ++ (encode_lower p ++ (codes "\n" ++ more))) → ⊥) → BeginsWithNone l k (codes "w " ++ rest)
none-write l k rest none (Read t i) more in_range is = absurd (omega (arith, other-letter 119 114 _ _ is))
none-write l k rest none (Write t p) more in_range is = none t p more in_range.0 in_range.1 (ap (drop 2) (is ∙ write-line t p more))

module _ (l : Layout) (may : IsLayout l) (k s t : ℕ) (rest text p more : List ℕ) (low_s : s < l.stripes) (low_t : t < l.stripes) (in_p : IsPayload l k p)
    (cut : rest ≡ decimal s ++ (codes " " ++ text)) (is : rest ≡ decimal t ++ (codes " " ++ (encode_lower p ++ (codes "\n" ++ more)))) where
  -- behind the number of the stripe stands the payload
  write-text : text ≡ encode_lower p ++ (codes "\n" ++ more)
  write-text = stripe-rest l may t low_t rest (encode_lower p ++ (codes "\n" ++ more)) is (decimal s) text (words-of l may s low_s rest text cut)

  write-long : length (encode_lower p) ≡ 2 * (k * l.symbol_bytes)
  write-long = let long = length-encode_with lower_digits p in omega (arith, long, in_p.long)

  -- so it has a line feed there
  pub write-ended : (size place : ℕ) → size ≡ k * l.symbol_bytes → place ≡ 2 * size
      → ((line after : List ℕ) → length line ≡ place → text ≡ line ++ (codes "\n" ++ after) → ⊥) → ⊥
  write-ended size place is_size twice none = none (encode_lower p) more (omega (arith, write-long, is_size, twice)) write-text

  -- and the digits before it are those of the payload
  pub write-digits : (digits later : List ℕ) (size place : ℕ) → size ≡ k * l.symbol_bytes → place ≡ 2 * size → length digits ≡ place → text ≡ digits ++ (codes "\n" ++ later) → digits ≡ encode_lower p
  write-digits digits later size place is_size twice long cut_line =
      (same-fronts digits (encode_lower p) (codes "\n" ++ later) (codes "\n" ++ more) (omega (arith, write-long, is_size, twice, long)) (sym cut_line ∙ write-text)).0

-- the line of a write is these parts
pub write-parts : (s : ℕ) (p rest text digits later : List ℕ) → rest ≡ decimal s ++ (codes " " ++ text) → text ≡ digits ++ (codes "\n" ++ later) → digits ≡ encode_lower p
    → codes "w " ++ rest ≡ op_line (Write s p) ++ later
write-parts s p rest text digits later cut cut_line spelled =
    (λ j. codes "w " ++ cut j) ∙ (λ j. codes "w " ++ (decimal s ++ (codes " " ++ cut_line j))) ∙ (λ j. codes "w " ++ (decimal s ++ (codes " " ++ (spelled j ++ (codes "\n" ++ later)))))
    ∙ sym (write-line s p later)

-- the digits spell a payload of the image
pub write-payload : (l : Layout) (k : ℕ) (p digits : List ℕ) (size place : ℕ) → size ≡ k * l.symbol_bytes → place ≡ 2 * size → length digits ≡ place → digits ≡ encode_lower p → IsBytes p → IsPayload l k p
write-payload l k p digits size place is_size twice long spelled bytes = record {
  long = let both = length-encode_with lower_digits p in omega (arith, both, ap length spelled, long, is_size, twice);
  bytes = bytes;
}

-- why no ask is read is the same, whatever would have been read
pub same-unread : {T U : Type 0} (u e : Unread) → ◌≡◌ {A = Result T Unread} (Err u) (Err e) → ◌≡◌ {A = Result U Unread} (Err u) (Err e)
same-unread u e h = let same : u ≡ e = cc in ap Err same
