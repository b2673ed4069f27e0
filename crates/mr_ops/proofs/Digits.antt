-- Lower-case hexadecimal digits: which texts spell bytes, and which bytes.
use Rattle.std.proofs.Common.{◌≡◌, ℕ, zero, suc, ◌+◌, ◌*◌, ◌/◌, ◌%◌, ◌<◌, ◌==◌, ◌&&◌, ◌||◌, not, inl, inr, Bool, true, false, List, [], ◌∷◌, length, slice_index, Some, unwrap_or, Result, Ok, Err, refl, sym, ap, ap₂, ◌∙◌, arith}
use Rattle.std.specs.Prelude.{MatchResult}
use Rattle.std.specs.List.{list_all}
use Rattle.std.proofs.lemmas.Bool.{and_parts, cases_lt, eqb-true}
use Rattle.std.proofs.lemmas.Bool.Decides.{nat_tests}
use Rattle.std.proofs.lemmas.Grind.{common_steps}
use Rattle.hex.specs.Hex.{IsBytes, decode_pairs, decode_sized, digit_or_error, hex_digit_value, encode_lower, encode_with, is_hex_digit, lower_digits, pair_value, value_at}
use Rattle.hex.specs.declared.error.FromHexError.{FromHexError}
use Rattle.hex.proofs.HexLemmas.{decode_of-even, decode_of-ok, decode_of-same, decode_sized-encode_lower, decode_sized-ok, decode_sized-twice, length-encode_with}
use Rattle.hex.proofs.Pairs.{cons_byte, decode_pairs-ok_pair}
use Rattle.mr_ops.specs.Ops.{is_lower_digit}

-- ---- one digit

-- a byte that is a lower-case digit has a value, whose digit it is
abbrev reads_back : ℕ → Bool
reads_back b = not (is_lower_digit b) || (slice_index lower_digits (unwrap_or (hex_digit_value b) 99) == b)

abbrev all_read_back : ℕ → Bool
all_read_back zero = true
all_read_back (suc n) = reads_back n && all_read_back n

all_read_back-at : (n b : ℕ) → all_read_back n ≡ true → b < n → reads_back b ≡ true
all_read_back-at zero b h low = absurd (omega arith)
all_read_back-at (suc n) b h low =
    let parts = and_parts (reads_back n) (all_read_back n) h in
    elim (cases_lt b n) [
      | inl below ↦ all_read_back-at n b parts.1 below
      | inr top ↦
          let e : b ≡ n = omega arith in
          rw e parts.0
    ]

lower-few : (b : ℕ) → is_lower_digit b ≡ true → b < 103
lower-few b h = grind (arith, nat_tests, common_steps)

or_right : (p q : Bool) → p ≡ true → (not p || q) ≡ true → q ≡ true
or_right true q e h = h
or_right false q e h = absurd (cc)

digit-back : (b : ℕ) → is_lower_digit b ≡ true → slice_index lower_digits (unwrap_or (hex_digit_value b) 99) ≡ b
digit-back b h = eqb-true _ _ (or_right (is_lower_digit b) _ h (all_read_back-at 103 b refl (lower-few b h)))

lower-hex : (b : ℕ) → is_lower_digit b ≡ true → is_hex_digit b ≡ true
lower-hex b h = grind (arith, nat_tests, common_steps)

-- it has one below 16
some_value : (b : ℕ) → is_lower_digit b ≡ true → (hex_digit_value b ≡ Some (unwrap_or (hex_digit_value b) 99)) × (unwrap_or (hex_digit_value b) 99 < 16)
some_value b h = grind (arith, nat_tests, common_steps)

-- the digit of a number below 16 is a lower-case one
abbrev all_lower : ℕ → Bool
all_lower zero = true
all_lower (suc n) = is_lower_digit (slice_index lower_digits n) && all_lower n

all_lower-at : (n d : ℕ) → all_lower n ≡ true → d < n → is_lower_digit (slice_index lower_digits d) ≡ true
all_lower-at zero d h low = absurd (omega arith)
all_lower-at (suc n) d h low =
    let parts = and_parts (is_lower_digit (slice_index lower_digits n)) (all_lower n) h in
    elim (cases_lt d n) [
      | inl below ↦ all_lower-at n d parts.1 below
      | inr top ↦
          let e : d ≡ n = omega arith in
          rw e parts.0
    ]

-- ---- texts

pub lower-encoded : (bytes : List ℕ) → IsBytes bytes → list_all is_lower_digit (encode_lower bytes) ≡ true
unfolding encode_with
lower-encoded [] h = refl
lower-encoded (b ∷ bytes) h =
    let fits : b < 256 = h 0 in
    let high = all_lower-at 16 (b / 16) refl (omega (arith, fits)) in
    let low = all_lower-at 16 (b % 16) refl (omega arith) in
    ap₂ (λ p q. p && q) high (ap₂ (λ p q. p && q) low (lower-encoded bytes (λ k. h (suc k))))

-- what lower-case digits decode to is spelled by them
record Spelled (i : ℕ) (text : List ℕ) : Type 0 where
  bytes : List ℕ
  is_decoded : decode_pairs i text ≡ Ok bytes
  is_text : encode_lower bytes ≡ text

spelled : (i : ℕ) (text : List ℕ) → length text % 2 ≡ 0 → list_all is_lower_digit text ≡ true → Spelled i text
unfolding encode_with decode_pairs
spelled i [] even h = record { bytes = []; is_decoded = refl; is_text = refl }
spelled i (a ∷ []) even h = absurd (omega arith)
spelled i (a ∷ b ∷ rest) even h =
    let parts = and_parts (is_lower_digit a) (is_lower_digit b && list_all is_lower_digit rest) h in
    let more = and_parts (is_lower_digit b) (list_all is_lower_digit rest) parts.1 in
    let later = spelled (i + 2) rest (omega arith) more.1 in
    let va = unwrap_or (hex_digit_value a) 99 in
    let vb = unwrap_or (hex_digit_value b) 99 in
    let sa = some_value a parts.0 in
    let sb = some_value b more.0 in
    let ha : value_at a i ≡ Ok va = ap (digit_or_error a i) sa.0 in
    let hb : value_at b (i + 1) ≡ Ok vb = ap (digit_or_error b (i + 1)) sb.0 in
    let pair : pair_value a b i ≡ Ok (va * 16 + vb) = rw (ha, hb) refl in
    let high : (va * 16 + vb) / 16 ≡ va = omega (arith, sb.1) in
    let low : (va * 16 + vb) % 16 ≡ vb = omega (arith, sb.1) in
    record {
      bytes = (va * 16 + vb) ∷ later.bytes;
      is_decoded = decode_pairs-ok_pair i a b (va * 16 + vb) rest pair ∙ ap (cons_byte (va * 16 + vb)) later.is_decoded;
      is_text = (λ j. slice_index lower_digits (high j) ∷ slice_index lower_digits (low j) ∷ later.is_text j)
          ∙ (λ j. digit-back a parts.0 j ∷ digit-back b more.0 j ∷ rest);
    }

-- ---- a text that is decoded into room for half as many bytes

module _ (text : List ℕ) where
  -- it spells what it decodes to
  pub payload-text : (n : ℕ) (bytes : List ℕ) → list_all is_lower_digit text ≡ true → decode_sized text n ≡ Ok bytes → text ≡ encode_lower bytes
  payload-text n bytes lower ok =
      let long : length text ≡ 2 * n = decode_sized-ok text n bytes ok in
      let even : length text % 2 ≡ 0 = omega (arith, long) in
      let made = spelled 0 text even lower in
      let same : made.bytes ≡ bytes = decode_of-same text made.bytes bytes (decode_of-even text even ∙ made.is_decoded) (sym (decode_sized-twice text n long) ∙ ok) in
      sym made.is_text ∙ ap encode_lower same

  pub payload-bytes : (n : ℕ) (bytes : List ℕ) → decode_sized text n ≡ Ok bytes → IsBytes bytes
  payload-bytes n bytes ok = (decode_of-ok text bytes (sym (decode_sized-twice text n (decode_sized-ok text n bytes ok)) ∙ ok)).3

  module _ (payload : List ℕ) (bytes : IsBytes payload) (spells : text ≡ encode_lower payload) where
    -- other digits spell nothing
    pub payload-not_lower : list_all is_lower_digit text ≡ false → ⊥
    payload-not_lower h =
        let both : true ≡ false = sym (lower-encoded payload bytes) ∙ ap (list_all is_lower_digit) (sym spells) ∙ h in
        cc

    -- nor does what cannot be decoded
    pub payload-refused : (n : ℕ) (fault : FromHexError) → n ≡ length text / 2 → decode_sized text n ≡ Err fault → ⊥
    payload-refused n fault half refused =
        let long = length-encode_with lower_digits payload in
        let room : length payload ≡ n = omega (arith, half, ap length spells, long) in
        let ok = ap (λ t. decode_sized t n) spells ∙ decode_sized-encode_lower payload n room bytes in
        let both : ◌≡◌ {A = Result (List ℕ) FromHexError} (Ok payload) (Err fault) = sym ok ∙ refused in
        cc

-- ---- what decoding into a slice answers

module _ (r : Result (List ℕ) FromHexError) (result : Result Unit FromHexError) (out : List ℕ) (told : MatchResult r (λ bytes. (result ≡ Ok tt) × (out ≡ bytes)) (λ e. result ≡ Err e)) where
  pub decoded-ok : result ≡ Ok tt → r ≡ Ok out
  decoded-ok is = go r told
    where
      go : (r : Result (List ℕ) FromHexError) → MatchResult r (λ bytes. (result ≡ Ok tt) × (out ≡ bytes)) (λ e. result ≡ Err e) → r ≡ Ok out
      go (Ok bytes) told = ap Ok (sym told.1)
      go (Err e) told = let both : ◌≡◌ {A = Result Unit FromHexError} (Ok tt) (Err e) = sym is ∙ told in cc

  pub decoded-err : (fault : FromHexError) → result ≡ Err fault → r ≡ Err fault
  decoded-err fault is = go r told
    where
      go : (r : Result (List ℕ) FromHexError) → MatchResult r (λ bytes. (result ≡ Ok tt) × (out ≡ bytes)) (λ e. result ≡ Err e) → r ≡ Err fault
      go (Ok bytes) told = let both : ◌≡◌ {A = Result Unit FromHexError} (Ok tt) (Err fault) = sym told.0 ∙ is in cc
      go (Err e) told = let both : ◌≡◌ {A = Result Unit FromHexError} (Err e) (Err fault) = sym told ∙ is in let same : e ≡ fault = cc in ap Err same
