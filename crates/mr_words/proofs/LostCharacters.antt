-- A text's bytes name the same numbers as its characters, since a character that is no ASCII is no digit and no comma.
use Rattle.std.proofs.Common.{◌≡◌, ◌∙◌, ◌+◌, ◌≤◌, ◌==◌, ℕ, Bool, true, false, cond, not, List, [], ◌∷◌, ◌++◌, map, filter_map, refl, sym, ap, arith, length, inl, inr, nat_le, lit≤, ◌/◌, ◌%◌}
use Rattle.std.specs.Char.{is_ascii_digit}
use Rattle.std.specs.List.{cons_option, list_all, onto_first}
use Rattle.std.specs.Str.{encode_utf8_all}
use Rattle.std.proofs.lemmas.Bool.{and_from, and_parts, cases_lt, eqb-true, le-leb, le-ltb, leb-true, ltb-true, ne_eqb, not-true}
use Rattle.std.proofs.lemmas.Str.{encode_ascii, len_utf8_bounds, length-encode}
use lib.Dec.{ltb}
use lib.Utf8.{encode}
use Rattle.mr_text.specs.Numbers.{is_number, number_of}
use Rattle.mr_text.proofs.NumberLaws.{number_of-none, number_text}
use Rattle.mr_words.specs.Grammar.{Text}
use Rattle.mr_words.specs.Lost.{lost_numbers, parts}
use Rattle.mr_words.proofs.LostLaws.{ascii_encodes, digit_ascii, is_ascii}

abbrev are_high : Text → Bool
are_high = list_all (nat_le 128)

-- the bytes of a character that is no ASCII
encode_high : (c : ℕ) → 128 ≤ c → are_high (encode c) ≡ true
unfolding encode
encode_high c le = by_size (ltb c 128) (ltb c 2048) (ltb c 65536) (le-ltb c 128 le)
  where
    above : (k n : ℕ) → 128 ≤ k → nat_le 128 (k + n) ≡ true
    above k n h = le-leb 128 (k + n) (omega arith)

    by_size : (a b d : Bool) → a ≡ false → are_high (cond a (c ∷ []) (cond b ((192 + c / 64) ∷ (128 + c % 64) ∷ [])
        (cond d ((224 + c / 4096) ∷ (128 + (c / 64) % 64) ∷ (128 + c % 64) ∷ [])
        ((240 + c / 262144) ∷ (128 + (c / 4096) % 64) ∷ (128 + (c / 64) % 64) ∷ (128 + c % 64) ∷ [])))) ≡ true
    by_size true b d e = cc
    by_size false true d e = and_from _ _ (above 192 (c / 64) (lit≤ tt)) (and_from _ _ (above 128 (c % 64) (lit≤ tt)) refl)
    by_size false false true e = and_from _ _ (above 224 (c / 4096) (lit≤ tt)) (and_from _ _ (above 128 ((c / 64) % 64) (lit≤ tt))
        (and_from _ _ (above 128 (c % 64) (lit≤ tt)) refl))
    by_size false false false e = and_from _ _ (above 240 (c / 262144) (lit≤ tt)) (and_from _ _ (above 128 ((c / 4096) % 64) (lit≤ tt))
        (and_from _ _ (above 128 ((c / 64) % 64) (lit≤ tt)) (and_from _ _ (above 128 (c % 64) (lit≤ tt)) refl)))

-- no byte of them is a comma, where it is none
abbrev are_other : Text → Bool
are_other = list_all (λ b. not (b == 44))

high_other : (bs : Text) → are_high bs ≡ true → are_other bs ≡ true
high_other [] h = refl
high_other (b ∷ bs) h = let p = and_parts (nat_le 128 b) _ h in
    let le : 128 ≤ b = leb-true 128 b p.0 in
    and_from _ _ (ap not (ne_eqb b 44 (λ e. omega (arith, e)))) (high_other bs p.1)

encode_other : (c : ℕ) → (c == 44) ≡ false → are_other (encode c) ≡ true
encode_other c e = elim (cases_lt c 128) [
  | inl low ↦ ap are_other (encode_ascii c low) ∙ and_from _ _ (ap not e) refl
  | inr high ↦ high_other (encode c) (encode_high c high)
]

onto_all : Text → List Text → List Text
onto_all [] ps = ps
onto_all (b ∷ bs) ps = onto_first b (onto_all bs ps)

parts_onto : (bs rest : Text) → are_other bs ≡ true → parts (bs ++ rest) ≡ onto_all bs (parts rest)
unfolding onto_all
parts_onto [] rest h = refl
parts_onto (b ∷ bs) rest h = let p = and_parts (not (b == 44)) _ h in
    ap (λ t. cond t ([] ∷ parts (bs ++ rest)) (onto_first b (parts (bs ++ rest)))) (not-true (b == 44) p.0) ∙ ap (onto_first b) (parts_onto bs rest p.1)

onto_all_first : (bs p : Text) (ps : List Text) → onto_all bs (p ∷ ps) ≡ (bs ++ p) ∷ ps
unfolding onto_all
onto_all_first [] p ps = refl
onto_all_first (b ∷ bs) p ps = ap (onto_first b) (onto_all_first bs p ps)

-- there is a first part
record Parted (word : Text) : Type 0 where
  first : Text
  others : List Text
  is : parts word ≡ first ∷ others

parted : (word : Text) → Parted word
parted [] = record { first = []; others = []; is = refl }
parted (x ∷ xs) = go (x == 44) refl (parted xs)
  where
    go : (b : Bool) → (x == 44) ≡ b → Parted xs → Parted (x ∷ xs)
    go true e p = record { first = []; others = parts xs; is = rw e refl }
    go false e p = record { first = x ∷ p.first; others = p.others; is = rw (e, p.is) refl }

-- the parts of the bytes are the bytes of the parts
parts_encoded : (cs : Text) → parts (encode_utf8_all cs) ≡ map encode_utf8_all (parts cs)
parts_encoded [] = refl
parts_encoded (c ∷ cs) = go (c == 44) refl (parts_encoded cs)
  where
    go : (b : Bool) → (c == 44) ≡ b → parts (encode_utf8_all cs) ≡ map encode_utf8_all (parts cs)
        → parts (encode_utf8_all (c ∷ cs)) ≡ map encode_utf8_all (cond b ([] ∷ parts cs) (onto_first c (parts cs)))
    go true e h = ap (λ x. parts (encode x ++ encode_utf8_all cs)) (eqb-true c 44 e) ∙ ap (λ bs. parts (bs ++ encode_utf8_all cs)) (encode_ascii 44 (omega arith))
        ∙ ap (λ ps. [] ∷ ps) h
    go false e h = let p = parted cs in
        parts_onto (encode c) (encode_utf8_all cs) (encode_other c e)
        ∙ ap (onto_all (encode c)) (h ∙ ap (map encode_utf8_all) p.is) ∙ onto_all_first (encode c) (encode_utf8_all p.first) (map encode_utf8_all p.others)
        ∙ sym (ap (λ ps. map encode_utf8_all (onto_first c ps)) p.is)

high_no_digits : (bs rest : Text) → are_high bs ≡ true → list_all is_ascii_digit (bs ++ rest) ≡ true → length bs ≡ 0
high_no_digits [] rest h d = refl
high_no_digits (b ∷ bs) rest h d =
    let le : 128 ≤ b = leb-true 128 b (and_parts (nat_le 128 b) _ h).0 in
    let digit = digit_ascii b (and_parts (is_ascii_digit b) _ d).0 in
    absurd (omega (arith, ltb-true b 128 digit))

digits_ascii : (cs : Text) → list_all is_ascii_digit cs ≡ true → list_all is_ascii cs ≡ true
digits_ascii [] h = refl
digits_ascii (c ∷ cs) h = let p = and_parts (is_ascii_digit c) _ h in and_from _ _ (digit_ascii c p.0) (digits_ascii cs p.1)

-- bytes that are digits are their characters
digits_encoded : (cs : Text) → list_all is_ascii_digit (encode_utf8_all cs) ≡ true → encode_utf8_all cs ≡ cs
digits_encoded [] h = refl
digits_encoded (c ∷ cs) h = elim (cases_lt c 128) [
  | inl low ↦
      let one = encode_ascii c low in
      let d = and_parts (is_ascii_digit c) _ (sym (ap (λ bs. list_all is_ascii_digit (bs ++ encode_utf8_all cs)) one) ∙ h) in
      ap (λ bs. bs ++ encode_utf8_all cs) one ∙ ap (λ t. c ∷ t) (digits_encoded cs d.1)
  | inr high ↦ let none : length (encode c) ≡ 0 = high_no_digits (encode c) (encode_utf8_all cs) (encode_high c high) h in
      absurd (omega (arith, none, length-encode c, len_utf8_bounds c))
]

number_encoded : (cs : Text) → number_of (encode_utf8_all cs) ≡ number_of cs
number_encoded cs = go (is_number cs) refl (is_number (encode_utf8_all cs)) refl
  where
    go : (a : Bool) → is_number cs ≡ a → (b : Bool) → is_number (encode_utf8_all cs) ≡ b → number_of (encode_utf8_all cs) ≡ number_of cs
    go a e true f = ap number_of (digits_encoded cs (number_text (encode_utf8_all cs) f).digits)
    go true e false f = ap number_of (ascii_encodes cs (digits_ascii cs (number_text cs e).digits))
    go false e false f = number_of-none (encode_utf8_all cs) f ∙ sym (number_of-none cs e)

numbers_encoded : (ps : List Text) → filter_map number_of (map encode_utf8_all ps) ≡ filter_map number_of ps
numbers_encoded [] = refl
numbers_encoded (p ∷ ps) = (λ i. cons_option (number_encoded p i) (numbers_encoded ps i))

pub lost_numbers_encoded : (cs : Text) → lost_numbers (encode_utf8_all cs) ≡ lost_numbers cs
unfolding lost_numbers
lost_numbers_encoded cs = ap (filter_map number_of) (parts_encoded cs) ∙ numbers_encoded (parts cs)
