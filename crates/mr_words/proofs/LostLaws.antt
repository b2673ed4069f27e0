-- A LOST word is ASCII, so that its bytes are its characters.
use Rattle.std.proofs.Common.{◌≡◌, ◌∙◌, ◌≤◌, ◌==◌, ℕ, Bool, true, false, cond, List, [], ◌∷◌, ◌++◌, refl, sym, ap, arith, codes, inl, inr, subst, nat_lt, nat_le, zero, suc, lit<}
use Rattle.std.specs.Char.{is_ascii_digit}
use Rattle.std.specs.List.{list_all, onto_first}
use Rattle.std.specs.Str.{IsAscii, chars, encode_utf8_all}
use Rattle.std.proofs.lemmas.Bool.{and_from, and_parts, eqb-true, leb-true, ltb-true, lt-ltb, or_cases}
use Rattle.std.proofs.lemmas.Slice.Eq.{bytes_eq-Decides}
use Rattle.std.proofs.lemmas.Str.{IsUtf8-from_ascii, chars_from_encodes, encode_ascii}
use Rattle.mr_text.specs.Numbers.{is_number}
use Rattle.mr_text.proofs.NumberLaws.{number_text}
use Rattle.mr_words.specs.Grammar.{Text}
use Rattle.mr_words.specs.Lost.{is_lost_word, parts}

abbrev pub is_ascii : ℕ → Bool
is_ascii byte = nat_lt byte 128

abbrev are_digits : Text → Bool
are_digits = list_all is_ascii_digit

numbers_digits : (ps : List Text) → list_all is_number ps ≡ true → list_all are_digits ps ≡ true
numbers_digits [] h = refl
numbers_digits (p ∷ ps) h = let q = and_parts (is_number p) _ h in and_from _ _ (number_text p q.0).digits (numbers_digits ps q.1)

pub digit_ascii : (b : ℕ) → is_ascii_digit b ≡ true → is_ascii b ≡ true
digit_ascii b h = let p = and_parts (nat_le 48 b) _ h in let le : b ≤ 57 = leb-true b 57 p.1 in lt-ltb b 128 (omega arith)

-- where each part is of digits, each byte is a digit or the comma
joined_ascii : (word : Text) → list_all are_digits (parts word) ≡ true → list_all is_ascii word ≡ true
joined_ascii [] h = refl
joined_ascii (x ∷ xs) h = go (x == 44) refl h (joined_ascii xs)
  where
    onto : (ps : List Text) → list_all are_digits (onto_first x ps) ≡ true → (is_ascii_digit x ≡ true) × (list_all are_digits ps ≡ true)
    onto [] e = ((and_parts (is_ascii_digit x) _ (and_parts (are_digits (x ∷ [])) _ e).0).0, refl)
    onto (p ∷ ps) e = let a = and_parts (are_digits (x ∷ p)) _ e in
        let d = and_parts (is_ascii_digit x) _ a.0 in (d.0, and_from _ _ d.1 a.1)

    go : (b : Bool) → (x == 44) ≡ b → list_all are_digits (cond b ([] ∷ parts xs) (onto_first x (parts xs))) ≡ true
        → (list_all are_digits (parts xs) ≡ true → list_all is_ascii xs ≡ true) → list_all is_ascii (x ∷ xs) ≡ true
    go true t e f = and_from _ _ (ap is_ascii (eqb-true x 44 t)) (f e)
    go false t e f = let p = onto (parts xs) e in and_from _ _ (digit_ascii x p.0) (f p.1)

pub lost_ascii : (word : Text) → is_lost_word word ≡ true → list_all is_ascii word ≡ true
unfolding is_lost_word
lost_ascii word h = elim (or_cases _ _ h) [
  | inl none ↦ subst (λ w. list_all is_ascii w ≡ true) (sym ((bytes_eq-Decides word (codes "none")).0 none)) refl
  | inr up ↦ joined_ascii word (numbers_digits (parts word) (and_parts _ _ up).0)
]

pub ascii_encodes : (word : Text) → list_all is_ascii word ≡ true → encode_utf8_all word ≡ word
ascii_encodes [] h = refl
ascii_encodes (x ∷ xs) h = let p = and_parts (is_ascii x) _ h in
    ap (λ e. e ++ encode_utf8_all xs) (encode_ascii x (ltb-true x 128 p.0)) ∙ ap (λ e. x ∷ e) (ascii_encodes xs p.1)

ascii_is : (word : Text) → list_all is_ascii word ≡ true → IsAscii word
ascii_is [] h i = lit< tt
ascii_is (x ∷ xs) h zero = ltb-true x 128 (and_parts (is_ascii x) _ h).0
ascii_is (x ∷ xs) h (suc i) = ascii_is xs (and_parts (is_ascii x) _ h).1 i

pub lost_encodes : (word : Text) → is_lost_word word ≡ true → encode_utf8_all word ≡ word
lost_encodes word h = ascii_encodes word (lost_ascii word h)

pub lost_chars : (word : Text) → is_lost_word word ≡ true → chars word ≡ word
lost_chars word h = sym (chars_from_encodes word word (IsUtf8-from_ascii word (ascii_is word (lost_ascii word h))) (lost_encodes word h))
