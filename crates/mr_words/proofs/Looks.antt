-- What clap sees of a word, by what the grammar takes it for.
use Rattle.std.proofs.Common.{◌≡◌, ◌==◌, ℕ, Bool, true, false, List, [], ◌∷◌, Option, Some, None, refl, sym, subst}
use Rattle.std.specs.Char.{encode_utf8}
use Rattle.std.specs.List.{before_first}
use Rattle.std.specs.Prelude.{slice_get}
use Rattle.std.specs.Str.{IsUtf8, bytes_eq, chars, encode_utf8_all}
use Rattle.std.proofs.lemmas.Bool.{eqb-true}
use Rattle.std.proofs.lemmas.Str.{IsUtf8-past_char, encodes-chars}
use Rattle.clap.specs.Lexer.{long_of, short_of}
use Rattle.mr_words.specs.Grammar.{Text, dashes, option, strange, plain, is_equals, value_after, word_of}

-- `--`
abbrev pub two_dashes : Text
two_dashes = 45 ∷ 45 ∷ []

pub data View (word : Text) : Type 0 where
  is_dashes : word_of word ≡ dashes → bytes_eq word two_dashes ≡ true → View word
  is_option : (name : Text) (value : Option Text) → word_of word ≡ option name value → bytes_eq word two_dashes ≡ false
      → long_of word ≡ Some (name, value) → View word
  is_strange : (flags : Text) (first : ℕ) → word_of word ≡ strange → bytes_eq word two_dashes ≡ false → long_of word ≡ None
      → short_of word ≡ Some flags → slice_get (chars flags) 0 ≡ Some first → View word
  is_plain : word_of word ≡ plain → bytes_eq word two_dashes ≡ false → long_of word ≡ None → short_of word ≡ None → View word

-- a text that is not empty has a first character
first_char : (y : ℕ) (rest : Text) → IsUtf8 (y ∷ rest) → (c : ℕ) × (slice_get (chars (y ∷ rest)) 0 ≡ Some c)
first_char y rest u = go (chars (y ∷ rest)) (encodes-chars (y ∷ rest) u)
  where
    go : (cs : List ℕ) → encode_utf8_all cs ≡ y ∷ rest → (c : ℕ) × (slice_get cs 0 ≡ Some c)
    go [] e = cc
    go (c ∷ cs) e = (c, refl)

past_dash : (rest : Text) → IsUtf8 (45 ∷ rest) → IsUtf8 rest
unfolding encode_utf8
past_dash rest u = IsUtf8-past_char (45 ∷ rest) rest 45 u refl

view_one : (x : ℕ) → View (x ∷ [])
view_one x = go (x == 45) refl
  where
    go : (b : Bool) → (x == 45) ≡ b → View (x ∷ [])
    go true e = subst (λ y. View (y ∷ [])) (sym (eqb-true x 45 e)) (is_plain refl refl refl refl)
    go false e = is_plain refl (rw e refl) (rw e refl) (rw e refl)

view_dashed : (rest : Text) → View (45 ∷ 45 ∷ rest)
view_dashed [] = is_dashes refl refl
view_dashed (z ∷ zs) = is_option (before_first is_equals (z ∷ zs)) (value_after (z ∷ zs)) refl refl refl

view_dash : (y : ℕ) (rest : Text) → IsUtf8 (45 ∷ y ∷ rest) → View (45 ∷ y ∷ rest)
view_dash y rest u = go (y == 45) refl
  where
    go : (b : Bool) → (y == 45) ≡ b → View (45 ∷ y ∷ rest)
    go true e = subst (λ z. View (45 ∷ z ∷ rest)) (sym (eqb-true y 45 e)) (view_dashed rest)
    go false e = let first = first_char y rest (past_dash (y ∷ rest) u) in
        is_strange (y ∷ rest) first.0 (rw e refl) (rw e refl) (rw e refl) (rw e refl) first.1

view_two : (x y : ℕ) (rest : Text) → IsUtf8 (x ∷ y ∷ rest) → View (x ∷ y ∷ rest)
view_two x y rest u = go (x == 45) refl
  where
    go : (b : Bool) → (x == 45) ≡ b → View (x ∷ y ∷ rest)
    go true e = subst (λ z. IsUtf8 (z ∷ y ∷ rest) → View (z ∷ y ∷ rest)) (sym (eqb-true x 45 e)) (view_dash y rest) u
    go false e = is_plain (rw e refl) (rw e refl) (rw e refl) (rw e refl)

pub view : (word : Text) → IsUtf8 word → View word
view [] u = is_plain refl refl refl refl
view (x ∷ []) u = view_one x
view (x ∷ y ∷ rest) u = view_two x y rest u
