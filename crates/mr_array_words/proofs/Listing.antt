-- How many numbers a LOST word has, counted a part at a time.
use Rattle.std.proofs.Common.{◌≡◌, ◌∙◌, ◌+◌, ◌<◌, ◌≤◌, ℕ, List, ◌∷◌, drop, length, filter_map, Option, Some, None, refl, sym, ap, arith, inl, inr, is_some, true, false, ◌==◌}
use Rattle.std.specs.List.{cons_option, slice_index_or}
use Rattle.std.proofs.lemmas.List.{at_drop_all, at_drop_more}
use Rattle.std.proofs.lemmas.Bool.{eq-eqb, ne_eqb}
use Rattle.std.proofs.lemmas.Bool.Decides.{eqb_tells}
use Rattle.mr_text.specs.Numbers.{number_of}
use Rattle.mr_words.specs.Grammar.{Text}
use Rattle.mr_words.specs.Lost.{lost_numbers, parts}

-- how many numbers there are from part i on
abbrev pub numbers_left : List Text → ℕ → ℕ
numbers_left ps i = length (filter_map number_of (drop i ps))

module _ (ps : List Text) (i : ℕ) (text : Text) (lt : i < length ps) (at : text ≡ slice_index_or ps i text) where
  part_is : (o : Option ℕ) → number_of text ≡ o → numbers_left ps i ≡ length (cons_option o (filter_map number_of (drop (i + 1) ps)))
  part_is o is = at_drop_more (λ xs. length (filter_map number_of xs)) ps i text lt
      ∙ ap (λ t. length (filter_map number_of (t ∷ drop (i + 1) ps))) (sym at)
      ∙ ap (λ v. length (cons_option v (filter_map number_of (drop (i + 1) ps)))) is

  -- the part is a number, or none
  pub a_number : is_some (number_of text) ≡ true → numbers_left ps i ≡ 1 + numbers_left ps (i + 1)
  a_number some = go (number_of text) refl some
    where
      go : (o : Option ℕ) → number_of text ≡ o → is_some o ≡ true → numbers_left ps i ≡ 1 + numbers_left ps (i + 1)
      go None is e = cc
      go (Some n) is e = omega (arith, part_is (Some n) is)

  pub no_number : is_some (number_of text) ≡ false → numbers_left ps i ≡ numbers_left ps (i + 1)
  no_number none = go (number_of text) refl none
    where
      go : (o : Option ℕ) → number_of text ≡ o → is_some o ≡ false → numbers_left ps i ≡ numbers_left ps (i + 1)
      go None is e = part_is None is
      go (Some n) is e = cc

pub none_left : (ps : List Text) (i : ℕ) → length ps ≤ i → numbers_left ps i ≡ 0
none_left ps i past = at_drop_all (λ xs. length (filter_map number_of xs)) ps i past

pub all_numbers : (word : Text) → numbers_left (parts word) 0 ≡ length (lost_numbers word)
unfolding lost_numbers
all_numbers word = refl

-- a number more than were to come
pub one_too_many : (word : Text) (count left rest : ℕ) → numbers_left (parts word) 0 + left ≡ count + (1 + rest) → left ≡ 0
    → false ≡ (length (lost_numbers word) == count)
one_too_many word count left rest e none = sym (ne_eqb (length (lost_numbers word)) count (λ same. omega (arith, same, e, none, all_numbers word)))

-- there are so many as are asked for where none is still to come
pub counted_all : (word : Text) (count left : ℕ) → numbers_left (parts word) 0 + left ≡ count + 0 → (left == 0) ≡ (length (lost_numbers word) == count)
counted_all word count left e = elim (eqb_tells left 0) [
  | inl none ↦ none.0 ∙ sym (eq-eqb (length (lost_numbers word)) count (omega (arith, none.1, e, all_numbers word)))
  | inr some ↦ some.0 ∙ sym (ne_eqb (length (lost_numbers word)) count (λ same. some.1 (omega (arith, same, e, all_numbers word))))
]
