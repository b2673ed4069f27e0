-- The head of a matrix text: its words, and what they name.
use Rattle.std.proofs.Common.{◌≡◌, ℕ, ◌<◌, ◌≤◌, Bool, true, false, cond, List, [], ◌∷◌, length, get_or, All, Option, Some, None, refl, sym, ap, ◌∙◌, arith, eqb, codes}
use Rattle.std.specs.Char.{is_ascii_digit}
use Rattle.std.specs.List.{join_with_byte}
use Rattle.std.specs.Str.{bytes_eq}
use Rattle.std.proofs.lemmas.Bool.{le-leb, ne_eqb, both_ways}
use Rattle.std.proofs.lemmas.List.Sums.{AllPass-from_list_all}
use Rattle.std.proofs.lemmas.List.Splits.{slice_split_none, join_with_byte-slice_split}
use Rattle.mr_text.specs.Numbers.{is_number, number_of}
use Rattle.mr_text.proofs.NumberLaws.{number_text, number_of-none}
use Rattle.mr_text.specs.Lines.{pieces}
use Rattle.mr_form.specs.declared.heads.Version.{Version}
use Rattle.mr_form.specs.declared.heads.Heading.{Heading}
use Rattle.mr_form.specs.MatrixText.{words, at_least_one, size_of, version_of, heading, head_words, head_of}

-- ---- words

-- fewer than five words are no head
pub few_words : (those : List (List ℕ)) → length those < 5 → head_words those ≡ None
few_words [] few = refl
few_words (a ∷ []) few = refl
few_words (a ∷ b ∷ []) few = refl
few_words (a ∷ b ∷ c ∷ []) few = refl
few_words (a ∷ b ∷ c ∷ d ∷ []) few = refl
few_words (a ∷ b ∷ c ∷ d ∷ e ∷ more) few = absurd (omega arith)

-- a byte that is no digit does not stand in a number
pub no_byte : (byte : ℕ) → is_ascii_digit byte ≡ false → (word : List ℕ) → is_number word ≡ true → All (λ b. eqb b byte ≡ false) word
no_byte byte h word is k d lt = apart (get_or word k d) (AllPass-from_list_all is_ascii_digit word (number_text word is).digits k d lt)
  where
    apart : (b : ℕ) → is_ascii_digit b ≡ true → eqb b byte ≡ false
    apart b digit = ne_eqb _ _ (λ e. both_ways (is_ascii_digit b) (ap is_ascii_digit e ∙ h) digit)

-- a word that spells a number is one word
pub number_parts : (byte : ℕ) → is_ascii_digit byte ≡ false → (word : List ℕ) → is_number word ≡ true → pieces byte word ≡ word ∷ []
number_parts byte h word is = slice_split_none (λ b. eqb b byte) word (no_byte byte h word is)

-- what spells a size
pub size_of-some : (word : List ℕ) (n : ℕ) → number_of word ≡ Some n → 1 ≤ n → Some n ≡ size_of word
unfolding size_of
size_of-some word n e some = sym (ap at_least_one e ∙ ap (λ t. cond t (Some n) None) (le-leb 1 n some))

pub size_of-zero : (word : List ℕ) (n : ℕ) → number_of word ≡ Some n → n < 1 → None ≡ size_of word
unfolding size_of
size_of-zero word n e none = sym (ap at_least_one e ∙ ap (λ m. at_least_one (Some m)) zero_size)
  where
    zero_size : n ≡ 0
    zero_size = omega (arith, none)

pub size_of-none : (word : List ℕ) → number_of word ≡ None → None ≡ size_of word
unfolding size_of
size_of-none word e = sym (ap at_least_one e)

no_size : (word : List ℕ) → is_number word ≡ false → size_of word ≡ None
unfolding size_of
no_size word h = ap at_least_one (number_of-none word h)

heading-none : (version : Option Version) (n w : Option ℕ) → heading version n w None ≡ None
heading-none None n w = refl
heading-none (Some version) None w = refl
heading-none (Some version) (Some n) None = refl
heading-none (Some version) (Some n) (Some w) = refl

cond_same : {X : Type 0} (t : Bool) (x : X) → cond t x x ≡ x
cond_same true x = refl
cond_same false x = refl

-- the answer of a head of five words or more
abbrev answer : List ℕ → List ℕ → List ℕ → List ℕ → List ℕ → Option Heading
answer name version n w k = cond (bytes_eq name (codes "matrix")) (heading (version_of version) (size_of n) (size_of w) (size_of k)) None

no_answer : (name version n w k : List ℕ) → size_of k ≡ None → answer name version n w k ≡ None
no_answer name version n w k h =
    ap (λ o. cond (bytes_eq name (codes "matrix")) (heading (version_of version) (size_of n) (size_of w) o) None) h
    ∙ ap (λ o. cond (bytes_eq name (codes "matrix")) o None) (heading-none (version_of version) (size_of n) (size_of w))
    ∙ cond_same _ None

-- what is no number spells no size, be it one word or more
last_words : (name version n w k : List ℕ) (others : List (List ℕ)) → words k ≡ others → is_number k ≡ false
    → head_words (name ∷ version ∷ n ∷ w ∷ others) ≡ answer name version n w k
last_words name version n w k [] e h = sym (no_answer name version n w k (no_size k h))
last_words name version n w k (x ∷ []) e h =
    let same : x ≡ k = ap (join_with_byte 32) (sym e) ∙ join_with_byte-slice_split 32 k in
    ap (answer name version n w) same
last_words name version n w k (x ∷ y ∷ more) e h = sym (no_answer name version n w k (no_size k h))

-- the answer by the first four words and what is left behind them
pub head_of-words : (line name version n w k : List ℕ) → words line ≡ name ∷ version ∷ n ∷ w ∷ words k → head_of line ≡ answer name version n w k
unfolding head_of
head_of-words line name version n w k e = ap head_words e ∙ go (is_number k) refl
  where
    go : (t : Bool) → is_number k ≡ t → head_words (name ∷ version ∷ n ∷ w ∷ words k) ≡ answer name version n w k
    go true h = ap (λ others. head_words (name ∷ version ∷ n ∷ w ∷ others)) (number_parts 32 refl k h)
    go false h = last_words name version n w k _ refl h

-- fewer than five words
pub head_of-few : (line : List ℕ) → length (words line) < 5 → head_of line ≡ None
unfolding head_of
head_of-few line few = few_words (words line) few
