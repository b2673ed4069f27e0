-- The rows of a matrix text, byte by byte.
use Rattle.std.proofs.Common.{◌≡◌, ◌≢◌, ℕ, suc, ◌+◌, ◌*◌, ◌^◌, ◌<◌, Bool, true, false, cond, ◌==◌, ◌&&◌, ◌||◌, List, length, get_or, take, Option, Some, None, bit_or, refl, sym, ap, ap₂, ◌∙◌, arith, add-one}
use Rattle.std.specs.List.{list_all}
use Rattle.std.proofs.lemmas.Bool.{eq-eqb, ne_eqb}
use Rattle.std.proofs.lemmas.Nat.{or_shifted, or_comm}
use Rattle.std.proofs.lemmas.List.{take_all}
use Rattle.std.proofs.lemmas.List.Folds.{list_all_more, list_all_at}
use Rattle.mr_model.specs.Sets.{set_below}
use Rattle.mr_model.proofs.Finding.{set_below-lt}
use Rattle.mr_form.specs.MatrixText.{are_bits, is_row, ones_below, row_of}

-- one number more, which passes
pub set_below-in : (n : ℕ) (p : ℕ → Bool) → p n ≡ true → bit_or (set_below n p) (2 ^ n) ≡ set_below (n + 1) p
unfolding set_below
set_below-in n p h =
    or_comm (set_below n p) (2 ^ n) ∙ ap (λ v. bit_or v (set_below n p)) one ∙ or_shifted 1 n (set_below n p) (set_below-lt n p)
    ∙ last ∙ ap (λ m. set_below m p) (sym (add-one n))
  where
    one : 2 ^ n ≡ 1 * 2 ^ n
    one = omega arith

    last : 1 * 2 ^ n + set_below n p ≡ set_below (suc n) p
    last = rw h (omega arith)

-- one number more, which does not pass
pub set_below-out : (n : ℕ) (p : ℕ → Bool) → p n ≡ false → set_below n p ≡ set_below (n + 1) p
unfolding set_below
set_below-out n p h = last ∙ ap (λ m. set_below m p) (sym (add-one n))
  where
    last : set_below n p ≡ set_below (suc n) p
    last = rw h (omega arith)

-- The first n bytes are bits, and the row has the places of the ones among them.
pub record IsRowSoFar (line : List ℕ) (n row : ℕ) : Type 0 where
  pub bits : are_bits (take n line) ≡ true
  pub ones : row ≡ ones_below n line

pub so_far-start : (line : List ℕ) → IsRowSoFar line 0 0
unfolding are_bits ones_below set_below
so_far-start line = record { bits = refl; ones = refl }

more_bits : (line : List ℕ) (n byte : ℕ) → n < length line → get_or line n 0 ≡ byte → (byte == 48 || byte == 49) ≡ true
    → are_bits (take n line) ≡ true → are_bits (take (n + 1) line) ≡ true
unfolding are_bits
more_bits line n byte within e bit so_far =
    list_all_more (λ b. b == 48 || b == 49) line n 0 within ∙ ap₂ (λ s t. s && t) so_far (ap (λ b. b == 48 || b == 49) e ∙ bit)

pub so_far-zero : (line : List ℕ) (n row : ℕ) → n < length line → get_or line n 0 ≡ 48 → IsRowSoFar line n row → IsRowSoFar line (n + 1) row
unfolding ones_below
so_far-zero line n row within e h = record {
  bits = more_bits line n 48 within e refl h.bits;
  ones = h.ones ∙ set_below-out n (λ c. get_or line c 0 == 49) (ap (λ b. b == 49) e);
}

pub so_far-one : (line : List ℕ) (n row : ℕ) → n < length line → get_or line n 0 ≡ 49 → IsRowSoFar line n row → IsRowSoFar line (n + 1) (bit_or row (2 ^ n))
unfolding ones_below
so_far-one line n row within e h = record {
  bits = more_bits line n 49 within e refl h.bits;
  ones = ap (λ r. bit_or r (2 ^ n)) h.ones ∙ set_below-in n (λ c. get_or line c 0 == 49) (ap (λ b. b == 49) e);
}

-- another byte stands in no row
pub other_byte : (k : ℕ) (line : List ℕ) (n : ℕ) → n < length line → get_or line n 0 ≢ 48 → get_or line n 0 ≢ 49 → is_row k line ≡ false
unfolding is_row are_bits
other_byte k line n within zero_not one_not = ap (λ t. length line == k && t) not_bits ∙ none (length line == k)
  where
    not_bits : list_all (λ b. b == 48 || b == 49) line ≡ false
    not_bits = list_all_at (λ b. b == 48 || b == 49) line n 0 within (ap₂ (λ s t. s || t) (ne_eqb _ _ zero_not) (ne_eqb _ _ one_not))

    none : (t : Bool) → (t && false) ≡ false
    none true = refl
    none false = refl

-- a line of another length is no row
pub other_length : (k : ℕ) (line : List ℕ) → length line ≢ k → is_row k line ≡ false
unfolding is_row
other_length k line h = ap (λ t. t && are_bits line) (ne_eqb _ _ h)

-- at the end the line is a row
pub so_far-end : (k : ℕ) (line : List ℕ) (n row : ℕ) → length line ≡ k → n ≡ length line → IsRowSoFar line n row → (is_row k line ≡ true) × (row ≡ row_of line)
unfolding is_row
so_far-end k line n row e whole h = (
  ap₂ (λ s t. s && t) (eq-eqb _ _ e) (ap are_bits (sym (take_all n line (omega arith))) ∙ h.bits),
  h.ones ∙ ap (λ m. ones_below m line) whole,
)

-- what is read of a row, and of what is none
pub read-row : (k : ℕ) (line : List ℕ) (row : ℕ) → is_row k line ≡ true → row ≡ row_of line
    → ◌≡◌ {A = Option ℕ} (Some row) (cond (is_row k line) (Some (row_of line)) None)
read-row k line row h e = rw h (ap Some e)

pub read-none : (k : ℕ) (line : List ℕ) → is_row k line ≡ false → ◌≡◌ {A = Option ℕ} None (cond (is_row k line) (Some (row_of line)) None)
read-none k line h = rw h refl

-- and what it says
pub read-is : (k : ℕ) (line : List ℕ) (row : ℕ) → ◌≡◌ {A = Option ℕ} (Some row) (cond (is_row k line) (Some (row_of line)) None) → (is_row k line ≡ true) × (row ≡ row_of line)
read-is k line row e = go (is_row k line) e
  where
    go : (t : Bool) → ◌≡◌ {A = Option ℕ} (Some row) (cond t (Some (row_of line)) None) → (t ≡ true) × (row ≡ row_of line)
    go true h = (refl, cc)
    go false h = cc

pub read-not : (k : ℕ) (line : List ℕ) → ◌≡◌ {A = Option ℕ} None (cond (is_row k line) (Some (row_of line)) None) → is_row k line ≡ false
read-not k line e = go (is_row k line) e
  where
    go : (t : Bool) → ◌≡◌ {A = Option ℕ} None (cond t (Some (row_of line)) None) → t ≡ false
    go true h = cc
    go false h = refl
