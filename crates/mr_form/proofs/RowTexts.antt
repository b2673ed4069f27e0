-- The text of a row, both ways.
use Rattle.std.proofs.Common.{◌≡◌, ℕ, suc, zero, ◌+◌, ◌^◌, ◌<◌, true, false, cond, ◌==◌, ◌&&◌, ◌||◌, List, [], ◌∷◌, ◌++◌, length, get_or, ⊎_elim, refl, sym, ap, ap₂, subst, ◌∙◌, arith}
use Rattle.std.specs.Int.{bit_at}
use Rattle.std.proofs.lemmas.Bool.{eq-eqb, eqb-true, and_parts, or_cases, cases_lt}
use Rattle.std.proofs.lemmas.Grind.{same_number_lists}
use Rattle.std.proofs.lemmas.List.Sums.{AllPass-from_list_all, list_all-from_AllPass}
use Rattle.std.proofs.lemmas.List.Elements.{All-from_get_or}
use Rattle.std.proofs.lemmas.List.FromFn.{get_or-map-range_with_len, length-map-range_with_len, map-range_with_len_more}
use Rattle.std.proofs.lemmas.Nat.Bits.{bit_at-lt, bit_at_above, same_from_bits}
use Rattle.mr_model.specs.Sets.{has}
use Rattle.mr_model.proofs.SetLaws.{true-has, false-has}
use Rattle.mr_model.proofs.Finding.{bit_at_set_below, bit_at_set_above}
use Rattle.mr_form.specs.MatrixText.{row_text, are_bits, is_row, ones_below, row_of}

pub length-row_text : (k row : ℕ) → length (row_text k row) ≡ k
unfolding row_text
length-row_text k row = length-map-range_with_len (λ c. 48 + bit_at row c) 0 k

pub row_text-at : (k row c : ℕ) → c < k → get_or (row_text k row) c 0 ≡ 48 + bit_at row c
unfolding row_text
row_text-at k row c low = get_or-map-range_with_len (λ i. 48 + bit_at row i) 0 k c c 0 low (omega arith)

-- one column more
pub row_text-more : (n row : ℕ) → row_text (n + 1) row ≡ row_text n row ++ (48 + bit_at row n) ∷ []
unfolding row_text
row_text-more n row = map-range_with_len_more (λ c. 48 + bit_at row c) 0 n n (omega arith)

-- the byte of a member, and of what is none
pub bit-one : (row c : ℕ) → has row c ≡ true → 49 ≡ 48 + bit_at row c
bit-one row c h = omega (arith, true-has row c h)

pub bit-zero : (row c : ℕ) → has row c ≡ false → 48 ≡ 48 + bit_at row c
bit-zero row c h = omega (arith, false-has row c h)

bit_or_bit : (b : ℕ) → b < 2 → (48 + b == 48 || 48 + b == 49) ≡ true
bit_or_bit zero low = refl
bit_or_bit (suc zero) low = refl
bit_or_bit (suc (suc b)) low = absurd (omega arith)

-- the text of a row is a row
pub is_row-text : (k row : ℕ) → is_row k (row_text k row) ≡ true
unfolding is_row are_bits
is_row-text k row = ap₂ (λ s t. s && t) (eq-eqb _ _ (length-row_text k row)) bits
  where
    each : (c : ℕ) → c < length (row_text k row) → (get_or (row_text k row) c 0 == 48 || get_or (row_text k row) c 0 == 49) ≡ true
    each c low = ap (λ v. v == 48 || v == 49) (row_text-at k row c (omega (arith, length-row_text k row))) ∙ bit_or_bit (bit_at row c) (bit_at-lt row c)

    bits : are_bits (row_text k row) ≡ true
    bits = list_all-from_AllPass _ _ (All-from_get_or (λ v. (v == 48 || v == 49) ≡ true) (row_text k row) 0 each)

one_bit : (b : ℕ) → b < 2 → cond (48 + b == 49) 1 0 ≡ b
one_bit zero low = refl
one_bit (suc zero) low = refl
one_bit (suc (suc b)) low = absurd (omega arith)

-- and is read as that row
pub row_of-text : (k row : ℕ) → row < 2 ^ k → row_of (row_text k row) ≡ row
unfolding ones_below
row_of-text k row small = same_from_bits _ _ (λ c. ⊎_elim
    (λ low. bit_at_set_below (length (row_text k row)) (λ i. get_or (row_text k row) i 0 == 49) c (omega (arith, length-row_text k row))
    ∙ ap (λ v. cond (v == 49) 1 0) (row_text-at k row c low) ∙ one_bit (bit_at row c) (bit_at-lt row c))
    (λ high. bit_at_set_above (length (row_text k row)) (λ i. get_or (row_text k row) i 0 == 49) c (omega (arith, length-row_text k row)) ∙ sym (bit_at_above row k c small high))
    (cases_lt c k))

bit_byte : (v : ℕ) → (v == 48 || v == 49) ≡ true → 48 + cond (v == 49) 1 0 ≡ v
bit_byte v h = ⊎_elim
    (λ e. subst (λ u. 48 + cond (u == 49) 1 0 ≡ u) (sym (eqb-true v 48 e)) refl)
    (λ e. subst (λ u. 48 + cond (u == 49) 1 0 ≡ u) (sym (eqb-true v 49 e)) refl)
    (or_cases (v == 48) (v == 49) h)

-- a row is the text of what is read of it
pub text-row_of : (k : ℕ) (line : List ℕ) → is_row k line ≡ true → row_text k (row_of line) ≡ line
unfolding is_row are_bits ones_below
text-row_of k line h =
    let p = and_parts _ _ h in
    let long : length line ≡ k = eqb-true _ _ p.0 in
    same_number_lists (row_text k (row_of line)) line (length-row_text k (row_of line) ∙ sym long)
    (λ c low. let within : c < k = omega (arith, length-row_text k (row_of line)) in
    row_text-at k (row_of line) c within
    ∙ ap (λ b. 48 + b) (bit_at_set_below (length line) (λ i. get_or line i 0 == 49) c (omega arith))
    ∙ bit_byte (get_or line c 0) (AllPass-from_list_all (λ b. b == 48 || b == 49) line p.1 c 0 (omega arith)))
