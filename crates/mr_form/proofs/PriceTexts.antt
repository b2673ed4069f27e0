-- The text of the line of the prices, both ways, and the prices 1 of version 1.
use Rattle.std.proofs.Common.{◌≡◌, ℕ, zero, suc, ◌<◌, ◌≤◌, Bool, true, false, cond, ◌&&◌, not, List, [], ◌∷◌, ◌++◌, length, get_or, drop, map, flat_map, replicate, All, append_assoc, refl, sym, ap, ap₂, ◌∙◌, arith, codes, decimal, eqb}
use Rattle.std.specs.List.{list_all, join_with_byte}
use Rattle.std.specs.Str.{bytes_eq}
use Rattle.std.proofs.lemmas.Bool.{eq-eqb, eqb-true, and_parts, le-leb, not-true}
use Rattle.std.proofs.lemmas.List.{append-nil, length-replicate, get_or-replicate}
use Rattle.std.proofs.lemmas.List.Sums.{AllPass-from_list_all, list_all-from_AllPass}
use Rattle.std.proofs.lemmas.List.Splits.{slice_split_at, slice_split_none, join_with_byte-slice_split}
use Rattle.std.proofs.lemmas.Slice.Eq.{bytes_eq-Decides}
use Rattle.mr_text.proofs.NumberLaws.{decimal-number_of, number_of-decimal, number_of-some, is_number-decimal}
use Rattle.mr_bits.specs.Matrices.{IsPriceList}
use Rattle.mr_form.specs.MatrixText.{ended, words, line_at, price_text, price_lines, number_in, are_ones, is_price, are_prices, prices_of, is_price_line}
use Rattle.mr_form.proofs.HeadLaws.{no_byte}
use Rattle.mr_form.proofs.PriceLaws.{number-in, price-number, price-line}

-- ---- the prices 1

-- what are ones are as many ones
pub ones-are : (prices : List ℕ) → are_ones prices ≡ true → prices ≡ replicate (length prices) 1
ones-are [] h = refl
ones-are (p ∷ prices) h =
    let q = and_parts _ _ h in
    ap₂ (λ (a : ℕ) (l : List ℕ). a ∷ l) (eqb-true p 1 q.0) (ones-are prices q.1)

pub ones-all : (n : ℕ) → are_ones (replicate n 1) ≡ true
ones-all zero = refl
ones-all (suc n) = ones-all n

pub ones-priced : (n : ℕ) → IsPriceList (replicate n 1)
ones-priced n k d low =
    let e = get_or-replicate {A = ℕ} n k 1 d (omega (arith, low, length-replicate {A = ℕ} n 1)) in
    (omega (arith, e), omega (arith, e))

-- ---- from a line to its prices and back

-- no space stands in a word
abbrev NoSpace : List ℕ → Type 0
NoSpace word = All (λ b. eqb b 32 ≡ false) word

name_no_space : NoSpace (codes "price")
name_no_space k d low = not-true _ (AllPass-from_list_all (λ b. not (eqb b 32)) (codes "price") refl k d low)

pub price-small : (prices : List ℕ) → IsPriceList prices → (i : ℕ) → i < length prices → get_or prices i 0 < 1000000000
price-small prices h i low = omega (arith, (h i 0 low).1)

-- the words of a line of words
spaced-words : (first : List ℕ) (prices : List ℕ) → NoSpace first → ((i : ℕ) → i < length prices → get_or prices i 0 < 1000000000)
    → words (join_with_byte 32 (first ∷ map decimal prices)) ≡ first ∷ map decimal prices
spaced-words first [] none small = slice_split_none (λ b. eqb b 32) first none
spaced-words first (p ∷ prices) none small =
    slice_split_at (λ b. eqb b 32) first 32 (join_with_byte 32 (decimal p ∷ map decimal prices)) none refl
    ∙ ap (λ (l : List (List ℕ)). first ∷ l) (spaced-words (decimal p) prices (no_byte 32 refl (decimal p) (is_number-decimal p (small 0 (omega arith)))) (λ i low. small (suc i) (omega arith)))

numbers-read : (prices : List ℕ) → ((i : ℕ) → i < length prices → get_or prices i 0 < 1000000000) → map number_in (map decimal prices) ≡ prices
numbers-read [] small = refl
numbers-read (p ∷ prices) small =
    ap₂ (λ (a : ℕ) (l : List ℕ). a ∷ l) (number-in (decimal p) p (number_of-decimal p (small 0 (omega arith)))) (numbers-read prices (λ i low. small (suc i) (omega arith)))

module _ (prices : List ℕ) (h : IsPriceList prices) where
  price-words : words (price_text prices) ≡ codes "price" ∷ map decimal prices
  unfolding price_text
  price-words = spaced-words (codes "price") prices name_no_space (price-small prices h)

  -- the text of prices is read as them
  pub prices_of-text : prices_of (price_text prices) ≡ prices
  prices_of-text = ap (λ (ws : List (List ℕ)). map number_in (drop 1 ws)) price-words ∙ numbers-read prices (price-small prices h)

  all_prices : list_all is_price prices ≡ true
  all_prices = list_all-from_AllPass is_price prices (λ k d low. ap₂ (λ (s t : Bool). s && t) (le-leb _ _ (h k d low).0) (le-leb _ _ (h k d low).1))

  pub is_price_line-text : (n : ℕ) → length prices ≡ n → are_ones prices ≡ false → is_price_line n (price_text prices) ≡ true
  unfolding is_price_line
  is_price_line-text n count others = ap₂ (λ (s t : Bool). s && t)
      (ap (are_prices n) prices_of-text ∙ ap₂ (λ (s t : Bool). s && t) (eq-eqb _ _ count) all_prices)
      (ap₂ (λ (s t : Bool). s && t)
      (ap (λ (ws : List (List ℕ)). bytes_eq (line_at ws 0) (codes "price")) price-words)
      (ap (λ (ps : List ℕ). not (are_ones ps)) prices_of-text ∙ ap not others))

-- words that spell prices are the decimal texts of these
words-spelled : (ws : List (List ℕ)) → list_all is_price (map number_in ws) ≡ true → ws ≡ map decimal (map number_in ws)
words-spelled [] h = refl
words-spelled (word ∷ ws) h =
    let q = and_parts _ _ h in
    let some = number_of-some word (price-number word q.0) in
    ap₂ (λ (a : List ℕ) (l : List (List ℕ)). a ∷ l) (sym (decimal-number_of word _ some).0 ∙ ap decimal (sym (number-in word _ some))) (words-spelled ws q.1)

first_word : (ws : List (List ℕ)) → 0 < length (map number_in (drop 1 ws)) → ws ≡ line_at ws 0 ∷ drop 1 ws
first_word [] some = absurd (omega arith)
first_word (word ∷ ws) some = refl

-- a line of prices is the text of what is read of it
pub text-prices_of : (n : ℕ) (line : List ℕ) → 1 ≤ n → is_price_line n line ≡ true → line ≡ price_text (prices_of line)
unfolding price_text
text-prices_of n line some h =
    let p = price-line n line h in
    sym (join_with_byte-slice_split 32 line)
    ∙ ap (join_with_byte 32) (first_word (words line) (omega (arith, p.count, some)))
    ∙ ap₂ (λ (a : List ℕ) (l : List (List ℕ)). join_with_byte 32 (a ∷ l)) ((bytes_eq-Decides (line_at (words line) 0) (codes "price")).0 p.name)
    (words-spelled (drop 1 (words line)) p.each)

-- ---- the parts in which the line is put

numbers-joined : (first : List ℕ) (prices : List ℕ) → join_with_byte 32 (first ∷ map decimal prices) ≡ first ++ flat_map (λ p. 32 ∷ decimal p) prices
numbers-joined first [] = sym (append-nil first)
numbers-joined first (p ∷ prices) = ap (λ (l : List ℕ). first ++ 32 ∷ l) (numbers-joined (decimal p) prices)

pub price-parts : (prices : List ℕ) → are_ones prices ≡ false
    → codes "price" ++ (flat_map (λ p. 32 ∷ decimal p) prices ++ codes "\n") ≡ flat_map ended (price_lines prices)
unfolding price_text
price-parts prices others =
    sym (ap (λ (t : Bool). flat_map ended (cond t [] (price_text prices ∷ []))) others
    ∙ append-nil (ended (price_text prices))
    ∙ ap ended (numbers-joined (codes "price") prices)
    ∙ append_assoc (codes "price") (flat_map (λ p. 32 ∷ decimal p) prices) (10 ∷ []))
