-- The line of the prices, word by word.
use Rattle.std.proofs.Common.{◌≡◌, ◌≢◌, ℕ, ◌+◌, ◌<◌, ◌≤◌, Bool, true, false, ◌==◌, ◌&&◌, not, List, [], ◌∷◌, ◌++◌, length, map, drop, Some, None, unwrap_or, append_assoc, refl, sym, ap, ap₂, ◌∙◌, arith, codes}
use Rattle.std.specs.List.{list_all, join_with_byte}
use Rattle.std.specs.Str.{bytes_eq}
use Rattle.std.proofs.Math.Bool.{and-false}
use Rattle.std.proofs.lemmas.Bool.{both_ways, eq-eqb, eqb-true, ne_eqb, and_parts, leb-true}
use Rattle.std.proofs.lemmas.List.{length-append, length-map}
use Rattle.std.proofs.lemmas.List.Sums.{AllPass-from_list_all}
use Rattle.std.proofs.lemmas.List.Folds.{list_all-append}
use Rattle.std.proofs.lemmas.List.Splits.{join_with_byte-slice_split}
use Rattle.mr_text.specs.Numbers.{is_number, number_of}
use Rattle.mr_text.proofs.NumberLaws.{number_of-none}
use Rattle.mr_bits.specs.Matrices.{IsPriceList}
use Rattle.mr_form.specs.MatrixText.{words, line_at, number_in, are_ones, is_price, are_prices, prices_of, is_price_line}
use Rattle.mr_form.proofs.HeadLaws.{number_parts}

-- ---- a price

-- a word that spells no number is no price
pub price-none : (word : List ℕ) → number_of word ≡ None → is_price (number_in word) ≡ false
price-none word e = ap (λ o. is_price (unwrap_or o 0)) e

pub number-in : (word : List ℕ) (n : ℕ) → number_of word ≡ Some n → number_in word ≡ n
number-in word n e = ap (λ o. unwrap_or o 0) e

-- what is a price is a number
pub price-number : (word : List ℕ) → is_price (number_in word) ≡ true → is_number word ≡ true
price-number word price = go (is_number word) refl
  where
    go : (t : Bool) → is_number word ≡ t → t ≡ true
    go true h = refl
    go false h = absurd (both_ways (is_price (number_in word)) (price-none word (number_of-none word h)) price)

-- ---- a list of prices

-- The words before `left` are prices, and these are their numbers.
pub record IsPriceSoFar (numbers left : List ℕ) (i : ℕ) (prices : List ℕ) : Type 0 where
  pub all : map number_in (words numbers) ≡ prices ++ map number_in (words left)
  pub count : length prices + 1 ≡ i
  pub priced : list_all is_price prices ≡ true

pub price-start : (numbers : List ℕ) → IsPriceSoFar numbers numbers 1 []
price-start numbers = record { all = refl; count = refl; priced = refl }

module _ (numbers left : List ℕ) (i : ℕ) (prices : List ℕ) (h : IsPriceSoFar numbers left i prices) where
  -- one price more
  pub price-turn : (word rest : List ℕ) (price : ℕ) → words left ≡ word ∷ words rest → is_price (number_in word) ≡ true → price ≡ number_in word
      → IsPriceSoFar numbers rest (i + 1) (prices ++ price ∷ [])
  price-turn word rest price cut is price_is = record {
    all = h.all ∙ ap (λ (ws : List (List ℕ)). prices ++ map number_in ws) cut
        ∙ ap (λ (p : ℕ). prices ++ p ∷ map number_in (words rest)) (sym price_is)
        ∙ sym (append_assoc prices (price ∷ []) (map number_in (words rest)));
    count = omega (arith, length-append prices (price ∷ []), h.count);
    priced = list_all-append is_price prices (price ∷ []) ∙ ap₂ (λ (s t : Bool). s && t) h.priced (ap (λ (p : ℕ). is_price p && true) price_is ∙ ap (λ (t : Bool). t && true) is);
  }

  -- another number of words
  pub price-count : (n : ℕ) → length prices + length (words left) ≢ n → are_prices n (map number_in (words numbers)) ≡ false
  price-count n apart = ap (λ (t : Bool). t && list_all is_price (map number_in (words numbers)))
      (ne_eqb _ _ (λ e. apart (omega (arith, e, ap length h.all, length-append prices (map number_in (words left)), length-map (words left) number_in))))

  -- a word that is no price
  pub price-bad : (n : ℕ) (word : List ℕ) (more : List (List ℕ)) → words left ≡ word ∷ more → is_price (number_in word) ≡ false
      → are_prices n (map number_in (words numbers)) ≡ false
  price-bad n word more cut bad =
      ap (λ (t : Bool). (length (map number_in (words numbers)) == n) && t)
      (ap (list_all is_price) (h.all ∙ ap (λ (ws : List (List ℕ)). prices ++ map number_in ws) cut)
      ∙ list_all-append is_price prices (number_in word ∷ map number_in more)
      ∙ ap₂ (λ (s t : Bool). s && (t && list_all is_price (map number_in more))) h.priced bad)
      ∙ and-false _

  -- the words are fewer than the prices that are to come
  pub price-few : (n : ℕ) → i < n → words left ≡ left ∷ [] → are_prices n (map number_in (words numbers)) ≡ false
  price-few n low one = price-count n (λ e. omega (arith, e, ap length one, h.count, low))

  -- the last word is no price
  pub price-last_bad : is_price (number_in left) ≡ false → are_prices i (map number_in (words numbers)) ≡ false
  price-last_bad bad = go (words left) refl
    where
      go : (ws : List (List ℕ)) → words left ≡ ws → are_prices i (map number_in (words numbers)) ≡ false
      go [] e = price-count i (λ f. omega (arith, f, ap length e, h.count))
      go (word ∷ []) e =
          let same : word ≡ left = ap (join_with_byte 32) (sym e) ∙ join_with_byte-slice_split 32 left in
          price-bad i word [] e (ap (λ (w : List ℕ). is_price (number_in w)) same ∙ bad)
      go (word ∷ next ∷ more) e = price-count i (λ f. omega (arith, f, ap length e, h.count))

  -- the last word is a price
  pub price-last : (price : ℕ) → is_price (number_in left) ≡ true → price ≡ number_in left
      → (are_prices i (map number_in (words numbers)) ≡ true) × (prices ++ price ∷ [] ≡ map number_in (words numbers))
  price-last price good price_is =
      let one : words left ≡ left ∷ [] = number_parts 32 refl left (price-number left good) in
      let all : map number_in (words numbers) ≡ prices ++ number_in left ∷ [] = h.all ∙ ap (λ (ws : List (List ℕ)). prices ++ map number_in ws) one in (
        ap₂ (λ (s t : Bool). s && t)
            (eq-eqb _ _ (omega (arith, ap length all, length-append prices (number_in left ∷ []), h.count)))
            (ap (list_all is_price) all ∙ list_all-append is_price prices (number_in left ∷ []) ∙ ap₂ (λ (s t : Bool). s && (t && true)) h.priced good),
        ap (λ (p : ℕ). prices ++ p ∷ []) price_is ∙ sym all,
      )

-- ---- the line

-- the line has one word
pub line-short : (n : ℕ) (line : List ℕ) → 1 ≤ n → words line ≡ line ∷ [] → is_price_line n line ≡ false
unfolding is_price_line
line-short n line some one =
    ap (λ (t : Bool). t && (bytes_eq (line_at (words line) 0) (codes "price") && not (are_ones (prices_of line))))
    (ap (λ (ws : List (List ℕ)). are_prices n (map number_in (drop 1 ws))) one ∙ ap (λ (t : Bool). t && true) (ne_eqb 0 n (λ e. omega (arith, e, some))))

module _ (n : ℕ) (line name numbers : List ℕ) (cut : words line ≡ name ∷ words numbers) where
  pub line-numbers : prices_of line ≡ map number_in (words numbers)
  line-numbers = ap (λ (ws : List (List ℕ)). map number_in (drop 1 ws)) cut

  line-is : is_price_line n line ≡ (are_prices n (map number_in (words numbers)) && (bytes_eq name (codes "price") && not (are_ones (map number_in (words numbers)))))
  unfolding is_price_line
  line-is = ap (λ (ws : List (List ℕ)). are_prices n (map number_in (drop 1 ws)) && (bytes_eq (line_at ws 0) (codes "price") && not (are_ones (map number_in (drop 1 ws))))) cut

  pub line-bad : are_prices n (map number_in (words numbers)) ≡ false → is_price_line n line ≡ false
  line-bad bad = line-is ∙ ap (λ (t : Bool). t && (bytes_eq name (codes "price") && not (are_ones (map number_in (words numbers))))) bad

  pub line-told : (prices : List ℕ) (t : Bool) → are_prices n (map number_in (words numbers)) ≡ true → prices ≡ map number_in (words numbers)
      → t ≡ (bytes_eq name (codes "price") && not (are_ones prices)) → is_price_line n line ≡ t
  line-told prices t good same told = line-is ∙ ap (λ (s : Bool). s && (bytes_eq name (codes "price") && not (are_ones (map number_in (words numbers))))) good
      ∙ ap (λ (ps : List ℕ). bytes_eq name (codes "price") && not (are_ones ps)) (sym same) ∙ sym told

-- ---- what such a line gives

pub record IsPriceLine (n : ℕ) (line : List ℕ) : Type 0 where
  pub count : length (prices_of line) ≡ n
  pub each : list_all is_price (prices_of line) ≡ true
  pub name : bytes_eq (line_at (words line) 0) (codes "price") ≡ true
  pub some : not (are_ones (prices_of line)) ≡ true

pub price-line : (n : ℕ) (line : List ℕ) → is_price_line n line ≡ true → IsPriceLine n line
unfolding is_price_line
price-line n line h =
    let p = and_parts _ _ h in
    let q = and_parts _ _ p.0 in
    let r = and_parts _ _ p.1 in
    record { count = eqb-true _ _ q.0; each = q.1; name = r.0; some = r.1 }

pub prices-good : (prices : List ℕ) → list_all is_price prices ≡ true → IsPriceList prices
prices-good prices h k d low =
    let p = and_parts _ _ (AllPass-from_list_all is_price prices h k d low) in
    (leb-true _ _ p.0, leb-true _ _ p.1)
