-- The planes of the prices of a matrix, found symbol by symbol.
use Rattle.std.proofs.Common.{◌≡◌, ◌≢◌, ℕ, ◌+◌, ◌-◌, ◌*◌, ◌/◌, ◌^◌, ◌<◌, ◌≤◌, List, length, get_or, bit_and, bit_or, sym, ap, subst, ◌∙◌, ⊎_elim, arith}
use Rattle.std.specs.Int.{bit_at}
use Rattle.std.specs.Int.Count.{count_leading_zeros}
use Rattle.std.proofs.lemmas.Nat.{leading_length}
use Rattle.std.proofs.Math.Pow.{pow_mono}
use Rattle.std.proofs.lemmas.Bool.{cases_lt}
use Rattle.std.proofs.lemmas.List.{get_or_past}
use Rattle.std.proofs.lemmas.Nat.Bits.{bit_at_or, bit_at-pow_same, bit_at-pow_other, bit_at-lt, bit_at-zero, shr_and_one}
use Rattle.mr_model.specs.Code.{Code, Dimensions, dimensions, greatest_price, symbol_prices}
use Rattle.mr_model.specs.Planes.{IsPlane}
use Rattle.mr_model.proofs.Prices.{symbol_prices-at, length-symbol_prices}
use Rattle.mr_bits.specs.Matrices.{IsMatrixCode}

-- ---- the price of a symbol

module _ (m : Code) (h : IsMatrixCode m) (d : Dimensions) (is : d ≡ dimensions m) where
  pub end-is : («end» : ℕ) → «end» ≡ d.devices * d.symbols_per_device → «end» ≡ length m.rows
  end-is «end» e = e ∙ ap (λ (x : Dimensions). x.devices * x.symbols_per_device) is ∙ sym h.count

  pub price-is : (i w price : ℕ) → w ≡ d.symbols_per_device → i < length m.rows → price ≡ get_or m.prices (i / w) 0 → price ≡ get_or (symbol_prices m) i 0
  price-is i w price e low item = item ∙ ap (λ (x : ℕ). get_or m.prices (i / x) 0) (e ∙ ap (λ (x : Dimensions). x.symbols_per_device) is) ∙ sym (symbol_prices-at m i low)

  pub price-past : (i : ℕ) → length m.rows ≤ i → get_or (symbol_prices m) i 0 ≡ 0
  price-past i high = get_or_past (symbol_prices m) i 0 (omega (arith, high, length-symbol_prices m))

-- ---- the greatest of the prices below n

pub greatest-more : (ps : List ℕ) (n price greatest more : ℕ) → price ≡ get_or ps n 0 → greatest ≤ more → price ≤ more
    → ((i : ℕ) → i < n → get_or ps i 0 ≤ greatest) → (i : ℕ) → i < n + 1 → get_or ps i 0 ≤ more
greatest-more ps n price greatest more is le own below i low = ⊎_elim
    (λ (before : i < n). omega (arith, below i before, le))
    (λ (here : n ≤ i). let same : i ≡ n = omega (arith, low, here) in omega (arith, ap (λ (j : ℕ). get_or ps j 0) same, is, own))
    (cases_lt i n)

-- a number that no price is above has at most ten binary digits
pub record HasDigits (n digits : ℕ) : Type 0 where
  pub few : digits ≤ 10
  pub high : n < 2 ^ digits

pub digits-of : (n : ℕ) → n ≤ greatest_price → HasDigits n (32 - count_leading_zeros 32 n)
digits-of n small =
    let l = leading_length 32 n (omega (arith, small)) in
    let same : l.0 ≡ 32 - count_leading_zeros 32 n = omega (arith, l.1) in
    subst (λ digits. HasDigits n digits) same (record {
      few = ⊎_elim
          (λ (more : 10 < l.0). let power : 2 ^ 11 ≤ 2 ^ l.0 = pow_mono more in absurd (omega (arith, power, l.3, small)))
          (λ (less : l.0 ≤ 10). less)
          (cases_lt 10 l.0);
      high = l.2;
    })

-- ---- the plane of a bit, of the symbols below n

pub record IsSeen (ps : List ℕ) (b n plane : ℕ) : Type 0 where
  pub seen : (i : ℕ) → i < n → bit_at plane i ≡ bit_at (get_or ps i 0) b
  pub ahead : (i : ℕ) → n ≤ i → bit_at plane i ≡ 0

pub seen-first : (ps : List ℕ) (b : ℕ) → IsSeen ps b 0 0
seen-first ps b = record { seen = λ i low. absurd (omega (arith, low)); ahead = λ i h. bit_at-zero i }

module _ (ps : List ℕ) (b n plane price : ℕ) (h : IsSeen ps b n plane) (is : price ≡ get_or ps n 0) where
  digit : bit_and (price / 2 ^ b) 1 ≡ bit_at (get_or ps n 0) b
  digit = shr_and_one price b ∙ ap (λ (x : ℕ). bit_at x b) is

  pub seen-with : bit_and (price / 2 ^ b) 1 ≡ 1 → IsSeen ps b (n + 1) (bit_or plane (2 ^ n))
  seen-with one = record {
    seen = λ i low. ⊎_elim
        (λ (before : i < n). let apart : i ≢ n = omega (arith, before) in omega (arith, h.seen i before, bit_at_or plane (2 ^ n) i, bit_at-pow_other n i apart))
        (λ (here : n ≤ i). let same : i ≡ n = omega (arith, low, here) in
        omega (arith, ap (λ (j : ℕ). bit_at (bit_or plane (2 ^ n)) j) same, ap (λ (j : ℕ). bit_at (get_or ps j 0) b) same, bit_at_or plane (2 ^ n) n, bit_at-pow_same n, h.ahead n (omega arith), digit, one))
        (cases_lt i n);
    ahead = λ i high. let apart : i ≢ n = omega (arith, high) in omega (arith, h.ahead i (omega (arith, high)), bit_at_or plane (2 ^ n) i, bit_at-pow_other n i apart);
  }

  pub seen-without : bit_and (price / 2 ^ b) 1 ≢ 1 → IsSeen ps b (n + 1) plane
  seen-without other = record {
    seen = λ i low. ⊎_elim
        (λ (before : i < n). h.seen i before)
        (λ (here : n ≤ i). let same : i ≡ n = omega (arith, low, here) in
        omega (arith, ap (λ (j : ℕ). bit_at plane j) same, ap (λ (j : ℕ). bit_at (get_or ps j 0) b) same, h.ahead n (omega arith), digit, other, bit_at-lt (get_or ps n 0) b))
        (cases_lt i n);
    ahead = λ i high. h.ahead i (omega (arith, high));
  }

pub seen-all : (m : Code) (b n plane : ℕ) → length m.rows ≤ n → IsSeen (symbol_prices m) b n plane → IsPlane (symbol_prices m) b plane
seen-all m b n plane all h i = ⊎_elim
    (λ (low : i < n). h.seen i low)
    (λ (high : n ≤ i). h.ahead i high ∙ sym (bit_at-zero b) ∙ ap (λ (x : ℕ). bit_at x b) (sym (get_or_past (symbol_prices m) i 0 (omega (arith, high, all, length-symbol_prices m)))))
    (cases_lt i n)
