-- The cost of a code is a cost in the sense of the search: a strict subset costs strictly less. With prices of 1 it is a number of members.
use Rattle.std.proofs.Common.{◌≡◌, ℕ, zero, suc, ◌+◌, ◌*◌, ◌/◌, ◌%◌, ◌^◌, ◌<◌, ◌≤◌, Bool, true, false, cond, List, [], ◌∷◌, length, get_or, bit_and, bit_or, ⊎_elim, refl, sym, ◌∙◌, arith, ap, subst, pow-suc}
use Rattle.std.specs.Prelude.{◌==◌, slice_index, count_ones}
use Rattle.std.specs.Int.{bit_at}
use Rattle.std.proofs.lemmas.Bool.{cases_eq}
use Rattle.std.proofs.lemmas.Nat.{ones_cat}
use Rattle.std.proofs.lemmas.Nat.Bits.{bit_at-zero, bit_at-pow_same, bit_at-lt, bit_at_and, bit_at_or, same_from_bits}
use Rattle.mr_model.specs.Sets.{below, total}
use Rattle.mr_model.specs.Code.{Code, cost, symbol_prices, greatest_price}
use Rattle.mr_model.proofs.SetLaws.{Within-le, true-within, bit_at_pow_cases, bit_at_below_cases}
use Rattle.mr_model.proofs.Prices.{IsPriced, total-none, total-single, total-or, cost-less, length-symbol_prices, symbol_prices-at}
use Rattle.mr_model.proofs.CheapestLaws.{IsCost}
use Rattle.mr_model.proofs.Loops.{IsTurn, ones_digit}

pub price_law : (m : Code) (a : ℕ) → IsPriced m → a < 2 ^ length m.rows → IsCost a (cost m)
price_law m a priced low = record {
  strict = λ u v h k other. cost-less m u v priced (omega (arith, Within-le v a (true-within v a k), low)) (true-within u v h) other;
}

-- ---- prices of 1

pub ones_halves : (x : ℕ) → count_ones x ≡ count_ones (x / 2) + x % 2
ones_halves x =
    let parts : x ≡ x / 2 * 2 ^ 1 + x % 2 = omega arith in
    ap count_ones parts ∙ ones_cat 1 (x / 2) (x % 2) (omega arith) ∙ ap (λ n. count_ones (x / 2) + n) (ones_digit (x % 2) (omega arith))

digit_price : (d : ℕ) → d < 2 → cond (d == 1) 1 0 ≡ d
digit_price zero h = refl
digit_price (suc zero) h = refl
digit_price (suc (suc d)) h = absurd (omega arith)

-- a total of ones is a number of members
pub total-count : (ps : List ℕ) (x : ℕ) → ((i : ℕ) → i < length ps → get_or ps i 0 ≡ 1) → x < 2 ^ length ps → total ps x ≡ count_ones x
unfolding total
total-count [] x each low =
    let none : x ≡ 0 = omega (arith, low) in
    sym (ap count_ones none ∙ ones_digit 0 (omega arith))
total-count (p ∷ ps) x each low =
    let half : x / 2 < 2 ^ length ps = omega (arith, low, pow-suc 2 (length ps)) in
    let first : cond (x % 2 == 1) p 0 ≡ x % 2 = ap (λ r. cond (x % 2 == 1) r 0) (each 0 (omega arith)) ∙ digit_price (x % 2) (omega arith) in
    omega (arith, first, total-count ps (x / 2) (λ i h. each (suc i) (omega arith)) half, ones_halves x)

-- where each price is 1, a set costs as many as it has members
pub cost-count : (m : Code) (x : ℕ) → ((i : ℕ) → i < length m.rows → slice_index m.prices (i / m.symbols_per_device) ≡ 1) → x < 2 ^ length m.rows → cost m x ≡ count_ones x
unfolding cost
cost-count m x each low = total-count (symbol_prices m) x
    (λ i h. let small : i < length m.rows = omega (arith, h, length-symbol_prices m) in symbol_prices-at m i small ∙ each i small)
    (subst (λ n. x < 2 ^ n) (sym (length-symbol_prices m)) low)

-- ---- the greatest total

part-most : (b : Bool) (p most : ℕ) → p ≤ most → cond b p 0 ≤ most
part-most true p most h = h
part-most false p most h = omega arith

-- where no number is above a price, a total is at most so much for each of them
pub total-most : (ps : List ℕ) (x : ℕ) → ((i : ℕ) → get_or ps i 0 ≤ greatest_price) → total ps x ≤ length ps * greatest_price
unfolding total
total-most [] x few = omega arith
total-most (p ∷ ps) x few =
    let first = part-most (x % 2 == 1) p greatest_price (few 0) in
    omega (arith, first, total-most ps (x / 2) (λ i. few (suc i)))

pub cost-most : (m : Code) (x : ℕ) → ((i : ℕ) → get_or (symbol_prices m) i 0 ≤ greatest_price) → cost m x ≤ length m.rows * greatest_price
unfolding cost
cost-most m x few = subst (λ n. total (symbol_prices m) x ≤ n * greatest_price) (length-symbol_prices m) (total-most (symbol_prices m) x few)

-- ---- what a turn of a loop over the members adds

total-above : (ps : List ℕ) (set t : ℕ) → bit_at set t ≡ 1 → total ps (below (t + 1) set) ≡ total ps (below t set) + get_or ps t 0
total-above ps set t member =
    let common : bit_and (below t set) (2 ^ t) ≡ 0 = same_from_bits _ _ (λ i. omega (arith, bit_at_and (below t set) (2 ^ t) i, bit_at_below_cases t set i, bit_at_pow_cases t i, bit_at-zero i)) in
    let union : bit_or (below t set) (2 ^ t) ≡ below (t + 1) set = same_from_bits _ _ (λ i. ⊎_elim
    (λ e. subst (λ j. bit_at (bit_or (below t set) (2 ^ t)) j ≡ bit_at (below (t + 1) set) j) (sym e)
    (omega (arith, member, bit_at_or (below t set) (2 ^ t) t, bit_at-pow_same t, bit_at_below_cases t set t, bit_at_below_cases (t + 1) set t)))
    (λ apart. omega (arith, apart, bit_at_or (below t set) (2 ^ t) i, bit_at_pow_cases t i, bit_at_below_cases t set i, bit_at_below_cases (t + 1) set i, bit_at-lt set i))
    (cases_eq i t)) in
    omega (arith, total-or ps (below t set) (2 ^ t), ap (total ps) union, ap (total ps) common, total-none ps, total-single ps t)

pub cost-turn : (m : Code) (set n t s : ℕ) → IsTurn set n t s → t < length m.rows
    → cost m (below (t + 1) set) ≡ cost m (below n set) + slice_index m.prices (t / m.symbols_per_device)
unfolding cost
cost-turn m set n t s turn low =
    omega (arith, total-above (symbol_prices m) set t turn.member, ap (total (symbol_prices m)) turn.nothing_between, symbol_prices-at m t low)
