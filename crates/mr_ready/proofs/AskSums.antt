-- The bytes that are read for all asks, by those of each.
use Rattle.std.proofs.Common.{◌≡◌, ℕ, zero, suc, ◌+◌, ◌*◌, ◌≤◌, Bool, true, false, cond, not, List, [], ◌∷◌, filter, length, get_or, take, refl, sym, ap, ◌∙◌, arith, sum_by, zero-mul, add-one}
use Rattle.std.specs.List.{range_with_len}
use Rattle.std.proofs.Math.Nat.{add-mul}
use Rattle.std.proofs.lemmas.List.{take_all}
use Rattle.std.proofs.lemmas.List.Sums.{sum_by-cons, sum_by_more}
use Rattle.mr_counts.proofs.NumberLaws.{sum_by-one_more}
use Rattle.mr_image.specs.Images.{Layout}
use Rattle.mr_model.specs.Members.{members}
use Rattle.mr_mend.specs.Readers.{ask_at, least_bytes, most_bytes}
use Rattle.mr_mend.specs.Serving.{is_live, live_reads}
use Rattle.mr_mend.specs.declared.asks.Ask.{Ask}
use Rattle.mr_plan.specs.PlanLists.{recipes_at}
use Rattle.mr_plan.specs.Plans.{PlanParts}
use Rattle.mr_ready.specs.Lawful.{is_lost, single_sets}
use Rattle.mr_ready.specs.Orders.{OrderParts}
use Rattle.mr_ready.specs.Reads.{most_symbols_for}

-- by their numbers
asks-up-to : (g : Ask → ℕ) (asks : List Ask) (k : ℕ) → k ≤ length asks → sum_by (λ n. g (ask_at asks n)) (range_with_len 0 k) ≡ sum_by g (take k asks)
asks-up-to g asks zero low = refl
asks-up-to g asks (suc k) low =
    let d : Ask = record { stripe = 0; symbol = 0 } in
    let more : sum_by g (take (k + 1) asks) ≡ sum_by g (take k asks) + g (get_or asks k d) = sum_by_more g asks k d (omega (arith, low)) in
    omega (arith, sum_by-one_more (λ n. g (ask_at asks n)) k, asks-up-to g asks k (omega (arith, low)), ap (λ j. sum_by g (take j asks)) (add-one k), more)

pub asks-numbered : (g : Ask → ℕ) (asks : List Ask) → sum_by (λ n. g (ask_at asks n)) (range_with_len 0 (length asks)) ≡ sum_by g asks
asks-numbered g asks = asks-up-to g asks (length asks) (omega arith) ∙ ap (sum_by g) (take_all (length asks) asks (omega arith))

-- at least
one-least : (b : Bool) (size : ℕ) (ask : Ask) (asks : List Ask) → cond b 0 size + length asks * size ≡ length (cond (not b) (ask ∷ asks) asks) * size
one-least true size ask asks = omega arith
one-least false size ask asks = omega arith

least-lists : (l : Layout) (plans : List PlanParts) (asks : List Ask)
    → sum_by (least_bytes l plans) asks ≡ length (filter (λ ask. is_live (recipes_at plans) ask) asks) * l.symbol_bytes
least-lists l plans [] = sym (zero-mul l.symbol_bytes)
least-lists l plans (ask ∷ asks) =
    omega (
      arith,
      sum_by-cons (least_bytes l plans) ask asks,
      least-lists l plans asks,
      one-least (is_lost plans ask) l.symbol_bytes ask (filter (λ ask. is_live (recipes_at plans) ask) asks),
    )

pub least-sum : (l : Layout) (plans : List PlanParts) (asks : List Ask) → sum_by (least_bytes l plans) asks ≡ live_reads l (recipes_at plans) asks
unfolding live_reads
least-sum l plans asks = least-lists l plans asks

-- at most
one-most : (b : Bool) (size n : ℕ) → cond b (n * size) size ≡ cond b n 1 * size
one-most true size n = refl
one-most false size n = omega arith

pub most-sum : (order : OrderParts) (asks : List Ask)
    → sum_by (most_bytes order.head order.plans order.singles) asks ≡ sum_by (most_symbols_for order) asks * order.head.symbol_bytes
most-sum order [] = sym (zero-mul order.head.symbol_bytes)
most-sum order (ask ∷ asks) =
    let size : ℕ = order.head.symbol_bytes in
    let one = one-most (is_lost order.plans ask) size (length (members (single_sets order.singles ask.stripe ask.symbol))) in
    let split : (most_symbols_for order ask + sum_by (most_symbols_for order) asks) * size ≡ most_symbols_for order ask * size + sum_by (most_symbols_for order) asks * size =
    add-mul (most_symbols_for order ask) (sum_by (most_symbols_for order) asks) size in
    omega (
      arith,
      sum_by-cons (most_bytes order.head order.plans order.singles) ask asks,
      most-sum order asks,
      one,
      split,
      ap (λ n. n * size) (sum_by-cons (most_symbols_for order) ask asks),
    )
