-- How many calls there are of each stripe, counted ask by ask.
use Rattle.std.proofs.Common.{◌≡◌, ℕ, zero, suc, ◌+◌, ◌^◌, ◌<◌, ◌≤◌, List, [], ◌∷◌, ◌++◌, length, replicate, set, get_or, slice_get, Option, Some, All, sym, refl, ap, ◌∙◌, arith, add-one, get_or-set_same, get_or-set_other}
use Rattle.std.specs.List.{range_with_len}
use Rattle.std.proofs.lemmas.Bool.Decides.{nat_tests}
use Rattle.std.proofs.lemmas.List.{get_or_default}
use Rattle.std.proofs.lemmas.List.FromFn.{length-range_with_len, get_or-range_with_len}
use Rattle.std.proofs.lemmas.Option.{slice_get-get_or}
use mathlib.Core.Logic.{dite}
use native.Mathlib.Decide.{ℕ_discrete}
use Rattle.mr_ops.specs.Ops.{op_stripe}
use Rattle.mr_ops.specs.declared.ops.Op.{Op}
use Rattle.mr_history.specs.Histories.{Names, call_count, one_at, stripe_asked}
use Rattle.mr_locks.proofs.Sums.{at-else, at-same, below, below-more, below-none}

-- 1 where the ask k is of stripe t, and else 0
abbrev pub of_stripe : List Op → ℕ → ℕ → ℕ
of_stripe ops t k = one_at t (stripe_asked (slice_get ops k))

at-le : (x y : ℕ) → one_at x y ≤ 1
at-le x y = grind (arith, nat_tests)

below-le : (f : ℕ → ℕ) (n : ℕ) → ((k : ℕ) → f k ≤ 1) → below f n ≤ n
below-le f zero h = omega (arith, below-none f)
below-le f (suc n) h = omega (arith, below-more f n, below-le f n h, h n)

few-of_stripe : (ops : List Op) (t n : ℕ) → below (of_stripe ops t) n ≤ n
few-of_stripe ops t n = below-le (of_stripe ops t) n (λ k. at-le t (stripe_asked (slice_get ops k)))

pub call_small : (n : Names) (t : ℕ) → length n.ops < 2 ^ 31 → call_count n t < 2 ^ 32
call_small n t few = omega (arith, few, few-of_stripe n.ops t (length n.ops))

-- a list of ones
pub ones-each : (many t : ℕ) (counts : List ℕ) → counts ≡ replicate {A = ℕ} many 1 → t < many → get_or counts t 0 ≡ 1
ones-each many t counts e low = ap (λ (l : List ℕ). get_or l t 0) e ∙ one_in many t low
  where
    one_in : (m i : ℕ) → i < m → get_or (replicate {A = ℕ} m 1) i 0 ≡ 1
    one_in zero i h = absurd (omega arith)
    one_in (suc m) zero h = refl
    one_in (suc m) (suc i) h = one_in m i (omega arith)

-- one ask more is counted
module _ (ops : List Op) (counts : List ℕ) (i many s x : ℕ) (long : length counts ≡ many)
    (now : x ≡ get_or counts s x) (each : (t : ℕ) → t < many → get_or counts t 0 ≡ below (of_stripe ops t) i + 1) where
  pub counted : (op : Op) → i < length ops → op ≡ get_or ops i op → s ≡ op_stripe op → (t : ℕ) → t < many
      → get_or (set counts s (x + 1)) t 0 ≡ below (of_stripe ops t) (i + 1) + 1
  counted op low is stripe t inside =
      let e : slice_get ops i ≡ Some op = slice_get-get_or ops i op low ∙ ap (λ (y : Op). Some y) (sym is) in
      let f : of_stripe ops t i ≡ one_at t s = ap (λ (o : Option Op). one_at t (stripe_asked o)) e ∙ ap (one_at t) (sym stripe) in
      let g : below (of_stripe ops t) (i + 1) ≡ below (of_stripe ops t) i + of_stripe ops t i = ap (below (of_stripe ops t)) (add-one i) ∙ below-more (of_stripe ops t) i in
      let old = each t inside in
      dite (ℕ_discrete s t)
      (λ e'.
      let b : one_at t s ≡ 1 = ap (one_at t) e' ∙ at-same t in
      let c : get_or (set counts s (x + 1)) s 0 ≡ x + 1 = get_or-set_same counts s (x + 1) 0 (omega (arith, e', inside, long)) in
      let d : get_or (set counts s (x + 1)) t 0 ≡ get_or (set counts s (x + 1)) s 0 = ap (λ (y : ℕ). get_or (set counts s (x + 1)) y 0) (sym e') in
      let k : get_or counts s x ≡ get_or counts s 0 = get_or_default counts s x 0 (omega (arith, e', inside, long)) in
      let m : get_or counts s 0 ≡ get_or counts t 0 = ap (λ (y : ℕ). get_or counts y 0) e' in
      omega (arith, b, c, d, k, m, f, g, old, now))
      (λ ne.
      let b = at-else t s ne in
      let c : get_or (set counts s (x + 1)) t 0 ≡ get_or counts t 0 = get_or-set_other counts s t (x + 1) 0 (λ h. ne (sym h)) in
      omega (arith, b, c, f, g, old))

  pub count_small : s < many → i < length ops → length ops < 2 ^ 31 → x + 1 < 2 ^ 64
  count_small low more few =
      let a = each s low in
      let k : get_or counts s x ≡ get_or counts s 0 = get_or_default counts s x 0 (omega (arith, low, long)) in
      omega (arith, a, k, now, more, few, few-of_stripe ops s i)

-- the numbers below a count, and one more

range-push_from : (a m : ℕ) → range_with_len a (suc m) ≡ range_with_len a m ++ (a + m) ∷ []
range-push_from a zero = ap (λ (x : ℕ). x ∷ []) (omega arith)
range-push_from a (suc m) = ap (λ (l : List ℕ). a ∷ l) (range-push_from (a + 1) m ∙ ap (λ (x : ℕ). range_with_len (a + 1) m ++ x ∷ []) (omega arith))

pub range-push : (m : ℕ) → range_with_len 0 (m + 1) ≡ range_with_len 0 m ++ m ∷ []
range-push m = ap (λ (x : ℕ). range_with_len 0 x) (add-one m) ∙ range-push_from 0 m ∙ ap (λ (x : ℕ). range_with_len 0 m ++ x ∷ []) (omega arith)

pub all_range : (m : ℕ) → All (λ k. k < m) (range_with_len 0 m)
all_range m k d low = omega (arith, low, length-range_with_len 0 m, get_or-range_with_len 0 m k d (omega (arith, low, length-range_with_len 0 m)))
