-- Each step keeps the rule.
use Rattle.std.proofs.Common.{◌≡◌, ℕ, suc, ◌+◌, ◌%◌, ◌^◌, ◌<◌, ◌≤◌, List, [], ◌∷◌, Bool, true, false, cond, length, set, get_or, min, sym, refl, subst, ◌∙◌, arith}
use Rattle.std.specs.Prelude.{nat_le}
use Rattle.std.proofs.lemmas.List.Sums.{sum_by_push}
use Rattle.atomic_table.specs.Table.{Me, keeps, Allows, Splits, Joins}
use Rattle.mr_counts.specs.Numbers.{beyond, next_above, AreEachBelow}
use Rattle.mr_counts.specs.Shares.{whole_share}
use Rattle.mr_counts.proofs.NumberLaws.{sum_by-one_more}
use Rattle.mr_eq.specs.Problems.{Loss}
use Rattle.mr_bound.specs.declared.view.BoundView.{BoundView}
use Rattle.mr_bound.specs.Cost.{least_cost}
use Rattle.mr_bound.specs.Rule.{with_low, with_draw, kept_view, split_view, joined_view, spent_view, IsKept, Kept}
use Rattle.mr_bound.proofs.Views.{past, live, fits_like, changed, count-le, drawn_below, whole, split_keeps, join_keeps}

-- the words after a store into one of the two
low_set : (ws : List ℕ) (n : ℕ) → length ws ≡ 2
    → (get_or (set ws 0 n) 0 0 ≡ n) × (get_or (set ws 0 n) 1 0 ≡ get_or ws 1 0) × (length (set ws 0 n) ≡ 2)
low_set [] n e = absurd (omega arith)
low_set (a ∷ []) n e = absurd (omega arith)
low_set (a ∷ b ∷ []) n e = (refl, refl, refl)
low_set (a ∷ b ∷ c ∷ ws) n e = absurd (omega arith)

count_set : (ws : List ℕ) (n : ℕ) → length ws ≡ 2
    → (get_or (set ws 1 n) 0 0 ≡ get_or ws 0 0) × (get_or (set ws 1 n) 1 0 ≡ n) × (length (set ws 1 n) ≡ 2)
count_set [] n e = absurd (omega arith)
count_set (a ∷ []) n e = absurd (omega arith)
count_set (a ∷ b ∷ []) n e = (refl, refl, refl)
count_set (a ∷ b ∷ c ∷ ws) n e = absurd (omega arith)

cond-le : (b : Bool) → cond b 1 0 ≤ 1
cond-le true = omega arith
cond-le false = omega arith

module _ (p : Loss) (chunks : ℕ) where
  module _ {S : Type 0} (slots id : ℕ) (me : Me S BoundView) (part : 0 < me.0.parts) where
    -- what a step on the least cost known tells that leaves f of it
    abbrev Seen : (ℕ → ℕ) → ℕ → Me S BoundView → Type 0
    Seen f n after = (least_cost me.0.problem ≤ n) × (n ≤ me.0.low) × (after ≡ (with_low me.0 (f n), me.1))

    -- it becomes what it was or less
    lowered : (f : ℕ → ℕ) → ((n : ℕ) → f n ≤ n) → ((n : ℕ) → least_cost p ≤ n → least_cost p ≤ f n)
        → Allows (Kept {S = S} p chunks) slots id me 0 f (Seen f)
    lowered f down floor s h _ at _ =
        let low : ℕ = get_or s.words 0 0 in
        let count : ℕ = get_or s.words 1 0 in
        let k = h.2 in
        let l = live p chunks low me.0 part (k.each_fits id me.0 at) in
        let w = with_low me.0 (f low) in
        let ws = low_set s.words (f low) h.0 in
        let fits = fits_like p chunks low (f low) me.0 w l refl refl part (omega arith) l.few_beyond in
        let kept = changed p chunks low count s.views k id me.0 at (f low) count w (floor low k.at_least) (down low) fits refl (λ h. refl) in
        let words = subst (λ (q : ℕ × ℕ). IsKept p chunks q.0 q.1 (set s.views id w)) (λ i. (sym ws.0 i, sym ws.1 i)) kept in
        let least = subst (λ (q : Loss). least_cost q ≤ low) (sym l.names_problem) k.at_least in
        (w, keeps, tt, (ws.2, h.1, words), (least, l.saw_cost, refl))

    pub reads : Allows (Kept {S = S} p chunks) slots id me 0 (λ n. n) (Seen (λ n. n))
    reads = lowered (λ n. n) (λ n. omega arith) (λ n le. le)

    pub lowers : (cost : ℕ) → least_cost p ≤ cost
        → Allows (Kept {S = S} p chunks) slots id me 0 (λ n. min n cost) (Seen (λ n. min n cost))
    lowers cost floor = lowered (λ n. min n cost) (λ n. omega arith) (λ n le. omega arith)

    pub draws : beyond chunks me.0.draws ≡ 0
        → Allows (Kept {S = S} p chunks) slots id me 1 (λ n. (n + 1) % 2 ^ 64)
        (λ n after. (next_above me.0.draws ≤ n) × (after ≡ (with_draw me.0 n, me.1)))
    draws none s h _ at _ =
        let low : ℕ = get_or s.words 0 0 in
        let count : ℕ = get_or s.words 1 0 in
        let small : chunks < 2 ^ 32 = h.1 in
        let k = h.2 in
        let l = live p chunks low me.0 part (k.each_fits id me.0 at) in
        let w = with_draw me.0 count in
        let most = count-le p chunks low count s.views k in
        let next : (count + 1) % 2 ^ 64 ≡ suc count = omega (arith, most, small) in
        let ws = count_set s.words ((count + 1) % 2 ^ 64) h.0 in
        let drew : beyond chunks w.draws ≤ w.parts =
        omega (arith, sum_by_push (past chunks) me.0.draws count, none, cond-le (nat_le chunks count), part) in
        let fits = fits_like p chunks low low me.0 w l refl refl part l.saw_cost drew in
        let kept = changed p chunks low count s.views k id me.0 at low (suc count) w k.at_least (omega arith) fits refl
        (λ h. omega (arith, sum_by_push h me.0.draws count, sum_by-one_more h count)) in
        let words = subst (λ (q : ℕ × ℕ). IsKept p chunks q.0 q.1 (set s.views id w)) (λ i. (sym ws.0 i, sym (ws.1 ∙ next) i)) kept in
        (w, keeps, tt, (ws.2, h.1, words), (drawn_below p chunks low count s.views k id me.0 at, refl))

    pub reviews : Allows (Kept {S = S} p chunks) slots id me 0 (λ n. n)
        (λ _ after. (after ≡ me) × (me.0.parts + me.0.left ≡ whole_share → AreEachBelow me.0.draws (length me.0.draws)))
    reviews s h _ at _ =
        let low : ℕ = get_or s.words 0 0 in
        let count : ℕ = get_or s.words 1 0 in
        let k = h.2 in
        let ws = low_set s.words low h.0 in
        let kept = changed p chunks low count s.views k id me.0 at low count me.0 k.at_least (omega arith) (k.each_fits id me.0 at) refl (λ h. refl) in
        let words = subst (λ (q : ℕ × ℕ). IsKept p chunks q.0 q.1 (set s.views id me.0)) (λ i. (sym ws.0 i, sym ws.1 i)) kept in
        (me.0, keeps, tt, (ws.2, h.1, words), (refl, whole p chunks low count s.views k id me.0 at))

  module _ {S : Type 0} (id : ℕ) (v : BoundView) where
    pub splits : 0 < v.parts → 0 < v.left → Splits (Kept {S = S} p chunks) id v (kept_view v) (split_view v)
    splits part more s h at =
        (h.0, h.1, split_keeps p chunks (get_or s.words 0 0) (get_or s.words 1 0) s.views h.2 id v at part more)

    pub joins : (other : ℕ) (w : BoundView) → 0 < v.parts → 0 < w.parts
        → Joins (Kept {S = S} p chunks) id v other w (joined_view v w) spent_view
    joins other w part part' s h at apart at' =
        (h.0, h.1, join_keeps p chunks (get_or s.words 0 0) (get_or s.words 1 0) s.views h.2 id v at other w part part' apart at')
