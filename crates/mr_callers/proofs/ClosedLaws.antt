-- The history of a stripe that is closed has each of its asks once, and one mend.
use Rattle.std.proofs.Common.{◌≡◌, ◌≢◌, ℕ, zero, suc, ◌<◌, ◌≤◌, ◌==◌, Bool, true, false, cond, if◌then◌else◌, List, [], ◌∷◌, ◌++◌, length, count_by, sum_by, eq-eqb, ne_eqb, sym, refl, ap, ◌∙◌, arith}
use Rattle.std.proofs.lemmas.List.Sums.{sum_by-cons}
use mathlib.Core.Logic.{dite}
use native.Mathlib.Decide.{ℕ_discrete}
use Rattle.mr_model.specs.Search.{sum_below}
use Rattle.mr_history.specs.declared.entry.Entry.{Entry}
use Rattle.mr_history.specs.declared.kept.KeptStripe.{KeptStripe}
use Rattle.mr_history.specs.Histories.{Names, call_count, one_at, stripe_of}
use Rattle.mr_locks.specs.Calls.{calls}
use Rattle.mr_locks.specs.Seats.{IsClosed}
use Rattle.mr_locks.proofs.Sums.{at-else, at-same, below-more, below-none}
use Rattle.mr_account.specs.Accounts.{IsHistoryOf, is_ask, is_mend}
use Rattle.mr_account.proofs.OrderLaws.{here_one}

calls-sum : (h : Entry → ℕ) (before es : List Entry) → calls (λ _ e. h e) before es ≡ sum_by h es
calls-sum h before [] = refl
calls-sum h before (e ∷ es) = omega (arith, calls-sum h (before ++ e ∷ []) es, sum_by-cons h e es)

calls-length : (before es : List Entry) → calls (λ _ e. 1) before es ≡ length es
calls-length before [] = refl
calls-length before (e ∷ es) = omega (arith, calls-length (before ++ e ∷ []) es)

-- ---- the ask k among those of stripe t

module _ (n : Names) (t k : ℕ) where
  abbrev mark : ℕ → ℕ
  mark q = if stripe_of n q == t then one_at k q else 0

  mark-here : stripe_of n k ≡ t → mark k ≡ 1
  mark-here s = ap (λ (b : Bool). if b then one_at k k else 0) (eq-eqb (stripe_of n k) t s) ∙ at-same k

  mark-off : (q : ℕ) → stripe_of n q ≢ t → mark q ≡ 0
  mark-off q ne = ap (λ (b : Bool). if b then one_at k q else 0) (ne_eqb (stripe_of n q) t ne)

  mark-other : (q : ℕ) → q ≢ k → mark q ≡ 0
  mark-other q ne = go (stripe_of n q == t)
    where
      go : (b : Bool) → (if b then one_at k q else 0) ≡ 0
      go true = at-else k q ne
      go false = refl

  record Picked (m s : ℕ) : Type 0 where
    none : m ≤ k → s ≡ 0
    here : k < m → stripe_of n k ≡ t → s ≡ 1
    only : 1 ≤ s → (k < m) × (stripe_of n k ≡ t)

  pick : (m : ℕ) → Picked m (sum_below m mark)
  pick zero = let a = below-none mark in record {
    none = λ h. a;
    here = λ h s. absurd (omega (arith, h));
    only = λ h. absurd (omega (arith, h, a));
  }
  pick (suc m) =
      let a = below-more mark m in
      let r = pick m in
      dite (ℕ_discrete m k)
      (λ e. let z = r.none (omega (arith, e)) in dite (ℕ_discrete (stripe_of n m) t)
      (λ s.
      let one : mark m ≡ 1 = ap mark e ∙ mark-here (ap (stripe_of n) (sym e) ∙ s) in
      record {
        none = λ h. absurd (omega (arith, h, e));
        here = λ h same. omega (arith, a, z, one);
        only = λ h. (omega (arith, e), ap (stripe_of n) (sym e) ∙ s);
      })
      (λ s.
      let off = mark-off m s in
      record {
        none = λ h. absurd (omega (arith, h, e));
        here = λ h same. absurd (s (ap (stripe_of n) e ∙ same));
        only = λ h. absurd (omega (arith, h, a, z, off));
      }))
      (λ ne.
      let off = mark-other m ne in
      record {
        none = λ h. let y = r.none (omega (arith, h)) in omega (arith, a, y, off);
        here = λ h same. let y = r.here (omega (arith, h, ne)) same in omega (arith, a, y, off);
        only = λ h. let y = r.only (omega (arith, h, a, off)) in let low = y.0 in (omega (arith, low), y.1);
      })

no_mark : (n : Names) (t m : ℕ) → sum_below m (λ q. if stripe_of n q == t then 0 else 0) ≡ 0
no_mark n t zero = below-none (λ q. if stripe_of n q == t then 0 else 0)
no_mark n t (suc m) = omega (arith, below-more (λ q. if stripe_of n q == t then 0 else 0) m, no_mark n t m, go (stripe_of n m == t))
  where
    go : (b : Bool) → (if b then 0 else 0) ≡ zero
    go true = refl
    go false = refl

module _ (n : Names) (made : (List Entry → Entry → ℕ) → ℕ) (t : ℕ) (kept : KeptStripe) (closed : IsClosed n made t kept) where
  asks-count : (k : ℕ) → count_by (is_ask k) kept.history.items ≡ sum_below (length n.ops) (mark n t k)
  asks-count k = omega (arith, calls-sum (λ e. cond (is_ask k e) 1 0) [] kept.history.items, closed.each (λ e. cond (is_ask k e) 1 0))

  pub history_of : IsHistoryOf n t kept.history.items
  history_of = record {
    asks = λ k low same. let p = (pick n t k (length n.ops)).here low same in omega (arith, asks-count k, p);
    mends = omega (arith, calls-sum (λ e. cond (is_mend e) 1 0) [] kept.history.items, closed.each (λ e. cond (is_mend e) 1 0), no_mark n t (length n.ops));
    others = λ i k at. (pick n t k (length n.ops)).only (omega (arith, asks-count k, here_one k i kept.history.items at));
  }

  pub history_long : length kept.history.items ≡ call_count n t
  history_long = omega (arith, calls-length [] kept.history.items, closed.each (λ e. 1))
