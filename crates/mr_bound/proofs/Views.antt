-- The rule after a change of the views: of one of them, by a split and by a join.
use Rattle.std.proofs.Common.{◌≡◌, ℕ, ◌+◌, ◌<◌, ◌≤◌, ◌⊎◌, inl, inr, ⊎_elim, List, [], ◌∷◌, ◌++◌, cond, length, set, sum_by, sym, refl, ap, subst, ◌∙◌, arith, le_trans}
use Rattle.std.specs.Prelude.{nat_le, nat_lt, ◌==◌, if◌then◌else◌}
use Rattle.std.specs.List.{range_with_len}
use Rattle.std.proofs.lemmas.List.FromFn.{length-range_with_len}
use Rattle.std.proofs.lemmas.List.Sums.{sum_by_push, sum_by-append}
use mathlib.Core.Option.{some}
use lib.ListN.{get_elem?}
use Rattle.atomic_table.proofs.Lists.{at_set, at_snoc}
use Rattle.mr_counts.specs.Numbers.{beyond, next_above, AreEachBelow}
use Rattle.mr_counts.specs.Shares.{whole_share}
use Rattle.mr_counts.proofs.Sums.{sum_by-set_at, at-le-sum_by, sum_by-only, sum_by-le-at}
use Rattle.mr_counts.proofs.NumberLaws.{sum_by-one, beyond-range, times-range, next_above-le}
use Rattle.mr_eq.specs.Problems.{Loss}
use Rattle.mr_bound.specs.declared.view.BoundView.{BoundView}
use Rattle.mr_bound.specs.Cost.{least_cost}
use Rattle.mr_bound.specs.Rule.{kept_view, split_view, joined_view, spent_view, IsSpent, IsLive, IsKept}

-- the parts that a seat has or may split off, and what its draws weigh
abbrev share : BoundView → ℕ
share v = v.parts + v.left

abbrev weight : (ℕ → ℕ) → BoundView → ℕ
weight h v = sum_by h v.draws

-- 1 at a number of no chunk
abbrev pub past : ℕ → ℕ → ℕ
past chunks n = cond (nat_le chunks n) 1 0

-- the view stands in the list at this place
abbrev IsAt : List BoundView → ℕ → BoundView → Type 0
IsAt views id v = get_elem? views id ≡ some v

module _ (p : Loss) (chunks : ℕ) where
  abbrev Fits : ℕ → BoundView → Type 0
  Fits low v = IsSpent v ⊎ IsLive p chunks low v

  abbrev AllFit : ℕ → List BoundView → Type 0
  AllFit low views = (j : ℕ) (u : BoundView) → IsAt views j u → Fits low u

  -- a seat with a part is not spent
  pub live : (low : ℕ) (v : BoundView) → 0 < v.parts → Fits low v → IsLive p chunks low v
  live low v part = ⊎_elim (λ (s : IsSpent v). absurd (omega (arith, s.no_part))) (λ l. l)

  -- a view with the names of one that fits
  pub fits_like : (low low' : ℕ) (v w : BoundView) → IsLive p chunks low v → w.problem ≡ v.problem → w.chunks ≡ v.chunks
      → 0 < w.parts → low' ≤ w.low → beyond chunks w.draws ≤ w.parts → Fits low' w
  fits_like low low' v w l problem count part saw few = inr record {
    has_part = part;
    names_problem = problem ∙ l.names_problem;
    names_chunks = count ∙ l.names_chunks;
    saw_cost = saw;
    few_beyond = few;
  }

  lower_fits : (low low' : ℕ) (v : BoundView) → low' ≤ low → Fits low v → Fits low' v
  lower_fits low low' v le = ⊎_elim (λ s. inl s)
      (λ (l : IsLive p chunks low v). fits_like low low' v v l refl refl l.has_part (le_trans le l.saw_cost) l.few_beyond)

  set_fits : (low : ℕ) (views : List BoundView) (id : ℕ) (w : BoundView) → Fits low w → AllFit low views → AllFit low (set views id w)
  set_fits low views id w fits old j u e = ⊎_elim
      (λ (x : (j ≡ id) × (w ≡ u)). subst (Fits low) x.1 fits)
      (λ x. old j u x.1)
      (at_set views id j w u e)

  spent_idle : (h : ℕ → ℕ) (low : ℕ) (u : BoundView) → Fits low u → share u ≡ 0 → weight h u ≡ 0
  spent_idle h low u fits idle = ⊎_elim
      (λ (s : IsSpent u). ap (sum_by h) s.no_draw)
      (λ (l : IsLive p chunks low u). absurd (omega (arith, l.has_part, idle)))
      fits

  few : (low : ℕ) (u : BoundView) → Fits low u → beyond chunks u.draws ≤ share u
  few low u = ⊎_elim
      (λ (s : IsSpent u). let none : beyond chunks u.draws ≡ 0 = ap (beyond chunks) s.no_draw in omega (arith, none))
      (λ (l : IsLive p chunks low u). omega (arith, l.few_beyond))

  module _ (low count : ℕ) (views : List BoundView) (k : IsKept p chunks low count views) where
    -- each seat draws at most one number of no chunk
    pub count-le : count ≤ chunks + whole_share
    count-le =
        let most = sum_by-le-at share (weight (past chunks)) views (λ j u at. few low u (k.each_fits j u at)) in
        omega (arith, most, k.all_parts, k.all_draws (past chunks), beyond-range chunks count)

    module _ (id : ℕ) (v : BoundView) (at : IsAt views id v) where
      -- one view and the words change
      pub changed : (low' count' : ℕ) (w : BoundView) → least_cost p ≤ low' → low' ≤ low → Fits low' w → share w ≡ share v
          → ((h : ℕ → ℕ) → weight h w + sum_by h (range_with_len 0 count) ≡ weight h v + sum_by h (range_with_len 0 count'))
          → IsKept p chunks low' count' (set views id w)
      changed low' count' w ge le fits same moved = record {
        at_least = ge;
        each_fits = set_fits low' views id w fits (λ j u e. lower_fits low low' u le (k.each_fits j u e));
        all_parts = omega (arith, sum_by-set_at share views id v w at, k.all_parts, same);
        all_draws = λ h. omega (arith, sum_by-set_at (weight h) views id v w at, k.all_draws h, moved h);
      }

      -- what one seat drew is below the count
      pub drawn_below : next_above v.draws ≤ count
      drawn_below = next_above-le count v.draws
          (omega (arith, at-le-sum_by (weight (past count)) views id v at, k.all_draws (past count), beyond-range count count))

      -- where one view has all parts, it has all draws
      pub whole : share v ≡ whole_share → AreEachBelow v.draws (length v.draws)
      whole all x = sym (own (λ n. cond (n == x) 1 0)) ∙ k.all_draws (λ n. cond (n == x) 1 0) ∙ times-range x count
          ∙ ap (λ n. if nat_lt x n then 1 else 0) size
        where
          own : (h : ℕ → ℕ) → sum_by (weight h) views ≡ weight h v
          own h = sum_by-only share (weight h) views id v at (k.all_parts ∙ sym all)
              (λ j u e. spent_idle h low u (k.each_fits j u e))

          size : count ≡ length v.draws
          size = omega (
            arith,
            own (λ _. 1),
            k.all_draws (λ _. 1),
            sum_by-one v.draws,
            sum_by-one (range_with_len 0 count),
            length-range_with_len 0 count,
          )

      -- a seat is split off
      pub split_keeps : 0 < v.parts → 0 < v.left → IsKept p chunks low count (set views id (kept_view v) ++ split_view v ∷ [])
      split_keeps part more =
          let l = live low v part (k.each_fits id v at) in
          let a = kept_view v in
          let b = split_view v in
          let rest = set views id a in
          let old = set_fits low views id a (fits_like low low v a l refl refl part l.saw_cost l.few_beyond) k.each_fits in
          record {
            at_least = k.at_least;
            each_fits = λ j u e. ⊎_elim
                (old j u)
                (λ same. subst (Fits low) same (fits_like low low v b l refl refl (omega arith) l.saw_cost (omega arith)))
                (at_snoc rest b u j e);
            all_parts = omega (arith, sum_by_push share rest b, sum_by-set_at share views id v a at, k.all_parts, more);
            all_draws = λ h. omega (arith, sum_by_push (weight h) rest b, sum_by-set_at (weight h) views id v a at, k.all_draws h);
          }

      -- the seat takes in another, which is spent then
      pub join_keeps : (other : ℕ) (w : BoundView) → 0 < v.parts → 0 < w.parts → ¬ (other ≡ id)
          → IsAt (set views id (joined_view v w)) other w
          → IsKept p chunks low count (set (set views id (joined_view v w)) other spent_view)
      join_keeps other w part part' apart at' =
          let both = joined_view v w in
          let mid = set views id both in
          let was : IsAt views other w = ⊎_elim (λ x. absurd (apart x.0)) (λ x. x.1) (at_set views id other both w at') in
          let l = live low v part (k.each_fits id v at) in
          let m = live low w part' (k.each_fits other w was) in
          let saw : low ≤ both.low = omega (arith, l.saw_cost, m.saw_cost) in
          let drew : beyond chunks both.draws ≤ both.parts =
          omega (arith, sum_by-append (past chunks) v.draws w.draws, l.few_beyond, m.few_beyond) in
          let fits = fits_like low low v both l refl refl (omega (arith, part)) saw drew in
          record {
            at_least = k.at_least;
            each_fits = set_fits low mid other spent_view (inl record { no_part = refl; no_draw = refl })
                (set_fits low views id both fits k.each_fits);
            all_parts = omega (arith, sum_by-set_at share views id v both at, sum_by-set_at share mid other w spent_view at', k.all_parts);
            all_draws = λ h. omega (
              arith,
              sum_by-append h v.draws w.draws,
              sum_by-set_at (weight h) views id v both at,
              sum_by-set_at (weight h) mid other w spent_view at',
              k.all_draws h,
            );
          }
