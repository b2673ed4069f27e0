-- Each step keeps the rule.
use Rattle.std.proofs.Common.{◌≡◌, ℕ, suc, ◌+◌, ◌<◌, ◌≤◌, ◌⊎◌, inl, inr, ⊎_elim, List, [], ◌∷◌, ◌++◌, Option, Some, None, MatchOption, IfSome, IfNone, cond, set, sum_by, sym, refl, ap, subst, ◌∙◌, arith}
use Rattle.std.specs.Prelude.{nat_lt, ◌==◌, if◌then◌else◌}
use Rattle.std.specs.List.{range_with_len}
use Rattle.std.proofs.lemmas.List.Sums.{sum_by-cons, sum_by_push, sum_by-append}
use Rattle.std.proofs.lemmas.List.FromFn.{length-range_with_len}
use Rattle.std.proofs.lemmas.Bool.Decides.{nat_tests}
use mathlib.Core.Option.{some}
use lib.ListN.{get_elem?}
use Rattle.crossbeam_queue.proofs.Lists.{at_set, at_snoc}
use Rattle.crossbeam_queue.specs.Fifo.{Pushes, Pops, Forks, Merges, Learns}
use Rattle.mr_counts.specs.Numbers.{times, AreEachBelow, WeighAsBelow}
use Rattle.mr_counts.proofs.Sums.{sum_by-set_at, at-le-sum_by, sum_by-only}
use Rattle.mr_counts.proofs.NumberLaws.{sum_by-one_more, sum_by-one, times-range}
use Rattle.mr_table.specs.declared.view.JobView.{JobView}
use Rattle.mr_table.specs.Rule.{pushed_view, took_view, kept_view, split_view, joined_view, spent_view, share_of, IsWhole, IsSpent, IsLive, IsKept, Kept, Pushed, Took, LeavesWith}
use Rattle.mr_table.proofs.Ordered.{counts_itself}
use Rattle.mr_table.proofs.Views.{spread_of, weigh_of, live, spent, alone}

-- one pass and the queue change
changed : (pushed pushed' : ℕ) (items items' : List ℕ) (views : List JobView) (id : ℕ) (v w : JobView) → IsKept pushed items views → get_elem? views id ≡ some v
    → ((j : ℕ) (u : JobView) → (j ≡ id → ⊥) → get_elem? views j ≡ some u → IsSpent u ⊎ IsLive pushed' u) → IsSpent w ⊎ IsLive pushed' w → share_of w ≡ share_of v
    → ((h : ℕ → ℕ) → sum_by h items' + sum_by h w.taken + sum_by h (range_with_len 0 pushed) ≡ sum_by h items + sum_by h v.taken + sum_by h (range_with_len 0 pushed'))
    → IsKept pushed' items' (set views id w)
changed pushed pushed' items items' views id v w k at others fits same moved = record {
  each_fits = λ j u e. ⊎_elim (λ (x : (j ≡ id) × (w ≡ u)). subst (λ (y : JobView). IsSpent y ⊎ IsLive pushed' y) x.1 fits) (λ x. others j u x.0 x.1) (at_set views id j w u e);
  all_parts = omega (arith, sum_by-set_at share_of views id v w at, k.all_parts);
  all_jobs = weigh_of pushed' items' (set views id w)
      (λ h. omega (arith, sum_by-set_at (λ (u : JobView). sum_by h u.taken) views id v w at, spread_of pushed items views k.all_jobs h, moved h));
}

pub pushes : (n id : ℕ) (v : JobView) → 0 < v.parts → IsWhole v → Pushes Kept n id v v.pushed (Pushed v v.pushed)
pushes n id v part whole items views _ (pushed, k) at =
    let is = (live pushed v part (k.each_fits id v at)).knows_jobs in
    let w = pushed_view v in
    let fits : IsLive (suc pushed) w = record { has_part = part; knows_jobs = omega (arith, is) } in (
      w,
      (
        suc pushed,
        changed pushed (suc pushed) items (items ++ v.pushed ∷ []) views id v w k at (λ j u apart e. inl (alone pushed items views k id v at whole j u apart e)) (inr fits) refl
            (λ h. omega (arith, sum_by_push h items v.pushed, sum_by-one_more h pushed, ap h is)),
      ),
      refl,
    )

once-le : (x n : ℕ) → (if nat_lt x n then 1 else 0) ≤ 1
once-le x n = grind (arith, nat_tests)

-- the numbers below n alone count among them
in-range : (x n : ℕ) → 0 < times x (range_with_len 0 n) → x < n
in-range x n h = go (subst (λ m. 0 < m) (times-range x n) h)
  where
    go : 0 < (if nat_lt x n then 1 else 0) → x < n
    go counts = grind (arith, nat_tests)

pub pops : (id : ℕ) (v : JobView) → 0 < v.parts → Pops Kept id v (Took v)
pops id v part x items views (pushed, k) at =
    let is = (live pushed v part (k.each_fits id v at)).knows_jobs in
    let w = took_view v x in
    let spread = spread_of pushed (x ∷ items) views k.all_jobs in
    let own = λ (h : ℕ → ℕ). at-le-sum_by (λ (u : JobView). sum_by h u.taken) views id v at in
    let at_x : ℕ → ℕ = λ y. cond (y == x) 1 0 in
    let once = spread at_x in
    let first = sum_by-cons at_x x items in
    let self = counts_itself x in
    let here : 0 < times x (range_with_len 0 pushed) = omega (arith, once, first, self) in
    let most : times x (range_with_len 0 pushed) ≤ 1 = subst (λ (n : ℕ). n ≤ 1) (sym (times-range x pushed)) (once-le x pushed) in
    let fits : IsLive pushed w = record { has_part = part; knows_jobs = is } in (
      w,
      (
        pushed,
        changed pushed pushed (x ∷ items) items views id v w k at (λ j u _ e. k.each_fits j u e) (inr fits) refl
            (λ h. omega (arith, sum_by-cons h x items, sum_by_push h v.taken x)),
      ),
      record {
        view = refl;
        pushed = subst (λ n. x < n) (sym is) (in-range x pushed here);
        new = omega (arith, most, once, first, self, own at_x);
        more = omega (
          arith,
          spread (λ _. 1),
          sum_by-cons (λ _. 1) x items,
          sum_by-one v.taken,
          own (λ _. 1),
          sum_by-one (range_with_len 0 pushed),
          length-range_with_len 0 pushed,
          is,
        );
      },
    )

-- two lists weigh together what each weighs
weigh_two : (items taken : List ℕ) (n : ℕ) → ((h : ℕ → ℕ) → sum_by h items + sum_by h taken ≡ sum_by h (range_with_len 0 n))
    → WeighAsBelow (λ (l : List ℕ). l) (items ∷ taken ∷ []) n
weigh_two items taken n weigh h = omega (
  arith,
  weigh h,
  sum_by-cons (λ (l : List ℕ). sum_by h l) items (taken ∷ []),
  sum_by-cons (λ (l : List ℕ). sum_by h l) taken [],
)

pub learns : (id : ℕ) (v : JobView) → 0 < v.parts → Learns Kept id v (LeavesWith v)
learns id v part items views (pushed, k) at whole =
    let is = (live pushed v part (k.each_fits id v at)).knows_jobs in
    weigh_two items v.taken v.pushed (λ h.
    let own = sum_by-only share_of (λ (u : JobView). sum_by h u.taken) views id v at (k.all_parts ∙ sym whole) (λ j u e none. ap (sum_by h) ((spent pushed u none (k.each_fits j u e)).no_job)) in
    omega (arith, own, spread_of pushed items views k.all_jobs h, ap (λ n. sum_by h (range_with_len 0 n)) is))

pub forks : (id : ℕ) (v : JobView) → 0 < v.parts → 0 < v.left → Forks Kept id v (kept_view v) (split_view v)
forks id v part more items views (pushed, k) at =
    let is = (live pushed v part (k.each_fits id v at)).knows_jobs in
    let a = kept_view v in
    let b = split_view v in
    let rest = set views id a in
    let kept : IsLive pushed a = record { has_part = part; knows_jobs = is } in
    let new : IsLive pushed b = record { has_part = omega arith; knows_jobs = is } in
    let old : (j : ℕ) (u : JobView) → get_elem? rest j ≡ some u → IsSpent u ⊎ IsLive pushed u = λ j u e. ⊎_elim
    (λ (x : (j ≡ id) × (a ≡ u)). inr (subst (IsLive pushed) x.1 kept)) (λ x. k.each_fits j u x.1) (at_set views id j a u e) in (
      pushed,
      record {
        each_fits = λ j u e. ⊎_elim (old j u) (λ same. inr (subst (IsLive pushed) same new)) (at_snoc rest b u j e);
        all_parts = omega (arith, sum_by_push share_of rest b, sum_by-set_at share_of views id v a at, k.all_parts, more);
        all_jobs = weigh_of pushed items (rest ++ b ∷ []) (λ h. omega (
          arith,
          sum_by_push (λ (u : JobView). sum_by h u.taken) rest b,
          sum_by-set_at (λ (u : JobView). sum_by h u.taken) views id v a at,
          spread_of pushed items views k.all_jobs h,
        ));
      },
    )

pub merges : (id : ℕ) (v : JobView) (other : ℕ) (w : JobView) → 0 < v.parts → Merges Kept id v other w (joined_view v w) spent_view
merges id v other w part items views (pushed, k) at apart at' =
    let is = (live pushed v part (k.each_fits id v at)).knows_jobs in
    let both = joined_view v w in
    let mid = set views id both in
    let fits : IsLive pushed both = record { has_part = omega (arith, part); knows_jobs = is } in
    let gone : IsSpent spent_view = record { no_part = refl; no_job = refl } in
    let old : (j : ℕ) (u : JobView) → get_elem? mid j ≡ some u → IsSpent u ⊎ IsLive pushed u = λ j u e. ⊎_elim
    (λ (x : (j ≡ id) × (both ≡ u)). inr (subst (IsLive pushed) x.1 fits)) (λ x. k.each_fits j u x.1) (at_set views id j both u e) in (
      pushed,
      record {
        each_fits = λ j u e. ⊎_elim (λ (x : (j ≡ other) × (spent_view ≡ u)). inl (subst IsSpent x.1 gone)) (λ x. old j u x.1) (at_set mid other j spent_view u e);
        all_parts = omega (arith, sum_by-set_at share_of views id v both at, sum_by-set_at share_of mid other w spent_view at', k.all_parts);
        all_jobs = weigh_of pushed items (set mid other spent_view) (λ h. omega (
          arith,
          sum_by-append h v.taken w.taken,
          sum_by-set_at (λ (u : JobView). sum_by h u.taken) views id v both at,
          sum_by-set_at (λ (u : JobView). sum_by h u.taken) mid other w spent_view at',
          spread_of pushed items views k.all_jobs h,
        ));
      },
    )

-- ---- what a take answers

abbrev Popped : Option ℕ → JobView → JobView → Type 0 → Type 0
Popped answer v w Rest = MatchOption answer ((w ≡ v) × LeavesWith v []) (λ x. Took v x w × Rest)

pub takes-some : (answer : Option ℕ) (v w : JobView) (Rest : Type 0) → Popped answer v w Rest → IfSome answer (λ job. Took v job w)
takes-some None v w Rest h = tt
takes-some (Some x) v w Rest h = h.0

pub takes-none : (answer : Option ℕ) (v w : JobView) (Rest : Type 0) → Popped answer v w Rest → IfNone answer (w ≡ v)
takes-none None v w Rest h = h.0
takes-none (Some x) v w Rest h = tt

each_of : (v : JobView) → LeavesWith v [] → IsWhole v → AreEachBelow v.taken v.pushed
each_of v leaves whole x =
    let at_x : ℕ → ℕ = λ y. cond (y == x) 1 0 in
    omega (
      arith,
      leaves whole at_x,
      sum_by-cons (λ (l : List ℕ). sum_by at_x l) [] (v.taken ∷ []),
      sum_by-cons (λ (l : List ℕ). sum_by at_x l) v.taken [],
      times-range x v.pushed,
    )

pub takes-each : (answer : Option ℕ) (v w : JobView) (Rest : Type 0) (count : ℕ) → v.pushed ≡ count → Popped answer v w Rest
    → IfNone answer (IsWhole w → AreEachBelow w.taken count)
takes-each None v w Rest count is (same, leaves) = λ whole. subst (λ (u : JobView). AreEachBelow u.taken count) (sym same)
    (subst (AreEachBelow v.taken) is (each_of v leaves (subst IsWhole same whole)))
takes-each (Some x) v w Rest count is h = tt
