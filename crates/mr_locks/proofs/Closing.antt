-- What one caller with every call made knows of the stripes.
use Rattle.std.proofs.Common.{◌≡◌, ℕ, zero, suc, ◌+◌, ◌<◌, ◌≤◌, ◌==◌, ◌&&◌, Bool, true, false, if◌then◌else◌, sum_by, List, [], ◌∷◌, ◌++◌, length, get_or, sym, refl, ap, ◌∙◌, subst, arith}
use Rattle.std.proofs.lemmas.Grind.{common_steps}
use Rattle.std.proofs.lemmas.Bool.Decides.{nat_tests}
use Rattle.std.proofs.lemmas.List.Sums.{sum_by-cons}
use mathlib.Core.Logic.{dite}
use mathlib.Core.Option.{some, some-injective, some-ne-none}
use native.Mathlib.Decide.{ℕ_discrete}
use lib.ListN.{get_elem?}
use Rattle.atomic_table.specs.Table.{State, Seen, Final}
use Rattle.mr_counts.proofs.NumberLaws.{sum_by-one}
use Rattle.mr_counts.proofs.Sums.{sum_by-le-at, sum_by-only}
use Rattle.mr_kept.specs.Kept.{mended_bytes}
use Rattle.mr_plan.specs.PlanLists.{recipes_at}
use Rattle.mr_history.specs.declared.entry.Entry.{Entry}
use Rattle.mr_history.specs.declared.entry.Entry.TheVariants.{Ask, Mend}
use Rattle.mr_history.specs.declared.kept.KeptStripe.{KeptStripe}
use Rattle.mr_history.specs.Histories.{FitsHistory, Names, has_only_reads, one_at, only_reads, stripe_of, stripes, value}
use Rattle.mr_locks.specs.Calls.{Holding, Idle, Turn, Waiting, calls, made_of}
use Rattle.mr_locks.specs.Rule.{Keeps, Lock, Locked, all_weight, holds, left, left_weight, made_weight}
use Rattle.mr_locks.specs.Seats.{HasAll, IsClosed, calls_of}
use Rattle.mr_locks.specs.declared.view.LockView.{LockView}
use Rattle.mr_locks.proofs.Sums.{at-else, at-same, below, below-more, below-none, below-one}

made_none : {X : Type 0} (f : X → ℕ) (ms : List X) → sum_by (λ _. 1) ms ≡ 0 → sum_by f ms ≡ 0
made_none f [] e = refl
made_none f (m ∷ ms) e = absurd (omega (arith, sum_by-cons (λ _. 1) m ms))

below_none : (t c n : ℕ) → n ≤ t → below (λ s. if s == t then c else 0) n ≡ 0
below_none t c zero h = below-none (λ s. if s == t then c else 0)
below_none t c (suc n) h = let r = below_none t c n (omega arith) in let m = below-more (λ s. if s == t then c else 0) n in grind (arith, nat_tests, common_steps)

below_pick : (t c n : ℕ) → t < n → below (λ s. if s == t then c else 0) n ≡ c
below_pick t c zero h = absurd (omega arith)
below_pick t c (suc n) h = dite (ℕ_discrete n t)
    (λ e. let r = below_none t c n (omega arith) in let m = below-more (λ s. if s == t then c else 0) n in grind (arith, nat_tests, common_steps))
    (λ ne. let r = below_pick t c n (omega arith) in let m = below-more (λ s. if s == t then c else 0) n in grind (arith, nat_tests, common_steps))

-- 1 for a mend, and else 0
abbrev mends_one : Entry → ℕ
mends_one (Ask k) = 0
mends_one Mend = 1

no_mend : (n : Names) (before log : List Entry) → has_only_reads n log ≡ true → calls (λ _ e. mends_one e) before log ≡ 0
no_mend n before [] h = refl
no_mend n before (Ask k ∷ log) h = let r = no_mend n (before ++ Ask k ∷ []) log (and_right (only_reads n (Ask k)) (has_only_reads n log) h) in omega arith
  where
    and_right : (p q : Bool) → (p && q) ≡ true → q ≡ true
    and_right true q h = h
    and_right false q h = absurd (cc)
no_mend n before (Mend ∷ log) h = absurd (cc)

holds_one : (t m : ℕ) (u : Turn) → ((k : ℕ) (l : List Entry) → u ≡ Holding t k l → 0 < m) → holds t u ≤ m
holds_one t m Idle g = omega arith
holds_one t m (Waiting s k) g = omega arith
holds_one t m (Holding s k l) g = dite (ℕ_discrete s t)
    (λ e. let a = g k l (ap (λ (x : ℕ). Holding x k l) e) in let b : one_at t s ≡ 1 = ap (one_at t) e ∙ at-same t in omega arith)
    (λ ne. let c = at-else t s ne in omega arith)

module _ (n : Names) (s : State KeptStripe LockView) (log : ℕ → List Entry) (r : Keeps n s log) (id : ℕ) (v : LockView) (here : get_elem? s.views id ≡ some v) (whole : HasAll n v) where
  abbrev count : LockView → ℕ
  count u = made_weight (λ _ _. 1) u + left_weight (λ _ _. 1) n u

  nothing_left : (h : ℕ → Entry → ℕ) → left_weight h n v ≡ 0
  nothing_left h =
      let a : sum_by (λ k. h (stripe_of n k) (Ask k)) v.asks ≡ 0 = ap (sum_by (λ k. h (stripe_of n k) (Ask k))) whole.asks in
      let b : sum_by (λ y. h y Mend) v.mends ≡ 0 = ap (sum_by (λ y. h y Mend)) whole.mends in omega arith

  counts : sum_by count s.views ≡ count v
  counts =
      let a = r.shared (λ _ _. 1) in
      let b = below-one (length n.ops) in
      let c = below-one (stripes n) in
      let d = sum_by-one v.made in
      let e = whole.made in
      let f = nothing_left (λ _ _. 1) in omega arith

  no_other : (f : LockView → ℕ) → ((u : LockView) → count u ≡ 0 → f u ≡ 0) → sum_by f s.views ≡ f v
  no_other f h = sum_by-only count f s.views id v here counts (λ j u e z. h u z)

  each_made : (h : ℕ → Entry → ℕ) → made_weight h v ≡ all_weight h n
  each_made h =
      let a = no_other (λ u. made_weight h u + left_weight h n u) (λ u z.
      let x = made_none (λ m. h m.stripe m.entry) u.made (omega arith) in
      let y = made_none (λ k. h (stripe_of n k) (Ask k)) u.asks (omega arith) in
      let w = made_none (λ k. h k Mend) u.mends (omega arith) in omega arith) in
      let b = r.shared h in
      let c = nothing_left h in omega arith

  module _ (t : ℕ) (low : t < stripes n) where
    lock : Lock n s t (log t)
    lock = r.locks t low

    made_here : (h : List Entry → Entry → ℕ) → made_of h t v.made ≡ calls h [] (log t)
    made_here h = sym (no_other (λ u. made_of h t u.made) (λ u z. made_none (λ m. if m.stripe == t then h m.before m.entry else 0) u.made (omega arith))) ∙ lock.entered h

    nobody_holds : sum_by (λ (u : LockView). holds t u.turn) s.views ≡ 0
    nobody_holds =
        let a = sum_by-le-at (λ (u : LockView). left n t u) (λ (u : LockView). holds t u.turn) s.views (λ j u e. holds_one t (left n t u) u.turn (λ k l h. ((r.each j u e).held t k l h).1)) in
        let b = no_other (λ u. left n t u) (λ u z.
        let y = made_none (λ k. one_at t (stripe_of n k)) u.asks (omega arith) in
        let w = made_none (λ k. one_at t k) u.mends (omega arith) in omega arith) in
        let c = nothing_left (λ x _. one_at t x) in omega arith

    each_once : (h : Entry → ℕ) → calls (λ _ e. h e) [] (log t) ≡ calls_of h n t
    each_once h =
        let a = made_here (λ _ e. h e) in
        let b = each_made (λ x e. if x == t then h e else 0) in
        let c = below_pick t (h Mend) (stripes n) low in omega arith

    is_whole : (kept : KeptStripe) → FitsHistory n t (log t) kept → (w : Bool) → kept.whole ≡ w → kept.whole ≡ true
    is_whole kept fits true e = e
    is_whole kept fits false e = let a = no_mend n [] (log t) (fits.early e) in let b = each_once mends_one in absurd (omega arith)

    -- the stripe is at home, and closed as it should be
    pub closes : (kept : KeptStripe) × (get_elem? s.homes t ≡ some (some kept)) × IsClosed n (λ h. made_of h t v.made) t kept
    closes =
        let home = lock.home nobody_holds in
        let kept : KeptStripe = home.0 in
        let fits : FitsHistory n t (log t) kept = home.2 in
        let w = is_whole kept fits kept.whole refl in (
          kept,
          home.1,
          record {
            whole = w;
            size = fits.size;
            bytes = ap (λ b. if b then kept.bytes.items else mended_bytes n.head (recipes_at n.plans t) kept.bytes.items) (sym w) ∙ fits.value ∙ ap (value n t) (sym fits.log_is);
            each = λ h. ap (calls (λ _ e. h e) []) fits.log_is ∙ each_once h;
            made_are = λ h. made_here h ∙ ap (calls h []) (sym fits.log_is);
          },
        )

at_get : {A : Type 0} (l : List A) (i : ℕ) (a d : A) → get_elem? l i ≡ some a → get_or l i d ≡ a
at_get [] i a d e = absurd (some-ne-none a (sym e))
at_get (x ∷ l) zero a d e = some-injective x a e
at_get (x ∷ l) (suc i) a d e = at_get l i a d e

pub closes_all : (n : Names) (id : ℕ) (v : LockView) (ws : List ℕ) (xs : List KeptStripe) → Final (Seen (Locked n) id v) ws xs → HasAll n v → (t : ℕ) (d : KeptStripe) → t < stripes n
    → IsClosed n (λ h. made_of h t v.made) t (get_or xs t d)
closes_all n id v ws xs (s, (locked, here), words, long, homes) whole t d low =
    let end = closes n s locked.0 locked.1 id v here whole t low in
    subst (IsClosed n (λ h. made_of h t v.made) t) (sym (at_get xs t end.0 d (homes t end.0 end.1))) end.2
