-- Each step of a caller keeps the rule of the locks.
use Rattle.std.proofs.Common.{◌≡◌, ◌≢◌, ℕ, zero, suc, ◌+◌, ◌*◌, ◌%◌, ◌^◌, ◌<◌, ◌≤◌, ◌==◌, Bool, if◌then◌else◌, sum_by, List, [], ◌∷◌, ◌++◌, length, map, replicate, get_or, set, sym, refl, ap, ◌∙◌, subst, ⊎_elim, arith, eq-eqb, ne_eqb, length-set, get_or-set_same, get_or-set_other, add-one, append-nil, append_assoc, length-append}
use Rattle.std.proofs.lemmas.Grind.{common_steps}
use Rattle.std.proofs.lemmas.Bool.Decides.{nat_tests}
use mathlib.Core.Logic.{dite}
use mathlib.Core.Option.{Option as Maybe, none, some, some-injective, some-ne-none}
use native.Mathlib.Decide.{ℕ_discrete, dec_le}
use lib.ListN.{get_elem?}
use lib.Seq.{set-get_or}
use Rattle.std.proofs.lemmas.List.{length-replicate, length-map}
use Rattle.atomic_table.specs.Table.{State, step, keeps, takes, gives, stepped, opening, Allows, Splits, Joins}
use Rattle.atomic_table.proofs.Lists.{at_set, at_snoc, set_else, set_here, set_again, some_there}
use Rattle.mr_history.specs.declared.entry.Entry.{Entry}
use Rattle.mr_history.specs.declared.entry.Entry.TheVariants.{Ask, Mend}
use Rattle.mr_history.specs.declared.kept.KeptStripe.{KeptStripe}
use Rattle.mr_locks.specs.Calls.{Turn, Idle, Waiting, Holding, Made, calls, made_of}
use Rattle.mr_locks.specs.declared.view.LockView.{LockView}
use Rattle.mr_history.specs.Histories.{Names, stripes, stripe_of, call_count, one_at, FitsHistory}
use Rattle.mr_locks.specs.Rule.{late_at, AreEarlier, ticket_place, serving_place, tickets, serving, out, holds, made_weight, left_weight, left, Lock, Sound, Keeps, Locked, first_view, waiting_view, holding_view, served_view, without_ask, with_ask, without_mend, with_mend, blank_view, joined_view, spent_view, IsNext, rest_of, first_of, Mine, Ticketed, Takes, Looked, Served}
use Rattle.std.proofs.lemmas.List.Sums.{sum_by-append, sum_by-cons, sum_by_push}
use Rattle.mr_counts.proofs.Sums.{at-le-sum_by, sum_by-le-at, sum_by-set_at}
use Rattle.mr_locks.proofs.Sums.{at-same, below, below-at, below-more, below-none, below-one, below-range, once_below-0, once_below-le, sum_by-less, sum_by-plus, sum_by-same, sum_by-two, zeros}

-- lists of calls

pub calls-push : (h : List Entry → Entry → ℕ) (before es : List Entry) (e : Entry) → calls h before (es ++ e ∷ []) ≡ calls h before es + h (before ++ es) e
calls-push h before [] e = let a : h (before ++ []) e ≡ h before e = ap (λ (l : List Entry). h l e) (append-nil before) in omega arith
calls-push h before (x ∷ es) e =
    let r = calls-push h (before ++ x ∷ []) es e in
    let a : h ((before ++ x ∷ []) ++ es) e ≡ h (before ++ x ∷ es) e = ap (λ (l : List Entry). h l e) (append_assoc before (x ∷ []) es) in omega arith

pub calls-one : (before es : List Entry) → calls (λ _ _. 1) before es ≡ length es
calls-one before [] = refl
calls-one before (x ∷ es) = let r = calls-one (before ++ x ∷ []) es in omega arith

late-0 : (p : ℕ) (before : List Entry) (e : Entry) → length before < p → late_at p before e ≡ 0
late-0 p before e h = grind (arith, nat_tests)

none_late : (p : ℕ) (before es : List Entry) → length before + length es ≤ p → calls (late_at p) before es ≡ 0
none_late p before [] h = refl
none_late p before (e ∷ es) h =
    let a = none_late p (before ++ e ∷ []) es (let x = length-append before (e ∷ []) in omega arith) in
    let b = late-0 p before e (omega arith) in omega arith

last_same : (es : List Entry) (x y : Entry) → es ++ x ∷ [] ≡ es ++ y ∷ [] → x ≡ y
last_same [] x y h = cc
last_same (e ∷ es) x y h = last_same es x y (cc)

-- a choice by two numbers

if_same : (s t k : ℕ) → s ≡ t → (if s == t then k else 0) ≡ k
if_same s t k h = grind (arith, nat_tests, common_steps)

if_else : (s t k : ℕ) → s ≢ t → (if s == t then k else 0) ≡ 0
if_else s t k h = grind (arith, nat_tests, common_steps)

pick_same : (s t : ℕ) (a b : List Entry) → s ≡ t → (if s == t then a else b) ≡ a
pick_same s t a b h = ap (λ (c : Bool). if c then a else b) (eq-eqb s t h)

pick_else : (s t : ℕ) (a b : List Entry) → s ≢ t → (if s == t then a else b) ≡ b
pick_else s t a b h = ap (λ (c : Bool). if c then a else b) (ne_eqb s t h)

length_push : (l : List Entry) (e : Entry) → length (l ++ e ∷ []) ≡ suc (length l)
length_push [] e = refl
length_push (x ∷ l) e = ap suc (length_push l e)

out_waiting : (h : ℕ → ℕ) (t k : ℕ) (u : Turn) → u ≡ Waiting t k → out h t u ≡ h k
out_waiting h t k u e = ap (out h t) e ∙ if_same t t (h k) refl

out_holding : (h : ℕ → ℕ) (t k : ℕ) (l : List Entry) (u : Turn) → u ≡ Holding t k l → out h t u ≡ h k
out_holding h t k l u e = ap (out h t) e ∙ if_same t t (h k) refl

pub waiting_same : (t k t' k' : ℕ) → Waiting t k ≡ Waiting t' k' → (t ≡ t') × (k ≡ k')
waiting_same t k t' k' e = (cc, cc)

pub holding_same : (t k t' k' : ℕ) (l l' : List Entry) → Holding t k l ≡ Holding t' k' l' → (t ≡ t') × (k ≡ k') × (l ≡ l')
holding_same t k t' k' l l' e = (cc, cc, cc)

not_waiting : (t k t' k' : ℕ) (l : List Entry) → Waiting t k ≡ Holding t' k' l → ⊥
not_waiting t k t' k' l e = absurd (cc)

not_idle_waiting : (t k : ℕ) → Idle ≡ Waiting t k → ⊥
not_idle_waiting t k e = absurd (cc)

not_idle_holding : (t k : ℕ) (l : List Entry) → Idle ≡ Holding t k l → ⊥
not_idle_holding t k l e = absurd (cc)

each_set : (P : LockView → Type 0) (views : List LockView) (id : ℕ) (w : LockView) → P w → ((j : ℕ) (u : LockView) → j ≢ id → get_elem? views j ≡ some u → P u) → (j : ℕ) (u : LockView) → get_elem? (set views id w) j ≡ some u → P u
each_set P views id w mine others j u e =
    ⊎_elim (λ (t : (j ≡ id) × (w ≡ u)). subst P t.1 mine) (λ (t : (j ≢ id) × (get_elem? views j ≡ some u)). others j u t.0 t.1) (at_set views id j w u e)

each_push : (P : LockView → Type 0) (views : List LockView) (w : LockView) → P w → ((j : ℕ) (u : LockView) → get_elem? views j ≡ some u → P u) → (j : ℕ) (u : LockView) → get_elem? (views ++ w ∷ []) j ≡ some u → P u
each_push P views w mine others j u e =
    ⊎_elim (λ (t : get_elem? views j ≡ some u). others j u t) (λ (t : w ≡ u). subst P t mine) (at_snoc views w u j e)

-- one stripe is held at most as its ticket is out
holds_le : (h : ℕ → ℕ) (t : ℕ) (u : Turn) → ((k : ℕ) (l : List Entry) → u ≡ Holding t k l → h k ≡ 1) → holds t u ≤ out h t u
holds_le h t Idle f = omega arith
holds_le h t (Waiting s k) f = omega arith
holds_le h t (Holding s k l) f = dite (ℕ_discrete s t)
    (λ e. let a = f k l (ap (λ (x : ℕ). Holding x k l) e) in let b = if_same s t (h k) e in let c = if_same s t 1 e in omega arith)
    (λ ne. let c = if_else s t 1 ne in omega arith)

out_le : (t m : ℕ) (u : Turn) → ((k : ℕ) → u ≡ Waiting t k → 0 < m) → ((k : ℕ) (l : List Entry) → u ≡ Holding t k l → 0 < m) → out (λ _. 1) t u ≤ m
out_le t m Idle f g = omega arith
out_le t m (Waiting s k) f g = dite (ℕ_discrete s t)
    (λ e. let a = f k (ap (λ (x : ℕ). Waiting x k) e) in let b = if_same s t 1 e in omega arith)
    (λ ne. let c = if_else s t 1 ne in omega arith)
out_le t m (Holding s k l) f g = dite (ℕ_discrete s t)
    (λ e. let a = g k l (ap (λ (x : ℕ). Holding x k l) e) in let b = if_same s t 1 e in omega arith)
    (λ ne. let c = if_else s t 1 ne in omega arith)

home_at : (l : List KeptStripe) (i : ℕ) (a d : KeptStripe) → get_elem? (map some l) i ≡ some (some a) → get_or l i d ≡ a
home_at [] i a d e = absurd (some-ne-none (some a) (sym e))
home_at (x ∷ l) zero a d e = some-injective x a (some-injective (some x) (some a) e)
home_at (x ∷ l) (suc i) a d e = home_at l i a d e

module _ (n : Names) where
  abbrev St : Type 0
  St = State KeptStripe LockView

  abbrev Logs : Type 0
  Logs = ℕ → List Entry

  -- nothing changed at stripe t
  record Same (s : St) (log log' : Logs) (v w : LockView) (words' : List ℕ) (homes' : List (Maybe KeptStripe)) (t : ℕ) : Type 0 where
    drawn : tickets words' t ≡ tickets s.words t
    served : serving words' t ≡ serving s.words t
    home : get_elem? homes' t ≡ get_elem? s.homes t
    logged : log' t ≡ log t
    out : (h : ℕ → ℕ) → out h t w.turn ≡ out h t v.turn
    holds : holds t w.turn ≡ holds t v.turn
    made : (h : List Entry → Entry → ℕ) → made_of h t w.made ≡ made_of h t v.made

  -- what a step of the caller id owes, which changes stripe t, and its view from v to w
  record Change (s : St) (log log' : Logs) (t id : ℕ) (v w : LockView) (words' : List ℕ) (homes' : List (Maybe KeptStripe)) : Type 0 where
    words : length words' ≡ length s.words
    homes : length homes' ≡ length s.homes
    rights : (h : ℕ → Entry → ℕ) → made_weight h w + left_weight h n w ≡ made_weight h v + left_weight h n v
    others : (t' : ℕ) → t' ≢ t → Same s log log' v w words' homes' t'
    lock : t < stripes n → Lock n record { words = words'; homes = homes'; views = set s.views id w } t (log' t)
    mine : Sound n words' log' w
    theirs : (j : ℕ) (u : LockView) → j ≢ id → get_elem? s.views j ≡ some u → Sound n words' log' u

  same_lock : (s : St) (log log' : Logs) (id : ℕ) (v w : LockView) (words' : List ℕ) (homes' : List (Maybe KeptStripe)) (t : ℕ) → get_elem? s.views id ≡ some v
      → Same s log log' v w words' homes' t → Lock n s t (log t) → Lock n record { words = words'; homes = homes'; views = set s.views id w } t (log' t)
  same_lock s log log' id v w words' homes' t here same r = record {
    served = same.served ∙ r.served ∙ ap length (sym same.logged);
    waiting = λ h.
        let a = sum_by-same (λ (z : LockView). out h t z.turn) s.views id v w here (same.out h) in
        let b : below h (serving words' t) ≡ below h (serving s.words t) = ap (below h) same.served in
        let c : below h (tickets words' t) ≡ below h (tickets s.words t) = ap (below h) same.drawn in
        let d = r.waiting h in omega arith;
    entered = λ h. sum_by-same (λ (z : LockView). made_of h t z.made) s.views id v w here (same.made h) ∙ r.entered h ∙ ap (calls h []) (sym same.logged);
    home = λ free.
        let a = sum_by-same (λ (z : LockView). holds t z.turn) s.views id v w here same.holds in
        let k = r.home (sym a ∙ free) in (k.0, same.home ∙ k.1, subst (λ (l : List Entry). FitsHistory n t l k.0) (sym same.logged) k.2);
  }

  moves : (s : St) (log log' : Logs) (r : Keeps n s log) (t id : ℕ) (v w : LockView) (words' : List ℕ) (homes' : List (Maybe KeptStripe)) → get_elem? s.views id ≡ some v
      → Change s log log' t id v w words' homes' → Keeps n record { words = words'; homes = homes'; views = set s.views id w } log'
  moves s log log' r t id v w words' homes' here c = record {
    small = r.small;
    words = c.words ∙ r.words;
    homes = c.homes ∙ r.homes;
    shared = λ h. sum_by-same (λ (z : LockView). made_weight h z + left_weight h n z) s.views id v w here (c.rights h) ∙ r.shared h;
    locks = λ t' low. dite (ℕ_discrete t' t)
        (λ e. subst (λ (x : ℕ). Lock n record { words = words'; homes = homes'; views = set s.views id w } x (log' x)) (sym e) (c.lock (subst (λ (x : ℕ). x < stripes n) e low)))
        (λ ne. same_lock s log log' id v w words' homes' t' here (c.others t' ne) (r.locks t' low));
    each = each_set (Sound n words' log') s.views id w c.mine c.theirs;
  }

  -- tickets are at most the calls that there are, with one to spare where an idle caller has a call left
  few : (s : St) (log : Logs) (r : Keeps n s log) (t : ℕ) → t < stripes n → tickets s.words t ≤ call_count n t
  few s log r t low =
      let lock = r.locks t low in
      let a = lock.waiting (λ _. 1) in
      let b = below-one (serving s.words t) in
      let c = below-one (tickets s.words t) in
      let d = lock.entered (λ _ _. 1) in
      let e = calls-one [] (log t) in
      let f = lock.served in
      let g = r.shared (λ s' _. one_at t s') in
      let h = sum_by-le-at (λ (z : LockView). made_weight (λ s' _. one_at t s') z + left n t z) (λ (z : LockView). out (λ _. 1) t z.turn + made_of (λ _ _. 1) t z.made) s.views
      (λ i v e. let m = r.each i v e in let o = out_le t (left n t v) v.turn (λ k e. (m.waits t k e).1) (λ k l e. (m.held t k l e).1) in omega arith) in
      let i = sum_by-plus (λ (z : LockView). out (λ _. 1) t z.turn) (λ (z : LockView). made_of (λ _ _. 1) t z.made) s.views in
      let j = below-at t (stripes n) in
      let k = once_below-le t (stripes n) in
      omega arith

  -- the words of other stripes stand elsewhere
  words_else : (s : St) (k t x : ℕ) → k ≢ ticket_place t → k ≢ serving_place t → (tickets (set s.words k x) t ≡ tickets s.words t) × (serving (set s.words k x) t ≡ serving s.words t)
  words_else s k t x a b = (get_or-set_other s.words k (ticket_place t) x 0 (λ h. absurd (omega arith)), get_or-set_other s.words k (serving_place t) x 0 (λ h. absurd (omega arith)))

  sound_along : (words words' : List ℕ) (log log' : Logs) (v : LockView) → ((t k : ℕ) (l : List Entry) → v.turn ≡ Holding t k l → (serving words' t ≡ serving words t) × (log' t ≡ log t)) → Sound n words log v → Sound n words' log' v
  sound_along words words' log log' v same r = record {
    waits = r.waits;
    held = λ t k l e. let a = r.held t k l e in let b = same t k l e in (a.0, a.1, a.2 ∙ sym b.0, a.3 ∙ sym b.1);
  }

  -- a ticket is drawn
  pub draws : (slots id : ℕ) (me : Mine) (t : ℕ) → me.0.turn ≡ Idle → t < stripes n → 0 < left n t me.0
      → Allows (Locked n) slots id me (ticket_place t) (λ x. (x + 1) % 2 ^ 64) (Ticketed (step slots (ticket_place t) 1 0 none) me)
  draws slots id me t idle low some_left s (log, r) _ here _ =
      let v = me.0 in
      let x : ℕ = tickets s.words t in
      let w = waiting_view v t x in
      let k : ℕ = ticket_place t in
      let most = few s log r t low in
      let small = r.small t in
      let room : (x + 1) % 2 ^ 64 ≡ x + 1 = omega arith in
      let wide = r.words in
      let words' = set s.words k (x + 1) in
      let now : tickets words' t ≡ suc x = get_or-set_same s.words k (x + 1) 0 (omega arith) ∙ add-one x in
      let serve : (t' : ℕ) → serving words' t' ≡ serving s.words t' = λ t'. get_or-set_other s.words k (serving_place t') (x + 1) 0 (λ h. omega arith) in
      let draw : (t' : ℕ) → t' ≢ t → tickets words' t' ≡ tickets s.words t' = λ t' ne. get_or-set_other s.words k (ticket_place t') (x + 1) 0 (λ h. ne (omega arith)) in
      let mine = r.each id v here in
      let lock = r.locks t low in (
        w,
        keeps,
        tt,
        subst (λ (z : ℕ). Locked n (stepped s k z id me.1 w keeps)) (sym room) (
          log,
          moves s log log r t id v w words' s.homes here record {
            words = length-set s.words k (x + 1);
            homes = refl;
            rights = λ h. refl;
            others = λ t' ne. record {
              drawn = draw t' ne;
              served = serve t';
              home = refl;
              logged = refl;
              out = λ h. if_else t t' (h x) (λ e. ne (sym e)) ∙ sym (ap (out h t') idle);
              holds = sym (ap (holds t') idle);
              made = λ h. refl;
            };
            lock = λ _. record {
              served = serve t ∙ lock.served;
              waiting = λ h.
                  let a = sum_by-set_at (λ (z : LockView). out h t z.turn) s.views id v w here in
                  let b : below h (serving words' t) ≡ below h (serving s.words t) = ap (below h) (serve t) in
                  let c : below h (tickets words' t) ≡ below h x + h x = ap (below h) now ∙ below-more h x in
                  let d = lock.waiting h in
                  let e : out h t v.turn ≡ 0 = ap (out h t) idle in
                  let f : out h t w.turn ≡ h x = if_same t t (h x) refl in omega arith;
              entered = λ h. sum_by-same (λ (z : LockView). made_of h t z.made) s.views id v w here refl ∙ lock.entered h;
              home = λ free. lock.home (sym (sum_by-same (λ (z : LockView). holds t z.turn) s.views id v w here (sym (ap (holds t) idle))) ∙ free);
            };
            mine = record {
              waits = λ t' k' e. let same = waiting_same t x t' k' e in subst (λ (y : ℕ). (y < stripes n) × (0 < left n y v)) same.0 (low, some_left);
              held = λ t' k' l e. absurd (not_waiting t x t' k' l e);
            };
            theirs = λ j u ne e. sound_along s.words words' log log u (λ t' k' l h. (serve t', refl)) (r.each j u e);
          },
        ),
        λ t' e. let same : t ≡ t' = omega arith in ap (λ (y : ℕ). (waiting_view v y x, me.1)) same,
      )

  -- a ticket that is out is below the tickets, and its turn comes for one caller alone
  below_tickets : (s : St) (log : Logs) (r : Keeps n s log) (t id k : ℕ) (v : LockView) → t < stripes n → get_elem? s.views id ≡ some v → ((h : ℕ → ℕ) → out h t v.turn ≡ h k) → k ≡ serving s.words t → k < tickets s.words t
  below_tickets s log r t id k v low here is turn =
      let lock = r.locks t low in
      let a = at-le-sum_by (λ (z : LockView). out (one_at k) t z.turn) s.views id v here in
      let b = is (one_at k) in
      let c = at-same k in
      let d = lock.waiting (one_at k) in
      let e = below-at k (tickets s.words t) in
      dite (dec_le (suc k) (tickets s.words t)) (λ h. h) (λ h. let f = once_below-0 k (tickets s.words t) (omega arith) in absurd (omega arith))

  -- the tickets of this number are at most one
  one_ticket : (s : St) (log : Logs) (r : Keeps n s log) (t k : ℕ) → t < stripes n → sum_by (λ (z : LockView). out (one_at k) t z.turn) s.views ≤ 1
  one_ticket s log r t k low =
      let d = (r.locks t low).waiting (one_at k) in
      let e = below-at k (tickets s.words t) in
      let f = once_below-le k (tickets s.words t) in omega arith

  holder_le : (s : St) (log : Logs) (r : Keeps n s log) (t : ℕ) (j : ℕ) (u : LockView) → get_elem? s.views j ≡ some u → holds t u.turn ≤ out (one_at (serving s.words t)) t u.turn
  holder_le s log r t j u e = holds_le (one_at (serving s.words t)) t u.turn
      (λ k l h. ap (one_at (serving s.words t)) ((r.each j u e).held t k l h).2 ∙ at-same (serving s.words t))

  -- while the ticket that is served waits, nobody holds the stripe
  nobody : (s : St) (log : Logs) (r : Keeps n s log) (t id k : ℕ) (v : LockView) → t < stripes n → get_elem? s.views id ≡ some v → v.turn ≡ Waiting t k → k ≡ serving s.words t → sum_by (λ (z : LockView). holds t z.turn) s.views ≡ 0
  nobody s log r t id k v low here is turn =
      let x : ℕ = serving s.words t in
      let a = sum_by-less (λ (z : LockView). holds t z.turn) (λ (z : LockView). out (one_at x) t z.turn) s.views id v (holder_le s log r t) here in
      let b = one_ticket s log r t x low in
      let c : holds t v.turn ≡ 0 = ap (holds t) is in
      let d : out (one_at x) t v.turn ≡ 1 = out_waiting (one_at x) t k v.turn is ∙ ap (one_at x) turn ∙ at-same x in omega arith

  takes_stripe : (s : St) (log : Logs) (r : Keeps n s log) (t id k : ℕ) (v : LockView) → t < stripes n → get_elem? s.views id ≡ some v → v.turn ≡ Waiting t k → k ≡ serving s.words t
      → Keeps n record { words = s.words; homes = set s.homes t none; views = set s.views id (holding_view v t k (log t)) } log
  takes_stripe s log r t id k v low here is turn =
      let w = holding_view v t k (log t) in
      let mine = r.each id v here in
      let lock = r.locks t low in moves s log log r t id v w s.words (set s.homes t none) here record {
        words = refl;
        homes = length-set s.homes t none;
        rights = λ h. refl;
        others = λ t' ne. record {
          drawn = refl;
          served = refl;
          home = set_else s.homes t t' none ne;
          logged = refl;
          out = λ h. sym (ap (out h t') is);
          holds = if_else t t' 1 (λ e. ne (sym e)) ∙ sym (ap (holds t') is);
          made = λ h. refl;
        };
        lock = λ _. record {
          served = lock.served;
          waiting = λ h. let a = sum_by-same (λ (z : LockView). out h t z.turn) s.views id v w here (sym (ap (out h t) is)) in let b = lock.waiting h in omega arith;
          entered = λ h. sum_by-same (λ (z : LockView). made_of h t z.made) s.views id v w here refl ∙ lock.entered h;
          home = λ free.
              let a = sum_by-set_at (λ (z : LockView). holds t z.turn) s.views id v w here in
              let b : holds t w.turn ≡ 1 = if_same t t 1 refl in
              let c : holds t v.turn ≡ 0 = ap (holds t) is in absurd (omega arith);
        };
        mine = record {
          waits = λ t' k' e. absurd (not_waiting t' k' t k (log t) (sym e));
          held = λ t' k' l e.
              let same = holding_same t k t' k' (log t) l e in
              let f = mine.waits t k is in
              subst (λ (y : ℕ). (y < stripes n) × (0 < left n y v) × (k' ≡ serving s.words y) × (l ≡ log y)) same.0 (f.0, f.1, sym same.1 ∙ turn, sym same.2);
        };
        theirs = λ j u ne e. r.each j u e;
      }

  -- a look at the serving word takes the stripe where the turn has come
  pub looks : (slots id : ℕ) (me : Mine) (t k : ℕ) → me.0.names ≡ n → me.0.turn ≡ Waiting t k
      → Allows (Locked n) slots id me (serving_place t) (λ x. x) (Looked (step slots (serving_place t) 0 0 none) me)
  looks slots id me t k named is s (log, r) _ here _ =
      let v = me.0 in
      let x : ℕ = serving s.words t in
      let low = ((r.each id v here).waits t k is).0 in
      let lock = r.locks t low in
      dite (ℕ_discrete x k)
      (λ hit.
      let home = lock.home (nobody s log r t id k v low here is (sym hit)) in
      let w = holding_view v t k (log t) in
      let small = r.small t in
      let few_left = below_tickets s log r t id k v low here (λ h. out_waiting h t k v.turn is) (sym hit) in
      let most = few s log r t low in (
        w,
        takes t home.0,
        home.1,
        subst (λ (l : List ℕ). Locked n record { words = l; homes = set s.homes t none; views = set s.views id w }) (sym (set-get_or s.words (serving_place t) 0)) (log, takes_stripe s log r t id k v low here is (sym hit)),
        λ t' k' e _.
            let same = waiting_same t k t' k' (sym is ∙ e) in
            let m' : Mine = (w, (t, home.0) ∷ me.1) in
            let took : Takes me t k m' = (log t, home.0, refl, sym lock.served ∙ hit, subst (λ (z : Names). k < call_count z t) (sym named) (omega arith), omega arith, subst (λ (z : Names). FitsHistory z t (log t) home.0) (sym named) home.2) in
            ((λ _. subst (λ (y : ℕ). Takes me y k' m') same.0 (subst (λ (y : ℕ). Takes me t y m') same.1 took)), (λ miss. absurd (miss (hit ∙ same.1)))),
      ))
      (λ miss. (
        v,
        keeps,
        tt,
        subst (λ (l : List ℕ). Locked n record { words = l; homes = s.homes; views = set s.views id v }) (sym (set-get_or s.words (serving_place t) 0))
            (subst (λ (l : List LockView). Locked n record { words = s.words; homes = s.homes; views = l }) (sym (set_again s.views id v here)) (log, r)),
        λ t' k' e _. let same = waiting_same t k t' k' (sym is ∙ e) in ((λ hit. absurd (miss (hit ∙ sym same.1))), (λ _. refl)),
      ))

  -- the call that is served is one of those that were left
  served_rights : (v : LockView) (t : ℕ) (l : List Entry) (e : Entry) (h : ℕ → Entry → ℕ) → v.names ≡ n → IsNext v t e
      → made_weight h (served_view v t l e) + left_weight h n (served_view v t l e) ≡ made_weight h v + left_weight h n v
  served_rights v t l (Ask a) h named next =
      let m : Made = record { stripe = t; entry = Ask a; before = l } in
      let f : ℕ → ℕ = λ k. h (stripe_of n k) (Ask k) in
      let b = sum_by_push (λ (z : Made). h z.stripe z.entry) v.made m in
      let c : sum_by f v.asks ≡ f a + sum_by f (rest_of v.asks) = ap (sum_by f) next.0 ∙ sum_by-cons f a (rest_of v.asks) in
      let d : stripe_of n a ≡ t = sym (ap (λ (z : Names). stripe_of z a) named) ∙ next.1 in
      let g : f a ≡ h t (Ask a) = ap (λ (y : ℕ). h y (Ask a)) d in omega arith
  served_rights v t l Mend h named next =
      let m : Made = record { stripe = t; entry = Mend; before = l } in
      let f : ℕ → ℕ = λ y. h y Mend in
      let b = sum_by_push (λ (z : Made). h z.stripe z.entry) v.made m in
      let c : sum_by f v.mends ≡ f t + sum_by f (rest_of v.mends) = ap (sum_by f) next ∙ sum_by-cons f t (rest_of v.mends) in omega arith

  -- each call of a caller stands below the end of the history
  earlier : (s : St) (log : Logs) (r : Keeps n s log) (t id : ℕ) (v : LockView) → t < stripes n → get_elem? s.views id ≡ some v → (l : List Entry) → l ≡ log t → AreEarlier (length l) t v
  earlier s log r t id v low here l is =
      let a = at-le-sum_by (λ (z : LockView). made_of (late_at (length l)) t z.made) s.views id v here in
      let b = (r.locks t low).entered (late_at (length l)) in
      let c = none_late (length l) [] l (omega arith) in
      let d : calls (late_at (length l)) [] l ≡ calls (late_at (length l)) [] (log t) = ap (calls (late_at (length l)) []) is in omega arith

  serves_bare : (slots id : ℕ) (v : LockView) (t k : ℕ) (l : List Entry) (kept : KeptStripe) (e : Entry) → v.names ≡ n → v.turn ≡ Holding t k l → FitsHistory n t (l ++ e ∷ []) kept → IsNext v t e
      → Allows (Locked n) slots id (v, (t, kept) ∷ []) (serving_place t) (λ x. (x + 1) % 2 ^ 64) (Served (step slots (serving_place t) 1 0 none) (v, (t, kept) ∷ []))
  serves_bare slots id v t k l kept e named is fits next s (log, r) _ here _ =
      let x : ℕ = serving s.words t in
      let w = served_view v t l e in
      let p : ℕ = serving_place t in
      let mine = r.each id v here in
      let hold = mine.held t k l is in
      let low : t < stripes n = hold.0 in
      let turn : k ≡ x = hold.2 in
      let lock = r.locks t low in
      let most = few s log r t low in
      let small = r.small t in
      let less = below_tickets s log r t id k v low here (λ h. out_holding h t k l v.turn is) turn in
      let room : (x + 1) % 2 ^ 64 ≡ x + 1 = omega arith in
      let wide = r.words in
      let words' = set s.words p (x + 1) in
      let now : serving words' t ≡ suc x = get_or-set_same s.words p (x + 1) 0 (omega arith) ∙ add-one x in
      let draw : (t' : ℕ) → tickets words' t' ≡ tickets s.words t' = λ t'. get_or-set_other s.words p (ticket_place t') (x + 1) 0 (λ h. omega arith) in
      let serve : (t' : ℕ) → t' ≢ t → serving words' t' ≡ serving s.words t' = λ t' ne. get_or-set_other s.words p (serving_place t') (x + 1) 0 (λ h. ne (omega arith)) in
      let log' : Logs = λ t'. if t' == t then l ++ e ∷ [] else log t' in
      let logged : log' t ≡ l ++ e ∷ [] = pick_same t t (l ++ e ∷ []) (log t) refl in
      let beside : (t' : ℕ) → t' ≢ t → log' t' ≡ log t' = λ t' ne. pick_else t' t (l ++ e ∷ []) (log t') ne in
      let m : Made = record { stripe = t; entry = e; before = l } in
      let homes' = set s.homes t (some kept) in
      let homes = r.homes in (
        w,
        gives,
        tt,
        subst (λ (z : ℕ). Locked n record { words = set s.words p z; homes = homes'; views = set s.views id w }) (sym room) (
          log',
          moves s log log' r t id v w words' homes' here record {
            words = length-set s.words p (x + 1);
            homes = length-set s.homes t (some kept);
            rights = λ h. served_rights v t l e h named next;
            others = λ t' ne. record {
              drawn = draw t';
              served = serve t' ne;
              home = set_else s.homes t t' (some kept) ne;
              logged = beside t' ne;
              out = λ h. sym (if_else t t' (h k) (λ q. ne (sym q))) ∙ sym (ap (out h t') is);
              holds = sym (if_else t t' 1 (λ q. ne (sym q))) ∙ sym (ap (holds t') is);
              made = λ h.
                  let a = sum_by_push (λ (z : Made). if z.stripe == t' then h z.before z.entry else 0) v.made m in
                  let b = if_else t t' (h l e) (λ q. ne (sym q)) in omega arith;
            };
            lock = λ _. record {
              served = now ∙ ap suc (lock.served ∙ ap length (sym hold.3)) ∙ sym (length_push l e) ∙ ap length (sym logged);
              waiting = λ h.
                  let a = sum_by-set_at (λ (z : LockView). out h t z.turn) s.views id v w here in
                  let b : below h (serving words' t) ≡ below h x + h x = ap (below h) now ∙ below-more h x in
                  let c : below h (tickets words' t) ≡ below h (tickets s.words t) = ap (below h) (draw t) in
                  let d = lock.waiting h in
                  let f : out h t v.turn ≡ h x = out_holding h t k l v.turn is ∙ ap h turn in omega arith;
              entered = λ h.
                  let a = sum_by-set_at (λ (z : LockView). made_of h t z.made) s.views id v w here in
                  let b = sum_by_push (λ (z : Made). if z.stripe == t then h z.before z.entry else 0) v.made m in
                  let c = if_same t t (h l e) refl in
                  let d = lock.entered h in
                  let f : calls h [] l ≡ calls h [] (log t) = ap (calls h []) hold.3 in
                  let g = calls-push h [] l e in
                  let i : calls h [] (log' t) ≡ calls h [] (l ++ e ∷ []) = ap (calls h []) logged in omega arith;
              home = λ _. (kept, set_here s.homes t (some kept) (omega arith), subst (λ (y : List Entry). FitsHistory n t y kept) (sym logged) fits);
            };
            mine = record {
              waits = λ t' k' q. absurd (cc);
              held = λ t' k' l' q. absurd (cc);
            };
            theirs = λ j u ne q. sound_along s.words words' log log' u
                (λ t' k' l' h.
                let apart : t' ≢ t = λ same. (
                let two = sum_by-two (λ (z : LockView). out (one_at k) t z.turn) s.views id j v u ne here q in
                let one = one_ticket s log r t k low in
                let a = out_holding (one_at k) t k l v.turn is in
                let b = out_holding (one_at k) t k' l' u.turn (subst (λ (y : ℕ). u.turn ≡ Holding y k' l') same h) in
                let c = at-same k in
                let d : one_at k k' ≡ 1 = ap (one_at k) (((r.each j u q).held t' k' l' h).2 ∙ ap (serving s.words) same ∙ sym turn) ∙ c in
                omega arith) in
                (serve t' apart, beside t' apart))
                (r.each j u q);
          },
        ),
        λ t' k' l' kept' e' h held grew.
            let same = holding_same t k t' k' l l' (sym is ∙ h) in
            let value : kept ≡ kept' = ap (λ (z : List (ℕ × KeptStripe)). (get_or z 0 (t, kept)).1) held in
            let grew' : l ++ e ∷ [] ≡ l ++ e' ∷ [] = sym fits.log_is ∙ ap (λ (z : KeptStripe). z.history.items) value ∙ grew ∙ ap (λ (y : List Entry). y ++ e' ∷ []) (sym same.2) in
            let entry = last_same l e e' grew' in
            (lock.served ∙ ap length (sym hold.3) ∙ ap length same.2, subst (λ (y : ℕ × List Entry). AreEarlier (length y.1) y.0 v) (λ i. (same.0 i, same.2 i)) (earlier s log r t id v low here l hold.3), λ i. (served_view v (same.0 i) (same.2 i) (entry i), [])),
      )

  -- the call of the caller that holds the stripe is served, and the stripe is given back
  pub serves : (slots id : ℕ) (me : Mine) (t k : ℕ) (l : List Entry) (kept : KeptStripe) (e : Entry) → me.0.names ≡ n → me.0.turn ≡ Holding t k l → me.1 ≡ (t, kept) ∷ [] → FitsHistory n t (l ++ e ∷ []) kept → IsNext me.0 t e
      → Allows (Locked n) slots id me (serving_place t) (λ x. (x + 1) % 2 ^ 64) (Served (step slots (serving_place t) 1 0 none) me)
  serves slots id me t k l kept e named is held fits next =
      subst (λ (m : Mine). Allows (Locked n) slots id m (serving_place t) (λ x. (x + 1) % 2 ^ 64) (Served (step slots (serving_place t) 1 0 none) m)) (λ i. (me.0, sym held i))
      (serves_bare slots id me.0 t k l kept e named is fits next)

  idle_sound : (words : List ℕ) (log : Logs) (v : LockView) → v.turn ≡ Idle → Sound n words log v
  idle_sound words log v idle = record {
    waits = λ t k e. absurd (not_idle_waiting t k (sym idle ∙ e));
    held = λ t k l e. absurd (not_idle_holding t k l (sym idle ∙ e));
  }

  -- an idle caller is cut in two: the first keeps the calls that were made, and those that were left are shared
  cuts : (id : ℕ) (v l r : LockView) → v.turn ≡ Idle → l.turn ≡ Idle → r.turn ≡ Idle → l.made ≡ v.made → r.made ≡ [] → ((h : ℕ → Entry → ℕ) → left_weight h n l + left_weight h n r ≡ left_weight h n v)
      → Splits (Locked n) id v l r
  cuts id v l r idle idle' idle'' made made' rights s (log, k) here = (
    log,
    record {
      small = k.small;
      words = k.words;
      homes = k.homes;
      shared = λ h.
          let f : LockView → ℕ = λ z. made_weight h z + left_weight h n z in
          let a = sum_by_push f (set s.views id l) r in
          let b = sum_by-set_at f s.views id v l here in
          let c = k.shared h in
          let d : made_weight h l ≡ made_weight h v = ap (λ (z : List Made). sum_by (λ (m : Made). h m.stripe m.entry) z) made in
          let e : made_weight h r ≡ 0 = ap (λ (z : List Made). sum_by (λ (m : Made). h m.stripe m.entry) z) made' in
          let g = rights h in omega arith;
      locks = λ t low.
          let lock = k.locks t low in record {
            served = lock.served;
            waiting = λ h.
                let f : LockView → ℕ = λ z. out h t z.turn in
                let a = sum_by_push f (set s.views id l) r in
                let b = sum_by-same f s.views id v l here (ap (out h t) (idle' ∙ sym idle)) in
                let c : out h t r.turn ≡ 0 = ap (out h t) idle'' in
                let d = lock.waiting h in omega arith;
            entered = λ h.
                let f : LockView → ℕ = λ z. made_of h t z.made in
                let a = sum_by_push f (set s.views id l) r in
                let b = sum_by-same f s.views id v l here (ap (made_of h t) made) in
                let c : made_of h t r.made ≡ 0 = ap (made_of h t) made' in
                let d = lock.entered h in omega arith;
            home = λ free.
                let f : LockView → ℕ = λ z. holds t z.turn in
                let a = sum_by_push f (set s.views id l) r in
                let b = sum_by-same f s.views id v l here (ap (holds t) (idle' ∙ sym idle)) in
                let c : holds t r.turn ≡ 0 = ap (holds t) idle'' in lock.home (omega arith);
          };
      each = each_push (Sound n s.words log) (set s.views id l) r (idle_sound s.words log r idle'')
          (each_set (Sound n s.words log) s.views id l (idle_sound s.words log l idle') (λ j u ne e. k.each j u e));
    },
  )

  first_and_rest : (f : ℕ → ℕ) (xs : List ℕ) → sum_by f (rest_of xs) + sum_by f (first_of xs) ≡ sum_by f xs
  first_and_rest f [] = refl
  first_and_rest f (x ∷ xs) = omega (arith, sum_by-cons f x xs, sum_by-cons f x [])

  pub deals_ask : (id : ℕ) (v : LockView) → v.turn ≡ Idle → Splits (Locked n) id v (without_ask v) (with_ask v)
  deals_ask id v idle = cuts id v (without_ask v) (with_ask v) idle idle refl refl refl (λ h. let a = first_and_rest (λ k. h (stripe_of n k) (Ask k)) v.asks in omega arith)

  pub deals_mend : (id : ℕ) (v : LockView) → v.turn ≡ Idle → Splits (Locked n) id v (without_mend v) (with_mend v)
  deals_mend id v idle = cuts id v (without_mend v) (with_mend v) idle idle refl refl refl (λ h. let a = first_and_rest (λ s. h s Mend) v.mends in omega arith)

  pub blanks : (id : ℕ) (v : LockView) → v.turn ≡ Idle → Splits (Locked n) id v v (blank_view v)
  blanks id v idle = cuts id v v (blank_view v) idle idle refl refl refl (λ h. omega arith)

  pub joins : (id other : ℕ) (v w : LockView) → v.turn ≡ Idle → w.turn ≡ Idle → Joins (Locked n) id v other w (joined_view v w) spent_view
  joins id other v w idle idle' s (log, k) here ne there =
      let both = joined_view v w in (
        log,
        record {
          small = k.small;
          words = k.words;
          homes = k.homes;
          shared = λ h.
              let f : LockView → ℕ = λ z. made_weight h z + left_weight h n z in
              let a = sum_by-set_at f s.views id v both here in
              let b = sum_by-set_at f (set s.views id both) other w spent_view there in
              let c = k.shared h in
              let d = sum_by-append (λ (m : Made). h m.stripe m.entry) v.made w.made in
              let e = sum_by-append (λ y. h (stripe_of n y) (Ask y)) v.asks w.asks in
              let g = sum_by-append (λ y. h y Mend) v.mends w.mends in omega arith;
          locks = λ t low.
              let lock = k.locks t low in record {
                served = lock.served;
                waiting = λ h.
                    let f : LockView → ℕ = λ z. out h t z.turn in
                    let a = sum_by-set_at f s.views id v both here in
                    let b = sum_by-set_at f (set s.views id both) other w spent_view there in
                    let c : out h t w.turn ≡ 0 = ap (out h t) idle' in
                    let d = lock.waiting h in omega arith;
                entered = λ h.
                    let f : LockView → ℕ = λ z. made_of h t z.made in
                    let a = sum_by-set_at f s.views id v both here in
                    let b = sum_by-set_at f (set s.views id both) other w spent_view there in
                    let c = sum_by-append (λ (m : Made). if m.stripe == t then h m.before m.entry else 0) v.made w.made in
                    let d = lock.entered h in omega arith;
                home = λ free.
                    let f : LockView → ℕ = λ z. holds t z.turn in
                    let a = sum_by-set_at f s.views id v both here in
                    let b = sum_by-set_at f (set s.views id both) other w spent_view there in
                    let c : holds t w.turn ≡ 0 = ap (holds t) idle' in lock.home (omega arith);
              };
          each = each_set (Sound n s.words log) (set s.views id both) other spent_view (idle_sound s.words log spent_view refl)
              (λ j u _ e. each_set (Sound n s.words log) s.views id both (idle_sound s.words log both idle) (λ i y _ e'. k.each i y e') j u e);
        },
      )

  -- the rule holds of stripes as they were read
  pub starts : (words : List ℕ) (slots : List KeptStripe) → ((t : ℕ) → call_count n t < 2 ^ 32) → words ≡ replicate (1 + 2 * stripes n) 0 → length slots ≡ stripes n
      → ((t : ℕ) (d : KeptStripe) → t < stripes n → FitsHistory n t [] (get_or slots t d)) → Locked n (opening words slots (first_view n))
  starts words slots small is many fits =
      let zero_at : (i : ℕ) → get_or words i 0 ≡ 0 = λ i. ap (λ (l : List ℕ). get_or l i 0) is ∙ zeros (1 + 2 * stripes n) i in (
        (λ _. []),
        record {
          small = small;
          words = ap (λ (l : List ℕ). length l) is ∙ length-replicate (1 + 2 * stripes n) 0;
          homes = length-map slots some ∙ many;
          shared = λ h.
              let a = below-range (λ k. h (stripe_of n k) (Ask k)) (length n.ops) in
              let b = below-range (λ k. h k Mend) (stripes n) in omega arith;
          locks = λ t low. record {
            served = zero_at (serving_place t);
            waiting = λ h.
                let a : below h (serving words t) ≡ 0 = ap (below h) (zero_at (serving_place t)) ∙ below-none h in
                let b : below h (tickets words t) ≡ 0 = ap (below h) (zero_at (ticket_place t)) ∙ below-none h in omega arith;
            entered = λ h. refl;
            home = λ _. let k = some_there slots t (omega arith) in (k.0, k.1, subst (FitsHistory n t []) (home_at slots t k.0 k.0 k.1) (fits t k.0 low));
          };
          each = first;
        },
      )
    where
      first : (id : ℕ) (v : LockView) → get_elem? (first_view n ∷ []) id ≡ some v → Sound n words (λ _. []) v
      first zero v e = subst (Sound n words (λ _. [])) (some-injective (first_view n) v e) (idle_sound words (λ _. []) (first_view n) refl)
      first (suc id) v e = absurd (some-ne-none v (sym e))
