-- Callers to whom asks and stripes are handed over.
use Rattle.std.proofs.Common.{◌≡◌, ◌≢◌, ℕ, zero, suc, ◌+◌, ◌-◌, ◌%◌, ◌==◌, Bool, true, false, if◌then◌else◌, eq-eqb, ne_eqb, set, get_or, length-set, get_or-set_same, get_or-set_other, append-nil, length-append, ◌<◌, List, [], ◌∷◌, ◌++◌, length, All, sum_by, slice_index_or, sym, refl, ap, ◌∙◌, subst, arith}
use Rattle.std.specs.List.{range_with_len, filter}
use Rattle.std.proofs.lemmas.Nat.{mod_below}
use Rattle.std.proofs.lemmas.List.Elements.{All-head, All-tail, All-cons, All-nil, All-append, filter-append}
use Rattle.std.proofs.lemmas.List.FromFn.{length-range_with_len}
use Rattle.std.proofs.lemmas.List.Sums.{sum_by-cons}
use mathlib.Core.Logic.{dite}
use native.Mathlib.Decide.{ℕ_discrete}
use mathlib.Core.Option.{some}
use lib.ListN.{get_elem?}
use Rattle.mr_counts.proofs.Sums.{sum_by-set_at}
use Rattle.mr_history.specs.Histories.{Names, stripes}
use Rattle.mr_locks.specs.Calls.{Idle}
use Rattle.mr_locks.specs.Rule.{first_view, rest_of, first_of, without_ask, with_ask, without_mend, with_mend, blank_view, joined_view}
use Rattle.mr_locks.specs.Seats.{IsSeatOf, names}
use Rattle.mr_locks.specs.declared.view.LockView.{LockView}
use Rattle.mr_amend.specs.declared.amend.Amend.{Amend}
use Rattle.mr_amend.specs.declared.caller.Caller.{Caller}
use Rattle.mr_amend.specs.Callers.{AreAll, IsCallerOf, every, share, view}
use Rattle.mr_amend.proofs.Calling.{all_rest}
use Rattle.mr_amend.proofs.Counting.{range-push}

-- ---- one hands over, and one gets

all_first_of : (P : ℕ → Type 0) (l : List ℕ) → All P l → All P (first_of l)
all_first_of P [] a = a
all_first_of P (x ∷ l) a = All-cons P x [] (All-head P x l a) (All-nil P)

module _ (b : Amend) where
  abbrev low_ask : ℕ → Type 0
  low_ask k = k < length (names b.locks).ops

  abbrev low_mend : ℕ → Type 0
  low_mend t = t < stripes (names b.locks)

  pub gave_ask : (c c' : Caller) → IsCallerOf b c → IsSeatOf b.locks c'.seat → view c' ≡ without_ask (view c) → IsCallerOf b c'
  gave_ask c c' r seat is = record {
    seat = seat;
    asks = subst (λ (z : LockView). All low_ask z.asks) (sym is) (all_rest low_ask (view c).asks r.asks);
    mends = subst (λ (z : LockView). All low_mend z.mends) (sym is) r.mends;
  }

  pub gave_mend : (c c' : Caller) → IsCallerOf b c → IsSeatOf b.locks c'.seat → view c' ≡ without_mend (view c) → IsCallerOf b c'
  gave_mend c c' r seat is = record {
    seat = seat;
    asks = subst (λ (z : LockView). All low_ask z.asks) (sym is) r.asks;
    mends = subst (λ (z : LockView). All low_mend z.mends) (sym is) (all_rest low_mend (view c).mends r.mends);
  }

  pub got_ask : (giver c c' : Caller) → IsCallerOf b giver → IsCallerOf b c → IsSeatOf b.locks c'.seat → view c' ≡ joined_view (view c) (with_ask (view giver)) → IsCallerOf b c'
  got_ask giver c c' f r seat is = record {
    seat = seat;
    asks = subst (λ (z : LockView). All low_ask z.asks) (sym is) (All-append low_ask (view c).asks _ r.asks (all_first_of low_ask (view giver).asks f.asks));
    mends = subst (λ (z : LockView). All low_mend z.mends) (sym is) (All-append low_mend (view c).mends [] r.mends (All-nil low_mend));
  }

  pub got_mend : (giver c c' : Caller) → IsCallerOf b giver → IsCallerOf b c → IsSeatOf b.locks c'.seat → view c' ≡ joined_view (view c) (with_mend (view giver)) → IsCallerOf b c'
  got_mend giver c c' f r seat is = record {
    seat = seat;
    asks = subst (λ (z : LockView). All low_ask z.asks) (sym is) (All-append low_ask (view c).asks [] r.asks (All-nil low_ask));
    mends = subst (λ (z : LockView). All low_mend z.mends) (sym is) (All-append low_mend (view c).mends _ r.mends (all_first_of low_mend (view giver).mends f.mends));
  }

-- nothing is left to hand over
module _ (v w : LockView) where
  pub no_ask : v.asks ≡ [] → v ≡ without_ask v
  no_ask e = let p : v.asks ≡ rest_of v.asks = e ∙ ap rest_of (sym e) in λ k. record v { asks = p k }

  pub no_mend : v.mends ≡ [] → v ≡ without_mend v
  no_mend e = let p : v.mends ≡ rest_of v.mends = e ∙ ap rest_of (sym e) in λ k. record v { mends = p k }

  pub got_no_ask : v.asks ≡ [] → w ≡ joined_view w (with_ask v)
  got_no_ask e =
      let m = append-nil w.made in
      let p : w.asks ≡ w.asks ++ first_of v.asks = sym (append-nil w.asks) ∙ ap (λ (l : List ℕ). w.asks ++ first_of l) (sym e) in
      let q = append-nil w.mends in λ k. record w { made = sym m k; asks = p k; mends = sym q k }

  pub got_no_mend : v.mends ≡ [] → w ≡ joined_view w (with_mend v)
  got_no_mend e =
      let m = append-nil w.made in
      let p : w.mends ≡ w.mends ++ first_of v.mends = sym (append-nil w.mends) ∙ ap (λ (l : List ℕ). w.mends ++ first_of l) (sym e) in
      let q = append-nil w.asks in λ k. record w { made = sym m k; asks = sym q k; mends = p k }

-- ---- all are dealt out, one after another

-- what the caller c of so many knows when so many asks and stripes are dealt out
abbrev pub dealt_view : Names → ℕ → ℕ → ℕ → ℕ → LockView
dealt_view n c count asks mends = record { names = n; turn = Idle; made = []; asks = every c count asks; mends = every c count mends }

-- so many asks and stripes are dealt out, and the first caller has the others
pub record Dealt (b : Amend) (count asks mends : ℕ) (first : Caller) (callers : List Caller) : Type 0 where
  pub many : length callers ≡ count
  pub first_is : IsCallerOf b first
  pub left : view first ≡ record (first_view (names b.locks)) { asks = range_with_len asks (length (names b.locks).ops - asks); mends = range_with_len mends (stripes (names b.locks) - mends) }
  pub each : (c : ℕ) (d : Caller) → c < count → IsCallerOf b (slice_index_or callers c d) × (view (slice_index_or callers c d) ≡ dealt_view (names b.locks) c count asks mends)
  pub all : sum_by (λ c. share (view c)) callers + share (view first) ≡ length (names b.locks).ops + stripes (names b.locks)

filter_one : (p : ℕ → Bool) (i : ℕ) (w : Bool) → p i ≡ w → filter p (i ∷ []) ≡ (if w then i ∷ [] else [])
filter_one p i w e = ap (λ (b : Bool). if b then i ∷ [] else []) e

every-here : (c count i : ℕ) → i % count ≡ c → every c count (i + 1) ≡ every c count i ++ i ∷ []
every-here c count i e =
    let p : ℕ → Bool = λ k. k % count == c in
    ap (filter p) (range-push i) ∙ filter-append p (range_with_len 0 i) (i ∷ []) ∙ ap (λ (l : List ℕ). every c count i ++ l) (filter_one p i true (eq-eqb (i % count) c e))

every-else : (c count i : ℕ) → i % count ≢ c → every c count (i + 1) ≡ every c count i
every-else c count i ne =
    let p : ℕ → Bool = λ k. k % count == c in
    ap (filter p) (range-push i) ∙ filter-append p (range_with_len 0 i) (i ∷ []) ∙ ap (λ (l : List ℕ). every c count i ++ l) (filter_one p i false (ne_eqb (i % count) c ne)) ∙ append-nil (every c count i)

rest_range : (i m : ℕ) → i < m → rest_of (range_with_len i (m - i)) ≡ range_with_len (i + 1) (m - (i + 1))
rest_range i m low = let e : m - i ≡ suc (m - (i + 1)) = omega arith in ap (λ (k : ℕ). rest_of (range_with_len i k)) e

first_range : (i m : ℕ) → i < m → first_of (range_with_len i (m - i)) ≡ i ∷ []
first_range i m low = let e : m - i ≡ suc (m - (i + 1)) = omega arith in ap (λ (k : ℕ). first_of (range_with_len i k)) e

rest_length : (l : List ℕ) (x : ℕ) → first_of l ≡ x ∷ [] → length (rest_of l) + 1 ≡ length l
rest_length [] x e = absurd (cc)
rest_length (y ∷ l) x e = omega arith

abbrev dealt_asks : Names → ℕ → ℕ → ℕ → List ℕ → LockView
dealt_asks n c count j l = record { names = n; turn = Idle; made = []; asks = l; mends = every c count j }

abbrev dealt_mends : Names → ℕ → ℕ → ℕ → List ℕ → LockView
dealt_mends n c count i l = record { names = n; turn = Idle; made = []; asks = every c count i; mends = l }

at_index : {A : Type 0} (l : List A) (i : ℕ) (a : A) → i < length l → a ≡ get_or l i a → get_elem? l i ≡ some a
at_index [] i a h e = absurd (omega arith)
at_index (x ∷ xs) zero a h e = ap some (sym e)
at_index (x ∷ xs) (suc i) a h e = at_index xs i a (omega arith) e

-- the caller at place s gets one more
module _ (b : Amend) (count i j i' j' : ℕ) (first first' old new : Caller) (callers : List Caller) (s : ℕ) (inside : s < count) (d : Dealt b count i j first callers) (is : old ≡ get_or callers s old)
    (is_first : IsCallerOf b first') (is_new : IsCallerOf b new) where
  one_dealt : view first' ≡ record (first_view (names b.locks)) { asks = range_with_len i' (length (names b.locks).ops - i'); mends = range_with_len j' (stripes (names b.locks) - j') }
      → (view old ≡ dealt_view (names b.locks) s count i j → view new ≡ dealt_view (names b.locks) s count i' j') → ((c : ℕ) → c ≢ s → dealt_view (names b.locks) c count i j ≡ dealt_view (names b.locks) c count i' j')
      → share (view new) ≡ share (view old) + 1 → share (view first') + 1 ≡ share (view first) → Dealt b count i' j' first' (set callers s new)
  one_dealt left mine others more less = record {
    many = length-set callers s new ∙ d.many;
    first_is = is_first;
    left = left;
    each = λ c z low. dite (ℕ_discrete c s)
        (λ e.
        let at : get_or (set callers s new) s z ≡ new = get_or-set_same callers s new z (let a = d.many in omega arith) in
        let here : view old ≡ dealt_view (names b.locks) s count i j = ap view is ∙ (d.each s old inside).1 in
        subst (λ (y : ℕ). IsCallerOf b (get_or (set callers s new) y z) × (view (get_or (set callers s new) y z) ≡ dealt_view (names b.locks) y count i' j')) (sym e)
        (subst (IsCallerOf b) (sym at) is_new, ap view at ∙ mine here))
        (λ ne.
        let at : get_or (set callers s new) c z ≡ get_or callers c z = get_or-set_other callers s c new z (λ h. ne (omega arith)) in
        let old_each = d.each c z low in
        (subst (IsCallerOf b) (sym at) old_each.0, ap view at ∙ old_each.1 ∙ others c ne));
    all =
        let a = sum_by-set_at (λ (x : Caller). share (view x)) callers s old new (at_index callers s old (let a = d.many in omega arith) is) in
        let k = d.all in omega arith;
  }

module _ (b : Amend) (count i j : ℕ) (first first' old new : Caller) (callers : List Caller) (some : 0 < count) (d : Dealt b count i j first callers) (is_first : IsCallerOf b first') (is_new : IsCallerOf b new) where
  pub deals_ask_to : i < length (names b.locks).ops → old ≡ get_or callers (i % count) old → view first' ≡ without_ask (view first) → view new ≡ joined_view (view old) (with_ask (view first)) → Dealt b count (i + 1) j first' (set callers (i % count) new)
  deals_ask_to low is left got =
      let n = names b.locks in
      let m : ℕ = length n.ops in
      let top : first_of (view first).asks ≡ i ∷ [] = ap (λ (v : LockView). first_of v.asks) d.left ∙ first_range i m low in
      let s : ℕ = i % count in
      one_dealt b count i j (i + 1) j first first' old new callers s (mod_below i count some) d is is_first is_new
      (left ∙ ap without_ask d.left ∙ (λ k. record (first_view n) { asks = rest_range i m low k; mends = range_with_len j (stripes n - j) }))
      (λ here. got ∙ (λ k. joined_view (here k) (with_ask (view first))) ∙ (λ k. record { names = n; turn = Idle; made = []; asks = every s count i ++ top k; mends = append-nil (every s count j) k })
      ∙ ap (λ (l : List ℕ). dealt_asks n s count j l) (sym (every-here s count i refl)))
      (λ c ne. ap (λ (l : List ℕ). dealt_asks n c count j l) (sym (every-else c count i (λ e. ne (sym e)))))
      (
      let a : share (view new) ≡ share (joined_view (view old) (with_ask (view first))) = ap share got in
      let x = length-append (view old).made [] in
      let y = length-append (view old).asks (first_of (view first).asks) in
      let z = length-append (view old).mends [] in
      let w : length (first_of (view first).asks) ≡ 1 = ap length top in omega arith)
      (
      let a : share (view first') ≡ share (without_ask (view first)) = ap share left in
      let c = rest_length (view first).asks i top in omega arith)

  pub deals_mend_to : j < stripes (names b.locks) → old ≡ get_or callers (j % count) old → view first' ≡ without_mend (view first) → view new ≡ joined_view (view old) (with_mend (view first)) → Dealt b count i (j + 1) first' (set callers (j % count) new)
  deals_mend_to low is left got =
      let n = names b.locks in
      let m : ℕ = stripes n in
      let top : first_of (view first).mends ≡ j ∷ [] = ap (λ (v : LockView). first_of v.mends) d.left ∙ first_range j m low in
      let s : ℕ = j % count in
      one_dealt b count i j i (j + 1) first first' old new callers s (mod_below j count some) d is is_first is_new
      (left ∙ ap without_mend d.left ∙ (λ k. record (first_view n) { asks = range_with_len i (length n.ops - i); mends = rest_range j m low k }))
      (λ here. got ∙ (λ k. joined_view (here k) (with_mend (view first))) ∙ (λ k. record { names = n; turn = Idle; made = []; asks = append-nil (every s count i) k; mends = every s count j ++ top k })
      ∙ ap (λ (l : List ℕ). dealt_mends n s count i l) (sym (every-here s count j refl)))
      (λ c ne. ap (λ (l : List ℕ). dealt_mends n c count i l) (sym (every-else c count j (λ e. ne (sym e)))))
      (
      let a : share (view new) ≡ share (joined_view (view old) (with_mend (view first))) = ap share got in
      let x = length-append (view old).made [] in
      let y = length-append (view old).mends (first_of (view first).mends) in
      let z = length-append (view old).asks [] in
      let w : length (first_of (view first).mends) ≡ 1 = ap length top in omega arith)
      (
      let a : share (view first') ≡ share (without_mend (view first)) = ap share left in
      let c = rest_length (view first).mends j top in omega arith)

none_shared : (callers : List Caller) (v : LockView) → share v ≡ 0 → All (λ c. view c ≡ v) callers → sum_by (λ c. share (view c)) callers ≡ 0
none_shared [] v e a = refl
none_shared (c ∷ callers) v e a =
    let x : share (view c) ≡ share v = ap share (All-head (λ (y : Caller). view y ≡ v) c callers a) in
    omega (arith, x, e, sum_by-cons (λ (y : Caller). share (view y)) c callers, none_shared callers v e (All-tail (λ (y : Caller). view y ≡ v) c callers a))

sub_none : (m : ℕ) → m ≡ m - 0
sub_none m = omega arith

pub starts_dealt : (b : Amend) (count : ℕ) (first : Caller) (v : LockView) (callers : List Caller) → v ≡ first_view (names b.locks) → length callers ≡ count
    → All (λ c. IsCallerOf b c) callers → All (λ c. view c ≡ blank_view v) callers → IsCallerOf b first → view first ≡ v → Dealt b count 0 0 first callers
starts_dealt b count first v callers e many each views is same = record {
  many = many;
  first_is = is;
  left = same ∙ e ∙ (λ k. record (first_view (names b.locks)) { asks = range_with_len 0 (sub_none (length (names b.locks).ops) k); mends = range_with_len 0 (sub_none (stripes (names b.locks)) k) });
  each = λ c d low. (each c d (omega (arith, low, many)), views c d (omega (arith, low, many)) ∙ ap blank_view e);
  all =
      let a = none_shared callers (blank_view v) refl views in
      let f : share (view first) ≡ share (first_view (names b.locks)) = ap share (same ∙ e) in
      let g = length-range_with_len 0 (length (names b.locks).ops) in
      let h = length-range_with_len 0 (stripes (names b.locks)) in omega arith;
}

pub can_deal : (b : Amend) (count i j k : ℕ) (first old : Caller) (callers : List Caller) → 0 < count → Dealt b count i j first callers → old ≡ get_or callers (k % count) old → IsCallerOf b old
can_deal b count i j k first old callers more d is = subst (IsCallerOf b) (sym is) (d.each (k % count) old (mod_below k count more)).0

-- ---- what is left at the start and at the end

pub asks_count : (b : Amend) (c : Caller) → view c ≡ first_view (names b.locks) → length c.asks.items ≡ length (names b.locks).ops
asks_count b c e = ap length (sym c.asks_left) ∙ ap (λ (v : LockView). length v.asks) e ∙ length-range_with_len 0 (length (names b.locks).ops)

pub mends_count : (b : Amend) (count i : ℕ) (first : Caller) (callers : List Caller) → Dealt b count i 0 first callers → length first.mends.items ≡ stripes (names b.locks)
mends_count b count i first callers d =
    let m : ℕ = stripes (names b.locks) in
    ap length (sym first.mends_left) ∙ ap (λ (v : LockView). length v.mends) d.left ∙ length-range_with_len 0 (m - 0) ∙ sym (sub_none m)

pub all_dealt : (b : Amend) (count : ℕ) (first : Caller) (callers : List Caller) → Dealt b count (length (names b.locks).ops) (stripes (names b.locks)) first callers → AreAll (names b.locks) callers
all_dealt b count first callers d =
    let n = names b.locks in
    let m : ℕ = length n.ops in
    let k : ℕ = stripes n in
    let a = ap share d.left in
    let x = length-range_with_len m (m - m) in
    let y = length-range_with_len k (k - k) in
    let z = d.all in omega arith
