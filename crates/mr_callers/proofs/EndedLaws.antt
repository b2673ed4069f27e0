-- What all callers of a crew give together, once the stripes are closed.
use Rattle.std.proofs.Common.{◌≡◌, ℕ, zero, suc, ◌<◌, ◌≤◌, ◌%◌, ◌/◌, List, [], ◌∷◌, ◌++◌, length, map, take, All, Some, slice_get, get_or, sum_by, sym, refl, ap, ◌∙◌, subst, arith}
use Rattle.std.proofs.lemmas.List.{get_or-map, get_or_default}
use Rattle.std.proofs.lemmas.List.Sums.{sum_by-cons}
use Rattle.std.proofs.lemmas.Nat.{mod_below}
use Rattle.std.proofs.Math.Seq.{take-append_seam}
use Rattle.mr_ops.specs.declared.ops.Op.{Op}
use Rattle.mr_history.specs.declared.entry.Entry.{Entry}
use Rattle.mr_history.specs.declared.entry.Entry.TheVariants.{Ask}
use Rattle.mr_history.specs.declared.kept.KeptStripe.{KeptStripe}
use Rattle.mr_history.specs.Histories.{IsReply, Names, stripe_of, stripes, value}
use Rattle.mr_history.proofs.HistoryLaws.{stripe_low}
use Rattle.mr_locks.specs.Calls.{made_of}
use Rattle.mr_locks.specs.Seats.{IsClosed, names}
use Rattle.mr_locks.specs.declared.view.LockView.{LockView}
use Rattle.mr_amend.specs.declared.amend.Amend.{Amend}
use Rattle.mr_amend.specs.declared.caller.Caller.{Caller}
use Rattle.mr_amend.specs.Callers.{IsCallerOf, every, made_by, share, share_view, view}
use Rattle.mr_account.specs.declared.endings.Ending.{Ending}
use Rattle.mr_account.specs.declared.slots.Slot.{Slot}
use Rattle.mr_account.specs.Accounts.{Account, IsAmended, IsHistoryOf}
use Rattle.mr_account.specs.Endings.{HasSlot, IsEndingOf, Told, account_of, slots_in, told, told_of}
use Rattle.mr_callers.specs.Jobs.{CanRun, HasMade, HasRun, HaveRoom, IsServed, callers_of, numbers_of, slots_of}
use Rattle.mr_callers.specs.declared.crews.CallerJob.{CallerJob}
use Rattle.mr_callers.proofs.ClosedLaws.{history_long, history_of}
use Rattle.mr_callers.proofs.Finding.{stands}
use Rattle.mr_callers.proofs.Listing.{length_all, some_in}
use Rattle.mr_callers.proofs.Serving.{length_numbers, number_at}
use Rattle.mr_callers.proofs.Strides.{stands_at, stands_below}

get_at : (a : List Entry) (x : Entry) (b : List Entry) → slice_get (a ++ x ∷ b) (length a) ≡ Some x
get_at [] x b = refl
get_at (y ∷ a) x b = get_at a x b

sum_by-at : {V : Type 0} (f : V → ℕ) (l : List V) (i : ℕ) (d : V) → i < length l → f (get_or l i d) ≤ sum_by f l
sum_by-at f [] i d low = absurd (omega arith)
sum_by-at f (x ∷ l) zero d low = omega (arith, sum_by-cons f x l)
sum_by-at f (x ∷ l) (suc i) d low = omega (arith, sum_by-at f l i d (omega (arith, low)), sum_by-cons f x l)

some_op : (ops : List Op) (k : ℕ) → k < length ops → Op
some_op ops k low = some_in ops (omega (arith, low))

module _ (b : Amend) (count : ℕ) (old new : List CallerJob) (kept : List KeptStripe) (some : 0 < count) (many_old : length old ≡ count) (many_new : length new ≡ count)
    (dealt : (c : ℕ) (d : CallerJob) → c < count → numbers_of (get_or old c d).slots.items ≡ every c count (length (names b.locks).ops))
    (ran : (c : ℕ) (d : CallerJob) → c < length old → HasRun b (get_or old c d) (get_or new c d))
    (many_kept : length kept ≡ stripes (names b.locks))
    (closed : (t : ℕ) (d : KeptStripe) → t < stripes (names b.locks) → IsClosed (names b.locks) (λ h. made_by h t (callers_of new)) t (get_or kept t d)) where
  abbrev n : Names
  n = names b.locks

  abbrev m : ℕ
  m = length (names b.locks).ops

  abbrev all : List (List Slot)
  all = slots_of new

  long_all : length all ≡ count
  long_all = length_all (λ (j : CallerJob). j.slots.items) new ∙ many_new

  some_new : 0 < length new
  some_new = omega (arith, some, many_new)

  abbrev a_job : CallerJob
  a_job = some_in new some_new

  mod_low : (k : ℕ) → k % count < count
  mod_low k = mod_below k count some

  mod_new : (k : ℕ) → k % count < length new
  mod_new k = omega (arith, mod_low k, many_new)

  -- who has the ask k, and its slot
  abbrev job : ℕ → CallerJob
  job k = get_or new (k % count) a_job

  runs : (k : ℕ) → HasRun b (get_or old (k % count) a_job) (job k)
  runs k = ran (k % count) a_job (omega (arith, mod_low k, many_old))

  numbers : (k : ℕ) → numbers_of (job k).slots.items ≡ every (k % count) count m
  numbers k = (runs k).numbers ∙ dealt (k % count) a_job (mod_low k)

  inside : (k : ℕ) → k < m → k / count < length (job k).slots.items
  inside k low =
      let s = (stands_at count m k (mod_low k) low).0 in
      omega (arith, s, length_numbers (job k).slots.items, ap length (numbers k))

  abbrev a_slot : (k : ℕ) → k < m → Slot
  a_slot k low = some_in (job k).slots.items (omega (arith, inside k low))

  abbrev slot : (k : ℕ) → k < m → Slot
  slot k low = get_or (job k).slots.items (k / count) (a_slot k low)

  number_is : (k : ℕ) (low : k < m) → (slot k low).number ≡ k
  number_is k low =
      sym (number_at (job k).slots.items (k / count) 0 (a_slot k low) (inside k low))
      ∙ ap (λ (l : List ℕ). get_or l (k / count) 0) (numbers k) ∙ (stands_at count m k (mod_low k) low).1

  here : (k : ℕ) → get_or all (k % count) [] ≡ (job k).slots.items
  here k = get_or-map (λ (j : CallerJob). j.slots.items) new (k % count) a_job [] (mod_new k)

  told_is : (k : ℕ) (low : k < m) → told_of all k ≡ told (slot k low)
  told_is k low =
      ap (λ (z : ℕ). get_or (map told (get_or all (k % z) [])) (k / z) (record { place = 0; reply = [] })) long_all
      ∙ ap (λ (l : List Slot). get_or (map told l) (k / count) (record { place = 0; reply = [] })) (here k)
      ∙ get_or-map told (job k).slots.items (k / count) (a_slot k low) (record { place = 0; reply = [] }) (inside k low)

  pub has_slot : (k : ℕ) → k < m → HasSlot all k
  has_slot k low = record {
    some = omega (arith, some, long_all);
    there = subst (λ (z : ℕ). k / z < length (get_or all (k % z) [])) (sym long_all) (subst (λ (l : List Slot). k / count < length l) (sym (here k)) (inside k low));
  }

  served : (k : ℕ) (low : k < m) → IsServed n (view (job k).caller) (slot k low)
  served k low = (runs k).served (k / count) (a_slot k low) (inside k low)

  of_stripe : (k : ℕ) (low : k < m) → stripe_of n (slot k low).number ≡ stripe_of n k
  of_stripe k low = ap (stripe_of n) (number_is k low)

  low_stripe : (k : ℕ) → k < m → stripe_of n k < stripes n
  low_stripe k low = stripe_low n k b.parts low

  abbrev a_stripe : (t : ℕ) → t < stripes n → KeptStripe
  a_stripe t low = get_or kept t (some_in kept (omega (arith, low, many_kept)))

  low_kept : (t : ℕ) → t < stripes n → t < length kept
  low_kept t low = omega (arith, low, many_kept)

  closed_at : (t : ℕ) (low : t < stripes n) → IsClosed n (λ h. made_by h t (callers_of new)) t (a_stripe t low)
  closed_at t low = closed t (some_in kept (omega (arith, low, many_kept))) low

  abbrev history : ℕ → List Entry
  history t = get_or (map (λ (x : KeptStripe). x.history.items) kept) t []

  history_is : (t : ℕ) (low : t < stripes n) → history t ≡ (a_stripe t low).history.items
  history_is t low = get_or-map (λ (x : KeptStripe). x.history.items) kept t (some_in kept (omega (arith, low, many_kept))) [] (low_kept t low)

  abbrev bytes : ℕ → List ℕ
  bytes t = get_or (map (λ (x : KeptStripe). x.bytes.items) kept) t []

  bytes_are : (t : ℕ) (low : t < stripes n) → bytes t ≡ (a_stripe t low).bytes.items
  bytes_are t low = get_or-map (λ (x : KeptStripe). x.bytes.items) kept t (some_in kept (omega (arith, low, many_kept))) [] (low_kept t low)

  abbrev account : Account
  account = record {
    history = history;
    place = λ k. (told_of all k).place;
    reply = λ k. (told_of all k).reply;
    bytes = bytes;
  }

  caller_is : (k : ℕ) → get_or (callers_of new) (k % count) (job k).caller ≡ (job k).caller
  caller_is k = get_or-map (λ (j : CallerJob). j.caller) new (k % count) a_job (job k).caller (mod_new k)

  in_history : (k : ℕ) (low : k < m) → (post : List Entry) × (history (stripe_of n k) ≡ (served k low).log ++ Ask k ∷ post)
  in_history k low =
      let s = served k low in
      let t : ℕ = stripe_of n k in
      let lt = low_stripe k low in
      let mine : HasMade (view (job k).caller) t s.log (Ask k) = subst (λ (z : ℕ). HasMade (view (job k).caller) (stripe_of n z) s.log (Ask z)) (number_is k low) s.made in
      let r = stands (λ h. made_by h t (callers_of new)) (a_stripe t lt).history.items s.log (Ask k) (closed_at t lt).made_are
      (λ h.
      let f : Caller → ℕ = λ c. made_of h t (view c).made in
      let long : length (callers_of new) ≡ length new = length_all (λ (j : CallerJob). j.caller) new in
      let y = sum_by-at f (callers_of new) (k % count) (job k).caller (omega (arith, mod_new k, long)) in
      let z : f (get_or (callers_of new) (k % count) (job k).caller) ≡ f (job k).caller = ap f (caller_is k) in
      let x = mine h in omega (arith, x, y, z)) in
      (r.0, history_is t lt ∙ r.1)

  place_is : (k : ℕ) (low : k < m) → (told_of all k).place ≡ length (served k low).log
  place_is k low = ap (λ (z : Told). z.place) (told_is k low) ∙ (served k low).place

  pub amends : IsAmended n count account
  amends = record {
    each = λ t low. subst (IsHistoryOf n t) (sym (history_is t low)) (history_of n (λ h. made_by h t (callers_of new)) t (a_stripe t low) (closed_at t low));
    placed = λ k low.
        let r = in_history k low in
        ap (λ (l : List Entry). slice_get l (told_of all k).place) r.1 ∙ ap (λ (p : ℕ). slice_get ((served k low).log ++ Ask k ∷ r.0) p) (place_is k low) ∙ get_at (served k low).log (Ask k) r.0;
    upwards = λ k l less low same alike.
        let low_k : k < m = omega (arith, less, low) in
        let e : Slot = a_slot k low_k in
        let other : get_or (job l).slots.items (k / count) e ≡ slot k low_k = ap (λ (c : ℕ). get_or (get_or new c a_job).slots.items (k / count) e) (sym same) in
        let last : get_or (job l).slots.items (l / count) e ≡ slot l low = get_or_default (job l).slots.items (l / count) e (a_slot l low) (inside l low) in
        let is : stripe_of n (get_or (job l).slots.items (k / count) e).number ≡ stripe_of n (get_or (job l).slots.items (l / count) e).number =
        ap (λ (s : Slot). stripe_of n s.number) other ∙ of_stripe k low_k ∙ alike ∙ sym (of_stripe l low) ∙ ap (λ (s : Slot). stripe_of n s.number) (sym last) in
        let r = (runs l).upwards (k / count) (l / count) e (stands_below count k l less same) (inside l low) is in
        let z : (get_or (job l).slots.items (l / count) e).place ≡ (slot l low).place = ap (λ (s : Slot). s.place) last in
        let a : (get_or (job l).slots.items (k / count) e).place ≡ (slot k low_k).place = ap (λ (s : Slot). s.place) other in
        let x : (told_of all k).place ≡ (slot k low_k).place = ap (λ (p : Told). p.place) (told_is k low_k) in
        let y : (told_of all l).place ≡ (slot l low).place = ap (λ (p : Told). p.place) (told_is l low) in omega (arith, r, z, a, x, y);
    replied = λ k low.
        let s = served k low in
        let r = in_history k low in
        let t : ℕ = stripe_of n k in
        let taken : take (told_of all k).place (history t) ≡ s.log = ap (λ (p : ℕ). take p (history t)) (place_is k low) ∙ ap (take (length s.log)) r.1 ∙ take-append_seam s.log (Ask k ∷ r.0) in
        let one : IsReply n k (value n t s.log) (slot k low).reply.items = subst (λ (z : ℕ). IsReply n z (value n (stripe_of n z) s.log) (slot k low).reply.items) (number_is k low) s.replied in
        let two : IsReply n k (value n t (take (told_of all k).place (history t))) (slot k low).reply.items = subst (λ (l : List Entry). IsReply n k (value n t l) (slot k low).reply.items) (sym taken) one in
        subst (λ (x : List ℕ). IsReply n k (value n t (take (told_of all k).place (history t))) x) (sym (ap (λ (p : Told). p.reply) (told_is k low))) two;
    long = λ k low. ap (λ (p : Told). length p.reply) (told_is k low) ∙ (runs k).rooms (k / count) (a_slot k low) (inside k low);
    stored = λ t low. bytes_are t low ∙ (closed_at t low).bytes ∙ ap (value n t) (sym (history_is t low));
  }

  pub ended : (e : Ending) → e.stripes.items ≡ kept → slots_in e ≡ all → IsEndingOf n count e
  ended e same_kept same_slots =
      let Acc : List KeptStripe → List (List Slot) → Account = λ ks ss. record {
        history = λ t. get_or (map (λ (x : KeptStripe). x.history.items) ks) t [];
        place = λ k. (told_of ss k).place;
        reply = λ k. (told_of ss k).reply;
        bytes = λ t. get_or (map (λ (x : KeptStripe). x.bytes.items) ks) t [];
      } in
      let one : IsAmended n count (Acc kept (slots_in e)) = subst (λ (ss : List (List Slot)). IsAmended n count (Acc kept ss)) (sym same_slots) amends in
      let amended : IsAmended n count (account_of e) = subst (λ (ks : List KeptStripe). IsAmended n count (Acc ks (slots_in e))) (sym same_kept) one in
      record {
        can = record {
          slots = λ k low. subst (λ (ss : List (List Slot)). HasSlot ss k) (sym same_slots) (has_slot k low);
          replies = λ k low. amended.long k low;
          count = ap length same_kept ∙ many_kept;
          widths = λ t low.
              ap (λ (ks : List KeptStripe). length (get_or (map (λ (x : KeptStripe). x.bytes.items) ks) t [])) same_kept
              ∙ ap length (bytes_are t low) ∙ (closed_at t low).size;
          histories = λ t low.
              ap (λ (ks : List KeptStripe). length (get_or (map (λ (x : KeptStripe). x.history.items) ks) t [])) same_kept
              ∙ ap length (history_is t low) ∙ history_long n (λ h. made_by h t (callers_of new)) t (a_stripe t low) (closed_at t low);
        };
        amended = amended;
      }

-- ---- the crew before and after

module _ (b : Amend) (callers : List Caller) (jobs : List CallerJob) (size : ℕ) (are : callers_of jobs ≡ callers) (slots : All (λ j. numbers_of j.slots.items ≡ (view j.caller).asks) jobs) where
  pub many : length jobs ≡ length callers
  many = sym (length_all (λ (j : CallerJob). j.caller) jobs) ∙ ap length are

  at : (c : ℕ) (d : CallerJob) → c < length jobs → get_or callers c d.caller ≡ (get_or jobs c d).caller
  at c d low = ap (λ (l : List Caller). get_or l c d.caller) (sym are) ∙ get_or-map (λ (j : CallerJob). j.caller) jobs c d d.caller low

  pub ready : All (IsCallerOf b) callers → size ≡ (names b.locks).head.symbol_bytes → All (λ j. HaveRoom size j.slots.items) jobs → (c : ℕ) (d : CallerJob) → c < length jobs → CanRun b (get_or jobs c d)
  ready each is rooms c d low = record {
    caller = subst (IsCallerOf b) (at c d low) (each c d.caller (omega (arith, low, many)));
    asks = sym (slots c d low);
    rooms = subst (λ (z : ℕ). HaveRoom z (get_or jobs c d).slots.items) is (rooms c d low);
  }

  pub dealt_to : (n : Names) (count : ℕ) → length callers ≡ count → ((c : ℕ) (d : Caller) → c < count → view (get_or callers c d) ≡ share_view n c count)
      → (c : ℕ) (d : CallerJob) → c < count → numbers_of (get_or jobs c d).slots.items ≡ every c count (length n.ops)
  dealt_to n count long views c d low =
      let low' : c < length jobs = omega (arith, low, long, many) in
      slots c d low' ∙ ap (λ (x : Caller). (view x).asks) (sym (at c d low')) ∙ ap (λ (v : LockView). v.asks) (views c d.caller low)

pub same_shares : (b : Amend) (old new : List CallerJob) → length new ≡ length old → ((c : ℕ) (d : CallerJob) → c < length old → HasRun b (get_or old c d) (get_or new c d))
    → sum_by (λ c. share (view c)) (callers_of new) ≡ sum_by (λ c. share (view c)) (callers_of old)
same_shares b [] [] many ran = refl
same_shares b [] (y ∷ new) many ran = absurd (omega (arith, many))
same_shares b (x ∷ old) [] many ran = absurd (omega (arith, many))
same_shares b (x ∷ old) (y ∷ new) many ran =
    let a = (ran 0 x (omega arith)).share_is in
    let r = same_shares b old new (omega (arith, many)) (λ c d low. ran (suc c) d (omega (arith, low))) in
    omega (arith, a, r, sum_by-cons (λ (c : Caller). share (view c)) y.caller (callers_of new), sum_by-cons (λ (c : Caller). share (view c)) x.caller (callers_of old))
