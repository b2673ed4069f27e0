-- What a caller has made of its asks and of its stripes, as it goes on.
use Rattle.std.proofs.Common.{◌≡◌, ◌≢◌, ℕ, zero, suc, ◌+◌, ◌<◌, ◌≤◌, ◌==◌, Bool, true, false, if◌then◌else◌, nat_lt, List, [], ◌∷◌, length, drop, set, get_or, length-set, get_or-set_same, get_or-set_other, length-append, eq-eqb, sym, refl, ap, ◌∙◌, subst, arith}
use Rattle.std.proofs.lemmas.Bool.{ltb-true}
use Rattle.std.proofs.lemmas.List.{drop_more}
use Rattle.std.proofs.lemmas.List.Sums.{sum_by_push}
use mathlib.Core.Logic.{dite}
use native.Mathlib.Decide.{ℕ_discrete}
use Rattle.mr_history.specs.declared.entry.Entry.{Entry}
use Rattle.mr_history.specs.declared.entry.Entry.TheVariants.{Ask, Mend}
use Rattle.mr_history.specs.Histories.{IsReply, Names, stripe_of, value}
use Rattle.mr_locks.specs.Calls.{Made, made_of}
use Rattle.mr_locks.specs.Rule.{AreEarlier, late_at, rest_of, served_view}
use Rattle.mr_locks.specs.Seats.{names}
use Rattle.mr_locks.specs.declared.view.LockView.{LockView}
use Rattle.mr_amend.specs.Callers.{HasMended, IsCallerOf, share, view}
use Rattle.mr_amend.specs.declared.amend.Amend.{Amend}
use Rattle.mr_amend.specs.declared.caller.Caller.{Caller}
use Rattle.mr_amend.specs.declared.caller.Done.{Done}
use Rattle.mr_account.specs.declared.slots.Slot.{Slot}
use Rattle.mr_callers.specs.Jobs.{AreUpwards, Grows, HasAskedFirst, HasEnded, HasMade, HasMendedSome, HaveRoom, IsFilled, IsServed, numbers_of}

-- ---- what a call adds

module _ (v w : LockView) (t : ℕ) (log : List Entry) (e : Entry) (is : w ≡ served_view v t log e) where
  -- the weight of calls of stripe s before and after it
  added : (s : ℕ) (h : List Entry → Entry → ℕ) → made_of h s w.made ≡ made_of h s v.made + (if t == s then h log e else 0)
  added s h =
      ap (λ (z : LockView). made_of h s z.made) is
      ∙ sum_by_push (λ (m : Made). if m.stripe == s then h m.before m.entry else 0) v.made (record { stripe = t; entry = e; before = log })

  pub grown : Grows v w
  grown s h = omega (arith, added s h)

  pub has_now : HasMade w t log e
  has_now h = omega (arith, added t h, ap (λ (b : Bool). if b then h log e else 0) (eq-eqb t t refl))

  made_length : length w.made ≡ length v.made + 1
  made_length = ap (λ (z : LockView). length z.made) is ∙ length-append v.made (record { stripe = t; entry = e; before = log } ∷ [])

grows_on : (u v w : LockView) → Grows u v → Grows v w → Grows u w
grows_on u v w a b t h = omega (arith, a t h, b t h)

still_served : (n : Names) (v w : LockView) (slot : Slot) → Grows v w → IsServed n v slot → IsServed n w slot
still_served n v w slot g s = record {
  log = s.log;
  place = s.place;
  made = λ h. omega (arith, s.made h, g (stripe_of n slot.number) h);
  replied = s.replied;
}

share_asked : (v w : LockView) (t x : ℕ) (log : List Entry) → v.asks ≡ x ∷ rest_of v.asks → w ≡ served_view v t log (Ask x) → share w ≡ share v
share_asked v w t x log first is =
    let a = made_length v w t log (Ask x) is in
    let b : length w.asks ≡ length (rest_of v.asks) = ap (λ (z : LockView). length z.asks) is in
    let d : length w.mends ≡ length v.mends = ap (λ (z : LockView). length z.mends) is in
    let f : length v.asks ≡ length (x ∷ rest_of v.asks) = ap length first in omega (arith, a, b, d, f)

share_mended : (v w : LockView) (t : ℕ) (log : List Entry) → v.mends ≡ t ∷ rest_of v.mends → w ≡ served_view v t log Mend → share w ≡ share v
share_mended v w t log first is =
    let a = made_length v w t log Mend is in
    let b : length w.asks ≡ length v.asks = ap (λ (z : LockView). length z.asks) is in
    let d : length w.mends ≡ length (rest_of v.mends) = ap (λ (z : LockView). length z.mends) is in
    let f : length v.mends ≡ length (t ∷ rest_of v.mends) = ap length first in omega (arith, a, b, d, f)

-- ---- the numbers of slots

pub length_numbers : (slots : List Slot) → length (numbers_of slots) ≡ length slots
length_numbers [] = refl
length_numbers (x ∷ slots) = omega (arith, length_numbers slots)

pub same_length : (slots start : List Slot) → numbers_of slots ≡ numbers_of start → length slots ≡ length start
same_length slots start e = omega (arith, length_numbers slots, length_numbers start, ap length e)

pub all_dropped : (slots : List Slot) → drop (length slots) (numbers_of slots) ≡ []
all_dropped [] = refl
all_dropped (x ∷ slots) = all_dropped slots

numbers-set : (slots : List Slot) (k : ℕ) (d new : Slot) → new.number ≡ (get_or slots k d).number → numbers_of (set slots k new) ≡ numbers_of slots
numbers-set [] k d new same = refl
numbers-set (x ∷ slots) zero d new same = ap (λ (z : ℕ). z ∷ numbers_of slots) same
numbers-set (x ∷ slots) (suc k) d new same = ap (λ (l : List ℕ). x.number ∷ l) (numbers-set slots k d new same)

pub number_at : (slots : List Slot) (k d : ℕ) (e : Slot) → k < length slots → get_or (numbers_of slots) k d ≡ (get_or slots k e).number
number_at [] k d e low = absurd (omega arith)
number_at (x ∷ slots) zero d e low = refl
number_at (x ∷ slots) (suc k) d e low = number_at slots k d e (omega arith)

-- ---- asks, one after another

pub next_number : (b : Amend) (v : LockView) (start slots : List Slot) (k : ℕ) (c : Caller) (old : Slot) → k < length slots → old ≡ get_or slots k old → HasAskedFirst b v start k c slots
    → (view c).asks ≡ old.number ∷ rest_of (view c).asks
next_number b v start slots k c old low here r =
    let many = same_length slots start r.numbers in
    let front : (view c).asks ≡ get_or (numbers_of start) k 0 ∷ drop (k + 1) (numbers_of start) = r.asks ∙ drop_more (numbers_of start) k 0 (omega (arith, length_numbers start, many, low)) in
    let at : get_or (numbers_of start) k 0 ≡ old.number = sym (ap (λ (l : List ℕ). get_or l k 0) r.numbers) ∙ number_at slots k 0 old low ∙ ap (λ (s : Slot). s.number) (sym here) in
    front ∙ ap (λ (x : ℕ). x ∷ drop (k + 1) (numbers_of start)) at ∙ ap (λ (l : List ℕ). old.number ∷ l) (sym (ap rest_of front))

-- a slot that was filled stands before a call of its stripe that is made later
earlier : (n : Names) (v : LockView) (slot : Slot) (p t : ℕ) → IsServed n v slot → AreEarlier p t v → stripe_of n slot.number ≡ t → slot.place < p
earlier n v slot p t s none is =
    let a = s.made (late_at p) in
    let b : made_of (late_at p) (stripe_of n slot.number) v.made ≡ made_of (late_at p) t v.made = ap (λ (z : ℕ). made_of (late_at p) z v.made) is in
    go (nat_lt (length s.log) p) refl (omega (arith, a, b, none))
  where
    go : (x : Bool) → nat_lt (length s.log) p ≡ x → late_at p s.log (Ask slot.number) ≤ 0 → slot.place < p
    go true e few = omega (arith, ltb-true _ _ e, s.place)
    go false e few = let one : late_at p s.log (Ask slot.number) ≡ 1 = ap (λ (x : Bool). if x then 0 else 1) e in absurd (omega (arith, few, one))

pub asked_none : (b : Amend) (c : Caller) (slots : List Slot) → IsCallerOf b c → (view c).asks ≡ numbers_of slots → HaveRoom (names b.locks).head.symbol_bytes slots → HasAskedFirst b (view c) slots 0 c slots
asked_none b c slots caller asks rooms = record {
  caller = caller;
  asks = asks;
  mends = refl;
  share_is = refl;
  grows = λ t h. omega arith;
  numbers = refl;
  rooms = rooms;
  served = λ i d low. absurd (omega arith);
  upwards = λ i j d less low same. absurd (omega arith);
}

module _ (b : Amend) (v : LockView) (start slots : List Slot) (k : ℕ) (c c' : Caller) (old new : Slot) (low : k < length slots) (at : old ≡ get_or slots k old) (r : HasAskedFirst b v start k c slots) (caller : IsCallerOf b c')
    (filled : IsFilled (view c) old new (view c')) where
  abbrev n : Names
  n = names b.locks

  abbrev log : List Entry
  log = filled.asked.log

  abbrev t : ℕ
  t = stripe_of (view c).names new.number

  was : view c' ≡ served_view (view c) t log (Ask new.number)
  was = filled.asked.view_is

  named : (view c).names ≡ n
  named = r.caller.seat.names_are

  same : t ≡ stripe_of n new.number
  same = ap (λ (z : Names). stripe_of z new.number) named

  here : (d : Slot) → get_or (set slots k new) k d ≡ new
  here d = get_or-set_same slots k new d low

  other : (i : ℕ) (d : Slot) → i ≢ k → get_or (set slots k new) i d ≡ get_or slots i d
  other i d ne = get_or-set_other slots k i new d ne

  grow : Grows (view c) (view c')
  grow = grown (view c) (view c') t log (Ask new.number) was

  now_served : IsServed n (view c') new
  now_served = record {
    log = log;
    place = filled.asked.place;
    made = subst (λ (s : ℕ). HasMade (view c') s log (Ask new.number)) same (has_now (view c) (view c') t log (Ask new.number) was);
    replied = subst (λ (z : Names). IsReply z new.number (value z (stripe_of z new.number) log) new.reply.items) named filled.asked.replied;
  }

  pub goes_on : HasAskedFirst b v start (k + 1) c' (set slots k new)
  goes_on =
      let many = same_length slots start r.numbers in
      let few = length_numbers start in
      record {
        caller = caller;
        asks = ap (λ (z : LockView). z.asks) was ∙ ap rest_of r.asks ∙ ap rest_of (drop_more (numbers_of start) k 0 (omega (arith, few, many, low)));
        mends = ap (λ (z : LockView). z.mends) was ∙ r.mends;
        share_is = share_asked (view c) (view c') t new.number log filled.asked.next was ∙ r.share_is;
        grows = grows_on v (view c) (view c') r.grows grow;
        numbers = numbers-set slots k old new (filled.number ∙ ap (λ (s : Slot). s.number) at) ∙ r.numbers;
        rooms = λ i d less. dite (ℕ_discrete i k)
            (λ e. ap (λ (x : ℕ). length (get_or (set slots k new) x d).reply.items) e ∙ ap (λ (s : Slot). length s.reply.items) (here d) ∙ filled.size ∙ ap (λ (s : Slot). length s.reply.items) at ∙ r.rooms k old low)
            (λ ne. ap (λ (s : Slot). length s.reply.items) (other i d ne) ∙ r.rooms i d (omega (arith, less, length-set slots k new)));
        served = λ i d less. dite (ℕ_discrete i k)
            (λ e. subst (IsServed n (view c')) (sym (ap (λ (x : ℕ). get_or (set slots k new) x d) e ∙ here d)) now_served)
            (λ ne. subst (IsServed n (view c')) (sym (other i d ne)) (still_served n (view c) (view c') (get_or slots i d) grow (r.served i d (omega (arith, less, ne)))));
        upwards = rises;
      }
    where
      rises : AreUpwards n (k + 1) (set slots k new)
      rises i j d less top alike = dite (ℕ_discrete j k)
          (λ e.
          let ne : i ≢ k = λ (h : i ≡ k). omega (arith, less, e, h) in
          let last : get_or (set slots k new) j d ≡ new = ap (λ (x : ℕ). get_or (set slots k new) x d) e ∙ here d in
          let of_old : stripe_of n (get_or slots i d).number ≡ t = ap (λ (s : Slot). stripe_of n s.number) (sym (other i d ne)) ∙ alike ∙ ap (λ (s : Slot). stripe_of n s.number) last ∙ sym same in
          let low_i = earlier n (view c) (get_or slots i d) (length log) t (r.served i d (omega (arith, less, e))) filled.asked.earlier of_old in
          let a : (get_or (set slots k new) i d).place ≡ (get_or slots i d).place = ap (λ (s : Slot). s.place) (other i d ne) in
          let z : (get_or (set slots k new) j d).place ≡ new.place = ap (λ (s : Slot). s.place) last in omega (arith, low_i, filled.asked.place, a, z))
          (λ nj.
          let ne : i ≢ k = λ (h : i ≡ k). omega (arith, less, top, nj, h) in
          let x = other i d ne in
          let y = other j d nj in
          let s = r.upwards i j d less (omega (arith, top, nj)) (ap (λ (s : Slot). stripe_of n s.number) (sym x) ∙ alike ∙ ap (λ (s : Slot). stripe_of n s.number) y) in
          let a : (get_or (set slots k new) i d).place ≡ (get_or slots i d).place = ap (λ (s : Slot). s.place) x in
          let z : (get_or (set slots k new) j d).place ≡ (get_or slots j d).place = ap (λ (s : Slot). s.place) y in omega (arith, s, a, z))

-- ---- stripes, one after another

pub mended_none : (b : Amend) (c : Caller) → IsCallerOf b c → HasMendedSome b (view c) c
mended_none b c caller = record { caller = caller; asks = refl; share_is = refl; grows = λ t h. omega arith }

pub mends_on : (b : Amend) (v : LockView) (c c' : Caller) (done : Done) → HasMendedSome b v c → IsCallerOf b c' → HasMended (view c) done (view c') → HasMendedSome b v c'
mends_on b v c c' done r caller did = record {
  caller = caller;
  asks = ap (λ (z : LockView). z.asks) did.view_is ∙ r.asks;
  share_is = share_mended (view c) (view c') done.number did.log did.next did.view_is ∙ r.share_is;
  grows = grows_on v (view c) (view c') r.grows (grown (view c) (view c') done.number did.log Mend did.view_is);
}

pub fewer_left : (v w : LockView) (done : Done) → HasMended v done w → length w.mends < length v.mends
fewer_left v w done did = omega (arith, ap length did.next, ap (λ (z : LockView). length z.mends) did.view_is)

-- ---- both

pub ended_asks_first : (b : Amend) (v : LockView) (start slots : List Slot) (c c' : Caller) → HasAskedFirst b v start (length start) c slots → HasMendedSome b (view c) c' → (view c').mends ≡ [] → HasEnded b v start c' slots
ended_asks_first b v start slots c c' a m none =
    let many = same_length slots start a.numbers in record {
      done = record { caller = m.caller; asks = m.asks ∙ a.asks ∙ all_dropped start; mends = none };
      share_is = m.share_is ∙ a.share_is;
      numbers = a.numbers;
      rooms = a.rooms;
      served = λ i d low. still_served (names b.locks) (view c) (view c') (get_or slots i d) m.grows (a.served i d (omega (arith, low, many)));
      upwards = λ i j d less low. a.upwards i j d less (omega (arith, low, many));
    }

pub ended_mends_first : (b : Amend) (v : LockView) (start slots : List Slot) (c c' : Caller) → HasMendedSome b v c → (view c).mends ≡ [] → HasAskedFirst b (view c) start (length start) c' slots → HasEnded b v start c' slots
ended_mends_first b v start slots c c' m none a =
    let many = same_length slots start a.numbers in record {
      done = record { caller = a.caller; asks = a.asks ∙ all_dropped start; mends = a.mends ∙ none };
      share_is = a.share_is ∙ m.share_is;
      numbers = a.numbers;
      rooms = a.rooms;
      served = λ i d low. a.served i d (omega (arith, low, many));
      upwards = λ i j d less low. a.upwards i j d less (omega (arith, low, many));
    }
