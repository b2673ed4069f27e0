-- Callers in threads: what each has made of its asks and of its stripes, and what is kept of that.
use Rattle.std.specs.Prelude.{◌≡◌, ℕ, ◌<◌, ◌≤◌, List, [], length, map, drop, slice_index_or, vec_capacity, vec_len, All}
use Rattle.mr_history.specs.declared.entry.Entry.{Entry}
use Rattle.mr_history.specs.declared.entry.Entry.TheVariants.{Ask}
use Rattle.mr_history.specs.Histories.{IsReply, Names, stripe_of, value}
use Rattle.mr_locks.specs.Calls.{made_of}
use Rattle.mr_locks.specs.Seats.{names}
use Rattle.mr_locks.specs.declared.view.LockView.{LockView}
use Rattle.mr_amend.specs.Callers.{HasAsked, IsCallerOf, IsDone, share, view}
use Rattle.mr_amend.specs.declared.amend.Amend.{Amend}
use Rattle.mr_amend.specs.declared.caller.Caller.{Caller}
use Rattle.mr_account.specs.declared.slots.Slot.{Slot}
use Rattle.mr_callers.specs.declared.crews.CallerJob.{CallerJob}
use Rattle.mr_callers.specs.declared.crews.Crew.{Crew}

-- ---- slots

-- the numbers of the asks that the slots are for
abbrev pub numbers_of : List Slot → List ℕ
numbers_of slots = map (λ slot. slot.number) slots

-- each slot has room for a reply of so many bytes
abbrev pub HaveRoom : ℕ → List Slot → Type 0
HaveRoom size slots = All (λ slot. length slot.reply.items ≡ size) slots

-- ---- what a caller has made

-- The call e of stripe t, with this history before it, is among those that the caller made: however
-- calls are weighed, these weigh as much as it at least.
abbrev pub HasMade : LockView → ℕ → List Entry → Entry → Type 0
HasMade v t before e = (h : List Entry → Entry → ℕ) → h before e ≤ made_of h t v.made

-- what it made at v is among what it has made at w
abbrev pub Grows : LockView → LockView → Type 0
Grows v w = (t : ℕ) (h : List Entry → Entry → ℕ) → made_of h t v.made ≤ made_of h t w.made

-- The caller made the ask of the slot at the slot's place. The slot's reply is what the history before
-- that place gives.
pub record IsServed (n : Names) (v : LockView) (slot : Slot) : Type 0 where
  pub log : List Entry
  pub place : slot.place ≡ length log
  pub made : HasMade v (stripe_of n slot.number) log (Ask slot.number)
  pub replied : IsReply n slot.number (value n (stripe_of n slot.number) log) slot.reply.items

-- the ask of the slot was the caller's next, and was made
pub record IsFilled (v : LockView) (old new : Slot) (w : LockView) : Type 0 where
  pub number : new.number ≡ old.number
  pub size : length new.reply.items ≡ length old.reply.items
  pub asked : HasAsked v (record { number = new.number; place = new.place }) new.reply.items w

-- of the first k asks of these slots, the later one of two of a stripe has the greater place
abbrev pub AreUpwards : Names → ℕ → List Slot → Type 0
AreUpwards n k slots =
    (i j : ℕ) (d : Slot) → i < j → j < k
    → stripe_of n (slice_index_or slots i d).number ≡ stripe_of n (slice_index_or slots j d).number
    → (slice_index_or slots i d).place < (slice_index_or slots j d).place

-- From the view v and these slots on, the caller has made its first k asks.
pub record HasAskedFirst (b : Amend) (v : LockView) (start : List Slot) (k : ℕ) (c : Caller)
    (slots : List Slot) : Type 0 where
  pub caller : IsCallerOf b c
  pub asks : (view c).asks ≡ drop k (numbers_of start)
  pub mends : (view c).mends ≡ v.mends
  pub share_is : share (view c) ≡ share v
  pub grows : Grows v (view c)
  pub numbers : numbers_of slots ≡ numbers_of start
  pub rooms : HaveRoom (names b.locks).head.symbol_bytes slots
  pub served : (i : ℕ) (d : Slot) → i < k
      → IsServed (names b.locks) (view c) (slice_index_or slots i d)
  pub upwards : AreUpwards (names b.locks) k slots

-- From the view v on, the caller has mended some of its stripes.
pub record HasMendedSome (b : Amend) (v : LockView) (c : Caller) : Type 0 where
  pub caller : IsCallerOf b c
  pub asks : (view c).asks ≡ v.asks
  pub share_is : share (view c) ≡ share v
  pub grows : Grows v (view c)

-- ---- jobs

-- there is a slot for each ask that is left to the caller
pub record CanRun (b : Amend) (job : CallerJob) : Type 0 where
  pub caller : IsCallerOf b job.caller
  pub asks : (view job.caller).asks ≡ numbers_of job.slots.items
  pub rooms : HaveRoom (names b.locks).head.symbol_bytes job.slots.items

-- From the view v and these slots on, the caller has made all its calls, and the slots tell of its asks.
pub record HasEnded (b : Amend) (v : LockView) (start : List Slot) (c : Caller) (slots : List Slot)
    : Type 0 where
  pub done : IsDone b c
  pub share_is : share (view c) ≡ share v
  pub numbers : numbers_of slots ≡ numbers_of start
  pub rooms : HaveRoom (names b.locks).head.symbol_bytes slots
  pub served : (i : ℕ) (d : Slot) → i < length slots
      → IsServed (names b.locks) (view c) (slice_index_or slots i d)
  pub upwards : AreUpwards (names b.locks) (length slots) slots

abbrev pub HasRun : Amend → CallerJob → CallerJob → Type 0
HasRun b old new = HasEnded b (view old.caller) old.slots.items new.caller new.slots.items

-- ---- crews

abbrev pub callers_of : List CallerJob → List Caller
callers_of jobs = map (λ job. job.caller) jobs

abbrev pub slots_of : List CallerJob → List (List Slot)
slots_of jobs = map (λ job. job.slots.items) jobs

-- the crew has memory for its callers and for their slots, once they have made their calls
pub record HasRooms (crew : Crew) : Type 0 where
  pub no_callers : crew.callers.items ≡ []
  pub no_slots : crew.slots.items ≡ []
  pub callers : vec_len crew.jobs ≤ vec_capacity crew.callers
  pub slots : vec_len crew.jobs ≤ vec_capacity crew.slots
