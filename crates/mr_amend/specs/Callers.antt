-- What the contracts say of callers: what is left to each, what each call does, and that they are all callers.
use Rattle.std.specs.Prelude.{◌≡◌, ℕ, ◌+◌, ◌%◌, ◌<◌, ◌==◌, List, [], ◌∷◌, All, length, sum_by}
use Rattle.std.specs.List.{filter, range_with_len}
use Rattle.mr_history.specs.declared.entry.Entry.{Entry}
use Rattle.mr_history.specs.declared.entry.Entry.TheVariants.{Ask, Mend}
use Rattle.mr_history.specs.declared.terms.Terms.{Terms}
use Rattle.mr_history.specs.Histories.{IsReply, Names, stripe_of, stripes, value}
use Rattle.mr_locks.specs.Calls.{Idle, made_of}
use Rattle.mr_locks.specs.Rule.{AreEarlier, rest_of, served_view}
use Rattle.mr_locks.specs.Seats.{IsSeatOf, names}
use Rattle.mr_locks.specs.declared.view.LockView.{LockView}
use Rattle.mr_amend.specs.declared.amend.Amend.{Amend}
use Rattle.mr_amend.specs.declared.caller.Caller.{Caller}
use Rattle.mr_amend.specs.declared.caller.Done.{Done}
use Rattle.mr_amend.specs.declared.opening.Job.{Job}

-- ---- one caller

-- what a caller knows
abbrev pub view : Caller → LockView
view c = c.seat.me.0

-- the caller is one of these locks, and what is left to it are asks and stripes that there are
pub record IsCallerOf (b : Amend) (c : Caller) : Type 0 where
  pub seat : IsSeatOf b.locks c.seat
  pub asks : All (λ k. k < length (names b.locks).ops) (view c).asks
  pub mends : All (λ t. t < stripes (names b.locks)) (view c).mends

-- nothing is left to it
pub record IsDone (b : Amend) (c : Caller) : Type 0 where
  pub caller : IsCallerOf b c
  pub asks : (view c).asks ≡ []
  pub mends : (view c).mends ≡ []

-- ---- what a call does

-- The caller's next ask was made, at the place at which the history of its stripe ended. Those of its calls of that
-- stripe that it made before stand at lower places. A read replies what that history gives.
pub record HasAsked (v : LockView) (done : Done) (reply : List ℕ) (w : LockView) : Type 0 where
  pub next : v.asks ≡ done.number ∷ rest_of v.asks
  pub log : List Entry
  pub place : done.place ≡ length log
  pub earlier : AreEarlier (length log) (stripe_of v.names done.number) v
  pub view_is : w ≡ served_view v (stripe_of v.names done.number) log (Ask done.number)
  pub replied : IsReply v.names done.number (value v.names (stripe_of v.names done.number) log) reply

-- The caller's next stripe was mended, at the place at which its history ended.
pub record HasMended (v : LockView) (done : Done) (w : LockView) : Type 0 where
  pub next : v.mends ≡ done.number ∷ rest_of v.mends
  pub log : List Entry
  pub place : done.place ≡ length log
  pub earlier : AreEarlier (length log) done.number v
  pub view_is : w ≡ served_view v done.number log Mend

-- ---- all callers

-- how many calls a caller made or are left to it
abbrev pub share : LockView → ℕ
share v = length v.made + (length v.asks + length v.mends)

-- the calls of these callers are all that there are
abbrev pub AreAll : Names → List Caller → Type 0
AreAll n callers = sum_by (λ c. share (view c)) callers ≡ length n.ops + stripes n

-- the weight of the calls of stripe t that these callers made, each with the history before it
abbrev pub made_by : (List Entry → Entry → ℕ) → ℕ → List Caller → ℕ
made_by h t callers = sum_by (λ c. made_of h t (view c).made) callers

-- the numbers below m that are c modulo count, upwards
abbrev pub every : ℕ → ℕ → ℕ → List ℕ
every c count m = filter (λ k. k % count == c) (range_with_len 0 m)

-- the caller at place c of so many, which made no call yet
abbrev pub share_view : Names → ℕ → ℕ → LockView
share_view n c count = record {
  names = n;
  turn = Idle;
  made = [];
  asks = every c count (length n.ops);
  mends = every c count (stripes n);
}

-- ---- the image that is opened

-- the calls go by the parts of this job
pub record AreTermsOf (job : Job) (terms : Terms) : Type 0 where
  pub head : terms.head ≡ job.head
  pub matrix : terms.matrix ≡ job.matrix
  pub plans : terms.plans ≡ job.plans
  pub ops : terms.ops.items ≡ job.ops.items
