-- What the clauses of the locks say of their seats.
use Rattle.std.specs.Prelude.{◌≡◌, ℕ, ◌+◌, ◌^◌, ◌<◌, ◌==◌, if◌then◌else◌, List, [], ◌∷◌, ◌++◌, length, true}
use Rattle.mr_model.specs.Search.{sum_below}
use Rattle.mr_history.specs.declared.entry.Entry.{Entry}
use Rattle.mr_history.specs.declared.entry.Entry.TheVariants.{Ask, Mend}
use Rattle.mr_history.specs.declared.kept.KeptStripe.{KeptStripe}
use Rattle.mr_kept.specs.Kept.{stripe_bytes}
use Rattle.mr_history.specs.Histories.{FitsHistory, Names, call_count, names_of, stripe_of, stripes, value}
use Rattle.mr_locks.specs.Calls.{Holding, calls}
use Rattle.mr_locks.specs.Rule.{Mine, holding_view}
use Rattle.mr_locks.specs.declared.locks.Locks.{Locks}
use Rattle.mr_locks.specs.declared.view.LockView.{LockView}
use Rattle.atomic_table.specs.declared.shared.Seat.{Seat}

abbrev pub LockSeat : Type 0
LockSeat = Seat KeptStripe LockView

-- what the locks were made for
abbrev pub names : Locks → Names
names b = names_of b.table.shared.key

-- the seat is of these locks, and names what they were made for
pub record IsSeatOf (b : Locks) (s : LockSeat) : Type 0 where
  pub table : s.table_id ≡ b.table.shared.table_id
  pub names_are : s.me.0.names ≡ names b

-- The caller holds stripe t alone, which has this history and memory for one call more.
pub record HoldsStripe (n : Names) (m : Mine) (t : ℕ) (log : List Entry) : Type 0 where
  pub turn : m.0.turn ≡ Holding t (length log) log
  pub kept : KeptStripe
  pub slot : m.1 ≡ (t, kept) ∷ []
  pub fits : FitsHistory n t log kept
  pub room : length log < call_count n t
  pub small : length log < 2 ^ 32

-- It holds stripe t alone, whose history has grown by e since it was taken.
pub record HoldsGrown (n : Names) (m : Mine) (t : ℕ) (log : List Entry) (e : Entry)
    : Type 0 where
  pub turn : m.0.turn ≡ Holding t (length log) log
  pub kept : KeptStripe
  pub slot : m.1 ≡ (t, kept) ∷ []
  pub fits : FitsHistory n t (log ++ e ∷ []) kept
  pub small : length log < 2 ^ 32

-- the caller has taken stripe t, with the history that it has
abbrev pub HasLocked : Names → Mine → ℕ → Mine → Type 0
HasLocked n m t m' = (log : List Entry) × HoldsStripe n m' t log
    × (m'.0 ≡ holding_view m.0 t (length log) log)

-- the weight of the asks of stripe t, and of one mend
abbrev pub calls_of : (Entry → ℕ) → Names → ℕ → ℕ
calls_of h n t =
    sum_below (length n.ops) (λ k. if stripe_of n k == t then h (Ask k) else 0) + h Mend

-- the caller has made each call that there is
pub record HasAll (n : Names) (v : LockView) : Type 0 where
  pub asks : v.asks ≡ []
  pub mends : v.mends ≡ []
  pub made : length v.made ≡ length n.ops + stripes n

-- Stripe t when all calls were made, where `made h` is the weight of its calls that were made. It is
-- whole, and its bytes are what its history makes of it. However entries are weighed, those of its
-- history weigh as much as the asks of the stripe and one mend. However calls are weighed, with the
-- history before each, those that were made weigh as much as those of its history.
pub record IsClosed (n : Names) (made : (List Entry → Entry → ℕ) → ℕ) (t : ℕ) (kept : KeptStripe)
    : Type 0 where
  pub whole : kept.whole ≡ true
  pub size : length kept.bytes.items ≡ stripe_bytes n.head
  pub bytes : kept.bytes.items ≡ value n t kept.history.items
  pub each : (h : Entry → ℕ) → calls (λ _ e. h e) [] kept.history.items ≡ calls_of h n t
  pub made_are : (h : List Entry → Entry → ℕ) → made h ≡ calls h [] kept.history.items
