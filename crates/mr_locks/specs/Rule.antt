-- The rule of the locks: what holds of the words, of the stripes at home and of what the callers know, between any two
-- steps. Word 0 stays 0. Then each stripe has a word that counts tickets and a word that counts those served.
use Rattle.std.specs.Prelude.{◌≡◌, ◌≢◌, ℕ, ◌+◌, ◌*◌, ◌^◌, ◌<◌, nat_lt, ◌==◌, if◌then◌else◌, List, [], ◌∷◌, ◌++◌, length, slice_index, sum_by}
use Rattle.std.specs.List.{range_with_len}
use mathlib.Core.Option.{some}
use lib.ListN.{get_elem?}
use Rattle.atomic_table.specs.Table.{State, Me, Step}
use Rattle.mr_model.specs.Search.{sum_below}
use Rattle.mr_history.specs.declared.entry.Entry.{Entry}
use Rattle.mr_history.specs.declared.entry.Entry.TheVariants.{Ask, Mend}
use Rattle.mr_history.specs.declared.kept.KeptStripe.{KeptStripe}
use Rattle.mr_history.specs.Histories.{FitsHistory, Names, call_count, one_at, stripe_of, stripes}
use Rattle.mr_locks.specs.Calls.{Turn, Idle, Waiting, Holding, calls, made_of}
use Rattle.mr_locks.specs.declared.view.LockView.{LockView}

-- ---- the words

abbrev pub ticket_place : ℕ → ℕ
ticket_place t = 1 + 2 * t

abbrev pub serving_place : ℕ → ℕ
serving_place t = 2 + 2 * t

-- how many tickets of stripe t were drawn
abbrev pub tickets : List ℕ → ℕ → ℕ
tickets words t = slice_index words (ticket_place t)

-- how many of them were served
abbrev pub serving : List ℕ → ℕ → ℕ
serving words t = slice_index words (serving_place t)

-- ---- what the callers know

-- the weight of the ticket of stripe t that is out, if one is
abbrev pub out : (ℕ → ℕ) → ℕ → Turn → ℕ
out h t Idle = 0
out h t (Waiting s k) = if s == t then h k else 0
out h t (Holding s k log) = if s == t then h k else 0

-- 1 where stripe t is held, and else 0
abbrev pub holds : ℕ → Turn → ℕ
holds t Idle = 0
holds t (Waiting s k) = 0
holds t (Holding s k log) = one_at t s

-- the weights of the calls that were made, of those that are left to the caller, and of all that
-- there are, by stripe and entry
abbrev pub made_weight : (ℕ → Entry → ℕ) → LockView → ℕ
made_weight h v = sum_by (λ m. h m.stripe m.entry) v.made

abbrev pub left_weight : (ℕ → Entry → ℕ) → Names → LockView → ℕ
left_weight h n v = sum_by (λ k. h (stripe_of n k) (Ask k)) v.asks + sum_by (λ t. h t Mend) v.mends

abbrev pub all_weight : (ℕ → Entry → ℕ) → Names → ℕ
all_weight h n =
    sum_below (length n.ops) (λ k. h (stripe_of n k) (Ask k)) + sum_below (stripes n) (λ t. h t Mend)

-- how many calls of stripe t are left to the caller
abbrev pub left : Names → ℕ → LockView → ℕ
left n t v = left_weight (λ s _. one_at t s) n v

-- ---- the rule

-- The lock of stripe t, which has this history. As many tickets were served as calls were made.
-- However tickets are weighed, those that are out weigh as much as the numbers from those served up to
-- those drawn. However calls are weighed, those that were made weigh as much as those of the history.
-- Where nobody holds the stripe, it is at home.
pub record Lock (n : Names) (s : State KeptStripe LockView) (t : ℕ) (log : List Entry)
    : Type 0 where
  pub served : serving s.words t ≡ length log
  pub waiting : (h : ℕ → ℕ) → sum_by (λ v. out h t v.turn) s.views + sum_below (serving s.words t) h
      ≡ sum_below (tickets s.words t) h
  pub entered : (h : List Entry → Entry → ℕ)
      → sum_by (λ v. made_of h t v.made) s.views ≡ calls h [] log
  pub home : sum_by (λ v. holds t v.turn) s.views ≡ 0
      → (kept : KeptStripe) × (get_elem? s.homes t ≡ some (some kept)) × FitsHistory n t log kept

-- A caller that waits for a stripe or holds it has a call of it left. One that holds it has the ticket
-- that is served, and knows the stripe's history.
pub record Sound (n : Names) (words : List ℕ) (log : ℕ → List Entry) (v : LockView)
    : Type 0 where
  pub waits : (t k : ℕ) → v.turn ≡ Waiting t k → (t < stripes n) × (0 < left n t v)
  pub held : (t k : ℕ) (l : List Entry) → v.turn ≡ Holding t k l
      → (t < stripes n) × (0 < left n t v) × (k ≡ serving words t) × (l ≡ log t)

-- the rule, where each stripe has this history: each call that there is was made once, or is left to
-- one caller
pub record Keeps (n : Names) (s : State KeptStripe LockView) (log : ℕ → List Entry)
    : Type 0 where
  pub small : (t : ℕ) → call_count n t < 2 ^ 32
  pub words : length s.words ≡ 1 + 2 * stripes n
  pub homes : length s.homes ≡ stripes n
  pub shared : (h : ℕ → Entry → ℕ)
      → sum_by (λ v. made_weight h v + left_weight h n v) s.views ≡ all_weight h n
  pub locks : (t : ℕ) → t < stripes n → Lock n s t (log t)
  pub each : (id : ℕ) (v : LockView) → get_elem? s.views id ≡ some v → Sound n s.words log v

-- the rule: there is a history for each stripe
abbrev pub Locked : Names → State KeptStripe LockView → Type 0
Locked n s = (log : ℕ → List Entry) × Keeps n s log

-- ---- the views after each step

abbrev pub rest_of : List ℕ → List ℕ
rest_of [] = []
rest_of (x ∷ xs) = xs

abbrev pub first_of : List ℕ → List ℕ
first_of [] = []
first_of (x ∷ xs) = x ∷ []

-- the first caller: all calls are left to it
abbrev pub first_view : Names → LockView
first_view n = record {
  names = n;
  turn = Idle;
  made = [];
  asks = range_with_len 0 (length n.ops);
  mends = range_with_len 0 (stripes n);
}

abbrev pub waiting_view : LockView → ℕ → ℕ → LockView
waiting_view v t k = record v { turn = Waiting t k }

abbrev pub holding_view : LockView → ℕ → ℕ → List Entry → LockView
holding_view v t k log = record v { turn = Holding t k log }

abbrev pub asks_after : Entry → List ℕ → List ℕ
asks_after (Ask k) asks = rest_of asks
asks_after Mend asks = asks

abbrev pub mends_after : Entry → List ℕ → List ℕ
mends_after (Ask k) mends = mends
mends_after Mend mends = rest_of mends

-- a caller that made the call e of stripe t, which had this history
abbrev pub served_view : LockView → ℕ → List Entry → Entry → LockView
served_view v t log e = record v {
  turn = Idle;
  made = v.made ++ record { stripe = t; entry = e; before = log } ∷ [];
  asks = asks_after e v.asks;
  mends = mends_after e v.mends;
}

-- a caller to which nothing is left, split off from another
abbrev pub blank_view : LockView → LockView
blank_view v = record { names = v.names; turn = Idle; made = []; asks = []; mends = [] }

-- what a caller that hands over its first ask, or its first stripe, keeps, and what it hands over
abbrev pub without_ask : LockView → LockView
without_ask v = record v { asks = rest_of v.asks }

abbrev pub with_ask : LockView → LockView
with_ask v = record (blank_view v) { asks = first_of v.asks }

abbrev pub without_mend : LockView → LockView
without_mend v = record v { mends = rest_of v.mends }

abbrev pub with_mend : LockView → LockView
with_mend v = record (blank_view v) { mends = first_of v.mends }

-- what a join makes of two callers, and what it leaves of the second: it is spent
abbrev pub joined_view : LockView → LockView → LockView
joined_view v w = record v {
  made = v.made ++ w.made;
  asks = v.asks ++ w.asks;
  mends = v.mends ++ w.mends;
}

abbrev pub no_names : Names
no_names = record {
  head = record {
    version = 0;
    devices = 0;
    symbols_per_device = 0;
    symbol_bytes = 0;
    stripes = 0;
  };
  code = record { devices = 0; symbols_per_device = 0; columns = 0; rows = []; prices = [] };
  plans = [];
  image = [];
  ops = [];
}

abbrev pub spent_view : LockView
spent_view = record { names = no_names; turn = Idle; made = []; asks = []; mends = [] }

-- ---- what each step tells

-- a caller, and the stripes that it has taken
abbrev pub Mine : Type 0
Mine = Me KeptStripe LockView

-- the call is the caller's next of its kind, and of this stripe
abbrev pub IsNext : LockView → ℕ → Entry → Type 0
IsNext v t (Ask k) = (v.asks ≡ k ∷ rest_of v.asks) × (stripe_of v.names k ≡ t)
IsNext v t Mend = v.mends ≡ t ∷ rest_of v.mends

-- 1 where the history before a call has p entries or more, and else 0
abbrev pub late_at : ℕ → List Entry → Entry → ℕ
late_at p before e = if nat_lt (length before) p then 0 else 1

-- each call of stripe t that the caller made so far stands at a lower place than p
abbrev pub AreEarlier : ℕ → ℕ → LockView → Type 0
AreEarlier p t v = made_of (late_at p) t v.made ≡ 0

-- a ticket of stripe t was drawn
abbrev pub Ticketed : Step KeptStripe → Mine → ℕ → Mine → Type 0
Ticketed st m x m' = (t : ℕ) → st.word ≡ ticket_place t → m' ≡ (waiting_view m.0 t x, m.1)

-- The turn of the ticket k has come: stripe t is taken, with the history that it has. It has memory
-- for one call more.
abbrev pub Takes : Mine → ℕ → ℕ → Mine → Type 0
Takes m t k m' = (log : List Entry) × (kept : KeptStripe)
    × (m' ≡ (holding_view m.0 t k log, (t, kept) ∷ m.1)) × (length log ≡ k)
    × (k < call_count m.0.names t) × (k < 2 ^ 32) × FitsHistory m.0.names t log kept

-- a look at the number of those served takes the stripe exactly where it finds the caller's ticket
abbrev pub Looked : Step KeptStripe → Mine → ℕ → Mine → Type 0
Looked st m x m' = (t k : ℕ) → m.0.turn ≡ Waiting t k → st.word ≡ serving_place t
    → (x ≡ k → Takes m t k m') × (x ≢ k → m' ≡ m)

-- the call e joins those that the caller made, at the place where the history ended
abbrev pub Served : Step KeptStripe → Mine → ℕ → Mine → Type 0
Served st m x m' = (t k : ℕ) (log : List Entry) (kept : KeptStripe) (e : Entry)
    → m.0.turn ≡ Holding t k log → m.1 ≡ (t, kept) ∷ [] → kept.history.items ≡ log ++ e ∷ []
    → (x ≡ length log) × AreEarlier (length log) t m.0 × (m' ≡ (served_view m.0 t log e, []))
