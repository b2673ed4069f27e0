-- The calls that callers made, and how they are weighed.
use Rattle.std.specs.Prelude.{ℕ, ◌+◌, ◌==◌, if◌then◌else◌, List, [], ◌∷◌, ◌++◌, sum_by}
use Rattle.mr_history.specs.declared.entry.Entry.{Entry}

-- What a caller is about: nothing, or it waits for a stripe with a ticket of this number, or it holds
-- the stripe, which had this history when it was taken.
pub data Turn : Type 0 where
  Idle : Turn
  Waiting : ℕ → ℕ → Turn
  Holding : ℕ → ℕ → List Entry → Turn

-- a call that was made: the stripe, the entry, and the history before it, whose length is its place
pub record Made : Type 0 where
  pub stripe : ℕ
  pub entry : Entry
  pub before : List Entry

-- the weight of those of these calls that are of stripe t, each with the history before it
abbrev pub made_of : (List Entry → Entry → ℕ) → ℕ → List Made → ℕ
made_of h t made = sum_by (λ m. if m.stripe == t then h m.before m.entry else 0) made

-- the weight of the calls of a history that goes on from `before`
abbrev pub calls : (List Entry → Entry → ℕ) → List Entry → List Entry → ℕ
calls h before [] = 0
calls h before (e ∷ es) = h before e + calls h (before ++ e ∷ []) es
