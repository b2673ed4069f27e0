-- What the calls of several callers on the stripes of an image gave.
use Rattle.std.specs.Prelude.{◌≡◌, ℕ, ◌<◌, ◌%◌, ◌==◌, Bool, true, false, List, [], ◌∷◌, length, take, slice_get, Some, count_by}
use Rattle.mr_history.specs.declared.entry.Entry.{Entry}
use Rattle.mr_history.specs.declared.entry.Entry.TheVariants.{Ask, Mend}
use Rattle.mr_history.specs.Histories.{IsReply, Names, ask_count, stripe_of, stripes, value}

-- What is told of the calls: the history of each stripe, the place of each ask in the history of its
-- stripe, from 0, the reply to each ask, and the bytes of each stripe in the end.
pub record Account : Type 0 where
  pub history : ℕ → List Entry
  pub place : ℕ → ℕ
  pub reply : ℕ → List ℕ
  pub bytes : ℕ → List ℕ

-- ---- histories

-- whether an entry is the ask of this number
abbrev pub is_ask : ℕ → Entry → Bool
is_ask k (Ask j) = j == k
is_ask k Mend = false

-- whether it is a mend
abbrev pub is_mend : Entry → Bool
is_mend (Ask k) = false
is_mend Mend = true

-- The history has each ask of stripe t once, one mend, and nothing else.
pub record IsHistoryOf (n : Names) (t : ℕ) (history : List Entry) : Type 0 where
  pub asks : (k : ℕ) → k < length n.ops → stripe_of n k ≡ t → count_by (is_ask k) history ≡ 1
  pub mends : count_by is_mend history ≡ 1
  pub others : (i k : ℕ) → slice_get history i ≡ Some (Ask k)
      → (k < length n.ops) × (stripe_of n k ≡ t)

-- ---- what so many callers may give

-- The callers share the asks: two whose numbers are equal modulo their count are of one caller, who
-- makes its asks upwards. Each ask stands in the history of its stripe at its place. Two asks of one
-- caller and one stripe stand there upwards. The reply to an ask is what the stripe has after the calls
-- before that place. The bytes of each stripe are what its history makes of it.
pub record IsAmended (n : Names) (callers : ℕ) (a : Account) : Type 0 where
  pub each : (t : ℕ) → t < stripes n → IsHistoryOf n t (a.history t)
  pub placed : (k : ℕ) → k < length n.ops
      → slice_get (a.history (stripe_of n k)) (a.place k) ≡ Some (Ask k)
  pub upwards : (k l : ℕ) → k < l → l < length n.ops → k % callers ≡ l % callers
      → stripe_of n k ≡ stripe_of n l → a.place k < a.place l
  pub replied : (k : ℕ) → k < length n.ops
      → IsReply n k (value n (stripe_of n k) (take (a.place k) (a.history (stripe_of n k)))) (a.reply k)
  pub long : (k : ℕ) → k < length n.ops → length (a.reply k) ≡ n.head.symbol_bytes
  pub stored : (t : ℕ) → t < stripes n → a.bytes t ≡ value n t (a.history t)

-- ---- laws

-- Wherever two asks of one caller stand in the history of a stripe, the one of the lower number stands
-- at the lower place. The history of a stripe that no ask names is one mend alone.
pub record StandsInOrder (n : Names) (callers : ℕ) (a : Account) : Type 0 where
  pub upwards : (t i j k l : ℕ) → t < stripes n → slice_get (a.history t) i ≡ Some (Ask k)
      → slice_get (a.history t) j ≡ Some (Ask l) → k < l → k % callers ≡ l % callers → i < j
  pub alone : (t : ℕ) → t < stripes n → ask_count n.ops t ≡ 0 → a.history t ≡ Mend ∷ []
