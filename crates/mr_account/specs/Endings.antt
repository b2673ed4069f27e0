-- What is kept in memory of an account.
use Rattle.std.specs.Prelude.{◌≡◌, ℕ, ◌<◌, ◌%◌, ◌/◌, List, [], length, map, slice_index_or}
use Rattle.mr_kept.specs.Kept.{stripe_bytes}
use Rattle.mr_history.specs.Histories.{Names, call_count, stripes}
use Rattle.mr_account.specs.Accounts.{Account, IsAmended}
use Rattle.mr_account.specs.declared.endings.Ending.{Ending}
use Rattle.mr_account.specs.declared.slots.Slot.{Slot}

-- what a slot tells: the place of its ask, and the reply
pub record Told : Type 0 where
  pub place : ℕ
  pub reply : List ℕ

abbrev pub told : Slot → Told
told slot = record { place = slot.place; reply = slot.reply.items }

-- the slots of each caller
abbrev pub slots_in : Ending → List (List Slot)
slots_in e = map (λ slots. slots.items) e.slots.items

-- The asks are dealt out by turns: ask k stands at k / count of the caller k % count, of `count` callers.
-- What its slot tells.
abbrev pub told_of : List (List Slot) → ℕ → Told
told_of slots k =
    slice_index_or (map told (slice_index_or slots (k % length slots) [])) (k / length slots)
    (record { place = 0; reply = [] })

-- there is a slot for ask k
pub record HasSlot (slots : List (List Slot)) (k : ℕ) : Type 0 where
  pub some : 0 < length slots
  pub there : k / length slots < length (slice_index_or slots (k % length slots) [])

-- the account that is kept so
abbrev pub account_of : Ending → Account
account_of e = record {
  history = λ t. slice_index_or (map (λ kept. kept.history.items) e.stripes.items) t [];
  place = λ k. (told_of (slots_in e) k).place;
  reply = λ k. (told_of (slots_in e) k).reply;
  bytes = λ t. slice_index_or (map (λ kept. kept.bytes.items) e.stripes.items) t [];
}

-- Each ask has a slot, with the bytes of a symbol for a reply. Each stripe is there, with as many
-- entries in its history as there are calls of it.
pub record CanPrint (n : Names) (e : Ending) : Type 0 where
  pub slots : (k : ℕ) → k < length n.ops → HasSlot (slots_in e) k
  pub replies : (k : ℕ) → k < length n.ops
      → length ((account_of e).reply k) ≡ n.head.symbol_bytes
  pub count : length e.stripes.items ≡ stripes n
  pub widths : (t : ℕ) → t < stripes n → length ((account_of e).bytes t) ≡ stripe_bytes n.head
  pub histories : (t : ℕ) → t < stripes n → length ((account_of e).history t) ≡ call_count n t

-- It can be printed, and is an account that so many callers may give.
pub record IsEndingOf (n : Names) (callers : ℕ) (e : Ending) : Type 0 where
  pub can : CanPrint n e
  pub amended : IsAmended n callers (account_of e)
