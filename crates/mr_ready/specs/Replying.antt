-- The replies of the readers.
use Rattle.std.specs.Prelude.{◌≡◌, ℕ, ◌+◌, ◌*◌, ◌<◌, All, IfSome, List, Option, drop, length, slice_index_or, take, vec_len}
use Rattle.mr_image.specs.Images.{Layout, image_of}
use Rattle.mr_mend.specs.Readers.{ask_at}
use Rattle.mr_mend.specs.Workers.{AreStrided, IsReplyOf, numbers_of}
use Rattle.mr_mend.specs.declared.workers.Role.{Role}
use Rattle.mr_mend.specs.declared.workers.Role.TheVariants.{Mender, Reader}
use Rattle.mr_mend.specs.declared.workers.Worker.{Worker}
use Rattle.mr_ready.specs.Lawful.{IsLawful}
use Rattle.mr_ready.specs.Orders.{OrderParts}

-- the worker has slots of the bytes of one symbol
abbrev pub HasSlots : Layout → Role → Type 0
HasSlots l (Mender room) = ⊥
HasSlots l (Reader slots tmp) = All (λ slot. vec_len slot.bytes ≡ l.symbol_bytes) slots.items

-- the r-th behind the menders is a reader that has the asks r, r + workers and so on
pub record HaveSlots {E : Type 0} (order : OrderParts) (workers : List (Worker E)) : Type 0 where
  pub count : length workers ≡ order.workers + order.workers
  pub readers : (r : ℕ) (d : Worker E) → r < order.workers
      → HasSlots order.head (slice_index_or workers (order.workers + r) d).role
  pub numbers : (r : ℕ) (d : Worker E) → r < order.workers
      → AreStrided r order.workers (length order.asks)
      (numbers_of (slice_index_or workers (order.workers + r) d).role)

-- where the file is told, each reply of theirs is lawful
abbrev pub AreAnswered : {E : Type 0} → OrderParts → Option (List ℕ) → List (Worker E) → Type 0
AreAnswered {E} order told workers = (r : ℕ) (d : Worker E) → r < order.workers
    → (number : ℕ) (bytes : List ℕ)
    → IsReplyOf (slice_index_or workers (order.workers + r) d).role number bytes
    → IfSome told (λ file.
    IsLawful order (image_of order.head file) (ask_at order.asks number) bytes)

-- where the file is told, the bytes are a lawful reply to each ask, one after another
abbrev pub AreLawful : OrderParts → Option (List ℕ) → List ℕ → Type 0
AreLawful order told replies = (j : ℕ) → j < length order.asks → IfSome told (λ file.
    IsLawful order (image_of order.head file) (ask_at order.asks j)
    (take order.head.symbol_bytes (drop (j * order.head.symbol_bytes) replies)))
