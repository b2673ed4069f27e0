-- One stripe as an object of one thread: what its calls do to it, and what its history makes of it.
use Rattle.std.specs.Prelude.{◌≡◌, ℕ, ◌+◌, ◌<◌, ◌≤◌, ◌++◌, ◌&&◌, ◌==◌, if◌then◌else◌, Bool, true, false, List, [], ◌∷◌, length, slice_index_or, slice_get, Option, Some, None, All, vec_capacity}
use Rattle.mr_model.specs.Code.{Code}
use Rattle.mr_model.specs.Search.{sum_below}
use Rattle.mr_image.specs.Images.{Image, Layout, mended}
use Rattle.mr_image.specs.Rotated.{FitsCode, codes_by}
use Rattle.mr_plan.specs.Plans.{PlanParts}
use Rattle.mr_plan.specs.PlanLists.{recipes_at}
use Rattle.mr_kept.specs.Kept.{AreAmendable, coded_bytes, items_of, mended_bytes, stripe_body, stripe_bytes, symbol_in}
use Rattle.mr_ops.specs.Ops.{IsOpOf, is_read, op_stripe}
use Rattle.mr_ops.specs.declared.ops.Op.{Op}
use Rattle.mr_ops.specs.declared.ops.Op.TheVariants.{Read, Write}
use Rattle.mr_history.specs.declared.entry.Entry.{Entry}
use Rattle.mr_history.specs.declared.entry.Entry.TheVariants.{Ask, Mend}
use Rattle.mr_history.specs.declared.kept.KeptStripe.{KeptStripe}
use Rattle.mr_history.specs.declared.terms.Terms.{Terms}

-- ---- what the calls are made on

-- The head, the code and the plans of an image, the bytes of its stripes as they were read, in which
-- lost symbols are of no account, and what is asked of it.
pub record Names : Type 0 where
  pub head : Layout
  pub code : Code
  pub plans : List PlanParts
  pub image : List (List ℕ)
  pub ops : List Op

abbrev pub names_of : Terms → Names
names_of terms = record {
  head = terms.head;
  code = terms.matrix;
  plans = terms.plans;
  image = items_of terms.image.value.items;
  ops = terms.ops.items;
}

abbrev pub stripes : Names → ℕ
stripes n = n.head.stripes

-- the bytes of stripe t as they were read
abbrev pub bytes_read : Names → ℕ → List ℕ
bytes_read n t = slice_index_or n.image t []

-- the image of these bytes
abbrev pub image_read : Names → Image
image_read n t i = symbol_in n.head.symbol_bytes (bytes_read n t) i

-- The parts fit each other: the plans can be carried out in the stripes, the code is of the image's
-- form, the bytes of each stripe were read, and each ask is one of this image.
pub record PartsFit (n : Names) : Type 0 where
  pub plans : AreAmendable n.head n.plans
  pub code : FitsCode n.head n.code
  pub count : length n.image ≡ stripes n
  pub widths : All (λ bytes. length bytes ≡ stripe_bytes n.head) n.image
  pub ops : All (IsOpOf n.head n.code.columns) n.ops

-- ---- the asks

-- the stripe of an ask
abbrev pub stripe_asked : Option Op → ℕ
stripe_asked None = 0
stripe_asked (Some op) = op_stripe op

-- whether an ask reads
abbrev pub reads : Option Op → Bool
reads None = true
reads (Some op) = is_read op

-- the stripe of the ask of this number
abbrev pub stripe_of : Names → ℕ → ℕ
stripe_of n k = stripe_asked (slice_get n.ops k)

-- 1 at x, and else 0
abbrev pub one_at : ℕ → ℕ → ℕ
one_at x y = if y == x then 1 else 0

-- how many of these asks are of stripe t, and how many calls there are of it: these, and one mend
abbrev pub ask_count : List Op → ℕ → ℕ
ask_count ops t =
    sum_below (length ops) (λ k. one_at t (stripe_asked (slice_get ops k)))

abbrev pub call_count : Names → ℕ → ℕ
call_count n t = ask_count n.ops t + 1

-- ---- the object of one thread

-- stripe t of the mended image
abbrev pub opening : Names → ℕ → List ℕ
opening n t = stripe_body n.head (mended n.head (recipes_at n.plans) (image_read n)) t

-- what an ask makes of the bytes of a stripe: a write makes them those of the codeword of its payload
-- in the code of that stripe, and a read leaves them
abbrev pub after_ask : Names → Option Op → List ℕ → List ℕ
after_ask n None bytes = bytes
after_ask n (Some (Read t i)) bytes = bytes
after_ask n (Some (Write t payload)) bytes = coded_bytes n.head (codes_by n.head n.code t) payload

-- what a call makes of them: a mend leaves them
abbrev pub after : Names → Entry → List ℕ → List ℕ
after n (Ask k) bytes = after_ask n (slice_get n.ops k) bytes
after n Mend bytes = bytes

-- what the calls of a history make of them, one after another
abbrev pub replay : Names → List ℕ → List Entry → List ℕ
replay n bytes [] = bytes
replay n bytes (e ∷ es) = replay n (after n e bytes) es

-- stripe t after this history
abbrev pub value : Names → ℕ → List Entry → List ℕ
value n t history = replay n (opening n t) history

-- what an ask replies where its stripe has these bytes: a read the bytes of its symbol
abbrev pub Replies : Names → Option Op → List ℕ → List ℕ → Type 0
Replies n None bytes reply = Unit {0}
Replies n (Some (Read t i)) bytes reply = reply ≡ symbol_in n.head.symbol_bytes bytes i
Replies n (Some (Write t payload)) bytes reply = Unit {0}

abbrev pub IsReply : Names → ℕ → List ℕ → List ℕ → Type 0
IsReply n k bytes reply = Replies n (slice_get n.ops k) bytes reply

-- ---- a stripe in memory

-- the call leaves a stripe that is not whole as it was read
abbrev pub only_reads : Names → Entry → Bool
only_reads n (Ask k) = reads (slice_get n.ops k)
only_reads n Mend = false

-- the history has no write and no mend
abbrev pub has_only_reads : Names → List Entry → Bool
has_only_reads n [] = true
has_only_reads n (e ∷ es) = only_reads n e && has_only_reads n es

-- the bytes that the stripe has once it is mended
abbrev pub opened : Names → ℕ → KeptStripe → List ℕ
opened n t kept =
    if kept.whole then kept.bytes.items
    else mended_bytes n.head (recipes_at n.plans t) kept.bytes.items

-- The stripe has this history, and once it is mended its bytes are what the history makes of stripe t
-- of the mended image. It is not whole only where nothing was written and it was not mended. It has
-- memory for all its calls.
pub record FitsHistory (n : Names) (t : ℕ) (log : List Entry) (kept : KeptStripe) : Type 0 where
  pub log_is : kept.history.items ≡ log
  pub size : length kept.bytes.items ≡ stripe_bytes n.head
  pub value : opened n t kept ≡ value n t log
  pub early : kept.whole ≡ false → has_only_reads n log ≡ true
  pub room : call_count n t ≤ vec_capacity kept.history

-- the stripe is of the image's form, and has memory for one call more
pub record CanServe (n : Names) (kept : KeptStripe) : Type 0 where
  pub room : length kept.history.items < vec_capacity kept.history
  pub size : length kept.bytes.items ≡ stripe_bytes n.head

-- a call of stripe t was made on it, and its history has grown by that
pub record HasServed (n : Names) (t : ℕ) (e : Entry) (old new : KeptStripe) : Type 0 where
  pub history : new.history.items ≡ old.history.items ++ e ∷ []
  pub room : vec_capacity new.history ≡ vec_capacity old.history
  pub size : length new.bytes.items ≡ length old.bytes.items
  pub value : opened n t new ≡ after n e (opened n t old)
  pub early : new.whole ≡ false → (old.whole ≡ false) × (only_reads n e ≡ true)

-- the stripe is as it was read, with no history, and has memory for all its calls
pub record IsFresh (n : Names) (t : ℕ) (kept : KeptStripe) : Type 0 where
  pub none : kept.history.items ≡ []
  pub bytes : kept.bytes.items ≡ bytes_read n t
  pub lost : kept.whole ≡ false
  pub room : call_count n t ≤ vec_capacity kept.history

-- ---- the image that was read

-- each stripe begins as that of the mended image
pub record OpensWith (image : Image) (n : Names) : Type 0 where
  pub opens : (t : ℕ) → t < stripes n
      → opening n t ≡ stripe_body n.head (mended n.head (recipes_at n.plans) image) t

-- ---- laws

-- The value of a stripe is changed by writes alone, and a write makes it the codeword of its payload,
-- whatever was done before: a mend undoes no write.
pub record ChangesByWrites (n : Names) : Type 0 where
  pub mend : (t : ℕ) (log : List Entry) → value n t (log ++ Mend ∷ []) ≡ value n t log
  pub read : (t k i s : ℕ) (log : List Entry) → slice_get n.ops k ≡ Some (Read s i)
      → value n t (log ++ Ask k ∷ []) ≡ value n t log
  pub write : (t k s : ℕ) (payload : List ℕ) (log : List Entry)
      → slice_get n.ops k ≡ Some (Write s payload)
      → value n t (log ++ Ask k ∷ [])
      ≡ coded_bytes n.head (codes_by n.head n.code s) payload
