-- The bytes that each command takes, by duty.
use Rattle.std.specs.Prelude.{List, None, Option, Some, false, filter, length, ℕ, ◌*◌, ◌+◌, ◌≡◌, ◌≤◌}
use Rattle.mr_image.specs.declared.limits.TheConstants.{HEAD_BYTES}
use Rattle.mr_image.specs.Images.{Layout, stripe_symbols}
use Rattle.mr_image.specs.declared.limits.TheConstants.{HEAD_BYTES}
use Rattle.mr_io.specs.Counts.{counted}
use Rattle.mr_io.specs.Growth.{grown, no_bytes}
use Rattle.mr_io.specs.declared.totals.Totals.{Totals}
use Rattle.mr_mend.specs.Mending.{members_read}
use Rattle.mr_mend.specs.declared.asks.Ask.{Ask}
use Rattle.mr_model.specs.Members.{members}
use Rattle.mr_model.specs.Sets.{has}
use Rattle.mr_patch.specs.Damages.{DamageParts}
use Rattle.mr_plan.specs.Plans.{survivors}
use Rattle.mr_ready.specs.Reads.{most_replying_reads}
use Rattle.mr_sectors.specs.Steps.{copy_bytes, mend_bytes}
use Rattle.mr_words.specs.declared.rebuild_words.RebuildWords.{RebuildWords}
use Rattle.mr_steps.specs.Requests.{rebuild_words}
use Rattle.mr_steps.specs.Refusals.{Gave}
use Rattle.mr_steps.specs.declared.request.Request.{Request}
use Rattle.mr_steps.specs.declared.request.Request.TheVariants.{Check, Convert, Drill, Encode, Make, Plan, Rebuild, Scrub, Sectors}
use Rattle.mr_top.specs.Convert.{first_accepted}
use Rattle.mr_top.specs.Rebuild.{RebuildAccepted, rebuild_accepted}
use Rattle.mr_top.specs.Scrub.{either_accepted}
use Rattle.mr_top.specs.Sectors.{repair_accepted, sectors_words}

-- the bytes of a plan file, where one is named
abbrev pub plan_bytes : (List ℕ → List ℕ) → Option (List ℕ) → ℕ
plan_bytes contents None = 0
plan_bytes contents (Some plan) = length (contents plan)

-- the reads of survivors
abbrev pub survivor_asks : RebuildAccepted → List Ask
survivor_asks r = filter (λ ask. has (survivors r.code r.lost) ask.symbol) r.order.asks

-- A rebuild took its text files, the bytes of a head, in each stripe the set of its plan once, the
-- survivors that are asked for, and all survivors once in each stripe. With `live` it took no more
-- for the replies than the single equation of each lost symbol that is asked for.
pub record IsTaken (contents : List ℕ → List ℕ) (words : RebuildWords) (r : RebuildAccepted)
    (old new : Totals) : Type 0 where
  pub text : new.text
      ≡ counted old.text (length (contents words.matrix) + plan_bytes contents words.plan)
  pub head : new.head ≡ counted old.head HEAD_BYTES
  pub mend : new.mend
      ≡ counted old.mend
      (members_read r.order.plans r.order.head.stripes * r.order.head.symbol_bytes)
  pub live : r.order.live ≡ false
      → new.live ≡ counted old.live (length (survivor_asks r) * r.order.head.symbol_bytes)
  pub live_least : counted old.live (length (survivor_asks r) * r.order.head.symbol_bytes) ≤ new.live
  pub live_most : new.live ≤ counted old.live (most_replying_reads r.order)
  pub copy : new.copy
      ≡ counted old.copy
      (r.order.head.stripes
      * (length (members (survivors r.code r.lost)) * r.order.head.symbol_bytes))

-- a matrix text, a head and all symbols of its image
abbrev pub whole_taken : ℕ → Layout → Totals
whole_taken text l = record no_bytes {
  text = text;
  head = HEAD_BYTES;
  copy = l.stripes * stripe_symbols l * l.symbol_bytes;
}

-- two texts, a head, in each stripe the set that is read for the symbols that fail, and the others
abbrev pub repair_taken : ℕ → DamageParts → ℕ → Totals
repair_taken text d budget = record no_bytes {
  text = text;
  head = HEAD_BYTES;
  mend = mend_bytes d budget;
  copy = copy_bytes d;
}

-- the totals of each duty, after a run of this request that answered
abbrev pub TookRight : Request → (List ℕ → List ℕ) → List ℕ → Totals → Totals → Type 0
TookRight (Plan matrix lost workers budget) contents left old new =
    new ≡ grown old (record no_bytes { text = length (contents matrix) })
TookRight (Check matrix lost plan) contents left old new =
    new ≡ grown old (record no_bytes { text = length (contents matrix) + length (contents plan) })
TookRight (Make code p) contents left old new = new ≡ grown old no_bytes
TookRight (Encode matrix payload stripes bytes) contents left old new =
    new ≡ grown old
    (record no_bytes { text = length (contents matrix); copy = length (contents payload) })
TookRight (Rebuild matrix image lost workers budget plan live) contents left old new =
    Gave (rebuild_accepted contents left (rebuild_words matrix image lost workers budget plan live))
    (λ r. IsTaken contents (rebuild_words matrix image lost workers budget plan live) r old new)
TookRight (Convert matrix image) contents left old new =
    Gave (first_accepted contents matrix image)
    (λ l. new ≡ grown old (whole_taken (length (contents matrix)) l))
TookRight (Scrub matrix image) contents left old new =
    Gave (either_accepted contents matrix image)
    (λ l. new ≡ grown old (whole_taken (length (contents matrix)) l))
TookRight (Sectors matrix image lost bad budget) contents left old new =
    Gave (repair_accepted contents (sectors_words matrix image lost bad budget))
    (λ d. new ≡ grown old
    (repair_taken (length (contents matrix) + length (contents bad)) d budget))
TookRight (Drill number) contents left old new = new ≡ grown old no_bytes
