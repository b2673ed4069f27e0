-- What a reader answers to an ask, how, and what it reads for that.
use Rattle.std.specs.Prelude.{◌≡◌, ℕ, ◌*◌, ◌%◌, ◌<◌, ◌≤◌, ◌⊎◌, Bool, true, false, List, [], length, slice_index_or, map, sum_by, All, vec_len, Option, IfSome, if◌then◌else◌}
use Rattle.std.specs.Int.{bit_at}
use Rattle.mr_model.specs.Members.{members}
use Rattle.mr_model.specs.Code.{survivors}
use Rattle.mr_model.specs.Choice.{single}
use Rattle.mr_counts.specs.Numbers.{times}
use Rattle.mr_io.specs.Counts.{counted}
use Rattle.mr_image.specs.Images.{Layout, stripe_symbols, Image, image_of, mended, near}
use Rattle.mr_plan.specs.Plans.{PlanParts}
use Rattle.mr_plan.specs.PlanLists.{recipes_at}
use Rattle.mr_eq.specs.Singles.{SinglesOf}
use Rattle.mr_board.specs.declared.view.PassView.{PassView}
use Rattle.mr_board.specs.Views.{with_look}
use Rattle.mr_mend.specs.declared.asks.Ask.{Ask}
use Rattle.mr_mend.specs.declared.served.How.{How}
use Rattle.mr_mend.specs.declared.served.How.TheVariants.{Direct, Rebuilt, Degraded}
use Rattle.mr_mend.specs.declared.served.Slot.{Slot}
use Rattle.mr_mend.specs.Mending.{has_recipe}

-- ---- the singles of the stripes

-- the singles of no code
abbrev pub no_singles : SinglesOf
no_singles = record {
  code = record { devices = 0; symbols_per_device = 0; columns = 0; rows = []; prices = [] };
  lost = 0;
  budget = 0;
}

-- the singles of stripe s: they follow each other, and then the first come again
abbrev pub singles_at : List SinglesOf → ℕ → SinglesOf
singles_at singles s = slice_index_or singles (s % length singles) no_singles

-- the set that singles have for a lost symbol
abbrev pub set_in : SinglesOf → ℕ → ℕ
set_in of t = single of.code (survivors of.code of.lost) t of.budget

-- the set that is read for lost symbol t of stripe s alone
abbrev pub single_sets : List SinglesOf → ℕ → ℕ → ℕ
single_sets singles s t = set_in (singles_at singles s) t

-- the singles are of codes with the symbols of a stripe, and have each symbol with a recipe
pub record AreSinglesFor (l : Layout) (plans : List PlanParts) (singles : List SinglesOf) : Type 0 where
  pub some : 0 < length singles
  pub shape : (s : ℕ) → length (singles_at singles s).code.rows ≡ stripe_symbols l
  pub lost : (s i : ℕ) → has_recipe (recipes_at plans s) i ≡ true
      → bit_at (singles_at singles s).lost i ≡ 1

-- ---- one reply

-- the symbol that is asked for has a recipe: it is lost
abbrev pub is_lost : List PlanParts → Ask → Bool
is_lost plans ask = has_recipe (recipes_at plans ask.stripe) ask.symbol

-- the reply of the near set
abbrev pub near_to : Layout → List SinglesOf → Image → Ask → List ℕ
near_to l singles image ask = near l (single_sets singles) image ask.stripe ask.symbol

-- the reply by each way: the symbol of the image, that of the mended image, the near reply
abbrev pub reply_by : Layout → List PlanParts → List SinglesOf → Image → Ask → How → List ℕ
reply_by l plans singles image ask Direct = image ask.stripe ask.symbol
reply_by l plans singles image ask Rebuilt = mended l (recipes_at plans) image ask.stripe ask.symbol
reply_by l plans singles image ask Degraded = near_to l singles image ask

-- how many bytes are read for the near reply
abbrev pub near_bytes : Layout → List SinglesOf → Ask → ℕ
near_bytes l singles ask =
    length (members (single_sets singles ask.stripe ask.symbol)) * l.symbol_bytes

-- how many bytes are read by each way
abbrev pub bytes_by : Layout → List SinglesOf → Ask → How → ℕ
bytes_by l singles ask Direct = l.symbol_bytes
bytes_by l singles ask Rebuilt = 0
bytes_by l singles ask Degraded = near_bytes l singles ask

-- What the way says of the symbol, and of the pass before and after: a symbol that survives is direct, and the pass is as it
-- was; of a lost one the stripe's state was loaded once, which was 1 where the reply is the rebuilt symbol, and else 0,
-- which no pass finds that saw the stripe done.
abbrev pub IsServedBy : List PlanParts → Ask → PassView → PassView → How → Type 0
IsServedBy plans ask v w Direct = (is_lost plans ask ≡ false) × (w ≡ v)
IsServedBy plans ask v w Rebuilt = (is_lost plans ask ≡ true) × (w ≡ with_look v ask.stripe 1)
IsServedBy plans ask v w Degraded =
    (is_lost plans ask ≡ true) × (w ≡ with_look v ask.stripe 0) × (times ask.stripe v.seen ≡ 0)

-- a lawful reply: the symbol of the mended image or, for a lost one, the near reply
abbrev pub IsLawful : Layout → List PlanParts → List SinglesOf → Image → Ask → List ℕ → Type 0
IsLawful l plans singles image ask bytes =
    (bytes ≡ mended l (recipes_at plans) image ask.stripe ask.symbol)
    ⊎ ((is_lost plans ask ≡ true) × (bytes ≡ near_to l singles image ask))

-- the fewest and the most bytes that are read for a lawful reply
abbrev pub least_bytes : Layout → List PlanParts → Ask → ℕ
least_bytes l plans ask = if is_lost plans ask then 0 else l.symbol_bytes

abbrev pub most_bytes : Layout → List PlanParts → List SinglesOf → Ask → ℕ
most_bytes l plans singles ask = if is_lost plans ask then near_bytes l singles ask else l.symbol_bytes

-- ---- all replies of a reader

-- from v to w a pass drew nothing, gave nothing up, and works on what it did
pub record HasLooked (v w : PassView) : Type 0 where
  pub draws : w.draws ≡ v.draws
  pub claimed : w.claimed ≡ v.claimed
  pub gave : w.gave ≡ v.gave
  pub parts : w.parts ≡ v.parts
  pub left : w.left ≡ v.left

-- the ask of a number
abbrev pub ask_at : List Ask → ℕ → Ask
ask_at asks n = slice_index_or asks n record { stripe = 0; symbol = 0 }

-- the slot is that of an ask, with the bytes of one symbol
abbrev pub IsSlotFor : Layout → List Ask → Slot → Type 0
IsSlotFor l asks slot = (slot.number < length asks) × (vec_len slot.bytes ≡ l.symbol_bytes)

-- where the file is told, the slot has a lawful reply to its ask
abbrev pub IsServed : Layout → List PlanParts → List SinglesOf → List Ask → Option (List ℕ) → Slot → Type 0
IsServed l plans singles asks told slot = IfSome told (λ bytes.
    IsLawful l plans singles (image_of l bytes) (ask_at asks slot.number) slot.bytes.items)

-- Each slot was served, and has the number that it had and the bytes of one symbol. Between the two counts of bytes taken
-- lie at least and at most the bytes that lawful replies are read by.
pub record HasRead (l : Layout) (plans : List PlanParts) (singles : List SinglesOf) (asks : List Ask)
    (told : Option (List ℕ)) (start now : List Slot) (before after : ℕ) : Type 0 where
  pub numbers : map (λ (slot : Slot). slot.number) now ≡ map (λ (slot : Slot). slot.number) start
  pub room : All (IsSlotFor l asks) now
  pub served : All (IsServed l plans singles asks told) now
  pub least : counted before
      (sum_by (λ (slot : Slot). least_bytes l plans (ask_at asks slot.number)) start) ≤ after
  pub most : after ≤ counted before
      (sum_by (λ (slot : Slot). most_bytes l plans singles (ask_at asks slot.number)) start)
