-- One reply of a reader: how, what it is, and what is read for it.
use Rattle.std.proofs.Common.{◌≡◌, ℕ, ◌%◌, ◌<◌, ◌≤◌, Bool, true, false, cond, List, length, get_or, Option, Some, None, IfSome, Result, Ok, Err, OnErr, refl, sym, ap, subst, ◌∙◌, ⊎_elim, inl, inr, arith}
use Rattle.std.specs.Prelude.{◌⊎◌, is_some, slice_index}
use Rattle.std.proofs.lemmas.Bool.{cases_lt}
use Rattle.std.proofs.lemmas.Nat.{mod_below}
use Rattle.std.proofs.lemmas.List.{get_or_default}
use Rattle.mr_model.specs.Code.{survivors}
use Rattle.mr_model.specs.Plans.{Recipe}
use Rattle.mr_counts.specs.Numbers.{times}
use Rattle.mr_io.specs.Counts.{counted}
use Rattle.mr_io.specs.Sights.{Sight, sight_with}
use Rattle.mr_image.specs.Images.{Layout, Image, image_of, every_stripe, equation_of, rebuilt, stripe_of, mended, near, singles_of}
use Rattle.mr_plan.specs.Plans.{PlanParts}
use Rattle.mr_plan.specs.PlanLists.{ArePlans, plan_at, recipes_at, symbols_of}
use Rattle.mr_plan.proofs.PlanListLaws.{symbols-at, own_count}
use Rattle.mr_eq.specs.Singles.{SinglesOf}
use Rattle.mr_board.specs.declared.board.Board.{Board}
use Rattle.mr_board.specs.Boards.{IsBoardOf}
use Rattle.mr_board.specs.declared.view.PassView.{PassView}
use Rattle.mr_mend.specs.declared.asks.Ask.{Ask}
use Rattle.mr_mend.specs.declared.served.How.{How}
use Rattle.mr_mend.specs.declared.served.How.TheVariants.{Direct, Rebuilt, Degraded}
use Rattle.mr_mend.specs.Mending.{has_recipe}
use Rattle.mr_mend.specs.Readers.{no_singles, singles_at, ask_at, is_lost, near_to, reply_by, near_bytes, bytes_by, IsServedBy, IsLawful, least_bytes, most_bytes, HasLooked}

-- the near reply is that of the singles of the stripe
near-own : (l : Layout) (singles : List SinglesOf) (own : SinglesOf) (image : Image) (ask : Ask) → own ≡ singles_at singles ask.stripe
    → near l (singles_of (every_stripe own.code) (every_stripe (survivors own.code own.lost)) own.budget) image ask.stripe ask.symbol ≡ near_to l singles image ask
unfolding near
near-own l singles own image ask is =
    ap (λ (x : SinglesOf). near l (singles_of (every_stripe x.code) (every_stripe (survivors x.code x.lost)) x.budget) image ask.stripe ask.symbol) is

pub near-reply : (l : Layout) (singles : List SinglesOf) (own : SinglesOf) (ask : Ask) (told : Option (List ℕ)) (bytes : List ℕ) → own ≡ singles_at singles ask.stripe
    → IfSome told (λ file. bytes ≡ near l (singles_of (every_stripe own.code) (every_stripe (survivors own.code own.lost)) own.budget) (image_of l file) ask.stripe ask.symbol)
    → IfSome told (λ file. bytes ≡ near_to l singles (image_of l file) ask)
near-reply l singles own ask None bytes is reply = tt
near-reply l singles own ask (Some file) bytes is reply = reply ∙ near-own l singles own (image_of l file) ask is

-- whatever way a symbol is served, the reply is lawful
pub way-lawful : (l : Layout) (plans : List PlanParts) (singles : List SinglesOf) (image : Image) (ask : Ask) (v w : PassView) (how : How) (bytes : List ℕ) → IsServedBy plans ask v w how
    → bytes ≡ reply_by l plans singles image ask how → IsLawful l plans singles image ask bytes
unfolding mended
way-lawful l plans singles image ask v w Direct bytes way is = inl (is ∙ survives (equation_of (recipes_at plans ask.stripe) ask.symbol) way.0)
  where
    survives : (o : Option ℕ) → is_some o ≡ false → image ask.stripe ask.symbol ≡ rebuilt l.symbol_bytes (stripe_of l image ask.stripe) (image ask.stripe ask.symbol) o
    survives None e = refl
    survives (Some e) none = absurd (cc)
way-lawful l plans singles image ask v w Rebuilt bytes way is = inl is
way-lawful l plans singles image ask v w Degraded bytes way is = inr (way.0, is)

-- and so many bytes are read at least, and at most
pub way-least : (l : Layout) (plans : List PlanParts) (singles : List SinglesOf) (ask : Ask) (v w : PassView) (how : How) → IsServedBy plans ask v w how → least_bytes l plans ask ≤ bytes_by l singles ask how
way-least l plans singles ask v w Direct way = let is : least_bytes l plans ask ≡ l.symbol_bytes = ap (λ b. cond b 0 l.symbol_bytes) way.0 in omega (arith, is)
way-least l plans singles ask v w Rebuilt way = let is : least_bytes l plans ask ≡ 0 = ap (λ b. cond b 0 l.symbol_bytes) way.0 in omega (arith, is)
way-least l plans singles ask v w Degraded way = let is : least_bytes l plans ask ≡ 0 = ap (λ b. cond b 0 l.symbol_bytes) way.0 in omega (arith, is)

pub way-most : (l : Layout) (plans : List PlanParts) (singles : List SinglesOf) (ask : Ask) (v w : PassView) (how : How) → IsServedBy plans ask v w how → bytes_by l singles ask how ≤ most_bytes l plans singles ask
way-most l plans singles ask v w Direct way = let is : most_bytes l plans singles ask ≡ l.symbol_bytes = ap (λ b. cond b (near_bytes l singles ask) l.symbol_bytes) way.0 in omega (arith, is)
way-most l plans singles ask v w Rebuilt way = omega arith
way-most l plans singles ask v w Degraded way = let is : most_bytes l plans singles ask ≡ near_bytes l singles ask = ap (λ b. cond b (near_bytes l singles ask) l.symbol_bytes) way.0 in omega (arith, is)

-- a pass that served only looked
pub way-looked : (plans : List PlanParts) (ask : Ask) (v w : PassView) (how : How) → IsServedBy plans ask v w how → HasLooked v w
way-looked plans ask v w Direct way = subst (λ (z : PassView). HasLooked v z) (sym way.1) record { draws = refl; claimed = refl; gave = refl; parts = refl; left = refl }
way-looked plans ask v w Rebuilt way = subst (λ (z : PassView). HasLooked v z) (sym way.1) record { draws = refl; claimed = refl; gave = refl; parts = refl; left = refl }
way-looked plans ask v w Degraded way = subst (λ (z : PassView). HasLooked v z) (sym way.1) record { draws = refl; claimed = refl; gave = refl; parts = refl; left = refl }

pub either-looked : (plans : List PlanParts) (ask : Ask) (v w : PassView) → IsServedBy plans ask v w Direct ⊎ IsServedBy plans ask v w Degraded → HasLooked v w
either-looked plans ask v w ways = ⊎_elim (way-looked plans ask v w Direct) (way-looked plans ask v w Degraded) ways

-- a stripe whose state was found to be 0 was not seen done
pub not-seen : (s : ℕ) (v : PassView) (found : Bool) → (0 < times s v.seen → found ≡ true) → found ≡ false → times s v.seen ≡ 0
not-seen s v found stays none = ⊎_elim (λ (some : 0 < times s v.seen). absurd (both found (stays some) none)) (λ (zero_times : times s v.seen ≤ 0). omega (arith, zero_times)) (cases_lt 0 (times s v.seen))
  where
    both : (b : Bool) → b ≡ true → b ≡ false → ⊥
    both b e f = cc

-- a symbol has a recipe in its stripe's plan where it has one in the list that was looked through
pub lost-where : (plans : List PlanParts) (plan : PlanParts) (recipes : List Recipe) (ask : Ask) (test b : Bool) → plan ≡ plan_at plans ask.stripe → recipes ≡ plan.recipes → test ≡ has_recipe recipes ask.symbol
    → test ≡ b → is_lost plans ask ≡ b
unfolding recipes_at
lost-where plans plan recipes ask test b own all found is =
    sym (ap (λ rs. has_recipe rs ask.symbol) (all ∙ ap (λ (p : PlanParts). p.recipes) own)) ∙ sym found ∙ is

-- the symbol of a level is the same in each stripe
pub level-symbol : (plans : List PlanParts) (plan : PlanParts) (recipes : List Recipe) (s level symbol : ℕ) → ArePlans plans → plan ≡ plan_at plans s → recipes ≡ plan.recipes
    → slice_index (symbols_of recipes) level ≡ symbol → slice_index (symbols_of (recipes_at plans 0)) level ≡ symbol
unfolding recipes_at
level-symbol plans plan recipes s level symbol are own all is =
    ap (λ xs. slice_index xs level) (symbols-at plans 0 s are ∙ ap symbols_of (sym (all ∙ ap (λ (p : PlanParts). p.recipes) own))) ∙ is

pub level-low : (plans : List PlanParts) (plan : PlanParts) (recipes : List Recipe) (s level : ℕ) → ArePlans plans → plan ≡ plan_at plans s → recipes ≡ plan.recipes → level < length recipes
    → level < length (recipes_at plans 0)
level-low plans plan recipes s level are own all low = omega (arith, own_count plans s plan are own, ap length all, low)

-- what holds anyway holds after a failure
pub on-err : {T E P : Type 0} (r : Result T E) → P → OnErr r P
on-err (Ok x) p = tt
on-err (Err e) p = p

-- the singles at a place are those of the stripe
pub single-at : (singles : List SinglesOf) (s : ℕ) (own : SinglesOf) → 0 < length singles → own ≡ get_or singles (s % length singles) own → own ≡ singles_at singles s
single-at singles s own some is = is ∙ get_or_default singles (s % length singles) own no_singles (mod_below s (length singles) some)

-- what was copied from the board is the symbol of the mended image
pub copied-reply : (b : Board) (l : Layout) (plans : List PlanParts) (told : Option (List ℕ)) (s level symbol : ℕ) (dst : List ℕ) → IsBoardOf b l plans told
    → ((m : Layout) (others : List PlanParts) (bytes : List ℕ) → IsBoardOf b m others (Some bytes) → dst ≡ mended m (recipes_at others) (image_of m bytes) s (slice_index (symbols_of (recipes_at others 0)) level))
    → slice_index (symbols_of (recipes_at plans 0)) level ≡ symbol → IfSome told (λ bytes. dst ≡ mended l (recipes_at plans) (image_of l bytes) s symbol)
copied-reply b l plans None s level symbol dst is copied same = tt
copied-reply b l plans (Some bytes) s level symbol dst is copied same = copied l plans bytes is ∙ ap (mended l (recipes_at plans) (image_of l bytes) s) same

-- the slot has a lawful reply
pub slot-served : (l : Layout) (plans : List PlanParts) (singles : List SinglesOf) (asks : List Ask) (told : Option (List ℕ)) (v w : PassView) (how : How) (ask : Ask) (number : ℕ) (bytes given : List ℕ)
    → ask ≡ ask_at asks number → given ≡ bytes → IsServedBy plans ask v w how → IfSome told (λ file. bytes ≡ reply_by l plans singles (image_of l file) ask how)
    → IfSome told (λ file. IsLawful l plans singles (image_of l file) (ask_at asks number) given)
slot-served l plans singles asks None v w how ask number bytes given at same way reply = tt
slot-served l plans singles asks (Some file) v w how ask number bytes given at same way reply =
    subst (λ (a : Ask). IsLawful l plans singles (image_of l file) a given) at (way-lawful l plans singles (image_of l file) ask v w how given way (same ∙ reply))

-- and what was taken lies within the bounds of its ask
pub slot-least : (l : Layout) (plans : List PlanParts) (singles : List SinglesOf) (asks : List Ask) (v w : PassView) (how : How) (ask : Ask) (number : ℕ) (old new : Sight) → ask ≡ ask_at asks number
    → IsServedBy plans ask v w how → new ≡ sight_with old (bytes_by l singles ask how) → counted old.taken (least_bytes l plans (ask_at asks number)) ≤ new.taken
slot-least l plans singles asks v w how ask number old new at way took =
    let least : least_bytes l plans ask ≤ bytes_by l singles ask how = way-least l plans singles ask v w how way in
    let taken : new.taken ≡ counted old.taken (bytes_by l singles ask how) = ap (λ (s : Sight). s.taken) took in
    let own : least_bytes l plans ask ≡ least_bytes l plans (ask_at asks number) = ap (λ (a : Ask). least_bytes l plans a) at in
    omega (arith, least, taken, own)

pub slot-most : (l : Layout) (plans : List PlanParts) (singles : List SinglesOf) (asks : List Ask) (v w : PassView) (how : How) (ask : Ask) (number : ℕ) (old new : Sight) → ask ≡ ask_at asks number
    → IsServedBy plans ask v w how → new ≡ sight_with old (bytes_by l singles ask how) → new.taken ≤ counted old.taken (most_bytes l plans singles (ask_at asks number))
slot-most l plans singles asks v w how ask number old new at way took =
    let most : bytes_by l singles ask how ≤ most_bytes l plans singles ask = way-most l plans singles ask v w how way in
    let taken : new.taken ≡ counted old.taken (bytes_by l singles ask how) = ap (λ (s : Sight). s.taken) took in
    let own : most_bytes l plans singles ask ≡ most_bytes l plans singles (ask_at asks number) = ap (λ (a : Ask). most_bytes l plans singles a) at in
    omega (arith, most, taken, own)
