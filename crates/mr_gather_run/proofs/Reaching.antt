-- Devices that are looked at one after another.
use Rattle.std.proofs.Common.{arith, ◌≡◌, ◌+◌, ◌<◌, ◌≤◌, ⊎_elim, refl, ℕ, List, Option, None, Some, IfSome, cond, get_or, length, set, sym, subst}
use Rattle.std.specs.Prelude.{Bool, true, false, eqb}
use Rattle.std.specs.Option.{ForSome}
use Rattle.std.proofs.lemmas.List.{get_or_default}
use Rattle.std.proofs.lemmas.Bool.{cases_eq}
use Rattle.mr_io.specs.Sights.{Sight}
use Rattle.mr_gather.specs.Slots.{AreLong, Took, TookOf}
use Rattle.mr_gather.proofs.SlotLaws.{took-more, took-none, took-one, took-same}
use Rattle.mr_gather_run.specs.Slots.{HasShort, IsLong, IsShort}

module _ {E : Type 0} (sight : E → Sight) (faults : E → ℕ) (end : ℕ) where
  long-before : (n : ℕ) (a b : Option E) → TookOf sight faults n a b → IsLong sight end b → IsLong sight end a
  long-before n (Some a) (Some b) h x = subst (λ bytes. IfSome bytes (λ file. end ≤ length file)) (λ j. (h.0 j).bytes) x
  long-before n None b h x = tt
  long-before n (Some a) None h x = absurd h

  short-before : (n : ℕ) (a b : Option E) → TookOf sight faults n a b → IsShort sight end b → IsShort sight end a
  short-before n (Some a) (Some b) h x = subst (λ bytes. ForSome bytes (λ file. length file < end)) (λ j. (h.0 j).bytes) x
  short-before n None None h x = x
  short-before n None (Some b) h x = absurd h
  short-before n (Some a) None h x = absurd h

  -- The first k devices were looked at and are long enough; nothing was taken.
  pub record IsReached (slots now : List (Option E)) (k : ℕ) : Type 0 where
    pub took : Took sight faults (λ _. 0) slots now
    pub long : (d : ℕ) → d < k → d < length slots → IsLong sight end (get_or slots d None)

  pub reach-start : (slots : List (Option E)) → IsReached slots slots 0
  reach-start slots = record { took = took-none sight faults slots; long = λ d below low. absurd (omega (arith, below)) }

  none-more : (k d : ℕ) → ◌≡◌ {A = ℕ} (0 + cond (eqb k d) 0 0) 0
  none-more k d = go (eqb k d)
    where
      go : (b : Bool) → ◌≡◌ {A = ℕ} (0 + cond b 0 0) 0
      go true = refl
      go false = refl

  module _ (slots now : List (Option E)) (k : ℕ) (d new : Option E) (h : IsReached slots now k) (low : k < length now) where
    there : k < length slots
    there = omega (arith, low, h.took.same)

    -- the slot as it was at first
    pub long-first : IsLong sight end (get_or now k d) → IsLong sight end (get_or slots k None)
    long-first x = long-before 0 (get_or slots k None) (get_or now k None) (h.took.each k there) (subst (IsLong sight end) (get_or_default now k d None low) x)

    pub short-first : IsShort sight end (get_or now k d) → HasShort sight end slots
    short-first x = (k, there, short-before 0 (get_or slots k None) (get_or now k None) (h.took.each k there) (subst (IsShort sight end) (get_or_default now k d None low) x))

    -- nothing was taken of it
    pub took-next : TookOf sight faults 0 (get_or now k d) new → Took sight faults (λ _. 0) slots (set now k new)
    took-next x = took-same sight faults (λ e. 0 + cond (eqb k e) 0 0) (λ _. 0) slots (set now k new) (λ e. none-more k e)
        (took-more sight faults (λ _. 0) (λ e. cond (eqb k e) 0 0) slots now (set now k new) h.took
        (took-one sight faults now k new 0 (subst (λ slot. TookOf sight faults 0 slot new) (get_or_default now k d None low) x)))

    -- the next device
    pub reach-turn : TookOf sight faults 0 (get_or now k d) new → IsLong sight end (get_or now k d) → IsReached slots (set now k new) (k + 1)
    reach-turn took long = record {
      took = took-next took;
      long = λ e below there. ⊎_elim (λ here. subst (λ x. IsLong sight end (get_or slots x None)) (sym here) (long-first long))
          (λ apart. h.long e (omega (arith, below, apart)) there) (cases_eq e k);
    }

  pub reach-end : (slots now : List (Option E)) (k : ℕ) → IsReached slots now k → k ≡ length now → AreLong sight end slots
  reach-end slots now k h all d low = h.long d (omega (arith, low, all, h.took.same)) low
