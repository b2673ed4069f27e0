-- What the eyes on device files see as they are lent.
use Rattle.std.proofs.Common.{arith, ◌≡◌, ◌<◌, ◌≤◌, ◌/◌, ◌∙◌, ℕ, true, false, List, Option, None, Some, IfSome, get_or, length, map, nat_le, option_map, refl, sym, ap, subst}
use Rattle.std.specs.Prelude.{IsSome}
use Rattle.std.specs.List.{list_all}
use Rattle.std.proofs.Math.ListN.{get_or-map}
use Rattle.std.proofs.lemmas.List.{length-map}
use Rattle.std.proofs.lemmas.List.Elements.{All-from_get_or}
use Rattle.std.proofs.lemmas.List.Folds.{list_all_at}
use Rattle.std.proofs.lemmas.List.Sums.{list_all-from_AllPass}
use Rattle.std.proofs.lemmas.Bool.Decides.{nat_tests}
use Rattle.mr_io.specs.Sights.{Sight}
use Rattle.mr_io.specs.Telling.{Told}
use Rattle.mr_gather.specs.Slots.{AreLong, Holds, Tells}
use Rattle.mr_gather_run.specs.Slots.{HasShort, IsLong, IsShort, fresh_on, fresh_slots}
use Rattle.mr_gather_run.specs.Tasks.{CanGather, Task, bytes_in, device_bytes, is_long}

le-true : (m n : ℕ) → m ≤ n → nat_le m n ≡ true
le-true m n h = grind (arith, nat_tests)

lt-false : (m n : ℕ) → n < m → nat_le m n ≡ false
lt-false m n h = grind (arith, nat_tests)

module _ {E : Type 0} (sight : E → Sight) (told : Option Told) (devices : List (Option (List ℕ))) (slots : List (Option E))
    (fresh : map (option_map sight) slots ≡ fresh_slots told devices) where
  pub fresh-at : (d : ℕ) → option_map sight (get_or slots d None) ≡ option_map (fresh_on told) (get_or devices d None)
  fresh-at d = sym (get_or-map (option_map sight) slots d None) ∙ ap (λ xs. get_or xs d None) fresh ∙ get_or-map (option_map (fresh_on told)) devices d None

  some-as : (a : Option E) (b : Option (List ℕ)) → option_map sight a ≡ option_map (fresh_on told) b → IsSome b → IsSome a
  some-as (Some eye) b e h = refl
  some-as None (Some name) e h = let clash : ◌≡◌ {A = Option Sight} None (Some (fresh_on told name)) = e in cc
  some-as None None e h = h

  -- the devices of the members are there
  pub holds : (task : Task) → CanGather devices task → Holds task.layout task.set slots
  holds task h i is = some-as (get_or slots (i / task.layout.symbols_per_device) None) (get_or devices (i / task.layout.symbols_per_device) None)
      (fresh-at (i / task.layout.symbols_per_device)) (h.held i is)

  pub same-count : length slots ≡ length devices
  same-count = sym (length-map slots (option_map sight)) ∙ ap length fresh ∙ length-map devices (option_map (fresh_on told))

-- where the files tell
module _ {E : Type 0} (sight : E → Sight) (told : Told) (devices : List (Option (List ℕ))) (slots : List (Option E))
    (fresh : map (option_map sight) slots ≡ fresh_slots (Some told) devices) (end : ℕ) where
  seen : (eye : E) (name : List ℕ) → ◌≡◌ {A = Option Sight} (Some (sight eye)) (Some (fresh_on (Some told) name)) → (sight eye).bytes ≡ Some (told.contents name)
  seen eye name e = let same : sight eye ≡ fresh_on (Some told) name = cc in ap (λ s. s.bytes) same

  tells-one : (a : Option E) (b : Option (List ℕ)) → option_map sight a ≡ option_map (fresh_on (Some told)) b
      → IfSome a (λ eye. (sight eye).bytes ≡ Some (bytes_in told.contents b))
  tells-one None b e = tt
  tells-one (Some eye) (Some name) e = seen eye name e
  tells-one (Some eye) None e = let clash : ◌≡◌ {A = Option Sight} (Some (sight eye)) None = e in cc

  -- the devices have their bytes
  pub tells : Tells sight (device_bytes told.contents devices) slots
  tells d low = tells-one (get_or slots d None) (get_or devices d None) (fresh-at sight (Some told) devices slots fresh d)

  long-one : (a : Option E) (b : Option (List ℕ)) → option_map sight a ≡ option_map (fresh_on (Some told)) b → IsLong sight end a → is_long told.contents end b ≡ true
  long-one a None e h = refl
  long-one (Some eye) (Some name) e h =
      le-true end (length (told.contents name)) (subst (λ o. IfSome o (λ (bytes : List ℕ). end ≤ length bytes)) (seen eye name e) h)
  long-one None (Some name) e h = let clash : ◌≡◌ {A = Option Sight} None (Some (fresh_on (Some told) name)) = e in cc

  -- and each reaches to the end
  pub all-long : AreLong sight end slots → list_all (is_long told.contents end) devices ≡ true
  all-long h = list_all-from_AllPass (is_long told.contents end) devices (All-from_get_or (λ b. is_long told.contents end b ≡ true) devices None (λ d low.
      long-one (get_or slots d None) (get_or devices d None) (fresh-at sight (Some told) devices slots fresh d)
      (h d (omega (arith, low, same-count sight (Some told) devices slots fresh)))))

  short-one : (a : Option E) (b : Option (List ℕ)) → option_map sight a ≡ option_map (fresh_on (Some told)) b → IsShort sight end a → is_long told.contents end b ≡ false
  short-one (Some eye) (Some name) e h = lt-false end (length (told.contents name)) (h (told.contents name) (seen eye name e))
  short-one (Some eye) None e h = let clash : ◌≡◌ {A = Option Sight} (Some (sight eye)) None = e in cc
  short-one None b e h = absurd h

  -- or one does not
  pub one-short : HasShort sight end slots → list_all (is_long told.contents end) devices ≡ false
  one-short (d, low, h) = list_all_at (is_long told.contents end) devices d None (omega (arith, low, same-count sight (Some told) devices slots fresh))
      (short-one (get_or slots d None) (get_or devices d None) (fresh-at sight (Some told) devices slots fresh d) h)
