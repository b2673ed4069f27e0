-- The slots of a reader, served one after the other.
use Rattle.std.proofs.Common.{◌≡◌, ◌≢◌, ℕ, suc, ◌+◌, ◌<◌, ◌≤◌, List, [], ◌∷◌, length, get_or, set, take, map, Option, All, sum_by, refl, sym, ap, subst, ◌∙◌, arith, get_or-set_other}
use Rattle.std.proofs.lemmas.List.{take_more, take_all, get_or_default}
use Rattle.std.proofs.lemmas.Grind.{get_or-set_at}
use Rattle.std.proofs.lemmas.List.Sums.{sum_by_push}
use Rattle.std.proofs.Math.ListN.{length-set}
use mathlib.Core.Logic.{dite}
use native.Mathlib.Decide.{ℕ_discrete}
use Rattle.mr_io.specs.Counts.{counted}
use Rattle.mr_image.specs.Images.{Layout}
use Rattle.mr_plan.specs.Plans.{PlanParts}
use Rattle.mr_eq.specs.Singles.{SinglesOf}
use Rattle.mr_board.specs.declared.view.PassView.{PassView}
use Rattle.mr_mend.specs.declared.asks.Ask.{Ask}
use Rattle.mr_mend.specs.declared.served.Slot.{Slot}
use Rattle.mr_mend.specs.Readers.{ask_at, least_bytes, most_bytes, HasLooked, IsSlotFor, IsServed, HasRead}

pub looked-start : (v : PassView) → HasLooked v v
looked-start v = record { draws = refl; claimed = refl; gave = refl; parts = refl; left = refl }

pub looked-turn : (u v w : PassView) → HasLooked u v → HasLooked v w → HasLooked u w
looked-turn u v w a b = record { draws = b.draws ∙ a.draws; claimed = b.claimed ∙ a.claimed; gave = b.gave ∙ a.gave; parts = b.parts ∙ a.parts; left = b.left ∙ a.left }

-- what is at a place of a list after a write
change : (P : ℕ → Slot → Type 0) (now : List Slot) (i : ℕ) (w : Slot) (k : ℕ) (e : Slot) → i < length now → P i w → (k ≢ i → P k (get_or now k e)) → P k (get_or (set now i w) k e)
change P now i w k e lt here other = dite (ℕ_discrete k i)
    (λ same. subst (P k) (sym (get_or-set_at now i k w e same lt)) (subst (λ (j : ℕ). P j w) (sym same) here))
    (λ ne. subst (P k) (sym (get_or-set_other now i k w e ne)) (other ne))

same_numbers : (xs ys : List Slot) → length ys ≡ length xs → ((k : ℕ) (d : Slot) → k < length xs → (get_or ys k d).number ≡ (get_or xs k d).number) → map (λ (s : Slot). s.number) ys ≡ map (λ (s : Slot). s.number) xs
same_numbers [] [] e h = refl
same_numbers [] (y ∷ ys) e h = absurd (omega arith)
same_numbers (x ∷ xs) [] e h = absurd (omega arith)
same_numbers (x ∷ xs) (y ∷ ys) e h = λ i. h 0 x (omega arith) i ∷ same_numbers xs ys (omega arith) (λ k d lt. h (suc k) d (omega arith)) i

module _ (l : Layout) (plans : List PlanParts) (singles : List SinglesOf) (asks : List Ask) (told : Option (List ℕ)) where
  -- the first `done` of the slots are served, and so many bytes were taken before and after
  pub record IsReadTo (start now : List Slot) (done before after : ℕ) : Type 0 where
    pub size : length now ≡ length start
    pub numbers : (k : ℕ) (d : Slot) → k < length start → (get_or now k d).number ≡ (get_or start k d).number
    pub room : All (IsSlotFor l asks) now
    pub served : (k : ℕ) (d : Slot) → k < done → k < length start → IsServed l plans singles asks told (get_or now k d)
    pub least : counted before (sum_by (λ (slot : Slot). least_bytes l plans (ask_at asks slot.number)) (take done start)) ≤ after
    pub most : after ≤ counted before (sum_by (λ (slot : Slot). most_bytes l plans singles (ask_at asks slot.number)) (take done start))

  pub read-start : (slots : List Slot) (before : ℕ) → All (IsSlotFor l asks) slots → IsReadTo slots slots 0 before before
  read-start slots before room = record { size = refl; numbers = λ k d lt. refl; room = room; served = λ k d lt. absurd (omega (arith, lt)); least = omega arith; most = omega arith }

  pub read-turn : (start now : List Slot) (i before after after' : ℕ) (w d : Slot) → IsReadTo start now i before after → i < length now
      → w.number ≡ (get_or now i d).number → IsSlotFor l asks w → IsServed l plans singles asks told w
      → counted after (least_bytes l plans (ask_at asks w.number)) ≤ after' → after' ≤ counted after (most_bytes l plans singles (ask_at asks w.number))
      → IsReadTo start (set now i w) (i + 1) before after'
  read-turn start now i before after after' w d r here number room served least most =
      let size : i < length start = omega (arith, r.size, here) in
      let name : w.number ≡ (get_or start i d).number = number ∙ r.numbers i d size in
      let low : ℕ → ℕ = λ n. least_bytes l plans (ask_at asks n) in
      let high : ℕ → ℕ = λ n. most_bytes l plans singles (ask_at asks n) in
      let more = take_more start i d size in
      record {
        size = length-set now i w ∙ r.size;
        numbers = λ k e lt. change (λ j s. s.number ≡ (get_or start j e).number) now i w k e here (number ∙ ap (λ (s : Slot). s.number) (get_or_default now i d e here) ∙ r.numbers i e size) (λ _. r.numbers k e lt);
        room = λ k e lt. let within : k < length now = omega (arith, length-set now i w, lt) in change (λ _ s. IsSlotFor l asks s) now i w k e here room (λ _. r.room k e within);
        served = λ k e below lt. change (λ _ s. IsServed l plans singles asks told s) now i w k e here served (λ ne. r.served k e (omega (arith, below, ne)) lt);
        least = omega (arith, ap (sum_by (λ (s : Slot). low s.number)) more, sum_by_push (λ (s : Slot). low s.number) (take i start) (get_or start i d), ap low name, r.least, least);
        most = omega (arith, ap (sum_by (λ (s : Slot). high s.number)) more, sum_by_push (λ (s : Slot). high s.number) (take i start) (get_or start i d), ap high name, r.most, most);
      }

  pub read-end : (start now : List Slot) (i before after : ℕ) → IsReadTo start now i before after → length start ≤ i → HasRead l plans singles asks told start now before after
  read-end start now i before after r all =
      let whole = take_all i start all in
      record {
        numbers = same_numbers start now r.size r.numbers;
        room = r.room;
        served = λ k d lt. r.served k d (omega (arith, r.size, lt, all)) (omega (arith, r.size, lt));
        least = omega (arith, r.least, ap (sum_by (λ (s : Slot). least_bytes l plans (ask_at asks s.number))) whole);
        most = omega (arith, r.most, ap (sum_by (λ (s : Slot). most_bytes l plans singles (ask_at asks s.number))) whole);
      }
