-- The slots of every so many of the asks.
use Rattle.std.proofs.Common.{◌≡◌, ℕ, zero, suc, ◌+◌, ◌*◌, ◌<◌, ◌≤◌, ⊎_elim, List, [], ◌∷◌, ◌++◌, length, get_or, map, refl, sym, ap, subst, ◌∙◌, arith, length-append, mul-le-mul_right, All, vec_len}
use Rattle.std.specs.List.{Any, range_with_len}
use Rattle.std.proofs.lemmas.List.{map-append, length-map}
use Rattle.std.proofs.lemmas.List.Elements.{All-push}
use Rattle.std.proofs.lemmas.List.FromFn.{map-range_with_len_more, get_or-map-range_with_len}
use Rattle.std.proofs.lemmas.Bool.{cases_lt}
use Rattle.mr_mend.specs.declared.served.Slot.{Slot}
use Rattle.mr_mend.specs.Workers.{AreStrided}

module _ (first step : ℕ) where
  one_more : (slots : List Slot) (s : Slot) → map (λ (s : Slot). s.number) slots ≡ map (λ k. first + k * step) (range_with_len 0 (length slots)) → s.number ≡ first + length slots * step
      → map (λ (s : Slot). s.number) (slots ++ s ∷ []) ≡ map (λ k. first + k * step) (range_with_len 0 (length (slots ++ s ∷ [])))
  one_more slots s are number =
      let more = map-range_with_len_more (λ k. first + k * step) 0 (length slots) (length slots) (omega arith) in
      map-append (λ (s : Slot). s.number) slots (s ∷ []) ∙ (λ i. are i ++ number i ∷ []) ∙ sym more ∙ ap (λ n. map (λ k. first + k * step) (range_with_len 0 n)) (sym (length-append slots (s ∷ [])))

  -- each number below n that is first, first + step and so on is one of them
  pub strided-has : (n k : ℕ) (numbers : List ℕ) → AreStrided first step n numbers → first + k * step < n → Any (λ x. x ≡ first + k * step) numbers
  strided-has n k numbers s lt = ⊎_elim
      (λ (within : k < length numbers).
      let x : ℕ = first + k * step in
      let here : get_or numbers k x ≡ x = ap (λ xs. get_or xs k x) s.are ∙ get_or-map-range_with_len (λ k. first + k * step) 0 (length numbers) k k x within (omega arith) in
      (k, x, within, here, refl))
      (λ past. absurd (let most = mul-le-mul_right step past in omega (arith, most, s.all))) (cases_lt k (length numbers))

-- what holds of the numbers of the slots holds of the list of them
numbers-below : {asks : ℕ} (slots : List Slot) → All (λ (s : Slot). s.number < asks) slots → All (λ (n : ℕ). n < asks) (map (λ (s : Slot). s.number) slots)
numbers-below [] h k d low = absurd (omega (arith, low))
numbers-below (s ∷ slots) h zero d low = h 0 s (omega arith)
numbers-below (s ∷ slots) h (suc k) d low = numbers-below slots (λ j e less. h (suc j) e (omega (arith, less))) k d (omega (arith, low))

-- the slots up to a number
pub record AreSlots (first step asks size : ℕ) (slots : List Slot) (number : ℕ) : Type 0 where
  pub next : number ≡ first + length slots * step
  pub are : map (λ (s : Slot). s.number) slots ≡ map (λ k. first + k * step) (range_with_len 0 (length slots))
  pub below : All (λ (s : Slot). s.number < asks) slots
  pub room : All (λ (s : Slot). vec_len s.bytes ≡ size) slots

module _ (first step asks size : ℕ) where
  pub slots-more : (slots : List Slot) (s : Slot) (number number' : ℕ) → AreSlots first step asks size slots number → number < asks → s.number ≡ number → vec_len s.bytes ≡ size → number' ≡ number + step
      → AreSlots first step asks size (slots ++ s ∷ []) number'
  slots-more slots s number number' h lt is room next =
      let longer : length (slots ++ s ∷ []) ≡ length slots + 1 = length-append slots (s ∷ []) in
      record {
        next = subst (λ (n : ℕ). number' ≡ first + n * step) (sym longer) (omega (arith, h.next, next));
        are = one_more first step slots s h.are (is ∙ h.next);
        below = All-push (λ (s : Slot). s.number < asks) slots s h.below (omega (arith, is, lt));
        room = All-push (λ (s : Slot). vec_len s.bytes ≡ size) slots s h.room room;
      }

  pub slots-end : (slots : List Slot) (number : ℕ) → AreSlots first step asks size slots number → asks ≤ number → AreStrided first step asks (map (λ (s : Slot). s.number) slots)
  slots-end slots number h past =
      let same = length-map slots (λ (s : Slot). s.number) in
      record {
        are = h.are ∙ ap (λ n. map (λ k. first + k * step) (range_with_len 0 n)) (sym same);
        below = numbers-below slots h.below;
        all = subst (λ (n : ℕ). asks ≤ first + n * step) (sym same) (omega (arith, h.next, past));
      }

-- the slot of a number that is in the list of them
pub slot-of : (slots : List Slot) (n k x : ℕ) → k < length (map (λ (s : Slot). s.number) slots) → get_or (map (λ (s : Slot). s.number) slots) k x ≡ x → x ≡ n → Any (λ (s : Slot). s.number ≡ n) slots
slot-of [] n k x low at is = absurd (omega (arith, low))
slot-of (s ∷ slots) n zero x low at is = (0, s, omega arith, refl, at ∙ is)
slot-of (s ∷ slots) n (suc k) x low at is =
    let r = slot-of slots n k x (omega (arith, low)) at is in
    (suc r.0, r.1, omega (arith, r.2), r.3, r.4)
