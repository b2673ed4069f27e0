-- The eyes on the devices after they were read, and what their files know when all are given back.
use Rattle.std.proofs.Common.{arith, ◌≡◌, ◌+◌, ◌<◌, ◌≤◌, ◌∙◌, ℕ, zero, suc, List, [], ◌∷◌, ◌++◌, Option, None, Some, IfSome, get_or, length, map, option_map, take, add-one, refl, sym, ap, subst, sum_by}
use Rattle.std.specs.Prelude.{All}
use Rattle.std.specs.List.{range_with_len}
use Rattle.std.proofs.lemmas.List.{map-append, take_all, take_more}
use Rattle.std.proofs.lemmas.List.Elements.{All-head, All-tail}
use Rattle.std.proofs.lemmas.List.Sums.{sum_by-append, sum_by-cons}
use Rattle.mr_counts.proofs.NumberLaws.{sum_by-one_more}
use Rattle.mr_io.specs.Counts.{Rose, counted}
use Rattle.mr_io.specs.Growth.{added, bytes_of, grown, no_bytes, taken_by}
use Rattle.mr_io.specs.Sights.{Sight, sight_with}
use Rattle.mr_io.specs.Telling.{Told}
use Rattle.mr_io.specs.declared.duty.Duty.TheVariants.{Copy}
use Rattle.mr_io.specs.declared.totals.Totals.{Totals}
use Rattle.mr_io.proofs.Growth.{counted-stopped, grown-grown, grown-none, same_totals}
use Rattle.mr_gather.specs.Slots.{Fails, FailsOf, Keeps, KeepsOf, Took, TookOf}
use Rattle.mr_gather_run.specs.Slots.{fresh_on, fresh_slots, present}
use Rattle.mr_gather_run.proofs.Present.{present-append, present-length}
use Rattle.mr_gather_run.proofs.Sights.{fresh-at}

-- ---- one slot of many

pub present-at : {X : Type 0} (P : X → Type 0) (xs : List (Option X)) (d : ℕ) → All P (present xs) → IfSome (get_or xs d None) P
present-at P [] d h = tt
present-at P (None ∷ xs) zero h = tt
present-at P (None ∷ xs) (suc d) h = present-at P xs d h
present-at P (Some x ∷ xs) zero h = All-head P x (present xs) h
present-at P (Some x ∷ xs) (suc d) h = present-at P xs d (All-tail P x (present xs) h)

pub one-of-sum : {X : Type 0} (f : X → ℕ) (xs : List (Option X)) (d : ℕ) (y : X) → get_or xs d None ≡ Some y → f y ≤ sum_by f (present xs)
one-of-sum {X} f [] d y e = let clash : ◌≡◌ {A = Option X} None (Some y) = e in cc
one-of-sum {X} f (None ∷ xs) zero y e = let clash : ◌≡◌ {A = Option X} None (Some y) = e in cc
one-of-sum f (None ∷ xs) (suc d) y e = one-of-sum f xs d y e
one-of-sum f (Some x ∷ xs) zero y e = let same : x ≡ y = cc in omega (arith, sum_by-cons f x (present xs), ap f same)
one-of-sum f (Some x ∷ xs) (suc d) y e = let rest = one-of-sum f xs d y e in omega (arith, sum_by-cons f x (present xs), rest)

-- the first k + 1 are the first k and one more
front-more : {X : Type 0} (xs : List (Option X)) (k : ℕ) → k < length xs → present (take (k + 1) xs) ≡ present (take k xs) ++ present (get_or xs k None ∷ [])
front-more xs k low = ap present (take_more xs k None low) ∙ present-append (take k xs) (get_or xs k None ∷ [])

all-front : {X : Type 0} (xs : List (Option X)) → present (take (length xs) xs) ≡ present xs
all-front xs = ap present (take_all (length xs) xs (omega arith))

module _ {E : Type 0} (sight : E → Sight) (faults : E → ℕ) (a b : List (Option E)) where
  -- ---- as many eyes are there as before

  same-one : (x y : Option E) → KeepsOf sight faults x y → length (present (y ∷ [])) ≡ length (present (x ∷ []))
  same-one (Some x) (Some y) h = refl
  same-one None None h = refl
  same-one (Some x) None h = absurd h
  same-one None (Some y) h = absurd h

  same-front : Keeps sight faults a b → (k : ℕ) → k ≤ length a → length (present (take k b)) ≡ length (present (take k a))
  same-front h zero low = refl
  same-front h (suc k) low =
      let there : k < length b = omega (arith, low, h.same) in
      let here : k < length a = omega (arith, low) in
      ap (λ n. length (present (take n b))) (sym (add-one k)) ∙ ap length (front-more b k there) ∙ counts (take k b) (get_or b k None)
      ∙ omega (arith, same-front h k (omega (arith, low)), same-one (get_or a k None) (get_or b k None) (h.each k here))
      ∙ sym (ap (λ n. length (present (take n a))) (sym (add-one k)) ∙ ap length (front-more a k here) ∙ counts (take k a) (get_or a k None))
    where
      counts : (xs : List (Option E)) (x : Option E) → length (present xs ++ present (x ∷ [])) ≡ length (present xs) + length (present (x ∷ []))
      counts xs x = ap length (sym (present-append xs (x ∷ []))) ∙ present-length xs (x ∷ [])

  pub same-present : Keeps sight faults a b → length (present b) ≡ length (present a)
  same-present h = sym (ap length (all-front b)) ∙ ap (λ n. length (present (take n b))) h.same ∙ same-front h (length a) (omega arith) ∙ ap length (all-front a)

  -- ---- no call failed

  quiet-one : (n : ℕ) (x y : Option E) → TookOf sight faults n x y → IfSome x (λ eye. faults eye ≡ 0) → sum_by faults (present (y ∷ [])) ≡ 0
  quiet-one n (Some x) (Some y) h none = omega (arith, sum_by-cons faults y [], h.1, none)
  quiet-one n None None h none = refl
  quiet-one n (Some x) None h none = absurd h
  quiet-one n None (Some y) h none = absurd h

  quiet-front : (count : ℕ → ℕ) → Took sight faults count a b → All (λ eye. faults eye ≡ 0) (present a) → (k : ℕ) → k ≤ length a → sum_by faults (present (take k b)) ≡ 0
  quiet-front count h none zero low = refl
  quiet-front count h none (suc k) low =
      let there : k < length b = omega (arith, low, h.same) in
      let one = quiet-one (count k) (get_or a k None) (get_or b k None) (h.each k (omega (arith, low))) (present-at (λ eye. faults eye ≡ 0) a k none) in
      ap (λ n. sum_by faults (present (take n b))) (sym (add-one k)) ∙ ap (sum_by faults) (front-more b k there)
      ∙ sum_by-append faults (present (take k b)) (present (get_or b k None ∷ [])) ∙ omega (arith, one, quiet-front count h none k (omega (arith, low)))

  pub quiet-all : (count : ℕ → ℕ) → Took sight faults count a b → All (λ eye. faults eye ≡ 0) (present a) → sum_by faults (present b) ≡ 0
  quiet-all count h none = sym (ap (sum_by faults) (all-front b)) ∙ ap (λ n. sum_by faults (present (take n b))) h.same ∙ quiet-front count h none (length a) (omega arith)

  -- ---- a call failed

  rose-one : (before : ℕ) (x y : Option E) → get_or b before None ≡ y → FailsOf faults x y → 1 ≤ sum_by faults (present b)
  rose-one d (Some x) (Some y) e h = let most = one-of-sum faults b d y e in omega (arith, most, h)
  rose-one d (Some x) None e h = absurd h
  rose-one d None y e h = absurd h

  pub rose-all : Fails faults a b → (before now : ℕ) → now ≡ counted before (sum_by faults (present b)) → Rose before now
  rose-all h before now e =
      let some = rose-one h.device (get_or a h.device None) (get_or b h.device None) refl h.failed in
      subst (Rose before) (sym e) (omega (arith, some))

  -- ---- what was read

  module _ (told : Option Told) (devices : List (Option (List ℕ))) (fresh : map (option_map sight) a ≡ fresh_slots told devices) (t : Totals) where
    one-copy : (m n : ℕ) → added (bytes_of Copy m) (bytes_of Copy n) ≡ bytes_of Copy (m + n)
    one-copy m n = same_totals _ _ _ _ _ _ _ _ _ _ (omega arith) (omega arith) (omega arith) (omega arith) (omega arith)

    alone : (n : ℕ) → added (bytes_of Copy n) no_bytes ≡ bytes_of Copy n
    alone n = same_totals _ _ _ _ _ _ _ _ _ _ (omega arith) (omega arith) (omega arith) (omega arith) (omega arith)

    stopped : (u : Totals) (n : ℕ) → grown u (bytes_of Copy (counted 0 n)) ≡ grown u (bytes_of Copy n)
    stopped u n = same_totals _ _ _ _ _ _ _ _ _ _ (omega arith) (omega arith) (omega arith) (omega arith) (counted-stopped u.copy n)

    -- a device that is not there must not be read
    one-taken : (u : Totals) (n : ℕ) (x y : Option E) (device : Option (List ℕ)) → option_map sight x ≡ option_map (fresh_on told) device → TookOf sight faults n x y
        → (device ≡ None → n ≡ 0) → grown u (taken_by (map sight (present (y ∷ [])))) ≡ grown u (bytes_of Copy n)
    one-taken u n (Some x) (Some y) (Some name) e h none =
        let lent : sight x ≡ fresh_on told name = cc in
        ap (λ s. grown u (added (bytes_of s.duty s.taken) no_bytes)) (h.0 ∙ ap (λ s. sight_with s n) lent)
        ∙ ap (grown u) (alone (counted 0 n)) ∙ stopped u n
    one-taken u n None None device e h none = ap (λ k. grown u (bytes_of Copy k)) (sym (none (absent device e)))
      where
        absent : (device : Option (List ℕ)) → ◌≡◌ {A = Option Sight} None (option_map (fresh_on told) device) → device ≡ None
        absent None e = refl
        absent (Some name) e = let clash : ◌≡◌ {A = Option Sight} None (Some (fresh_on told name)) = e in cc
    one-taken u n (Some x) y None e h none = let clash : ◌≡◌ {A = Option Sight} (Some (sight x)) None = e in cc
    one-taken u n (Some x) None (Some name) e h none = absurd h
    one-taken u n None (Some y) device e h none = absurd h

    appended : (xs ys : List Sight) (u : Totals) → grown u (taken_by (xs ++ ys)) ≡ grown (grown u (taken_by xs)) (taken_by ys)
    appended [] ys u = ap (λ v. grown v (taken_by ys)) (grown-none u)
    appended (x ∷ xs) ys u =
        sym (grown-grown u (bytes_of x.duty x.taken) (taken_by (xs ++ ys))) ∙ appended xs ys (grown u (bytes_of x.duty x.taken))
        ∙ ap (λ v. grown v (taken_by ys)) (grown-grown u (bytes_of x.duty x.taken) (taken_by xs))

    taken-front : (count : ℕ → ℕ) → Took sight faults count a b → ((d : ℕ) → get_or devices d None ≡ None → count d ≡ 0)
        → (k : ℕ) → k ≤ length a → grown t (taken_by (map sight (present (take k b)))) ≡ grown t (bytes_of Copy (sum_by count (range_with_len 0 k)))
    taken-front count h none zero low = refl
    taken-front count h none (suc k) low =
        let there : k < length b = omega (arith, low, h.same) in
        let before = bytes_of Copy (sum_by count (range_with_len 0 k)) in
        ap (λ n. grown t (taken_by (map sight (present (take n b))))) (sym (add-one k))
        ∙ ap (λ xs. grown t (taken_by (map sight xs))) (front-more b k there)
        ∙ ap (λ xs. grown t (taken_by xs)) (map-append sight (present (take k b)) (present (get_or b k None ∷ [])))
        ∙ appended (map sight (present (take k b))) (map sight (present (get_or b k None ∷ []))) t
        ∙ ap (λ v. grown v (taken_by (map sight (present (get_or b k None ∷ []))))) (taken-front count h none k (omega (arith, low)))
        ∙ one-taken (grown t before) (count k) (get_or a k None) (get_or b k None) (get_or devices k None) (fresh-at sight told devices a fresh k) (h.each k (omega (arith, low))) (none k)
        ∙ grown-grown t before (bytes_of Copy (count k)) ∙ ap (grown t) (one-copy (sum_by count (range_with_len 0 k)) (count k))
        ∙ ap (λ n. grown t (bytes_of Copy n)) (sym (sum_by-one_more count k))

    pub taken-all : (count : ℕ → ℕ) → Took sight faults count a b → ((d : ℕ) → get_or devices d None ≡ None → count d ≡ 0)
        → grown t (taken_by (map sight (present b))) ≡ grown t (bytes_of Copy (sum_by count (range_with_len 0 (length a))))
    taken-all count h none =
        sym (ap (λ xs. grown t (taken_by (map sight xs))) (all-front b)) ∙ ap (λ n. grown t (taken_by (map sight (present (take n b))))) h.same
        ∙ taken-front count h none (length a) (omega arith)
