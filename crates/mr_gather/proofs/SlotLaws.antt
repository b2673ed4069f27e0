-- Eyes on devices over several reads.
use Rattle.std.proofs.Common.{◌≡◌, ℕ, zero, suc, ◌+◌, ◌*◌, ◌/◌, ◌<◌, ◌≤◌, ⊎_elim, List, get_or, length, set, cond, Some, None, IfSome, refl, sym, ap, add-one, subst, ◌∙◌, arith, zero-mul}
use Rattle.std.specs.Prelude.{◌≢◌, ◌⊎◌, Option, Bool, true, false, eqb, IsSome}
use Rattle.std.proofs.Math.Nat.{add-mul}
use Rattle.std.proofs.lemmas.List.{get_or_default, get_or-set_same, get_or-set_other, length-set}
use Rattle.std.proofs.lemmas.Bool.{eqb-true, eq-eqb}
use Rattle.std.proofs.lemmas.Bool.Decides.{eqb_tells}
use Rattle.mr_model.specs.Sets.{count_below, has}
use Rattle.mr_io.specs.Counts.{Rose}
use Rattle.mr_io.specs.Sights.{Sight, sight_with}
use Rattle.mr_io.proofs.Seeing.{sight_with-none, sight_with-more}
use Rattle.mr_image.specs.Images.{Layout}
use Rattle.mr_image.specs.Sights.{IsSameFile}
use Rattle.mr_gather.specs.Slots.{TookOf, KeepsOf, FailsOf, Took, Keeps, Fails, Tells, AreLong, Holds}

module _ {E : Type 0} (sight : E → Sight) (faults : E → ℕ) where
  took_none_of : (a : Option E) → TookOf sight faults 0 a a
  took_none_of None = tt
  took_none_of (Some e) = (sight_with-none (sight e), refl)

  -- nothing is read
  pub took-none : (slots : List (Option E)) → Took sight faults (λ d. 0) slots slots
  took-none slots = record { same = refl; each = λ d low. took_none_of (get_or slots d None) }

  took_more_of : (m n : ℕ) (a b c : Option E) → TookOf sight faults m a b → TookOf sight faults n b c → TookOf sight faults (m + n) a c
  took_more_of m n (Some a) (Some b) (Some c) h k = (k.0 ∙ (λ j. sight_with (h.0 j) n) ∙ sight_with-more (sight a) m n, k.1 ∙ h.1)
  took_more_of m n None None None h k = tt
  took_more_of m n (Some a) (Some b) None h k = absurd k
  took_more_of m n (Some a) None c h k = absurd h
  took_more_of m n None (Some b) c h k = absurd h
  took_more_of m n None None (Some c) h k = absurd k

  -- two readings, one after the other
  pub took-more : (f g : ℕ → ℕ) (a b c : List (Option E)) → Took sight faults f a b → Took sight faults g b c → Took sight faults (λ d. f d + g d) a c
  took-more f g a b c h k = record {
    same = k.same ∙ h.same;
    each = λ d low. took_more_of (f d) (g d) (get_or a d None) (get_or b d None) (get_or c d None) (h.each d low) (k.each d (omega (arith, low, h.same)));
  }

  -- the counts by another name
  pub took-same : (f g : ℕ → ℕ) (a b : List (Option E)) → ((d : ℕ) → f d ≡ g d) → Took sight faults f a b → Took sight faults g a b
  took-same f g a b e h = record {
    same = h.same;
    each = λ d low. subst (λ n. TookOf sight faults n (get_or a d None) (get_or b d None)) (e d) (h.each d low);
  }

  keeps_none_of : (a : Option E) → KeepsOf sight faults a a
  keeps_none_of None = tt
  keeps_none_of (Some e) = (record { bytes = refl; duty = refl }, omega arith)

  pub keeps-none : (slots : List (Option E)) → Keeps sight faults slots slots
  keeps-none slots = record { same = refl; each = λ d low. keeps_none_of (get_or slots d None) }

  keeps_more_of : (a b c : Option E) → KeepsOf sight faults a b → KeepsOf sight faults b c → KeepsOf sight faults a c
  keeps_more_of (Some a) (Some b) (Some c) h k = (record { bytes = k.0.bytes ∙ h.0.bytes; duty = k.0.duty ∙ h.0.duty }, omega (arith, h.1, k.1))
  keeps_more_of None None None h k = tt
  keeps_more_of (Some a) (Some b) None h k = absurd k
  keeps_more_of (Some a) None c h k = absurd h
  keeps_more_of None (Some b) c h k = absurd h
  keeps_more_of None None (Some c) h k = absurd k

  pub keeps-more : (a b c : List (Option E)) → Keeps sight faults a b → Keeps sight faults b c → Keeps sight faults a c
  keeps-more a b c h k = record {
    same = k.same ∙ h.same;
    each = λ d low. keeps_more_of (get_or a d None) (get_or b d None) (get_or c d None) (h.each d low) (k.each d (omega (arith, low, h.same)));
  }

  keeps_took_of : (n : ℕ) (a b : Option E) → TookOf sight faults n a b → KeepsOf sight faults a b
  keeps_took_of n (Some a) (Some b) h = (record { bytes = λ j. (h.0 j).bytes; duty = λ j. (h.0 j).duty }, omega (arith, h.1))
  keeps_took_of n None None h = tt
  keeps_took_of n (Some a) None h = absurd h
  keeps_took_of n None (Some b) h = absurd h

  -- a reading keeps the eyes
  pub keeps-took : (f : ℕ → ℕ) (a b : List (Option E)) → Took sight faults f a b → Keeps sight faults a b
  keeps-took f a b h = record { same = h.same; each = λ d low. keeps_took_of (f d) (get_or a d None) (get_or b d None) (h.each d low) }

  fails_after_of : (n : ℕ) (a b c : Option E) → TookOf sight faults n a b → FailsOf faults b c → FailsOf faults a c
  fails_after_of n (Some a) (Some b) (Some c) h k = subst (λ m. Rose m (faults c)) h.1 k
  fails_after_of n (Some a) (Some b) None h k = absurd k
  fails_after_of n None None c h k = absurd k
  fails_after_of n None (Some b) c h k = absurd h
  fails_after_of n (Some a) None c h k = absurd h

  -- a call failed after a reading
  pub fails-after : (f : ℕ → ℕ) (a b c : List (Option E)) → Took sight faults f a b → Fails faults b c → Fails faults a c
  fails-after f a b c h k = record {
    device = k.device;
    there = omega (arith, k.there, h.same);
    failed = fails_after_of (f k.device) (get_or a k.device None) (get_or b k.device None) (get_or c k.device None) (h.each k.device (omega (arith, k.there, h.same))) k.failed;
  }

  told_of : (Q : Option (List ℕ) → Type 0) (n : ℕ) (a b : Option E) → TookOf sight faults n a b → IfSome a (λ eye. Q (sight eye).bytes) → IfSome b (λ eye. Q (sight eye).bytes)
  told_of Q n (Some a) (Some b) h x = subst Q (sym (λ j. (h.0 j).bytes)) x
  told_of Q n None None h x = tt
  told_of Q n (Some a) None h x = tt
  told_of Q n None (Some b) h x = absurd h

  -- what is asked of the eyes holds after a reading
  pub long-kept : (end : ℕ) (f : ℕ → ℕ) (a b : List (Option E)) → Took sight faults f a b → AreLong sight end a → AreLong sight end b
  long-kept end f a b h long d low =
      told_of (λ bytes. IfSome bytes (λ file. end ≤ length file)) (f d) (get_or a d None) (get_or b d None) (h.each d (omega (arith, low, h.same))) (long d (omega (arith, low, h.same)))

  pub tells-kept : (devices : ℕ → List ℕ) (f : ℕ → ℕ) (a b : List (Option E)) → Took sight faults f a b → Tells sight devices a → Tells sight devices b
  tells-kept devices f a b h told d low =
      told_of (λ bytes. bytes ≡ Some (devices d)) (f d) (get_or a d None) (get_or b d None) (h.each d (omega (arith, low, h.same))) (told d (omega (arith, low, h.same)))

  took_one_at : (slots : List (Option E)) (k : ℕ) (new : Option E) (n d : ℕ) → d < length slots → TookOf sight faults n (get_or slots k None) new
      → ((eqb k d ≡ true) × (k ≡ d)) ⊎ ((eqb k d ≡ false) × (k ≢ d))
      → TookOf sight faults (cond (eqb k d) n 0) (get_or slots d None) (get_or (set slots k new) d None)
  took_one_at slots k new n d low h tells = ⊎_elim
      (λ same. subst (λ b. TookOf sight faults (cond b n 0) (get_or slots d None) (get_or (set slots k new) d None)) (sym same.0)
      (subst (λ x. TookOf sight faults n (get_or slots x None) (get_or (set slots k new) x None)) same.1
      (subst (λ x. TookOf sight faults n (get_or slots k None) x) (sym (get_or-set_same slots k new None (omega (arith, low, same.1)))) h)))
      (λ other. subst (λ b. TookOf sight faults (cond b n 0) (get_or slots d None) (get_or (set slots k new) d None)) (sym other.0)
      (subst (λ x. TookOf sight faults 0 (get_or slots d None) x) (sym (get_or-set_other slots k d new None (λ e. other.1 (sym e)))) (took_none_of (get_or slots d None))))
      tells

  -- one eye is read
  pub took-one : (slots : List (Option E)) (k : ℕ) (new : Option E) (n : ℕ) → TookOf sight faults n (get_or slots k None) new
      → Took sight faults (λ d. cond (eqb k d) n 0) slots (set slots k new)
  took-one slots k new n h = record {
    same = length-set slots k new;
    each = λ d low. took_one_at slots k new n d low h (eqb_tells k d);
  }

  keeps_one_at : (slots : List (Option E)) (k : ℕ) (new : Option E) (d : ℕ) → d < length slots → KeepsOf sight faults (get_or slots k None) new
      → ((eqb k d ≡ true) × (k ≡ d)) ⊎ ((eqb k d ≡ false) × (k ≢ d))
      → KeepsOf sight faults (get_or slots d None) (get_or (set slots k new) d None)
  keeps_one_at slots k new d low h tells = ⊎_elim
      (λ same. subst (λ x. KeepsOf sight faults (get_or slots x None) (get_or (set slots k new) x None)) same.1
      (subst (λ x. KeepsOf sight faults (get_or slots k None) x) (sym (get_or-set_same slots k new None (omega (arith, low, same.1)))) h))
      (λ other. subst (λ x. KeepsOf sight faults (get_or slots d None) x) (sym (get_or-set_other slots k d new None (λ e. other.1 (sym e)))) (keeps_none_of (get_or slots d None)))
      tells

  keeps_one_low : (slots : List (Option E)) (k : ℕ) (d new : Option E) → KeepsOf sight faults (get_or slots k d) new → k < length slots
      → Keeps sight faults slots (set slots k new)
  keeps_one_low slots k d new h there = record {
    same = length-set slots k new;
    each = λ x low. keeps_one_at slots k new x low (subst (λ slot. KeepsOf sight faults slot new) (get_or_default slots k d None there) h) (eqb_tells k x);
  }

  -- one eye is kept
  pub keeps-one : (slots : List (Option E)) (k : ℕ) (d new : Option E) → k < length slots → KeepsOf sight faults (get_or slots k d) new
      → Keeps sight faults slots (set slots k new)
  keeps-one slots k d new there h = keeps_one_low slots k d new h there

  -- a call of one eye failed
  pub fails-one : (slots : List (Option E)) (k : ℕ) (d new : Option E) → k < length slots → FailsOf faults (get_or slots k d) new
      → Fails faults slots (set slots k new)
  fails-one slots k d new there h = record {
    device = k;
    there = there;
    failed = subst (λ x. FailsOf faults (get_or slots k None) x) (sym (get_or-set_same slots k new None there))
        (subst (λ x. FailsOf faults x new) (get_or_default slots k d None there) h);
  }

-- one number more
pub count-more : (n size : ℕ) (p : ℕ → Bool) → count_below n p * size + cond (p n) size 0 ≡ count_below (n + 1) p * size
unfolding count_below
count-more n size p =
    let more : count_below (n + 1) p ≡ count_below n p + cond (p n) 1 0 = ap (λ k. count_below k p) (add-one n) in
    let parts : cond (p n) size 0 ≡ cond (p n) 1 0 * size = by_test (p n) in
    omega (arith, add-mul (count_below n p) (cond (p n) 1 0) size, ap (λ k. k * size) more, parts)
  where
    by_test : (b : Bool) → cond b size 0 ≡ cond b 1 0 * size
    by_test true = omega arith
    by_test false = omega arith
