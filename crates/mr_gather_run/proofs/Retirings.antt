-- Slots whose eyes are given back one after another.
use Rattle.std.proofs.Common.{arith, ◌≡◌, ◌∙◌, ℕ, ◌+◌, ◌-◌, ◌≤◌, List, [], ◌∷◌, map, length, option_map, refl, sym, ap, subst}
use Rattle.std.specs.Prelude.{Option, None, Some, IfSome, sum_by}
use Rattle.std.proofs.lemmas.List.Sums.{sum_by-append}
use Rattle.mr_io.specs.Counts.{counted}
use Rattle.mr_io.specs.Growth.{added, bytes_of, grown, no_bytes, taken_by}
use Rattle.mr_io.specs.Sights.{Sight}
use Rattle.mr_io.specs.Telling.{Told, told_returning}
use Rattle.mr_io.specs.declared.totals.Totals.{Totals}
use Rattle.mr_io.proofs.Growth.{counted-counted, grown-grown, same_totals}
use Rattle.mr_io.proofs.Returns.{Retiring}
use Rattle.mr_gather_run.specs.Slots.{present}
use Rattle.mr_gather_run.proofs.Present.{present-append, present-length}

returned-more : (o : Option Told) (a b : ℕ) → option_map (told_returning b) (option_map (told_returning a) o) ≡ option_map (told_returning (a + b)) o
returned-more None a b = refl
returned-more (Some told) a b =
    let same : told.lent - a - b ≡ told.lent - (a + b) = omega arith in
    ap Some (λ j. record told { lent = same j })

lent-left : (o : Option Told) (a b : ℕ) → IfSome o (λ told. a + b ≤ told.lent) → IfSome (option_map (told_returning a) o) (λ told. b ≤ told.lent)
lent-left None a b h = tt
lent-left (Some told) a b h = omega (arith, h)

added-none : (t : Totals) → t ≡ added no_bytes t
added-none t = same_totals _ _ _ _ _ _ _ _ _ _ (omega arith) (omega arith) (omega arith) (omega arith) (omega arith)

added-one : (t u : Totals) → added (added t no_bytes) u ≡ added t u
added-one t u = same_totals _ _ _ _ _ _ _ _ _ _ (omega arith) (omega arith) (omega arith) (omega arith) (omega arith)

taken-more : {E : Type 0} (sight : E → Sight) (slot : Option E) (rest : List (Option E))
    → added (taken_by (map sight (present (slot ∷ [])))) (taken_by (map sight (present rest))) ≡ taken_by (map sight (present (slot ∷ rest)))
taken-more sight None rest = sym (added-none (taken_by (map sight (present rest))))
taken-more sight (Some eye) rest = added-one (bytes_of (sight eye).duty (sight eye).taken) (taken_by (map sight (present rest)))

retires-first : {E : Type 0} (sight : E → Sight) (faults : E → ℕ) (old now next : Option Told) (t0 t1 t2 : Totals) (f0 f1 f2 : ℕ)
    (all : List E) (slot : Option E) (rest : List (Option E))
    → Retiring sight faults old now t0 t1 f0 f1 all (present (slot ∷ rest)) (length (present (slot ∷ rest)))
    → next ≡ option_map (told_returning (length (present (slot ∷ [])))) now
    → t2 ≡ grown t1 (taken_by (map sight (present (slot ∷ []))))
    → f2 ≡ counted f1 (sum_by faults (present (slot ∷ [])))
    → Retiring sight faults old next t0 t2 f0 f2 all (present rest) (length (present rest))
retires-first sight faults old now next t0 t1 t2 f0 f1 f2 all slot rest h told totals failures =
    let one = length (present (slot ∷ [])) in
    let left = length (present rest) in
    let count : length (present (slot ∷ rest)) ≡ one + left = present-length (slot ∷ []) rest in
    let faults-sum : sum_by faults (present (slot ∷ [])) + sum_by faults (present rest) ≡ sum_by faults (present (slot ∷ rest)) =
    sym (ap (sum_by faults) (present-append (slot ∷ []) rest) ∙ sum_by-append faults (present (slot ∷ [])) (present rest)) in
    record {
      told = ap (option_map (told_returning left)) told ∙ returned-more now one left ∙ ap (λ n. option_map (told_returning n) now) (sym count) ∙ h.told;
      lent = subst (λ o. IfSome o (λ (told : Told). left ≤ told.lent)) (sym told)
          (lent-left now one left (subst (λ n. IfSome now (λ (told : Told). n ≤ told.lent)) count h.lent));
      totals = ap (λ t. grown t (taken_by (map sight (present rest)))) totals
          ∙ grown-grown t1 (taken_by (map sight (present (slot ∷ [])))) (taken_by (map sight (present rest)))
          ∙ ap (grown t1) (taken-more sight slot rest) ∙ h.totals;
      failures = ap (λ f. counted f (sum_by faults (present rest))) failures
          ∙ counted-counted f1 (sum_by faults (present (slot ∷ []))) (sum_by faults (present rest))
          ∙ ap (counted f1) faults-sum ∙ h.failures;
      sized = refl;
    }

-- the eye of the next slot
pub retires : {E : Type 0} (sight : E → Sight) (faults : E → ℕ) (old now next : Option Told) (t0 t1 t2 : Totals) (f0 f1 f2 : ℕ)
    (all : List E) (slot : Option E) (left rest : List (Option E))
    → Retiring sight faults old now t0 t1 f0 f1 all (present left) (length (present left)) → left ≡ slot ∷ rest
    → next ≡ option_map (told_returning (length (present (slot ∷ [])))) now
    → t2 ≡ grown t1 (taken_by (map sight (present (slot ∷ []))))
    → f2 ≡ counted f1 (sum_by faults (present (slot ∷ [])))
    → Retiring sight faults old next t0 t2 f0 f2 all (present rest) (length (present rest))
retires sight faults old now next t0 t1 t2 f0 f1 f2 all slot left rest h e told totals failures =
    retires-first sight faults old now next t0 t1 t2 f0 f1 f2 all slot rest
    (subst (λ xs. Retiring sight faults old now t0 t1 f0 f1 all (present xs) (length (present xs))) e h) told totals failures
