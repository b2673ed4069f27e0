-- Eyes that are asked for one after another.
use Rattle.std.proofs.Common.{arith, ◌≡◌, ℕ, ◌+◌, ◌-◌, ◌<◌, ◌≤◌, ◌⊎◌, inl, inr, List, [], ◌∷◌, ◌++◌, map, length, take, get_or, option_map, refl, sym, ◌∙◌, ap, subst, append_assoc}
use Rattle.std.proofs.lemmas.List.{length-map, length_push, map-append, take_all, take_more, take-map}
use Rattle.std.proofs.lemmas.List.Elements.{All-push, All-head, All-tail}
use Rattle.std.proofs.lemmas.List.Sums.{sum_by-cons}
use Rattle.std.specs.Prelude.{Option, None, Some, Result, Ok, Err, OnErr, IfSome, All, sum_by}
use Rattle.std.specs.Option.{ForSome}
use Rattle.mr_io.specs.Sights.{Sight, fresh_sight}
use Rattle.mr_io.specs.Telling.{AsksFront, LendsFront, Told, told_asking, told_giving, told_lending, told_returning}
use Rattle.mr_io.specs.declared.asked.Asked.{Asked}
use Rattle.mr_io.specs.declared.duty.Duty.{Duty}
use Rattle.mr_io.specs.declared.duty.Duty.TheVariants.{Text, Head, Mend, Live, Copy}
use Rattle.mr_io.specs.declared.errors.FilesError.{FilesError}
use Rattle.mr_io.specs.declared.errors.FilesError.TheVariants.{Failed, Memory}
use Rattle.mr_io.specs.declared.totals.Totals.{Totals}
use Rattle.mr_io.specs.Growth.{added, bytes_of, grown, no_bytes, taken_by}
use Rattle.mr_io.proofs.Asking.{asks_nothing}
use Rattle.mr_io.proofs.Growth.{grown-none}
use Rattle.mr_ready.specs.Duties.{eyes_on}

-- What the files and the eyes are in the midst, where so many eyes were lent.
pub record Lending {E : Type 0} (sight : E → Sight) (faults : E → ℕ) (name : List ℕ) (old now : Option Told) (t0 t1 : Totals) (f0 f1 : ℕ) (duties : List Duty) (n : ℕ) (eyes : List E) : Type 0 where
  pub told : now ≡ option_map (told_lending (eyes_on name (take n duties)) n) old
  pub sights : map sight eyes ≡ map (fresh_sight (option_map (λ told. told.contents name) old)) (take n duties)
  pub no_faults : All (λ eye. faults eye ≡ 0) eyes
  pub count : length eyes ≡ n
  pub totals : t1 ≡ t0
  pub quiet : f1 ≡ f0

told-same : (told : Told) (m n : ℕ) (xs ys : List Asked) → xs ≡ ys → m ≡ n → ◌≡◌ {A = Told} (record told { asked = xs; lent = m }) (record told { asked = ys; lent = n })
told-same told m n xs ys e k = λ j. record told { asked = e j; lent = k j }

abbrev eye-of : List ℕ → Duty → Asked
eye-of name duty = record { name = name; duty = duty }

given-next : (told : Told) (eyes : List Asked) (n : ℕ) (name : List ℕ) (duty : Duty)
    → told_giving name duty (told_lending eyes n told) ≡ told_lending (eyes ++ record { name = name; duty = duty } ∷ []) (n + 1) told
given-next told eyes n name duty =
    told-same told (told.lent + n + 1) (told.lent + (n + 1)) _ _ (append_assoc told.asked eyes (record { name = name; duty = duty } ∷ [])) (omega arith)

-- the duties up to the next
taken-next : (duties : List Duty) (n : ℕ) (duty : Duty) → n < length duties → duty ≡ get_or duties n duty → take (n + 1) duties ≡ take n duties ++ duty ∷ []
taken-next duties n duty low is = take_more duties n duty low ∙ ap (λ (d : Duty). take n duties ++ d ∷ []) (sym is)

eyes-next : (name : List ℕ) (duties : List Duty) (n : ℕ) (duty : Duty) → n < length duties → duty ≡ get_or duties n duty
    → eyes_on name (take (n + 1) duties) ≡ eyes_on name (take n duties) ++ record { name = name; duty = duty } ∷ []
eyes-next name duties n duty low is =
    ap (eyes_on name) (taken-next duties n duty low is) ∙ map-append (λ duty. record { name = name; duty = duty }) (take n duties) (duty ∷ [])

told-next : (old now next : Option Told) (eyes : List Asked) (n : ℕ) (name : List ℕ) (duty : Duty)
    → now ≡ option_map (told_lending eyes n) old → next ≡ option_map (told_giving name duty) now
    → next ≡ option_map (told_lending (eyes ++ record { name = name; duty = duty } ∷ []) (n + 1)) old
told-next None now next eyes n name duty e g = g ∙ ap (option_map (told_giving name duty)) e
told-next (Some told) now next eyes n name duty e g = g ∙ ap (option_map (told_giving name duty)) e ∙ ap Some (given-next told eyes n name duty)

contents-same : (old now : Option Told) (eyes : List Asked) (n : ℕ) (name : List ℕ) → now ≡ option_map (told_lending eyes n) old
    → option_map (λ told. told.contents name) now ≡ option_map (λ told. told.contents name) old
contents-same None now eyes n name e = ap (option_map (λ told. told.contents name)) e
contents-same (Some told) now eyes n name e = ap (option_map (λ told. told.contents name)) e

-- the next eye
pub lends : {E : Type 0} (sight : E → Sight) (faults : E → ℕ) (name : List ℕ) (old now next : Option Told) (t0 t1 t2 : Totals) (f0 f1 f2 : ℕ) (duties : List Duty) (n : ℕ) (duty : Duty) (eyes more : List E) (eye : E)
    → Lending sight faults name old now t0 t1 f0 f1 duties n eyes → n < length duties → duty ≡ get_or duties n duty
    → next ≡ option_map (told_giving name duty) now
    → sight eye ≡ fresh_sight (option_map (λ told. told.contents name) now) duty → faults eye ≡ 0
    → t2 ≡ t1 → f2 ≡ f1 → more ≡ eyes ++ eye ∷ []
    → Lending sight faults name old next t0 t2 f0 f2 duties (n + 1) more
lends sight faults name old now next t0 t1 t2 f0 f1 f2 duties n duty eyes more eye h low is told fresh none totals quiet pushed =
    let bytes = option_map (λ (told : Told). told.contents name) old in
    subst (λ xs. Lending sight faults name old next t0 t2 f0 f2 duties (n + 1) xs) (sym pushed) (record {
      told = told-next old now next (eyes_on name (take n duties)) n name duty h.told told
          ∙ ap (λ xs. option_map (told_lending xs (n + 1)) old) (sym (eyes-next name duties n duty low is));
      sights = map-append sight eyes (eye ∷ [])
          ∙ ap (λ s. map sight eyes ++ s ∷ []) (fresh ∙ ap (λ o. fresh_sight o duty) (contents-same old now (eyes_on name (take n duties)) n name h.told))
          ∙ ap (λ xs. xs ++ fresh_sight bytes duty ∷ []) h.sights
          ∙ sym (map-append (fresh_sight bytes) (take n duties) (duty ∷ []))
          ∙ ap (map (fresh_sight bytes)) (sym (taken-next duties n duty low is));
      no_faults = All-push (λ eye. faults eye ≡ 0) eyes eye h.no_faults none;
      count = length_push eyes eye ∙ ap (λ k. k + 1) h.count;
      totals = totals ∙ h.totals;
      quiet = quiet ∙ h.quiet;
    })

-- ---- a refusal

eyes-front : (name : List ℕ) (duties : List Duty) (n : ℕ) → eyes_on name (take n duties) ≡ take n (eyes_on name duties)
eyes-front name duties n = sym (take-map (λ (duty : Duty). eye-of name duty) n duties)

asked-next : (told : Told) (eyes : List Asked) (n : ℕ) (more : List Asked) → told_asking more (told_lending eyes n told) ≡ told_lending (eyes ++ more) n told
asked-next told eyes n more = told-same told (told.lent + n) (told.lent + n) _ _ (append_assoc told.asked eyes more) refl

module _ {E : Type 0} (sight : E → Sight) (faults : E → ℕ) (name : List ℕ) (old now new : Option Told) (t0 t1 : Totals) (f0 f1 : ℕ) (duties : List Duty) (n : ℕ) (duty : Duty) (eyes : List E)
    (h : Lending sight faults name old now t0 t1 f0 f1 duties n eyes) (low : n < length duties) (is : duty ≡ get_or duties n duty) where
  long : length (eyes_on name duties) ≡ length duties
  long = length-map duties (λ (duty : Duty). eye-of name duty)

  -- the eye was not written down
  refused-unasked : new ≡ now → ForSome old (λ told. LendsFront told new (eyes_on name duties) (length eyes))
  refused-unasked e told there = subst (LendsFront told new (eyes_on name duties)) (sym h.count) (record {
    count = n;
    within = omega (arith, low, long);
    asked = e ∙ h.told ∙ ap (option_map (told_lending (eyes_on name (take n duties)) n)) there
        ∙ ap (λ xs. Some (told_lending xs n told)) (eyes-front name duties n);
  })

  -- it was
  refused-asked : new ≡ option_map (told_asking (record { name = name; duty = duty } ∷ [])) now → ForSome old (λ told. LendsFront told new (eyes_on name duties) (length eyes))
  refused-asked e told there = subst (LendsFront told new (eyes_on name duties)) (sym h.count) (record {
    count = n + 1;
    within = omega (arith, low, long);
    asked = e ∙ ap (option_map (told_asking (record { name = name; duty = duty } ∷ []))) (h.told ∙ ap (option_map (told_lending (eyes_on name (take n duties)) n)) there)
        ∙ ap Some (asked-next told (eyes_on name (take n duties)) n (record { name = name; duty = duty } ∷ []))
        ∙ ap (λ xs. Some (told_lending xs n told)) (sym (eyes-next name duties n duty low is) ∙ eyes-front name duties (n + 1));
  })

  -- an `eye` call that gave none
  pub refuses : {X : Type 0} (error : FilesError)
      → (◌≡◌ {A = Result X FilesError} (Err error) (Err Failed) → new ≡ option_map (told_asking (record { name = name; duty = duty } ∷ [])) now)
      → (◌≡◌ {A = Result X FilesError} (Err error) (Err Memory) → (new ≡ now) ⊎ (new ≡ option_map (told_asking (record { name = name; duty = duty } ∷ [])) now))
      → ForSome old (λ told. LendsFront told new (eyes_on name duties) (length eyes))
  refuses Failed failed memory = refused-asked (failed refl)
  refuses Memory failed memory = elim (memory refl) [
    | inl unasked ↦ refused-unasked unasked
    | inr asked ↦ refused-asked asked
  ]

-- what holds anyway holds after an error
pub on-err : {T E : Type 0} {P : Type 0} (result : Result T E) → P → OnErr result P
on-err (Ok value) p = tt
on-err (Err error) p = p

-- ---- all were lent

pub lent-all : {E : Type 0} (sight : E → Sight) (faults : E → ℕ) (name : List ℕ) (old now : Option Told) (t0 t1 : Totals) (f0 f1 : ℕ) (duties : List Duty) (n : ℕ) (eyes : List E)
    → Lending sight faults name old now t0 t1 f0 f1 duties n eyes → n ≡ length duties → now ≡ option_map (told_lending (eyes_on name duties) (length duties)) old
lent-all sight faults name old now t0 t1 f0 f1 duties n eyes h e =
    h.told ∙ ap (λ k. option_map (told_lending (eyes_on name (take k duties)) k) old) e
    ∙ ap (λ ds. option_map (told_lending (eyes_on name ds) (length duties)) old) (take_all (length duties) duties (omega arith))

-- ---- all are given back

-- there are as many lent
pub can-return : (old between : Option Told) (all : List Asked) (n : ℕ) → ForSome old (λ told. LendsFront told between all n) → (old ≡ None → between ≡ None)
    → IfSome between (λ told. n ≤ told.lent)
can-return None between all n front untold = subst (λ o. IfSome o (λ (told : Told). n ≤ told.lent)) (sym (untold refl)) tt
can-return (Some told) between all n front untold = subst (λ o. IfSome o (λ (told : Told). n ≤ told.lent)) (sym (front told refl).asked) (omega arith)

told-returned : (told : Told) (front : List Asked) (n : ℕ) → told_returning n (told_lending front n told) ≡ told_asking front told
told-returned told front n = told-same told (told.lent + n - n) told.lent _ _ refl (omega arith)

-- as many as were lent
asks-front : (told : Told) (between new : Option Told) (all : List Asked) (n : ℕ) → LendsFront told between all n
    → new ≡ option_map (told_returning n) between → AsksFront told new all
asks-front told between new all n h e = record {
  count = h.count;
  within = h.within;
  asked = e ∙ ap (option_map (told_returning n)) h.asked ∙ ap Some (told-returned told (take h.count all) n);
}

pub asks-front_of : (old between new : Option Told) (all : List Asked) (n : ℕ) → ForSome old (λ told. LendsFront told between all n)
    → new ≡ option_map (told_returning n) between → ForSome old (λ told. AsksFront told new all)
asks-front_of old between new all n h e told there = asks-front told between new all n (h told there) e

-- all of them are a front
pub whole-front : (old now : Option Told) (all : List Asked) (n : ℕ) → now ≡ option_map (told_lending all n) old → ForSome old (λ told. LendsFront told now all n)
whole-front old now all n e told there = record {
  count = length all;
  within = omega arith;
  asked = e ∙ ap (option_map (told_lending all n)) there ∙ ap (λ xs. Some (told_lending xs n told)) (sym (take_all (length all) all (omega arith)));
}

none-of : (duty : Duty) → added (bytes_of duty 0) no_bytes ≡ no_bytes
none-of Text = refl
none-of Head = refl
none-of Mend = refl
none-of Live = refl
none-of Copy = refl

-- fresh eyes took nothing
pub fresh-taken : (bytes : Option (List ℕ)) (duties : List Duty) → taken_by (map (fresh_sight bytes) duties) ≡ no_bytes
fresh-taken bytes [] = refl
fresh-taken bytes (duty ∷ duties) = ap (added (bytes_of duty 0)) (fresh-taken bytes duties) ∙ none-of duty

-- and have no faults
pub no-faults : {E : Type 0} (faults : E → ℕ) (eyes : List E) → All (λ eye. faults eye ≡ 0) eyes → sum_by faults eyes ≡ 0
no-faults faults [] h = refl
no-faults faults (eye ∷ eyes) h =
    sum_by-cons faults eye eyes ∙ omega (arith, All-head (λ eye. faults eye ≡ 0) eye eyes h, no-faults faults eyes (All-tail (λ eye. faults eye ≡ 0) eye eyes h))

-- the totals are as before
pub totals-kept : {E : Type 0} (sight : E → Sight) (bytes : Option (List ℕ)) (duties : List Duty) (eyes : List E) (t0 t1 t2 : Totals)
    → map sight eyes ≡ map (fresh_sight bytes) duties → t1 ≡ t0 → t2 ≡ grown t1 (taken_by (map sight eyes)) → t2 ≡ t0
totals-kept sight bytes duties eyes t0 t1 t2 fresh same e =
    e ∙ ap (λ sights. grown t1 (taken_by sights)) fresh ∙ ap (grown t1) (fresh-taken bytes duties) ∙ sym (grown-none t1) ∙ same

-- nothing was asked for
pub asks-none : (old : Option Told) (eyes : List Asked) → ForSome old (λ told. AsksFront told old eyes)
asks-none old eyes told there = subst (λ o. AsksFront told o eyes) (sym there) (asks_nothing told eyes)
