-- Eyes on device files that are asked for one after another.
use Rattle.std.proofs.Common.{arith, ◌≡◌, ℕ, ◌+◌, ◌-◌, ◌<◌, ◌≤◌, ◌⊎◌, inl, inr, List, [], ◌∷◌, ◌++◌, map, length, take, drop, get_or, option_map, Option, None, Some, Result, Ok, Err, refl, sym, ◌∙◌, ap, subst, append_assoc}
use Rattle.std.specs.Prelude.{OnErr, IfSome, All}
use Rattle.std.specs.Option.{ForSome}
use Rattle.std.proofs.Math.Seq.{take-append-add}
use Rattle.std.proofs.lemmas.List.{length_push, map-append, length-append, take_all, take_more, take-append-drop, take-append-le}
use Rattle.std.proofs.lemmas.List.Elements.{All-append}
use Rattle.mr_io.specs.Sights.{Sight, fresh_sight}
use Rattle.mr_io.specs.Telling.{AsksFront, LendsFront, Told, told_asking, told_lending, told_returning}
use Rattle.mr_io.specs.declared.asked.Asked.{Asked}
use Rattle.mr_io.specs.declared.duty.Duty.TheVariants.{Copy}
use Rattle.mr_io.specs.declared.errors.FilesError.{FilesError}
use Rattle.mr_io.specs.declared.errors.FilesError.TheVariants.{Failed, Memory}
use Rattle.mr_io.specs.declared.totals.Totals.{Totals}
use Rattle.mr_io.proofs.Asking.{asks_nothing}
use Rattle.mr_gather_run.specs.Slots.{device_eyes, fresh_on, fresh_slots, present}
use Rattle.mr_gather_run.proofs.Present.{device_eyes-append, present-append, present-length}

told-as : (told : Told) (m n : ℕ) (xs ys : List Asked) → xs ≡ ys → m ≡ n → ◌≡◌ {A = Told} (record told { asked = xs; lent = m }) (record told { asked = ys; lent = n })
told-as told m n xs ys e k = λ j. record told { asked = e j; lent = k j }

-- eyes lent after others
lent-more : (told : Told) (xs ys : List Asked) (m n : ℕ) → told_lending ys n (told_lending xs m told) ≡ told_lending (xs ++ ys) (m + n) told
lent-more told xs ys m n = told-as told (told.lent + m + n) (told.lent + (m + n)) _ _ (append_assoc told.asked xs ys) (omega arith)

lent-after : (old now next : Option Told) (xs ys : List Asked) (m n : ℕ) → now ≡ option_map (told_lending xs m) old → next ≡ option_map (told_lending ys n) now
    → next ≡ option_map (told_lending (xs ++ ys) (m + n)) old
lent-after None now next xs ys m n e h = h ∙ ap (option_map (told_lending ys n)) e
lent-after (Some told) now next xs ys m n e h = h ∙ ap (option_map (told_lending ys n)) e ∙ ap Some (lent-more told xs ys m n)

-- What the files and the eyes are in the midst, where the eyes of the first n devices were lent.
pub record Lending {E : Type 0} (sight : E → Sight) (faults : E → ℕ) (old now : Option Told) (t0 t1 : Totals) (f0 f1 : ℕ)
    (devices : List (Option (List ℕ))) (n : ℕ) (slots : List (Option E)) : Type 0 where
  pub told : now ≡ option_map (told_lending (device_eyes (take n devices)) (length (present slots))) old
  pub sights : map (option_map sight) slots ≡ fresh_slots old (take n devices)
  pub no_faults : All (λ eye. faults eye ≡ 0) (present slots)
  pub count : length slots ≡ n
  pub totals : t1 ≡ t0
  pub quiet : f1 ≡ f0

contents-kept : (old now : Option Told) (eyes : List Asked) (n : ℕ) → now ≡ option_map (told_lending eyes n) old → (name : List ℕ)
    → option_map (λ told. told.contents name) now ≡ option_map (λ told. told.contents name) old
contents-kept None now eyes n e name = ap (option_map (λ told. told.contents name)) e
contents-kept (Some told) now eyes n e name = ap (option_map (λ told. told.contents name)) e

fresh-kept : (old now : Option Told) (eyes : List Asked) (n : ℕ) → now ≡ option_map (told_lending eyes n) old → (device : Option (List ℕ))
    → option_map (fresh_on now) device ≡ option_map (fresh_on old) device
fresh-kept old now eyes n e None = refl
fresh-kept old now eyes n e (Some name) = ap (λ bytes. Some (fresh_sight bytes Copy)) (contents-kept old now eyes n e name)

-- the next device
pub lends : {E : Type 0} (sight : E → Sight) (faults : E → ℕ) (old now next : Option Told) (t0 t1 t2 : Totals) (f0 f1 f2 : ℕ)
    (devices : List (Option (List ℕ))) (n : ℕ) (device : Option (List ℕ)) (slots more : List (Option E)) (slot : Option E)
    → Lending sight faults old now t0 t1 f0 f1 devices n slots → n < length devices → device ≡ get_or devices n device
    → option_map sight slot ≡ option_map (fresh_on now) device → All (λ eye. faults eye ≡ 0) (present (slot ∷ []))
    → next ≡ option_map (told_lending (device_eyes (device ∷ [])) (length (present (slot ∷ [])))) now
    → t2 ≡ t1 → f2 ≡ f1 → more ≡ slots ++ slot ∷ []
    → Lending sight faults old next t0 t2 f0 f2 devices (n + 1) more
lends sight faults old now next t0 t1 t2 f0 f1 f2 devices n device slots more slot h low is fresh none told totals quiet pushed =
    let front : take (n + 1) devices ≡ take n devices ++ device ∷ [] = take_more devices n device low ∙ ap (λ d. take n devices ++ d ∷ []) (sym is) in
    subst (λ xs. Lending sight faults old next t0 t2 f0 f2 devices (n + 1) xs) (sym pushed) (record {
      told = lent-after old now next (device_eyes (take n devices)) (device_eyes (device ∷ [])) (length (present slots)) (length (present (slot ∷ []))) h.told told
          ∙ ap (λ k. option_map (told_lending (device_eyes (take n devices) ++ device_eyes (device ∷ [])) k) old) (sym (present-length slots (slot ∷ [])))
          ∙ ap (λ xs. option_map (told_lending xs (length (present (slots ++ slot ∷ [])))) old)
          (sym (ap device_eyes front ∙ device_eyes-append (take n devices) (device ∷ [])));
      sights = map-append (option_map sight) slots (slot ∷ [])
          ∙ ap (λ s. map (option_map sight) slots ++ s ∷ []) (fresh ∙ fresh-kept old now (device_eyes (take n devices)) (length (present slots)) h.told device)
          ∙ ap (λ xs. xs ++ option_map (fresh_on old) device ∷ []) h.sights
          ∙ sym (map-append (option_map (fresh_on old)) (take n devices) (device ∷ []))
          ∙ ap (map (option_map (fresh_on old))) (sym front);
      no_faults = subst (All (λ eye. faults eye ≡ 0)) (sym (present-append slots (slot ∷ []))) (All-append (λ eye. faults eye ≡ 0) (present slots) (present (slot ∷ [])) h.no_faults none);
      count = length_push slots slot ∙ ap (λ k. k + 1) h.count;
      totals = totals ∙ h.totals;
      quiet = quiet ∙ h.quiet;
    })

-- all were lent
pub lent-all : {E : Type 0} (sight : E → Sight) (faults : E → ℕ) (old now : Option Told) (t0 t1 : Totals) (f0 f1 : ℕ)
    (devices : List (Option (List ℕ))) (n : ℕ) (slots : List (Option E)) → Lending sight faults old now t0 t1 f0 f1 devices n slots → n ≡ length devices
    → now ≡ option_map (told_lending (device_eyes devices) (length (present slots))) old
lent-all sight faults old now t0 t1 f0 f1 devices n slots h e =
    h.told ∙ ap (λ ds. option_map (told_lending (device_eyes ds) (length (present slots))) old) (ap (λ k. take k devices) e ∙ take_all (length devices) devices (omega arith))

-- ---- a refusal

-- all eyes are those of the first devices, of the next, and of the rest
eyes-split : (devices : List (Option (List ℕ))) (n : ℕ) (device : Option (List ℕ)) → n < length devices → device ≡ get_or devices n device
    → device_eyes devices ≡ device_eyes (take n devices) ++ (device_eyes (device ∷ []) ++ device_eyes (drop (n + 1) devices))
eyes-split devices n device low is =
    let front : take (n + 1) devices ≡ take n devices ++ device ∷ [] = take_more devices n device low ∙ ap (λ d. take n devices ++ d ∷ []) (sym is) in
    ap device_eyes (sym (take-append-drop (n + 1) devices) ∙ ap (λ xs. xs ++ drop (n + 1) devices) front)
    ∙ device_eyes-append (take n devices ++ device ∷ []) (drop (n + 1) devices)
    ∙ ap (λ xs. xs ++ device_eyes (drop (n + 1) devices)) (device_eyes-append (take n devices) (device ∷ []))
    ∙ append_assoc (device_eyes (take n devices)) (device_eyes (device ∷ [])) (device_eyes (drop (n + 1) devices))

asked-after : (told : Told) (xs ys : List Asked) (n : ℕ) → told_asking ys (told_lending xs n told) ≡ told_lending (xs ++ ys) n told
asked-after told xs ys n = told-as told (told.lent + n) (told.lent + n) _ _ (append_assoc told.asked xs ys) refl

-- a front of the next eyes was asked for, and none of them lent
pub refuses : {E : Type 0} (sight : E → Sight) (faults : E → ℕ) (old now new : Option Told) (t0 t1 : Totals) (f0 f1 : ℕ)
    (devices : List (Option (List ℕ))) (n : ℕ) (device : Option (List ℕ)) (slots : List (Option E))
    → Lending sight faults old now t0 t1 f0 f1 devices n slots → n < length devices → device ≡ get_or devices n device
    → ForSome now (λ told. AsksFront told new (device_eyes (device ∷ [])))
    → ForSome old (λ told. LendsFront told new (device_eyes devices) (length (present slots)))
refuses sight faults old now new t0 t1 f0 f1 devices n device slots h low is asks told there =
    let lent = told_lending (device_eyes (take n devices)) (length (present slots)) told in
    let front = asks lent (h.told ∙ ap (option_map (told_lending (device_eyes (take n devices)) (length (present slots)))) there) in
    let before = device_eyes (take n devices) in
    let next = device_eyes (device ∷ []) in
    let rest = device_eyes (drop (n + 1) devices) in
    subst (λ all. LendsFront told new all (length (present slots))) (sym (eyes-split devices n device low is)) (record {
      count = length before + front.count;
      within = omega (arith, front.within, length-append before (next ++ rest), length-append next rest);
      asked = front.asked ∙ ap Some (asked-after told before (take front.count next) (length (present slots)))
          ∙ ap (λ xs. Some (told_lending xs (length (present slots)) told))
          (ap (λ xs. before ++ xs) (sym (take-append-le front.count next rest front.within)) ∙ sym (take-append-add before (next ++ rest) front.count));
    })

asked-one : (old new : Option Told) (name : List ℕ) → new ≡ option_map (told_asking (record { name = name; duty = Copy } ∷ [])) old
    → ForSome old (λ told. AsksFront told new (device_eyes (Some name ∷ [])))
asked-one old new name asked told there = record {
  count = 1;
  within = omega arith;
  asked = asked ∙ ap (option_map (told_asking (record { name = name; duty = Copy } ∷ []))) there;
}

-- the eye on one device was not lent
pub refused-one : {X : Type 0} (old new : Option Told) (name : List ℕ) (result : Result X FilesError)
    → (result ≡ Err Failed → new ≡ option_map (told_asking (record { name = name; duty = Copy } ∷ [])) old)
    → (result ≡ Err Memory → (new ≡ old) ⊎ (new ≡ option_map (told_asking (record { name = name; duty = Copy } ∷ [])) old))
    → OnErr result (ForSome old (λ told. AsksFront told new (device_eyes (Some name ∷ []))))
refused-one old new name (Ok x) failed memory = tt
refused-one old new name (Err Failed) failed memory = asked-one old new name (failed refl)
refused-one old new name (Err Memory) failed memory = elim (memory refl) [
  | inl same ↦ λ told there. subst (λ o. AsksFront told o (device_eyes (Some name ∷ []))) (sym (same ∙ there)) (asks_nothing told (device_eyes (Some name ∷ [])))
  | inr asked ↦ asked-one old new name asked
]

-- ---- all are given back

-- As many eyes are lent as are there, and when these are given back a front of all was asked for.
pub record GivesBack (old between : Option Told) (all : List Asked) (n : ℕ) : Type 0 where
  pub lent : IfSome between (λ told. n ≤ told.lent)
  pub asked : (new : Option Told) → new ≡ option_map (told_returning n) between → ForSome old (λ told. AsksFront told new all)

pub gives-back : (old between : Option Told) (all : List Asked) (n : ℕ) → ForSome old (λ told. LendsFront told between all n) → (old ≡ None → between ≡ None)
    → GivesBack old between all n
gives-back None between all n lends untold = record {
  lent = subst (λ o. IfSome o (λ (told : Told). n ≤ told.lent)) (sym (untold refl)) tt;
  asked = λ new back told there. let clash : ◌≡◌ {A = Option Told} None (Some told) = there in cc;
}
gives-back (Some here) between all n lends untold =
    let front = lends here refl in
    record {
      lent = subst (λ o. IfSome o (λ (told : Told). n ≤ told.lent)) (sym front.asked) (omega arith);
      asked = λ new back told there. subst (λ t. AsksFront t new all) (same there) (record {
        count = front.count;
        within = front.within;
        asked = back ∙ ap (option_map (told_returning n)) front.asked ∙ ap Some (told-as here (here.lent + n - n) here.lent _ _ refl (omega arith));
      });
    }
  where
    same : {told : Told} → ◌≡◌ {A = Option Told} (Some here) (Some told) → here ≡ told
    same e = cc

-- all of it
pub asks-all : (old between new : Option Told) (all : List Asked) (n : ℕ) → between ≡ option_map (told_lending all n) old
    → new ≡ option_map (told_returning n) between → ForSome old (λ told. new ≡ Some (told_asking all told))
asks-all old between new all n lent e told there =
    e ∙ ap (option_map (told_returning n)) (lent ∙ ap (option_map (told_lending all n)) there)
    ∙ ap Some (told-as told (told.lent + n - n) told.lent _ _ refl (omega arith))
