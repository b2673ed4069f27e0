-- How the bytes that steps take add up in the totals.
use Rattle.std.proofs.Common.{◌≡◌, ℕ, option_map, List, Option, Some, None, Result, Ok, Err, refl, sym, ◌∙◌, ap, subst, ◌++◌}
use Rattle.std.specs.Prelude.{OnOk}
use Rattle.std.specs.Option.{ForSome}
use Rattle.mr_io.specs.Growth.{added, bytes_of, grown, no_bytes}
use Rattle.mr_io.specs.Sights.{Sight, fresh_sight, sight_with}
use Rattle.mr_io.specs.Telling.{Told, told_giving, told_retiring}
use Rattle.mr_io.specs.TotalsBy.{totals_with}
use Rattle.mr_io.specs.declared.duty.Duty.{Duty}
use Rattle.mr_io.specs.declared.duty.Duty.TheVariants.{Text, Head}
use Rattle.mr_io.specs.declared.totals.Totals.{Totals}
use Rattle.mr_io.proofs.Growth.{added-swap, grown-grown, grown-none, grown-retired}
use Rattle.mr_steps.specs.Readings.{Reading, and_then, file_taking, given, ◌>>=◌}
use Rattle.mr_steps.specs.Steps.{Grows, IsUnread, KeepsContents, Reads}
use Rattle.mr_steps.specs.declared.fault.Fault.{Fault}

-- a step that reads nothing
pub grows_given : {X Y : Type 0} (told : Option Told) (t : Totals) (result : Result X Fault) (definition : Result Y Fault)
    → Grows told t t result (λ _. given definition)
grows_given told t (Ok x) definition = λ _ _. grown-none t
grows_given told t (Err fault) definition = tt

went_on : {Y W : Type 0} (t0 t1 t2 : Totals) (reading : Reading Y) (next : Y → Reading W) (y : Y) → reading.result ≡ Ok y
    → t1 ≡ grown t0 reading.taken → t2 ≡ grown t1 (next y).taken → t2 ≡ grown t0 (reading >>= next).taken
went_on t0 t1 t2 reading next y e first second =
    subst (λ r. t2 ≡ grown t0 (and_then reading.eyes reading.taken r next).taken) (sym e)
    (second ∙ ap (λ t. grown t (next y).taken) first ∙ grown-grown t0 reading.taken (next y).taken)

-- a value goes on to the next step
pub grows_then : {X Y Z W : Type 0} (view : X → Y) (old between : Option Told) (t0 t1 t2 : Totals) (x : X) (result : Result Z Fault)
    (first : (List ℕ → List ℕ) → Reading Y) (next : (List ℕ → List ℕ) → Y → Reading W)
    → Reads view old between (Ok x) first → Grows {X = X} old t0 t1 (Ok x) first
    → Grows between t1 t2 result (λ contents. next contents (view x))
    → Grows old t0 t2 result (λ contents. first contents >>= next contents)
grows_then view old between t0 t1 t2 x (Ok z) first next reads h k = λ told there.
    went_on t0 t1 t2 (first told.contents) (next told.contents) (view x) ((reads told there).gives) (h told there)
    (k (record told { asked = told.asked ++ (first told.contents).eyes }) ((reads told there).whole refl))
grows_then view old between t0 t1 t2 x (Err fault) first next reads h k = tt

-- a definition at equal arguments
pub grows_named : {A X Y : Type 0} (old : Option Told) (t0 t1 : Totals) (result : Result X Fault) (definition : A → (List ℕ → List ℕ) → Reading Y)
    {a b : A} → a ≡ b → Grows old t0 t1 result (definition a) → Grows old t0 t1 result (definition b)
grows_named old t0 t1 result definition e h = subst (λ x. Grows old t0 t1 result (definition x)) e h

took : (t0 t1 t2 : Totals) (duty : Duty) (bytes : Option (List ℕ)) (fresh sight : Sight) (n : ℕ) → t1 ≡ t0
    → fresh ≡ fresh_sight bytes duty → sight ≡ sight_with fresh n → t2 ≡ totals_with t1 sight.duty sight.taken
    → t2 ≡ grown t0 (added (bytes_of duty n) no_bytes)
took t0 t1 t2 duty bytes fresh sight n same lent read back =
    back ∙ ap (λ s. totals_with t1 s.duty s.taken) (read ∙ ap (λ s. sight_with s n) lent) ∙ grown-retired t1 duty n
    ∙ ap (λ t. grown t (bytes_of duty n)) same ∙ grown-none (grown t0 (bytes_of duty n)) ∙ grown-grown t0 (bytes_of duty n) no_bytes

-- a file from which so many bytes are taken, and whose eye is given back, before a last step that reads nothing
pub grows_file : {X Y : Type 0} (old : Option Told) (t0 t1 t2 : Totals) (name : List ℕ) (duty : Duty) (fresh sight : Sight)
    (result : Result X Fault) (definition : List ℕ → Result Y Fault) (count : List ℕ → ℕ)
    → t1 ≡ t0 → fresh ≡ fresh_sight (option_map (λ told. told.contents name) old) duty
    → OnOk result (ForSome fresh.bytes (λ bytes. sight ≡ sight_with fresh (count bytes)))
    → t2 ≡ totals_with t1 sight.duty sight.taken
    → Grows old t0 t2 result (λ contents. file_taking (count (contents name)) contents name duty >>= λ b. given (definition b))
grows_file old t0 t1 t2 name duty fresh sight (Ok x) definition count same lent read back = λ told there.
    took t0 t1 t2 duty _ fresh sight (count (told.contents name)) same lent
    (read (told.contents name) (ap (λ s. s.bytes) lent ∙ ap (option_map (λ t. t.contents name)) there)) back
grows_file old t0 t1 t2 name duty fresh sight (Err fault) definition count same lent read back = tt

-- an eye that is held while the next steps read, and is given back after them
pub grows_held : {X Y : Type 0} (old lent : Option Told) (t0 t1 t2 t3 : Totals) (name : List ℕ) (duty : Duty) (bytes : Option (List ℕ)) (fresh sight : Sight)
    (count : ℕ) (result : Result X Fault) (next : (List ℕ → List ℕ) → Reading Y)
    → lent ≡ option_map (told_giving name duty) old → t1 ≡ t0 → fresh ≡ fresh_sight bytes duty
    → OnOk result (sight ≡ sight_with fresh count) → Grows lent t1 t2 result next → t3 ≡ totals_with t2 sight.duty sight.taken
    → Grows old t0 t3 result (λ contents. file_taking count contents name duty >>= λ _. next contents)
grows_held old lent t0 t1 t2 t3 name duty bytes fresh sight count (Ok x) next giving same is read grows back = λ told there.
    let more : Totals = (next told.contents).taken in
    let between : t2 ≡ grown t0 more =
    grows (told_giving name duty told) (giving ∙ ap (option_map (told_giving name duty)) there) ∙ ap (λ t. grown t more) same in
    back ∙ ap (λ s. totals_with t2 s.duty s.taken) (read ∙ ap (λ s. sight_with s count) is) ∙ grown-retired t2 duty count
    ∙ ap (λ t. grown t (bytes_of duty count)) between ∙ grown-grown t0 more (bytes_of duty count) ∙ ap (grown t0) (added-swap more (bytes_of duty count))
grows_held old lent t0 t1 t2 t3 name duty bytes fresh sight count (Err fault) next giving same is read grows back = tt

-- what is held after an eye was lent and given back
pub kept-lent : {X : Type 0} (result : Result X Fault) (old lent new : Option Told) (name : List ℕ) (duty : Duty)
    → lent ≡ option_map (told_giving name duty) old → new ≡ option_map told_retiring lent → OnOk result (KeepsContents old new)
kept-lent (Ok x) old lent new name duty giving retiring =
    ap (option_map (λ told. told.contents)) (retiring ∙ ap (option_map told_retiring) giving) ∙ same old
  where
    same : (o : Option Told) → option_map (λ told. told.contents) (option_map told_retiring (option_map (told_giving name duty) o))
        ≡ option_map (λ told. told.contents) o
    same None = refl
    same (Some told) = refl
kept-lent (Err fault) old lent new name duty giving retiring = tt

-- ---- what is left unread

pub unread-same : (t0 t1 : Totals) → t1 ≡ t0 → IsUnread t0 t1
unread-same t0 t1 e = subst (λ t. IsUnread t0 t) (sym e) (record { mend = refl; live = refl; copy = refl })

pub unread-then : (t0 t1 t2 : Totals) → IsUnread t0 t1 → IsUnread t1 t2 → IsUnread t0 t2
unread-then t0 t1 t2 first second = record {
  mend = second.mend ∙ first.mend;
  live = second.live ∙ first.live;
  copy = second.copy ∙ first.copy;
}

-- an eye of a duty that counts for none of these was lent, and given back
module _ (duty : Duty) (other : (t : Totals) (n : ℕ) → IsUnread t (totals_with t duty n)) where
  unread-lent : (t0 t1 t2 : Totals) (bytes : Option (List ℕ)) (fresh : Sight) (own : Duty) (n : ℕ) → t1 ≡ t0 → fresh ≡ fresh_sight bytes duty
      → own ≡ fresh.duty → t2 ≡ totals_with t1 own n → IsUnread t0 t2
  unread-lent t0 t1 t2 bytes fresh own n same lent kept back =
      unread-then t0 t1 t2 (unread-same t0 t1 same)
      (subst (λ t. IsUnread t1 t) (sym (back ∙ ap (λ d. totals_with t1 d n) (kept ∙ ap (λ s. s.duty) lent))) (other t1 n))

-- the eye of a text, and of a head
pub unread-text : (t0 t1 t2 : Totals) (bytes : Option (List ℕ)) (fresh : Sight) (own : Duty) (n : ℕ) → t1 ≡ t0 → fresh ≡ fresh_sight bytes Text
    → own ≡ fresh.duty → t2 ≡ totals_with t1 own n → IsUnread t0 t2
unread-text = unread-lent Text (λ t n. record { mend = refl; live = refl; copy = refl })

pub unread-head : (t0 t1 t2 : Totals) (bytes : Option (List ℕ)) (fresh : Sight) (own : Duty) (n : ℕ) → t1 ≡ t0 → fresh ≡ fresh_sight bytes Head
    → own ≡ fresh.duty → t2 ≡ totals_with t1 own n → IsUnread t0 t2
unread-head = unread-lent Head (λ t n. record { mend = refl; live = refl; copy = refl })
