-- Steps that read, one after another.
use Rattle.std.proofs.Common.{arith, ◌≡◌, ℕ, ◌+◌, ◌-◌, ◌⊎◌, inl, inr, lit≤, option_map, List, [], ◌∷◌, ◌++◌, take, Option, Some, Result, Ok, Err, refl, sym, ◌∙◌, ap, subst, append_assoc}
use Rattle.std.proofs.Math.Seq.{take-append-add}
use Rattle.std.proofs.lemmas.Bool.{false≢true}
use Rattle.std.proofs.lemmas.List.{append-nil}
use Rattle.mr_io.specs.Telling.{AsksFront, Told, told_asking, told_giving, told_retiring}
use Rattle.mr_io.proofs.Asking.{asks_after, asks_more, asks_nothing, told_same}
use Rattle.mr_io.specs.declared.duty.Duty.{Duty}
use Rattle.mr_io.specs.declared.errors.FilesError.{FilesError}
use Rattle.mr_io.specs.declared.errors.FilesError.TheVariants.{Failed, Memory as NoRoom}
use Rattle.mr_io.specs.declared.asked.Asked.{Asked}
use Rattle.mr_steps.specs.Faults.{fault_status, IsFilesFault, IsWordsFault}
use Rattle.mr_steps.specs.Requests.{or_usage}
use Rattle.mr_words.specs.Reads.{Reads as ReadsWords}
use Rattle.mr_words.specs.declared.errors.WordsError.{WordsError}
use Rattle.mr_words.specs.declared.errors.WordsError.TheVariants.{Usage as IsUsage, Memory as WantsMemory}
use Rattle.mr_steps.specs.Readings.{Reading, given, file_taking, and_then, ◌>>=◌}
use Rattle.mr_steps.specs.Refusals.{followed_by}
use Rattle.mr_steps.specs.Steps.{Gives, Follows, Reads}
use Rattle.mr_steps.specs.declared.fault.Fault.{Fault}
use Rattle.mr_steps.specs.declared.fault.Fault.TheVariants.{Memory}

-- a step that reads nothing
pub reads_given : {X Y : Type 0} (view : X → Y) (old : Option Told) (result : Result X Fault) (definition : Result Y Fault)
    → Gives view result definition → Reads view old old result (λ _. given definition)
reads_given view old result definition h = λ told there. record {
  gives = h;
  front = subst (λ new. AsksFront told new []) (sym there) (asks_nothing told []);
  whole = λ _. there ∙ told_same told;
}

-- want of memory ends any chain
pub reads_memory : {X Y : Type 0} (view : X → Y) (old : Option Told) (definition : (List ℕ → List ℕ) → Reading Y) → Reads {X = X} view old old (Err Memory) definition
reads_memory view old definition = λ told there. record {
  gives = λ foreseen. absurd (foreseen.2 refl);
  front = subst (λ new. AsksFront told new (definition told.contents).eyes) (sym there) (asks_nothing told (definition told.contents).eyes);
  whole = λ ok. absurd (false≢true ok);
}

pub err_same : {Y : Type 0} {a b : Fault} → ◌≡◌ {A = Result Y Fault} (Err a) (Err b) → a ≡ b
err_same e = cc

refused : {X Y Z W : Type 0} (view : X → Y) (view' : Z → W) (told : Told) (new : Option Told) (fault : Fault) (reading : Reading Y)
    (next : Y → Reading W) → Follows view told new (Err fault) reading → Follows view' told new (Err fault) (reading >>= next)
refused {X} {Y} {Z} {W} view view' told new fault reading next h = go reading.result refl
  where
    go : (r : Result Y Fault) → reading.result ≡ r → Follows view' told new (Err fault) (and_then reading.eyes reading.taken r next)
    go (Ok y) e = record {
      gives = λ foreseen. let clash : ◌≡◌ {A = Result Y Fault} (Ok y) (Err fault) = sym e ∙ h.gives foreseen in cc;
      front = asks_more told new reading.eyes (next y).eyes h.front;
      whole = λ ok. absurd (false≢true ok);
    }
    go (Err other) e = record {
      gives = λ foreseen. ap Err (err_same (sym e ∙ h.gives foreseen));
      front = h.front;
      whole = λ ok. absurd (false≢true ok);
    }

-- a refusal ends the chain
pub reads_err : {X Y Z W : Type 0} (view : X → Y) (view' : Z → W) (old new : Option Told) (fault : Fault)
    (first : (List ℕ → List ℕ) → Reading Y) (next : (List ℕ → List ℕ) → Y → Reading W)
    → Reads view old new (Err fault) first → Reads view' old new (Err fault) (λ contents. first contents >>= next contents)
reads_err view view' old new fault first next h = λ told there. refused _ _ _ _ _ _ _ (h told there)

went_on : {Y Z W : Type 0} (view : Z → W) (told : Told) (new : Option Told) (result : Result Z Fault) (reading : Reading Y)
    (next : Y → Reading W) (y : Y) → reading.result ≡ Ok y → Follows view (told_asking reading.eyes told) new result (next y)
    → Follows view told new result (reading >>= next)
went_on view told new result reading next y e h = subst (λ r. Follows view told new result (and_then reading.eyes reading.taken r next)) (sym e) (record {
  gives = h.gives;
  front = asks_after told new reading.eyes (next y).eyes h.front;
  whole = λ ok. h.whole ok ∙ ap Some (λ j. record told { asked = append_assoc told.asked reading.eyes (next y).eyes j });
})

-- a value goes on to the next step
pub reads_then : {X Y Z W : Type 0} (view : X → Y) (view' : Z → W) (old between new : Option Told) (x : X) (result : Result Z Fault)
    (first : (List ℕ → List ℕ) → Reading Y) (next : (List ℕ → List ℕ) → Y → Reading W)
    → Reads view old between (Ok x) first → Reads view' between new result (λ contents. next contents (view x))
    → Reads view' old new result (λ contents. first contents >>= next contents)
reads_then view view' old between new x result first next h k = λ told there.
    let f = h told there in
    went_on view' told new result (first told.contents) (next told.contents) (view x) f.gives
    (k (told_asking (first told.contents).eyes told) (f.whole refl))

-- an eye that was not lent ends the chain
pub reads_no_eye : {E X Y : Type 0} (view : X → Y) (old new : Option Told) (count : (List ℕ → List ℕ) → ℕ) (name : List ℕ) (duty : Duty)
    (next : (List ℕ → List ℕ) → List ℕ → Reading Y) (error : FilesError) (fault : Fault)
    → (◌≡◌ {A = Result E FilesError} (Err error) (Err Failed) → new ≡ option_map (told_asking (record { name = name; duty = duty } ∷ [])) old)
    → (◌≡◌ {A = Result E FilesError} (Err error) (Err NoRoom) → (new ≡ old) ⊎ (new ≡ option_map (told_asking (record { name = name; duty = duty } ∷ [])) old))
    → IsFilesFault error fault
    → Reads view old new (Err fault) (λ contents. file_taking (count contents) contents name duty >>= next contents)
reads_no_eye view old new count name duty next Failed fault failed memory is = λ told there. record {
  gives = λ foreseen. absurd (foreseen.0 (ap fault_status is));
  front = asks_more told new (record { name = name; duty = duty } ∷ []) (next told.contents (told.contents name)).eyes
      (record { count = 1; within = lit≤ tt; asked = failed refl ∙ ap (option_map (told_asking (record { name = name; duty = duty } ∷ []))) there });
  whole = λ ok. absurd (false≢true ok);
}
reads_no_eye view old new count name duty next NoRoom fault failed memory is = λ told there. record {
  gives = λ foreseen. absurd (foreseen.2 (ap fault_status is));
  front = asks_more told new (record { name = name; duty = duty } ∷ []) (next told.contents (told.contents name)).eyes
      (elim (memory refl) [
        | inl same ↦ subst (λ n. AsksFront told n (record { name = name; duty = duty } ∷ [])) (sym (same ∙ there)) (asks_nothing told _)
        | inr asked ↦ record { count = 1; within = lit≤ tt; asked = asked ∙ ap (option_map (told_asking (record { name = name; duty = duty } ∷ []))) there }
      ]);
  whole = λ ok. absurd (false≢true ok);
}

one_less : (n : ℕ) → n + 1 - 1 ≡ n
one_less n = omega arith

-- a file that is read, and whose eye is given back
pub reads_file : {X Y : Type 0} (view : X → Y) (old lent new : Option Told) (count : (List ℕ → List ℕ) → ℕ) (name : List ℕ) (duty : Duty) (bytes : Option (List ℕ))
    (result : Result X Fault) (definition : List ℕ → Result Y Fault)
    → lent ≡ option_map (told_giving name duty) old → new ≡ option_map told_retiring lent
    → bytes ≡ option_map (λ told. told.contents name) old
    → ((b : List ℕ) → bytes ≡ Some b → Gives view result (definition b))
    → Reads view old new result (λ contents. file_taking (count contents) contents name duty >>= λ b. given (definition b))
reads_file view old lent new count name duty bytes result definition giving retiring sees gives = λ told there.
    let asked : new ≡ Some (told_asking (record { name = name; duty = duty } ∷ []) told) =
    retiring ∙ ap (option_map told_retiring) (giving ∙ ap (option_map (told_giving name duty)) there)
    ∙ ap Some (λ j. record told { asked = told.asked ++ record { name = name; duty = duty } ∷ []; lent = one_less told.lent j }) in
    record {
      gives = gives (told.contents name) (sees ∙ ap (option_map (λ t. t.contents name)) there);
      front = record { count = 1; within = lit≤ tt; asked = asked };
      whole = λ _. asked;
    }

-- eyes asked for while another one was held
held_back : (told : Told) (name : List ℕ) (duty : Duty) (eyes : List Asked)
    → told_retiring (told_asking eyes (told_giving name duty told)) ≡ told_asking ((record { name = name; duty = duty } ∷ []) ++ eyes) told
held_back told name duty eyes = λ j. record told { asked = append_assoc told.asked (record { name = name; duty = duty } ∷ []) eyes j; lent = one_less told.lent j }

-- an eye that is held while the next steps read, and is given back after them
pub reads_held : {X Y : Type 0} (view : X → Y) (old lent between new : Option Told) (count : ℕ) (name : List ℕ) (duty : Duty)
    (result : Result X Fault) (next : (List ℕ → List ℕ) → Reading Y)
    → lent ≡ option_map (told_giving name duty) old → Reads view lent between result next → new ≡ option_map told_retiring between
    → Reads view old new result (λ contents. file_taking count contents name duty >>= λ _. next contents)
reads_held view old lent between new count name duty result next giving reads retiring = λ told there.
    let f : Follows view (told_giving name duty told) between result (next told.contents) =
    reads (told_giving name duty told) (giving ∙ ap (option_map (told_giving name duty)) there) in
    record {
      gives = f.gives;
      front = record {
        count = 1 + f.front.count;
        within = omega (arith, f.front.within);
        asked = retiring ∙ ap (option_map told_retiring) f.front.asked
            ∙ ap Some (held_back told name duty (take f.front.count (next told.contents).eyes))
            ∙ ap (λ front. Some (told_asking front told)) (sym (take-append-add (record { name = name; duty = duty } ∷ []) (next told.contents).eyes f.front.count));
      };
      whole = λ ok. retiring ∙ ap (option_map told_retiring) (f.whole ok) ∙ ap Some (held_back told name duty (next told.contents).eyes);
    }

-- words that are not read end the chain
pub refuses_words : {X : Type 0} (o : Option X) (error : WordsError) (fault : Fault) → ReadsWords {X = X} o (Err error) → IsWordsFault error fault
    → Gives {X = X} {Y = X} (λ asked. asked) (Err fault) (or_usage o)
refuses_words o IsUsage fault none is = λ _. ap or_usage none ∙ ap Err (sym is)
refuses_words o WantsMemory fault none is = λ foreseen. absurd (foreseen.2 (ap fault_status is))

-- the eyes of a chain whose last step asks for none
pub eyes-given : {X Y : Type 0} (reading : Reading X) (next : X → Result Y Fault) → (reading >>= λ x. given (next x)).eyes ≡ reading.eyes
eyes-given {X} {Y} reading next = go reading.result
  where
    go : (r : Result X Fault) → (and_then reading.eyes reading.taken r (λ x. given (next x))).eyes ≡ reading.eyes
    go (Ok x) = append-nil reading.eyes
    go (Err fault) = refl

-- a definition at equal arguments
pub reads_named : {A X Y : Type 0} (view : X → Y) (old new : Option Told) (result : Result X Fault) (definition : A → (List ℕ → List ℕ) → Reading Y)
    {a b : A} → a ≡ b → Reads view old new result (definition a) → Reads view old new result (definition b)
reads_named view old new result definition e h = subst (λ x. Reads view old new result (definition x)) e h

-- a refusal ends a chain of results
pub gives_err : {X Y Z W : Type 0} (view : X → Y) (view' : Z → W) (fault : Fault) (first : Result Y Fault) (next : Y → Result W Fault)
    → Gives view (Err fault) first → Gives view' (Err fault) (followed_by first next)
gives_err view view' fault first next h = λ foreseen. ap (λ r. followed_by r next) (h foreseen)

-- a value goes on to the next result
pub gives_then : {X Y Z W : Type 0} (view : X → Y) (view' : Z → W) (x : X) (result : Result Z Fault) (first : Result Y Fault) (next : Y → Result W Fault)
    → Gives view (Ok x) first → Gives view' result (next (view x)) → Gives view' result (followed_by first next)
gives_then view view' x result first next h k = subst (λ r. Gives view' result (followed_by r next)) (sym h) k

-- a definition of a result at equal arguments
pub gives_named : {A X Y : Type 0} (view : X → Y) (result : Result X Fault) (definition : A → Result Y Fault) {a b : A} → a ≡ b
    → Gives view result (definition a) → Gives view result (definition b)
gives_named view result definition e h = subst (λ x. Gives view result (definition x)) e h
