-- The eyes of each command.
use Rattle.std.proofs.Common.{◌≡◌, ℕ, ◌++◌, Ok, Err, append_assoc, List, [], ◌∷◌, Option, Some, None, Result, refl, sym, ◌∙◌, ap, subst, IfSome}
use Rattle.std.proofs.lemmas.List.{append-nil}
use Rattle.mr_bits.specs.declared.errors.What.{What}
use Rattle.mr_bits.specs.declared.errors.What.TheVariants.{MatrixBytes, PlanBytes}
use Rattle.mr_form.specs.MatrixText.{matrix_of}
use Rattle.mr_io.specs.Growth.{no_bytes}
use Rattle.mr_io.specs.Telling.{AsksFront, Told}
use Rattle.mr_io.proofs.Asking.{asks_more}
use Rattle.mr_io.specs.declared.asked.Asked.{Asked}
use Rattle.mr_io.specs.declared.totals.Totals.{Totals}
use Rattle.mr_mend.specs.declared.asks.Ask.{Ask}
use Rattle.mr_io.specs.declared.duty.Duty.TheVariants.{Text, Head, Copy}
use Rattle.mr_steps.specs.Sinks.{Output}
use Rattle.mr_steps.specs.TextFiles.{matrix_file, text_file, text_within}
use Rattle.mr_steps.specs.Texts.{or_matrix_fault}
use Rattle.mr_top.specs.CheckSteps.{check_answer}
use Rattle.mr_top.specs.Commands.{answer, command_answer}
use Rattle.mr_top.specs.EncodeSteps.{encode_answer, encoded_file}
use Rattle.mr_top.specs.Findings.{Finding}
use Rattle.mr_top.specs.Eyes.{command_eyes, plan_eyes}
use Rattle.mr_top.specs.Plan.{plan_given}
use Rattle.mr_top.specs.PlanSteps.{plan_answer}
use Rattle.mr_top.specs.RebuildSteps.{ImageParts, head_file, image_file, image_read, parts_as, rebuild_answer, rebuild_by}
use Rattle.mr_steps.specs.Readings.{Reading, given, and_then, ◌>>=◌}
use Rattle.mr_steps.specs.Requests.{or_usage, rebuild_words, request_of}
use Rattle.mr_steps.specs.Steps.{FollowsWith}
use Rattle.mr_steps.specs.declared.fault.Fault.{Fault}
use Rattle.mr_steps.specs.declared.request.Request.{Request}
use Rattle.mr_steps.specs.declared.request.Request.TheVariants.{Check, Convert, Drill, Encode, Make, Plan, Rebuild, Scrub, Sectors}
use Rattle.mr_top.specs.Check.{cost_given}
use Rattle.mr_steps.specs.Losses.{targets_given}
use Rattle.mr_steps.proofs.Chains.{eyes-given}
use Rattle.mr_image.specs.Images.{Layout}
use Rattle.mr_model.specs.Code.{Code}
use Rattle.mr_top.specs.Encode.{layout_given}
use Rattle.mr_ready.specs.Duties.{duties_of, eyes_on}
use Rattle.mr_top.specs.Rebuild.{asks_given, layout_allowed}
use Rattle.mr_choices.specs.Handed.{handed_file, handed_given, plan_file}
use Rattle.mr_choices.specs.declared.chosen.ChosenPlan.{ChosenPlan}
use Rattle.mr_words.specs.declared.rebuild_words.RebuildWords.{RebuildWords}
use Rattle.mr_top.proofs.ImageSteps.{asks_next, handed_next, loss_next, matrix_next}
use Rattle.mr_top.proofs.EncodeSteps.{code_next, head_next, image_next}
use Rattle.mr_top.proofs.CheckSteps.{cost_next, lost_next, plan_next, valid_next}
use Rattle.mr_top.specs.WholeImages.{allowed_answer, any_version, body_answer, image_answer}
use Rattle.mr_top.specs.Convert.{converted_output, first_version}
use Rattle.mr_top.specs.Scrub.{scrub_output}
use Rattle.mr_patch.specs.Damages.{DamageParts}
use Rattle.mr_steps.specs.Losses.{lost_symbols_given}
use Rattle.mr_words.specs.declared.sectors_words.SectorsWords.{SectorsWords}
use Rattle.mr_top.specs.Sectors.{damage_of, determined_damage, sectors_words}
use Rattle.mr_top.specs.SectorsSteps.{damage_file, determined_answer, repair_eyes, sectors_answer, sectors_file}
use Rattle.mr_sectors.specs.Steps.{repair_answer}
use Rattle.mr_top.proofs.DamageSteps.{damage_by_code, damage_by_head, damage_by_lost}
use Rattle.mr_top.proofs.Sectoring.{eyes-list, eyes-repair}
use Rattle.mr_top.proofs.WholeImages.{body_next, layout_next, spelled_next}

eyes-text_file : (contents : List ℕ → List ℕ) (name : List ℕ) → (text_file contents name MatrixBytes).eyes ≡ record { name = name; duty = Text } ∷ []
unfolding text_file text_within
eyes-text_file contents name = refl

pub eyes-matrix_file : (contents : List ℕ → List ℕ) (name : List ℕ) → (matrix_file contents name).eyes ≡ record { name = name; duty = Text } ∷ []
unfolding matrix_file
eyes-matrix_file contents name = eyes-given (text_file contents name MatrixBytes) (λ bytes. or_matrix_fault (matrix_of bytes)) ∙ eyes-text_file contents name

pub eyes-plan_answer : (contents : List ℕ → List ℕ) (matrix lost : List ℕ) (budget : ℕ) → (plan_answer contents matrix lost budget).eyes ≡ record { name = matrix; duty = Text } ∷ []
unfolding plan_answer
eyes-plan_answer contents matrix lost budget = eyes-given (matrix_file contents matrix) (λ m. plan_given budget m lost) ∙ eyes-matrix_file contents matrix

-- Some eyes are a front of others.
record IsFront (front all : List Asked) : Type 0 where
  rest : List Asked
  joined : front ++ rest ≡ all

-- all eyes are a front of themselves
front_same : (eyes all : List Asked) → eyes ≡ all → IsFront eyes all
front_same eyes all e = record { rest = []; joined = append-nil eyes ∙ e }

-- what is asked for after some eyes is a front of what may be
front_after : {X Y : Type 0} (reading : Reading X) (next : X → Reading Y) (more : List Asked) → ((x : X) → IsFront (next x).eyes more)
    → IsFront (reading >>= next).eyes (reading.eyes ++ more)
front_after {X} {Y} reading next more fronts = go reading.result
  where
    go : (r : Result X Fault) → IsFront (and_then reading.eyes reading.taken r next).eyes (reading.eyes ++ more)
    go (Ok x) = let f = fronts x in record {
      rest = f.rest;
      joined = append_assoc reading.eyes (next x).eyes f.rest ∙ ap (λ eyes. reading.eyes ++ eyes) f.joined;
    }
    go (Err fault) = record { rest = more; joined = refl }

-- a chain whose later steps ask for none
eyes-given_more : {X Y : Type 0} (reading : Reading X) (next : X → Reading Y) → ((x : X) → (next x).eyes ≡ []) → (reading >>= next).eyes ≡ reading.eyes
eyes-given_more {X} {Y} reading next none = go reading.result
  where
    go : (r : Result X Fault) → (and_then reading.eyes reading.taken r next).eyes ≡ reading.eyes
    go (Ok x) = ap (λ eyes. reading.eyes ++ eyes) (none x) ∙ append-nil reading.eyes
    go (Err fault) = refl

pub eyes-text : (contents : List ℕ → List ℕ) (name : List ℕ) (what : What) → (text_file contents name what).eyes ≡ record { name = name; duty = Text } ∷ []
unfolding text_file text_within
eyes-text contents name what = refl

front-check_answer : (contents : List ℕ → List ℕ) (matrix lost plan : List ℕ)
    → IsFront (check_answer contents matrix lost plan).eyes (record { name = matrix; duty = Text } ∷ record { name = plan; duty = Text } ∷ [])
unfolding check_answer
front-check_answer contents matrix lost plan =
    subst (λ eyes. IsFront (check_answer contents matrix lost plan).eyes (eyes ++ record { name = plan; duty = Text } ∷ [])) (eyes-matrix_file contents matrix)
    (front_after (matrix_file contents matrix) (lost_next contents lost plan) (record { name = plan; duty = Text } ∷ []) (λ m.
    front_after (given (targets_given m lost)) (plan_next contents plan m) (record { name = plan; duty = Text } ∷ []) (λ targets.
    front_same (plan_next contents plan m targets).eyes (record { name = plan; duty = Text } ∷ [])
    (eyes-given_more (text_file contents plan PlanBytes) (cost_next m targets) (λ bytes. eyes-given (given (cost_given m targets bytes)) valid_next)
    ∙ eyes-text contents plan PlanBytes))))

pub eyes-encoded_file : (contents : List ℕ → List ℕ) (payload : List ℕ) (m : Code) (l : Layout) → (encoded_file contents payload m l).eyes ≡ record { name = payload; duty = Copy } ∷ []
unfolding encoded_file
eyes-encoded_file contents payload m l = refl

front-encode_answer : (contents : List ℕ → List ℕ) (matrix payload : List ℕ) (stripes bytes : ℕ)
    → IsFront (encode_answer contents matrix payload stripes bytes).eyes (record { name = matrix; duty = Text } ∷ record { name = payload; duty = Copy } ∷ [])
unfolding encode_answer
front-encode_answer contents matrix payload stripes bytes =
    subst (λ eyes. IsFront (encode_answer contents matrix payload stripes bytes).eyes (eyes ++ record { name = payload; duty = Copy } ∷ [])) (eyes-matrix_file contents matrix)
    (front_after (matrix_file contents matrix) (code_next contents payload stripes bytes) (record { name = payload; duty = Copy } ∷ []) (λ m.
    front_after (given (layout_given m bytes stripes)) (head_next contents payload m) (record { name = payload; duty = Copy } ∷ []) (λ l.
    front_same (head_next contents payload m l).eyes (record { name = payload; duty = Copy } ∷ [])
    (eyes-given (encoded_file contents payload m l) image_next ∙ eyes-encoded_file contents payload m l))))

pub eyes-handed_file : (contents : List ℕ → List ℕ) (plan : Option (List ℕ)) (m : Code) (targets : ℕ) → (handed_file contents plan m targets).eyes ≡ plan_eyes plan
unfolding plan_file
eyes-handed_file contents None m targets = refl
eyes-handed_file contents (Some plan) m targets = eyes-given (text_file contents plan PlanBytes) (handed_given m targets) ∙ eyes-text contents plan PlanBytes

pub eyes-head_file : (contents : List ℕ → List ℕ) (image : List ℕ) (m : Code) → (head_file contents image m).eyes ≡ record { name = image; duty = Head } ∷ []
unfolding head_file
eyes-head_file contents image m = refl

pub eyes-image_file : (contents : List ℕ → List ℕ) (image : List ℕ) (m : Code) (targets : ℕ) (handed : Option ChosenPlan)
    → (image_file contents image m targets handed).eyes ≡ record { name = image; duty = Head } ∷ []
unfolding image_file
eyes-image_file contents image m targets handed =
    eyes-given (head_file contents image m) (layout_allowed m targets handed) ∙ eyes-head_file contents image m

pub eyes-rebuild_by : (contents : List ℕ → List ℕ) (words : RebuildWords) (read : ImageParts) (asks : List Ask)
    → (rebuild_by contents words read asks).eyes ≡ eyes_on words.image (duties_of words.workers words.live)
unfolding rebuild_by
eyes-rebuild_by contents words read asks = refl

-- A chain asks for a front of these eyes, and for all of them where it gives a value.
record Fronts {X : Type 0} (reading : Reading X) (all : List Asked) : Type 0 where
  front : IsFront reading.eyes all
  whole : (x : X) → reading.result ≡ Ok x → reading.eyes ≡ all

fronts-same : {X : Type 0} (reading : Reading X) (all : List Asked) → reading.eyes ≡ all → Fronts reading all
fronts-same reading all e = record { front = front_same reading.eyes all e; whole = λ _ _. e }

fronts-then : {X Y : Type 0} (reading : Reading X) (next : X → Reading Y) (first more : List Asked) → Fronts reading first
    → ((x : X) → Fronts (next x) more) → Fronts (reading >>= next) (first ++ more)
fronts-then {X} {Y} reading next first more f k = go reading.result refl
  where
    go : (r : Result X Fault) → reading.result ≡ r → Fronts (and_then reading.eyes reading.taken r next) (first ++ more)
    go (Ok x) e = record {
      front = record {
        rest = (k x).front.rest;
        joined = append_assoc reading.eyes (next x).eyes (k x).front.rest ∙ ap (λ eyes. reading.eyes ++ eyes) (k x).front.joined
            ∙ ap (λ eyes. eyes ++ more) (f.whole x e);
      };
      whole = λ y is. ap (λ eyes. reading.eyes ++ eyes) ((k x).whole y is) ∙ ap (λ eyes. eyes ++ more) (f.whole x e);
    }
    go (Err fault) e = record {
      front = record {
        rest = f.front.rest ++ more;
        joined = sym (append_assoc reading.eyes f.front.rest more) ∙ ap (λ eyes. eyes ++ more) f.front.joined;
      };
      whole = λ y is. let clash : ◌≡◌ {A = Result Y Fault} (Err fault) (Ok y) = is in cc;
    }

-- the eye of the head
abbrev head_eyes : List ℕ → List Asked
head_eyes image = record { name = image; duty = Head } ∷ []

-- the eyes up to the script
fronts-image_read : (contents : List ℕ → List ℕ) (words : RebuildWords)
    → Fronts (image_read contents words) (record { name = words.matrix; duty = Text } ∷ (plan_eyes words.plan ++ head_eyes words.image))
unfolding image_read
fronts-image_read contents words =
    fronts-then (matrix_file contents words.matrix) (matrix_next contents words) (record { name = words.matrix; duty = Text } ∷ []) (plan_eyes words.plan ++ head_eyes words.image)
    (fronts-same _ _ (eyes-matrix_file contents words.matrix)) (λ m.
    fronts-then (given (targets_given m words.lost)) (loss_next contents words m) [] (plan_eyes words.plan ++ head_eyes words.image) (fronts-same _ _ refl) (λ targets.
    fronts-then (handed_file contents words.plan m targets) (handed_next contents words m targets) (plan_eyes words.plan) (head_eyes words.image)
    (fronts-same _ _ (eyes-handed_file contents words.plan m targets)) (λ handed.
    fronts-same _ _ (eyes-given (image_file contents words.image m targets handed) (λ l. Ok (parts_as m targets handed l)) ∙ eyes-image_file contents words.image m targets handed))))

none-before : (eyes : List Asked) → [] ++ eyes ≡ eyes
none-before [] = refl
none-before (eye ∷ eyes) = refl

-- all eyes of a rebuild
front-rebuild_answer : (contents : List ℕ → List ℕ) (left : List ℕ) (words : RebuildWords)
    → IsFront (rebuild_answer contents left words).eyes
    (record { name = words.matrix; duty = Text } ∷ (plan_eyes words.plan ++ (record { name = words.image; duty = Head } ∷ eyes_on words.image (duties_of words.workers words.live))))
unfolding rebuild_answer
front-rebuild_answer contents left words =
    subst (λ eyes. IsFront (rebuild_answer contents left words).eyes (record { name = words.matrix; duty = Text } ∷ eyes))
    (append_assoc (plan_eyes words.plan) (head_eyes words.image) all ∙ ap (λ eyes. plan_eyes words.plan ++ (record { name = words.image; duty = Head } ∷ eyes)) (none-before all))
    (fronts-then (image_read contents words) (asks_next contents left words)
    (record { name = words.matrix; duty = Text } ∷ (plan_eyes words.plan ++ head_eyes words.image)) all
    (fronts-image_read contents words) (λ read.
    subst (λ eyes. Fronts (asks_next contents left words read) eyes) (none-before all)
    (fronts-then (given (asks_given read.head left)) (rebuild_by contents words read) [] all (fronts-same _ _ refl) (λ asks.
    fronts-same _ _ (eyes-rebuild_by contents words read asks))))).front
  where
    all : List Asked
    all = eyes_on words.image (duties_of words.workers words.live)

-- ---- commands that read an image file whole

module _ (allowed : Layout → Result Layout Fault) (written : Code → Layout → List ℕ → Output) (contents : List ℕ → List ℕ) (matrix image : List ℕ) where
  abbrev copy : List Asked
  copy = record { name = image; duty = Copy } ∷ []

  pub eyes-body : (m : Code) (taken : Layout) → (body_next written contents image m taken).eyes ≡ copy
  unfolding body_answer
  eyes-body m taken = refl

  front-layout : (m : Code) (l : Layout) → IsFront (layout_next allowed written contents image m l).eyes copy
  unfolding allowed_answer
  front-layout m l = front_after (given (allowed l)) (body_next written contents image m) copy (λ taken. front_same _ copy (eyes-body m taken))

  front-spelled : (m : Code) → IsFront (spelled_next allowed written contents image m).eyes (record { name = image; duty = Head } ∷ copy)
  front-spelled m =
      subst (λ eyes. IsFront (spelled_next allowed written contents image m).eyes (eyes ++ copy)) (eyes-head_file contents image m)
      (front_after (head_file contents image m) (layout_next allowed written contents image m) copy (front-layout m))

  front-whole : IsFront (image_answer allowed written contents matrix image).eyes
      (record { name = matrix; duty = Text } ∷ record { name = image; duty = Head } ∷ copy)
  unfolding image_answer
  front-whole =
      subst (λ eyes. IsFront (image_answer allowed written contents matrix image).eyes (eyes ++ record { name = image; duty = Head } ∷ copy)) (eyes-matrix_file contents matrix)
      (front_after (matrix_file contents matrix) (spelled_next allowed written contents image) (record { name = image; duty = Head } ∷ copy) front-spelled)

-- ---- a repair

module _ (contents : List ℕ → List ℕ) (words : SectorsWords) where
  abbrev own_list : List Asked
  own_list = record { name = words.bad; duty = Text } ∷ []

  fronts-damage : Fronts (damage_file contents words) (record { name = words.matrix; duty = Text } ∷ (head_eyes words.image ++ own_list))
  unfolding damage_file
  fronts-damage =
      fronts-then (matrix_file contents words.matrix) (damage_by_code contents words) (record { name = words.matrix; duty = Text } ∷ []) (head_eyes words.image ++ own_list)
      (fronts-same _ _ (eyes-matrix_file contents words.matrix)) (λ m.
      fronts-then (given (lost_symbols_given m words.lost)) (damage_by_lost contents words m) [] (head_eyes words.image ++ own_list) (fronts-same _ _ refl) (λ lost.
      fronts-then (head_file contents words.image m) (damage_by_head contents words m lost) (head_eyes words.image) own_list (fronts-same _ _ (eyes-head_file contents words.image m)) (λ l.
      fronts-same _ _ (eyes-given (sectors_file contents words.bad lost l) (λ sectors. Ok (damage_of m lost l sectors)) ∙ eyes-list contents words.bad lost l))))

  fronts-determined : (d : DamageParts) → Fronts (determined_answer contents words.image words.budget d) (repair_eyes words.image)
  unfolding determined_answer
  fronts-determined d =
      fronts-then (given (determined_damage d)) (λ whole. repair_answer contents words.image whole words.budget) [] (repair_eyes words.image) (fronts-same _ _ refl) (λ whole.
      fronts-same _ _ (eyes-repair contents words.image words.budget whole))

  front-sectors_answer : IsFront (sectors_answer contents words).eyes
      (record { name = words.matrix; duty = Text } ∷ record { name = words.image; duty = Head } ∷ record { name = words.bad; duty = Text } ∷ repair_eyes words.image)
  unfolding sectors_answer
  front-sectors_answer =
      (fronts-then (damage_file contents words) (determined_answer contents words.image words.budget)
      (record { name = words.matrix; duty = Text } ∷ (head_eyes words.image ++ own_list)) (repair_eyes words.image) fronts-damage fronts-determined).front

-- the eyes of an answer are a front of its command's
front-answer : (words : List (List ℕ)) (contents : List ℕ → List ℕ) (left : List ℕ) → IsFront (answer words contents left).eyes (command_eyes (request_of words))
unfolding answer
front-answer words contents left = go (request_of words)
  where
    go : (o : Option Request) → IsFront (and_then [] no_bytes (or_usage o) (command_answer contents left)).eyes (command_eyes o)
    go None = front_same [] [] refl
    go (Some (Make code p)) = front_same [] [] refl
    go (Some (Encode matrix payload stripes bytes)) = front-encode_answer contents matrix payload stripes bytes
    go (Some (Rebuild matrix image lost workers budget plan live)) =
        front-rebuild_answer contents left (rebuild_words matrix image lost workers budget plan live)
    go (Some (Check matrix lost plan)) = front-check_answer contents matrix lost plan
    go (Some (Convert matrix image)) = front-whole first_version (λ _. converted_output) contents matrix image
    go (Some (Scrub matrix image)) = front-whole any_version scrub_output contents matrix image
    go (Some (Sectors matrix image lost bad budget)) = front-sectors_answer contents (sectors_words matrix image lost bad budget)
    go (Some (Drill number)) = front_same [] [] refl
    go (Some (Plan matrix lost workers budget)) = front_same _ _ (eyes-plan_answer contents matrix lost budget)

-- a front of a front
asks_front : (told : Told) (new : Option Told) (front all : List Asked) → IsFront front all → AsksFront told new front → AsksFront told new all
asks_front told new front all f h = subst (λ eyes. AsksFront told new eyes) f.joined (asks_more told new front f.rest h)

-- what was asked for besides is a front of the command's eyes
pub asks_of_command : {X : Type 0} (view : X → Finding) (old new : Option Told) (t0 t1 : Totals) (script : Option (List ℕ)) (result : Result X Fault) (words : List (List ℕ))
    → FollowsWith view old new t0 t1 script result (answer words) → IfSome old (λ told. AsksFront told new (command_eyes (request_of words)))
asks_of_command view None new t0 t1 script result words h = tt
asks_of_command view (Some told) new t0 t1 script result words h =
    asks_front told new _ _ (front-answer words told.contents h.left) (h.reads told refl).front

-- the same, once the eyes that are held are given back
pub asks_returned : (old back new : Option Told) (eyes : List Asked) → new ≡ back → IfSome old (λ told. AsksFront told back eyes) → IfSome old (λ told. AsksFront told new eyes)
asks_returned None back new eyes e h = tt
asks_returned (Some told) back new eyes e h = subst (λ n. AsksFront told n eyes) (sym e) h
