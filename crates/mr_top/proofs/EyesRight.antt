-- The chains ask for the eyes that the request says.
use Rattle.std.proofs.Common.{◌≡◌, ℕ, List, [], ◌∷◌, ◌++◌, Option, Some, None, Result, Ok, Err, refl, sym, ◌∙◌, ap, option_map}
use Rattle.std.proofs.lemmas.List.{append-nil}
use Rattle.mr_bits.specs.declared.errors.What.TheVariants.{PlanBytes}
use Rattle.mr_choices.specs.Handed.{handed_file, plan_file_given}
use Rattle.mr_image.specs.Images.{Layout}
use Rattle.mr_io.specs.declared.asked.Asked.{Asked}
use Rattle.mr_io.specs.declared.duty.Duty.TheVariants.{Text, Head, Copy}
use Rattle.mr_mend.specs.declared.asks.Ask.{Ask}
use Rattle.mr_model.specs.Code.{Code}
use Rattle.mr_words.specs.declared.rebuild_words.RebuildWords.{RebuildWords}
use Rattle.mr_io.specs.Growth.{no_bytes}
use Rattle.mr_steps.specs.Texts.{matrix_given}
use Rattle.mr_top.specs.Rebuild.{asks_given, head_given, image_given, rebuild_of_parts}
use Rattle.mr_steps.specs.TextFiles.{matrix_file, text_file}
use Rattle.mr_top.specs.CheckSteps.{check_answer}
use Rattle.mr_top.specs.Commands.{answer, command_answer}
use Rattle.mr_top.specs.EncodeSteps.{encode_answer, encoded_file}
use Rattle.mr_ready.specs.Duties.{duties_of, eyes_on}
use Rattle.mr_top.specs.Eyes.{plan_eyes, after, rebuild_eyes, request_eyes, words_eyes, whole_eyes}
use Rattle.mr_top.specs.RebuildSteps.{head_file, ImageParts, image_file, image_read, parts_as, rebuild_answer, rebuild_by}
use Rattle.mr_top.specs.Check.{cost_given}
use Rattle.mr_top.specs.Encode.{layout_given, layout_accepted}
use Rattle.mr_steps.specs.Losses.{loss_accepted, targets_given}
use Rattle.mr_steps.specs.Readings.{Reading, and_then, given, ◌>>=◌}
use Rattle.mr_steps.specs.Refusals.{followed_by}
use Rattle.mr_steps.specs.Requests.{or_usage, rebuild_words, request_of}
use Rattle.mr_choices.specs.declared.chosen.ChosenPlan.{ChosenPlan}
use Rattle.mr_steps.specs.declared.fault.Fault.{Fault}
use Rattle.mr_steps.specs.declared.request.Request.{Request}
use Rattle.mr_steps.specs.declared.request.Request.TheVariants.{Check, Convert, Drill, Encode, Make, Plan, Rebuild, Scrub, Sectors}
use Rattle.mr_top.proofs.AcceptedParts.{image_of_loss, image_of_matrix, image_of_plan, rebuild_of_head, rebuild_of_loss, rebuild_of_matrix, rebuild_of_plan}
use Rattle.mr_top.proofs.Accepting.{handed-is, image-is, matrix-is, head-is}
use Rattle.mr_steps.proofs.Chains.{eyes-given}
use Rattle.mr_top.proofs.CheckSteps.{cost_next, lost_next, plan_next, valid_next}
use Rattle.mr_top.proofs.EncodeSteps.{code_next, head_next, image_next}
use Rattle.mr_top.proofs.Eyes.{eyes-encoded_file, eyes-handed_file, eyes-head_file, eyes-image_file, eyes-matrix_file, eyes-plan_answer, eyes-rebuild_by, eyes-text, eyes-body}
use Rattle.mr_top.proofs.ImageSteps.{asks_next, handed_next, loss_next, matrix_next}
use Rattle.mr_top.specs.WholeImages.{allowed_answer, any_version, image_answer}
use Rattle.mr_top.specs.Convert.{converted_output, first_version}
use Rattle.mr_top.specs.Scrub.{scrub_output}
use Rattle.mr_patch.specs.Damages.{DamageParts}
use Rattle.mr_steps.specs.Losses.{lost_symbols_given}
use Rattle.mr_words.specs.declared.sectors_words.SectorsWords.{SectorsWords}
use Rattle.mr_top.specs.Eyes.{sectors_eyes}
use Rattle.mr_top.specs.Sectors.{damage_accepted, damage_of, determined_damage, repair_accepted, sectors_words}
use Rattle.mr_top.specs.SectorsSteps.{damage_file, determined_answer, repair_eyes, sectors_answer, sectors_file}
use Rattle.mr_sectors.specs.Steps.{repair_answer}
use Rattle.mr_top.proofs.DamageSteps.{damage_by_code, damage_by_head, damage_by_lost}
use Rattle.mr_top.proofs.Sectoring.{damage-is, eyes-list, eyes-repair}
use Rattle.mr_top.proofs.WholeImages.{body_next, layout_next, spelled_next}
use Rattle.mr_steps.specs.Sinks.{Output}

-- what comes on a value
abbrev on : {X : Type 0} → Result X Fault → (X → List Asked) → List Asked
on (Ok x) eyes = eyes x
on (Err fault) eyes = []

-- the eyes of a chain whose parts are known
eyes-as : {X Y : Type 0} (reading : Reading X) (next : X → Reading Y) (first : List Asked) (r : Result X Fault) (more : X → List Asked)
    → reading.eyes ≡ first → reading.result ≡ r → ((x : X) → (next x).eyes ≡ more x) → (reading >>= next).eyes ≡ first ++ on r more
eyes-as {X} {Y} reading next first r more e is same =
    go reading.result is ∙ ap (λ eyes. eyes ++ on r more) e
  where
    on-same : (s : Result X Fault) → (and_then reading.eyes reading.taken s next).eyes ≡ reading.eyes ++ on s more
    on-same (Ok x) = ap (λ eyes. reading.eyes ++ eyes) (same x)
    on-same (Err fault) = sym (append-nil reading.eyes)

    go : (s : Result X Fault) → s ≡ r → (and_then reading.eyes reading.taken s next).eyes ≡ reading.eyes ++ on r more
    go s e = on-same s ∙ ap (λ q. reading.eyes ++ on q more) e

-- eyes after two steps
on-two : {X Y : Type 0} (a : Result X Fault) (f : X → Result Y Fault) (eyes : List Asked) → on a (λ x. [] ++ on (f x) (λ _. eyes)) ≡ after (followed_by a f) eyes
on-two {X} {Y} (Ok x) f eyes = go (f x)
  where
    go : (r : Result Y Fault) → [] ++ on r (λ _. eyes) ≡ after r eyes
    go (Ok y) = refl
    go (Err fault) = refl
on-two (Err fault) f eyes = refl

-- ---- check and encode

check-eyes : (contents : List ℕ → List ℕ) (matrix lost plan : List ℕ)
    → (check_answer contents matrix lost plan).eyes
    ≡ record { name = matrix; duty = Text } ∷ after (loss_accepted contents matrix lost) (record { name = plan; duty = Text } ∷ [])
unfolding check_answer
check-eyes contents matrix lost plan =
    eyes-as (matrix_file contents matrix) (lost_next contents lost plan) (record { name = matrix; duty = Text } ∷ []) (matrix_given (contents matrix))
    (λ m. [] ++ on (targets_given m lost) (λ _. record { name = plan; duty = Text } ∷ [])) (eyes-matrix_file contents matrix) (matrix-is contents matrix) (λ m.
    eyes-as (given (targets_given m lost)) (plan_next contents plan m) [] (targets_given m lost) (λ _. record { name = plan; duty = Text } ∷ []) refl refl (λ targets.
    text-last contents plan m targets))
    ∙ ap (λ eyes. record { name = matrix; duty = Text } ∷ eyes) (on-two (matrix_given (contents matrix)) (λ m. targets_given m lost) (record { name = plan; duty = Text } ∷ []))
  where
    none-after : {X : Type 0} (r : Result X Fault) (eyes : List Asked) → eyes ++ on r (λ _. []) ≡ eyes
    none-after (Ok x) eyes = append-nil eyes
    none-after (Err fault) eyes = append-nil eyes

    text-last : (contents : List ℕ → List ℕ) (plan : List ℕ) (m : Code) (targets : ℕ) → (plan_next contents plan m targets).eyes ≡ record { name = plan; duty = Text } ∷ []
    text-last contents plan m targets =
        eyes-as (text_file contents plan PlanBytes) (cost_next m targets) (record { name = plan; duty = Text } ∷ []) (text_file contents plan PlanBytes).result (λ _. [])
        (eyes-text contents plan PlanBytes) refl (λ bytes. eyes-given (given (cost_given m targets bytes)) valid_next)
        ∙ none-after (text_file contents plan PlanBytes).result (record { name = plan; duty = Text } ∷ [])

encode-eyes : (contents : List ℕ → List ℕ) (matrix payload : List ℕ) (stripes bytes : ℕ)
    → (encode_answer contents matrix payload stripes bytes).eyes
    ≡ record { name = matrix; duty = Text } ∷ after (layout_accepted contents matrix stripes bytes) (record { name = payload; duty = Copy } ∷ [])
unfolding encode_answer
encode-eyes contents matrix payload stripes bytes =
    eyes-as (matrix_file contents matrix) (code_next contents payload stripes bytes) (record { name = matrix; duty = Text } ∷ []) (matrix_given (contents matrix))
    (λ m. [] ++ on (layout_given m bytes stripes) (λ _. record { name = payload; duty = Copy } ∷ [])) (eyes-matrix_file contents matrix) (matrix-is contents matrix) (λ m.
    eyes-as (given (layout_given m bytes stripes)) (head_next contents payload m) [] (layout_given m bytes stripes) (λ _. record { name = payload; duty = Copy } ∷ []) refl refl (λ l.
    eyes-given (encoded_file contents payload m l) image_next ∙ eyes-encoded_file contents payload m l))
    ∙ ap (λ eyes. record { name = matrix; duty = Text } ∷ eyes) (on-two (matrix_given (contents matrix)) (λ m. layout_given m bytes stripes) (record { name = payload; duty = Copy } ∷ []))

-- ---- a rebuild

-- the eyes up to the script, by what the steps give
abbrev image_eyes_of : (List ℕ → List ℕ) → RebuildWords → List Asked
image_eyes_of contents words =
    on (matrix_given (contents words.matrix)) (λ m. [] ++ on (targets_given m words.lost) (λ targets.
    plan_eyes words.plan ++ on (plan_file_given m targets (option_map contents words.plan)) (λ _. record { name = words.image; duty = Head } ∷ [])))

image-eyes : (contents : List ℕ → List ℕ) (words : RebuildWords)
    → (image_read contents words).eyes ≡ record { name = words.matrix; duty = Text } ∷ image_eyes_of contents words
unfolding image_read
image-eyes contents words =
    eyes-as (matrix_file contents words.matrix) (matrix_next contents words) (record { name = words.matrix; duty = Text } ∷ []) (matrix_given (contents words.matrix))
    (λ m. [] ++ on (targets_given m words.lost) (λ targets. plan_eyes words.plan ++ on (plan_file_given m targets (option_map contents words.plan)) (λ _. record { name = words.image; duty = Head } ∷ [])))
    (eyes-matrix_file contents words.matrix) (matrix-is contents words.matrix) (λ m.
    eyes-as (given (targets_given m words.lost)) (loss_next contents words m) [] (targets_given m words.lost)
    (λ targets. plan_eyes words.plan ++ on (plan_file_given m targets (option_map contents words.plan)) (λ _. record { name = words.image; duty = Head } ∷ [])) refl refl (λ targets.
    eyes-as (handed_file contents words.plan m targets) (handed_next contents words m targets) (plan_eyes words.plan) (plan_file_given m targets (option_map contents words.plan))
    (λ _. record { name = words.image; duty = Head } ∷ []) (eyes-handed_file contents words.plan m targets) (handed-is contents words.plan m targets) (λ handed.
    eyes-given (image_file contents words.image m targets handed) (λ l. Ok (parts_as m targets handed l)) ∙ eyes-image_file contents words.image m targets handed)))

-- the eyes and the results, step by step
module _ (contents : List ℕ → List ℕ) (left : List ℕ) (words : RebuildWords) (head mend : List Asked) where
  abbrev ends : ImageParts → List Asked
  ends read = [] ++ on (asks_given read.head left) (λ _. mend)

  step-asks : (plan : List Asked) (m : Code) (targets : ℕ) (handed : Option ChosenPlan) (l : Layout) (r : Result (List Ask) Fault)
      → (plan ++ head) ++ ([] ++ on r (λ _. mend)) ≡ plan ++ head ++ after (followed_by r (λ asks. Ok (rebuild_of_parts contents words m targets handed l asks))) mend
  step-asks plan m targets handed l (Ok asks) = refl
  step-asks plan m targets handed l (Err fault) = refl

  step-head : (plan : List Asked) (m : Code) (targets : ℕ) (handed : Option ChosenPlan) (r : Result Layout Fault)
      → (plan ++ head) ++ on (followed_by r (λ l. Ok (parts_as m targets handed l))) ends ≡ plan ++ head ++ after (followed_by r (rebuild_of_head contents left words m targets handed)) mend
  step-head plan m targets handed (Ok l) = step-asks plan m targets handed l (asks_given l left)
  step-head plan m targets handed (Err fault) = refl

  step-handed : (plan : List Asked) (m : Code) (targets : ℕ) (r : Result (Option ChosenPlan) Fault)
      → (plan ++ on r (λ _. head)) ++ on (followed_by r (image_of_plan contents words m targets)) ends ≡ plan ++ after r head ++ after (followed_by r (rebuild_of_plan contents left words m targets)) mend
  step-handed plan m targets (Ok handed) = step-head plan m targets handed (image_given m targets handed (contents words.image))
  step-handed plan m targets (Err fault) = refl

  step-loss : (plan : List Asked) (m : Code) (r : Result ℕ Fault)
      → ([] ++ on r (λ targets. plan ++ on (plan_file_given m targets (option_map contents words.plan)) (λ _. head))) ++ on (followed_by r (image_of_loss contents words m)) ends
      ≡ after r plan ++ after (followed_by r (λ targets. plan_file_given m targets (option_map contents words.plan))) head ++ after (followed_by r (rebuild_of_loss contents left words m)) mend
  step-loss plan m (Ok targets) = step-handed plan m targets (plan_file_given m targets (option_map contents words.plan))
  step-loss plan m (Err fault) = refl

  step-matrix : (plan : List Asked) (r : Result Code Fault)
      → on r (λ m. [] ++ on (targets_given m words.lost) (λ targets. plan ++ on (plan_file_given m targets (option_map contents words.plan)) (λ _. head))) ++ on (followed_by r (image_of_matrix contents words)) ends
      ≡ after (followed_by r (λ m. targets_given m words.lost)) plan
      ++ after (followed_by r (λ m. followed_by (targets_given m words.lost) (λ targets. plan_file_given m targets (option_map contents words.plan)))) head
      ++ after (followed_by r (rebuild_of_matrix contents left words)) mend
  step-matrix plan (Ok m) = step-loss plan m (targets_given m words.lost)
  step-matrix plan (Err fault) = refl

rebuild-eyes : (contents : List ℕ → List ℕ) (left : List ℕ) (words : RebuildWords) → (rebuild_answer contents left words).eyes ≡ rebuild_eyes contents left words
unfolding rebuild_answer
rebuild-eyes contents left words =
    eyes-as (image_read contents words) (asks_next contents left words) (record { name = words.matrix; duty = Text } ∷ image_eyes_of contents words) (image_read contents words).result
    (λ read. [] ++ on (asks_given read.head left) (λ _. (eyes_on words.image (duties_of words.workers words.live)))) (image-eyes contents words) refl (λ read.
    eyes-as (given (asks_given read.head left)) (rebuild_by contents words read) [] (asks_given read.head left) (λ _. (eyes_on words.image (duties_of words.workers words.live))) refl refl (λ asks.
    eyes-rebuild_by contents words read asks))
    ∙ ap (λ r. (record { name = words.matrix; duty = Text } ∷ image_eyes_of contents words) ++ on r (λ (read : ImageParts). [] ++ on (asks_given read.head left) (λ _. (eyes_on words.image (duties_of words.workers words.live)))))
    (image-is contents left words)
    ∙ ap (λ eyes. record { name = words.matrix; duty = Text } ∷ eyes)
    (step-matrix contents left words (record { name = words.image; duty = Head } ∷ []) (eyes_on words.image (duties_of words.workers words.live)) (plan_eyes words.plan) (matrix_given (contents words.matrix)))

-- ---- commands that read an image file whole

module _ (allowed : Layout → Result Layout Fault) (written : Code → Layout → List ℕ → Output) (contents : List ℕ → List ℕ) (matrix image : List ℕ) where
  abbrev head : List Asked
  head = record { name = image; duty = Head } ∷ []

  abbrev copy : List Asked
  copy = record { name = image; duty = Copy } ∷ []

  eyes-layout : (m : Code) (l : Layout) → (layout_next allowed written contents image m l).eyes ≡ [] ++ on (allowed l) (λ _. copy)
  unfolding allowed_answer
  eyes-layout m l =
      eyes-as (given (allowed l)) (body_next written contents image m) [] (allowed l) (λ _. copy) refl refl (eyes-body allowed written contents matrix image m)

  eyes-steps : (r : Result Code Fault) → on r (λ m. head ++ on (head_given m (contents image)) (λ l. [] ++ on (allowed l) (λ _. copy)))
      ≡ after r head ++ after (followed_by r (λ m. followed_by (head_given m (contents image)) allowed)) copy
  eyes-steps (Ok m) = ap (λ eyes. head ++ eyes) (on-two (head_given m (contents image)) allowed copy)
  eyes-steps (Err fault) = refl

  whole-eyes : (image_answer allowed written contents matrix image).eyes
      ≡ whole_eyes matrix image (matrix_given (contents matrix)) (followed_by (matrix_given (contents matrix)) (λ m. followed_by (head_given m (contents image)) allowed))
  unfolding image_answer
  whole-eyes =
      eyes-as (matrix_file contents matrix) (spelled_next allowed written contents image) (record { name = matrix; duty = Text } ∷ []) (matrix_given (contents matrix))
      (λ m. head ++ on (head_given m (contents image)) (λ l. [] ++ on (allowed l) (λ _. copy))) (eyes-matrix_file contents matrix) (matrix-is contents matrix) (λ m.
      eyes-as (head_file contents image m) (layout_next allowed written contents image m) head (head_given m (contents image)) (λ l. [] ++ on (allowed l) (λ _. copy))
      (eyes-head_file contents image m) (head-is contents image m) (eyes-layout m))
      ∙ ap (λ eyes. record { name = matrix; duty = Text } ∷ eyes) (eyes-steps (matrix_given (contents matrix)))

-- ---- a repair

module _ (contents : List ℕ → List ℕ) (words : SectorsWords) where
  abbrev own_head : List Asked
  own_head = record { name = words.image; duty = Head } ∷ []

  abbrev own_list : List Asked
  own_list = record { name = words.bad; duty = Text } ∷ []

  -- the eyes up to the list, by what the steps give
  abbrev damage_eyes : List Asked
  damage_eyes =
      on (matrix_given (contents words.matrix)) (λ m. [] ++ on (lost_symbols_given m words.lost) (λ _.
      own_head ++ on (head_given m (contents words.image)) (λ _. own_list)))

  damage-eyes : (damage_file contents words).eyes ≡ record { name = words.matrix; duty = Text } ∷ damage_eyes
  unfolding damage_file
  damage-eyes =
      eyes-as (matrix_file contents words.matrix) (damage_by_code contents words) (record { name = words.matrix; duty = Text } ∷ []) (matrix_given (contents words.matrix))
      (λ m. [] ++ on (lost_symbols_given m words.lost) (λ _. own_head ++ on (head_given m (contents words.image)) (λ _. own_list)))
      (eyes-matrix_file contents words.matrix) (matrix-is contents words.matrix) (λ m.
      eyes-as (given (lost_symbols_given m words.lost)) (damage_by_lost contents words m) [] (lost_symbols_given m words.lost)
      (λ _. own_head ++ on (head_given m (contents words.image)) (λ _. own_list)) refl refl (λ lost.
      eyes-as (head_file contents words.image m) (damage_by_head contents words m lost) own_head (head_given m (contents words.image)) (λ _. own_list)
      (eyes-head_file contents words.image m) (head-is contents words.image m) (λ l.
      eyes-given (sectors_file contents words.bad lost l) (λ sectors. Ok (damage_of m lost l sectors)) ∙ eyes-list contents words.bad lost l)))

  step-list : (r : Result Layout Fault) → on r (λ _. own_list) ≡ after r own_list
  step-list (Ok l) = refl
  step-list (Err fault) = refl

  step-lost : (m : Code) (r : Result ℕ Fault) → [] ++ on r (λ _. own_head ++ on (head_given m (contents words.image)) (λ _. own_list))
      ≡ after r own_head ++ after (followed_by r (λ _. head_given m (contents words.image))) own_list
  step-lost m (Ok lost) = ap (λ eyes. own_head ++ eyes) (step-list (head_given m (contents words.image)))
  step-lost m (Err fault) = refl

  step-code : (r : Result Code Fault)
      → on r (λ m. [] ++ on (lost_symbols_given m words.lost) (λ _. own_head ++ on (head_given m (contents words.image)) (λ _. own_list)))
      ≡ after (followed_by r (λ m. lost_symbols_given m words.lost)) own_head
      ++ after (followed_by r (λ m. followed_by (lost_symbols_given m words.lost) (λ _. head_given m (contents words.image)))) own_list
  step-code (Ok m) = step-lost m (lost_symbols_given m words.lost)
  step-code (Err fault) = refl

  determined-eyes : (d : DamageParts) → (determined_answer contents words.image words.budget d).eyes ≡ [] ++ on (determined_damage d) (λ _. repair_eyes words.image)
  unfolding determined_answer
  determined-eyes d =
      eyes-as (given (determined_damage d)) (λ whole. repair_answer contents words.image whole words.budget) [] (determined_damage d) (λ _. repair_eyes words.image) refl refl
      (λ whole. eyes-repair contents words.image words.budget whole)

  sectors-eyes : (sectors_answer contents words).eyes ≡ sectors_eyes contents words
  unfolding sectors_answer
  sectors-eyes =
      eyes-as (damage_file contents words) (determined_answer contents words.image words.budget) (record { name = words.matrix; duty = Text } ∷ damage_eyes) (damage_accepted contents words)
      (λ d. [] ++ on (determined_damage d) (λ _. repair_eyes words.image)) damage-eyes (damage-is contents words) determined-eyes
      ∙ ap (λ eyes. (record { name = words.matrix; duty = Text } ∷ damage_eyes) ++ eyes) (on-two (damage_accepted contents words) determined_damage (repair_eyes words.image))
      ∙ ap (λ eyes. record { name = words.matrix; duty = Text } ∷ (eyes ++ after (repair_accepted contents words) (repair_eyes words.image))) (step-code (matrix_given (contents words.matrix)))

-- ---- requests and words

pub request-eyes : (request : Request) (contents : List ℕ → List ℕ) (left : List ℕ) → (command_answer contents left request).eyes ≡ request_eyes contents left request
request-eyes (Plan matrix lost workers budget) contents left = eyes-plan_answer contents matrix lost budget
request-eyes (Check matrix lost plan) contents left = check-eyes contents matrix lost plan
request-eyes (Make code p) contents left = refl
request-eyes (Encode matrix payload stripes bytes) contents left = encode-eyes contents matrix payload stripes bytes
request-eyes (Rebuild matrix image lost workers budget plan live) contents left = rebuild-eyes contents left (rebuild_words matrix image lost workers budget plan live)
request-eyes (Convert matrix image) contents left = whole-eyes first_version (λ _. converted_output) contents matrix image
request-eyes (Scrub matrix image) contents left = whole-eyes any_version scrub_output contents matrix image
request-eyes (Sectors matrix image lost bad budget) contents left = sectors-eyes contents (sectors_words matrix image lost bad budget)
request-eyes (Drill number) contents left = refl

pub words-eyes : (words : List (List ℕ)) (contents : List ℕ → List ℕ) (left : List ℕ) → (answer words contents left).eyes ≡ words_eyes contents left (request_of words)
unfolding answer
words-eyes words contents left = go (request_of words)
  where
    go : (o : Option Request) → (and_then [] no_bytes (or_usage o) (command_answer contents left)).eyes ≡ words_eyes contents left o
    go None = refl
    go (Some request) = request-eyes request contents left
