-- The chains of the commands and the relation between what is accepted and what is written.
use Rattle.std.proofs.Common.{◌≡◌, ℕ, List, [], Option, Some, None, Result, Ok, Err, refl, sym, ◌∙◌, ap, subst, option_map}
use Rattle.mr_choices.specs.Handed.{plan_file_given}
use Rattle.mr_bits.specs.Matrices.{IsMatrixCode}
use Rattle.mr_words.specs.declared.rebuild_words.RebuildWords.{RebuildWords}
use Rattle.mr_io.specs.Growth.{no_bytes}
use Rattle.mr_ready.specs.Orders.{OrderParts}
use Rattle.mr_ready.specs.Writing.{IsOutput}
use Rattle.mr_steps.specs.Refusals.{Gave, followed_by, refusal_of}
use Rattle.mr_steps.specs.Texts.{matrix_given}
use Rattle.mr_steps.proofs.Results.{gave-followed, gave-then, ok-same, refusal-followed}
use Rattle.mr_top.specs.Rebuild.{RebuildAccepted, image_given, order_for, rebuild_accepted, asks_given}
use Rattle.mr_steps.specs.Sinks.{Output}
use Rattle.mr_top.specs.Answered.{IsAnswer, IsAnswered, refusal, words_refusal}
use Rattle.mr_top.specs.Commands.{answer, command_answer}
use Rattle.mr_top.specs.RebuildSteps.{rebuild_answer}
use Rattle.mr_top.specs.CheckSteps.{check_answer}
use Rattle.mr_top.specs.Convert.{convert_answer}
use Rattle.mr_top.specs.EncodeSteps.{encode_answer}
use Rattle.mr_top.specs.Findings.{Finding, MayWrite, rebuilding, to_write, writing}
use Rattle.mr_top.specs.Drill.{drill_given}
use Rattle.mr_top.specs.Make.{make_given}
use Rattle.mr_top.specs.PlanSteps.{plan_answer}
use Rattle.mr_top.specs.Scrub.{scrub_answer}
use Rattle.mr_top.specs.Sectors.{repair_written, sectors_words}
use Rattle.mr_top.specs.SectorsSteps.{sectors_answer}
use Rattle.mr_top.specs.Check.{check_written}
use Rattle.mr_top.specs.Encode.{image_written}
use Rattle.mr_top.specs.Plan.{plan_written}
use Rattle.mr_steps.specs.Losses.{targets_given}
use Rattle.mr_steps.specs.Readings.{Reading, and_then, given}
use Rattle.mr_steps.specs.Requests.{or_usage, rebuild_words, request_of}
use Rattle.mr_choices.specs.declared.chosen.ChosenPlan.{ChosenPlan}
use Rattle.mr_steps.specs.declared.fault.Fault.{Fault}
use Rattle.mr_steps.specs.declared.request.Request.{Request}
use Rattle.mr_steps.specs.declared.request.Request.TheVariants.{Check, Convert, Drill, Encode, Make, Plan, Rebuild, Scrub, Sectors}
use Rattle.mr_top.proofs.Accepting.{check-is, encode-is, plan-is, rebuild-is, rebuild_found}
use Rattle.mr_top.proofs.CodewordsOwn.{given-code}
use Rattle.mr_top.proofs.Converting.{convert-is}
use Rattle.mr_top.proofs.Scrubbing.{scrub-is}
use Rattle.mr_top.proofs.Sectoring.{sectors-is}
use Rattle.mr_top.proofs.Findings.{refusal-written, writes-own, writing-of}
use Rattle.mr_top.proofs.HeadLimits.{IsImageGiven, image-given}

-- ---- what a rebuild accepts

-- Each part of it comes from the words, the contents and the script.
pub record AcceptedBy (contents : List ℕ → List ℕ) (left : List ℕ) (words : RebuildWords) (r : RebuildAccepted) : Type 0 where
  pub handed : Option ChosenPlan
  pub matrix_is : matrix_given (contents words.matrix) ≡ Ok r.code
  pub lost_is : targets_given r.code words.lost ≡ Ok r.lost
  pub handed_is : plan_file_given r.code r.lost (option_map contents words.plan) ≡ Ok handed
  pub order_is : r.order ≡ order_for words r.code r.lost handed r.order.head r.order.asks
  pub layout_is : image_given r.code r.lost handed (contents words.image) ≡ Ok r.order.head
  pub bytes_is : r.bytes ≡ contents words.image
  pub asks_is : asks_given r.order.head left ≡ Ok r.order.asks

pub accepted-by : (contents : List ℕ → List ℕ) (left : List ℕ) (words : RebuildWords) (r : RebuildAccepted)
    → rebuild_accepted contents left words ≡ Ok r → AcceptedBy contents left words r
accepted-by contents left words r e =
    let a = gave-then (matrix_given (contents words.matrix)) _ r e in
    let b = gave-then (targets_given a.value words.lost) _ r a.holds in
    let d = gave-then (plan_file_given a.value b.value (option_map contents words.plan)) _ r b.holds in
    let f = gave-then (image_given a.value b.value d.value (contents words.image)) _ r d.holds in
    let k = gave-then (asks_given f.value left) _ r f.holds in
    subst (AcceptedBy contents left words) (ok-same k.holds) (record {
      handed = d.value;
      matrix_is = a.is;
      lost_is = b.is;
      handed_is = d.is;
      order_is = refl;
      layout_is = f.is;
      bytes_is = refl;
      asks_is = k.is;
    })

-- the matrix of what is accepted
pub accepted-code : (contents : List ℕ → List ℕ) (left : List ℕ) (words : RebuildWords) (r : RebuildAccepted) → AcceptedBy contents left words r → IsMatrixCode r.code
accepted-code contents left words r by = given-code (contents words.matrix) r.code by.matrix_is

-- its image
pub accepted-image : (contents : List ℕ → List ℕ) (left : List ℕ) (words : RebuildWords) (r : RebuildAccepted) (by : AcceptedBy contents left words r)
    → IsImageGiven r.code r.lost by.handed r.bytes r.order.head
accepted-image contents left words r by =
    image-given r.code r.lost by.handed r.bytes r.order.head (accepted-code contents left words r by) (ap (image_given r.code r.lost by.handed) by.bytes_is ∙ by.layout_is)

-- ---- requests

-- what is accepted of a rebuild that was found
pub rebuild-accepted : (contents : List ℕ → List ℕ) (left : List ℕ) (words : RebuildWords) (found : Finding)
    → (rebuild_answer contents left words).result ≡ Ok found → Gave (rebuild_accepted contents left words) (λ r. found ≡ rebuild_found r)
rebuild-accepted contents left words found e =
    gave-followed (rebuild_accepted contents left words) rebuild_found found (sym (rebuild-is contents left words) ∙ e)

rebuild-answered : (contents : List ℕ → List ℕ) (left : List ℕ) (words : RebuildWords) (found : Finding) (output : Output)
    → (rebuild_answer contents left words).result ≡ Ok found → MayWrite found output → Gave (rebuild_accepted contents left words) (λ r. IsOutput r.order r.bytes output)
rebuild-answered contents left words found output e may =
    let g = rebuild-accepted contents left words found e in
    record { value = g.value; is = g.is; holds = subst (λ f. MayWrite f output) g.holds may }

-- the output that is to be written is that of what is accepted
written-as : {X : Type 0} (r : Result X Fault) (reading : Reading Output) (written : X → Output) (found : Finding) (output : Output)
    → reading.result ≡ followed_by r (λ x. Ok (written x)) → (to_write reading).result ≡ Ok found → MayWrite found output → Gave r (λ x. output ≡ written x)
written-as r reading written found output is e may =
    let w = writing-of reading found e in
    let g = gave-followed r written w.output (sym is ∙ w.result_is) in
    record { value = g.value; is = g.is; holds = writes-own reading found output w may ∙ g.holds }

made-as : (r : Result Output Fault) (found : Finding) (output : Output) → (to_write (given r)).result ≡ Ok found → MayWrite found output → r ≡ Ok output
made-as r found output e may =
    let w = writing-of (given r) found e in
    w.result_is ∙ ap (λ (o : Output). Ok o) (sym (writes-own (given r) found output w may))

pub is-answered : (request : Request) (contents : List ℕ → List ℕ) (left : List ℕ) (found : Finding) (output : Output)
    → (command_answer contents left request).result ≡ Ok found → MayWrite found output → IsAnswered request contents left output
is-answered (Plan matrix lost workers budget) contents left found output e may =
    written-as _ (plan_answer contents matrix lost budget) plan_written found output (plan-is contents matrix lost budget) e may
is-answered (Check matrix lost plan) contents left found output e may =
    written-as _ (check_answer contents matrix lost plan) check_written found output (check-is contents matrix lost plan) e may
is-answered (Make code p) contents left found output e may = made-as (make_given code p) found output e may
is-answered (Encode matrix payload stripes bytes) contents left found output e may =
    written-as _ (encode_answer contents matrix payload stripes bytes) image_written found output (encode-is contents matrix payload stripes bytes) e may
is-answered (Rebuild matrix image lost workers budget plan live) contents left found output e may =
    rebuild-answered contents left (rebuild_words matrix image lost workers budget plan live) found output e may
is-answered (Convert matrix image) contents left found output e may =
    written-as _ (convert_answer contents matrix image) image_written found output (convert-is contents matrix image) e may
is-answered (Scrub matrix image) contents left found output e may =
    let w = writing-of (scrub_answer contents matrix image) found e in
    sym (scrub-is contents matrix image) ∙ w.result_is ∙ ap (λ (o : Output). Ok o) (sym (writes-own (scrub_answer contents matrix image) found output w may))
is-answered (Sectors matrix image lost bad budget) contents left found output e may =
    let words = sectors_words matrix image lost bad budget in
    written-as _ (sectors_answer contents words) (repair_written contents words) found output (sectors-is contents words) e may
is-answered (Drill number) contents left found output e may = made-as (drill_given number) found output e may

pub refusal-is : (request : Request) (contents : List ℕ → List ℕ) (left : List ℕ)
    → refusal_of (command_answer contents left request).result ≡ refusal contents left request
refusal-is (Plan matrix lost workers budget) contents left =
    refusal-written (plan_answer contents matrix lost budget) ∙ ap refusal_of (plan-is contents matrix lost budget) ∙ refusal-followed _ plan_written
refusal-is (Check matrix lost plan) contents left =
    refusal-written (check_answer contents matrix lost plan) ∙ ap refusal_of (check-is contents matrix lost plan) ∙ refusal-followed _ check_written
refusal-is (Make code p) contents left = refusal-written (given (make_given code p))
refusal-is (Encode matrix payload stripes bytes) contents left =
    refusal-written (encode_answer contents matrix payload stripes bytes) ∙ ap refusal_of (encode-is contents matrix payload stripes bytes) ∙ refusal-followed _ image_written
refusal-is (Rebuild matrix image lost workers budget plan live) contents left =
    ap refusal_of (rebuild-is contents left (rebuild_words matrix image lost workers budget plan live)) ∙ refusal-followed _ rebuild_found
refusal-is (Convert matrix image) contents left =
    refusal-written (convert_answer contents matrix image) ∙ ap refusal_of (convert-is contents matrix image) ∙ refusal-followed _ image_written
refusal-is (Scrub matrix image) contents left = refusal-written (scrub_answer contents matrix image) ∙ ap refusal_of (scrub-is contents matrix image)
refusal-is (Sectors matrix image lost bad budget) contents left =
    let words = sectors_words matrix image lost bad budget in
    refusal-written (sectors_answer contents words) ∙ ap refusal_of (sectors-is contents words) ∙ refusal-followed _ (repair_written contents words)
refusal-is (Drill number) contents left = refusal-written (given (drill_given number))

-- an image that is to be rebuilt is told where the files tell
abbrev image-in : Finding → Option (List ℕ)
image-in (writing output) = None
image-in (rebuilding order image) = image

not-written : (reading : Reading Output) (order : OrderParts) (image : Option (List ℕ)) → (to_write reading).result ≡ Ok (rebuilding order image) → ⊥
not-written reading order image e =
    let w = writing-of reading (rebuilding order image) e in
    let clash : rebuilding order image ≡ writing w.output = w.is in cc

pub found-told : (request : Request) (contents : List ℕ → List ℕ) (left : List ℕ) (order : OrderParts) (image : Option (List ℕ))
    → (command_answer contents left request).result ≡ Ok (rebuilding order image) → (bytes : List ℕ) × (image ≡ Some bytes)
found-told (Plan matrix lost workers budget) contents left order image e = absurd (not-written (plan_answer contents matrix lost budget) order image e)
found-told (Check matrix lost plan) contents left order image e = absurd (not-written (check_answer contents matrix lost plan) order image e)
found-told (Make code p) contents left order image e = absurd (not-written (given (make_given code p)) order image e)
found-told (Encode matrix payload stripes bytes) contents left order image e = absurd (not-written (encode_answer contents matrix payload stripes bytes) order image e)
found-told (Rebuild matrix file lost workers budget plan live) contents left order image e =
    let g = rebuild-accepted contents left (rebuild_words matrix file lost workers budget plan live) (rebuilding order image) e in
    (g.value.bytes, ap image-in g.holds)
found-told (Convert matrix file) contents left order image e = absurd (not-written (convert_answer contents matrix file) order image e)
found-told (Scrub matrix file) contents left order image e = absurd (not-written (scrub_answer contents matrix file) order image e)
found-told (Sectors matrix file lost bad budget) contents left order image e =
    absurd (not-written (sectors_answer contents (sectors_words matrix file lost bad budget)) order image e)
found-told (Drill number) contents left order image e = absurd (not-written (given (drill_given number)) order image e)

-- ---- words

pub words-refusal-is : (words : List (List ℕ)) (contents : List ℕ → List ℕ) (left : List ℕ)
    → refusal_of (answer words contents left).result ≡ words_refusal contents left (request_of words)
unfolding answer
words-refusal-is words contents left = go (request_of words)
  where
    go : (o : Option Request) → refusal_of (and_then [] no_bytes (or_usage o) (command_answer contents left)).result ≡ words_refusal contents left o
    go None = refl
    go (Some request) = refusal-is request contents left

pub is-answer : (words : List (List ℕ)) (contents : List ℕ → List ℕ) (left : List ℕ) (found : Finding) (output : Output)
    → (answer words contents left).result ≡ Ok found → MayWrite found output → IsAnswer words contents left output
unfolding answer
is-answer words contents left found output = go (request_of words) refl
  where
    go : (o : Option Request) → request_of words ≡ o
        → (and_then [] no_bytes (or_usage o) (command_answer contents left)).result ≡ Ok found → MayWrite found output → IsAnswer words contents left output
    go None e is may = let clash : ◌≡◌ {A = Result Finding Fault} (Err _) (Ok found) = is in cc
    go (Some request) e is may = record { request = request; is = e; answered = is-answered request contents left found output is may }

pub words-told : (words : List (List ℕ)) (contents : List ℕ → List ℕ) (left : List ℕ) (order : OrderParts) (image : Option (List ℕ))
    → (answer words contents left).result ≡ Ok (rebuilding order image) → (bytes : List ℕ) × (image ≡ Some bytes)
unfolding answer
words-told words contents left order image = go (request_of words)
  where
    go : (o : Option Request) → (and_then [] no_bytes (or_usage o) (command_answer contents left)).result ≡ Ok (rebuilding order image)
        → (bytes : List ℕ) × (image ≡ Some bytes)
    go None is = let clash : ◌≡◌ {A = Result Finding Fault} (Err _) (Ok (rebuilding order image)) = is in cc
    go (Some request) is = found-told request contents left order image is
