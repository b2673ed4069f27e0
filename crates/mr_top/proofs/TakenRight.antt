-- The bytes that the chains take, as numbers.
use Rattle.std.proofs.Common.{option_map, arith, ◌≡◌, ◌<◌, ◌≤◌, ℕ, zero, suc, ◌+◌, ◌*◌, Bool, true, false, cond, not, List, [], ◌∷◌, ◌++◌, All, length, take, get_or, filter, Option, Some, None, IfSome, Result, Ok, refl, sym, ◌∙◌, ap, subst}
use Rattle.std.specs.Prelude.{sum_by}
use Rattle.std.proofs.Math.Seq.{take-length}
use Rattle.std.proofs.lemmas.List.Elements.{filter_more}
use Rattle.mr_bits.specs.Matrices.{IsMatrixCode}
use Rattle.mr_bits.specs.declared.errors.What.{What}
use Rattle.mr_bits.specs.declared.errors.What.TheVariants.{MatrixBytes, PlanBytes}
use Rattle.mr_form.specs.MatrixText.{matrix_of}
use Rattle.mr_choices.specs.Handed.{handed_file, handed_given, plan_file}
use Rattle.mr_choices.specs.declared.chosen.ChosenPlan.{ChosenPlan}
use Rattle.mr_image.specs.Images.{Layout, stripe_symbols, body_bytes}
use Rattle.mr_image.specs.declared.limits.TheConstants.{HEAD_BYTES}
use Rattle.mr_mend.specs.Rotations.{AreValidPlans}
use Rattle.mr_plan.specs.PlanLists.{recipes_at}
use Rattle.mr_plan.specs.Plans.{PlanParts}
use Rattle.mr_io.specs.Counts.{counted}
use Rattle.mr_io.specs.declared.duty.Duty.TheVariants.{Text, Head, Copy}
use Rattle.mr_io.specs.declared.totals.Totals.{Totals}
use Rattle.mr_mend.specs.Mending.{copied_set, has_recipe}
use Rattle.mr_mend.specs.Scripts.{IsInRange}
use Rattle.mr_mend.specs.Serving.{is_live, live_reads}
use Rattle.mr_mend.specs.declared.asks.Ask.{Ask}
use Rattle.mr_model.specs.Code.{Code}
use Rattle.mr_model.specs.Members.{members}
use Rattle.mr_model.specs.Plans.{Recipe}
use Rattle.mr_model.specs.Sets.{has, set_below}
use Rattle.mr_model.proofs.Finding.{bit_at_set_below}
use Rattle.mr_model.proofs.SetLaws.{has-false, has-true}
use Rattle.mr_plan.specs.Plans.{survivors}
use Rattle.mr_ready.specs.Orders.{OrderParts}
use Rattle.mr_ready.specs.Reads.{least_reads, most_reads, most_replying_reads, most_symbols_for, replying_reads}
use Rattle.mr_words.specs.declared.rebuild_words.RebuildWords.{RebuildWords}
use Rattle.mr_io.specs.Growth.{GrewWithin, added, bytes_of, grown, no_bytes}
use Rattle.mr_io.proofs.Growth.{same_totals}
use Rattle.mr_steps.specs.Refusals.{Gave, followed_by}
use Rattle.mr_steps.proofs.Results.{gave-on, ok-same}
use Rattle.mr_top.specs.Rebuild.{RebuildAccepted, layout_allowed, rebuild_accepted, asks_given, rebuild_of_parts, head_given}
use Rattle.mr_steps.specs.Sinks.{Output}
use Rattle.mr_steps.specs.TextFiles.{matrix_file, text_file, text_within}
use Rattle.mr_steps.specs.Texts.{or_matrix_fault, matrix_given}
use Rattle.mr_top.specs.CheckSteps.{check_answer}
use Rattle.mr_top.specs.Commands.{answer, command_answer}
use Rattle.mr_top.specs.EncodeSteps.{encode_answer, encoded_file}
use Rattle.mr_top.specs.Findings.{Finding, rebuilding, writing}
use Rattle.mr_top.specs.Drill.{drill_given}
use Rattle.mr_top.specs.Make.{make_given}
use Rattle.mr_top.specs.Plan.{plan_given}
use Rattle.mr_top.specs.PlanSteps.{plan_answer}
use Rattle.mr_top.specs.RebuildSteps.{ImageParts, head_file, image_file, image_read, order_of, parts_as, rebuild_answer, rebuild_by}
use Rattle.mr_top.specs.Check.{cost_given}
use Rattle.mr_top.specs.Encode.{layout_given}
use Rattle.mr_steps.specs.Losses.{targets_given}
use Rattle.mr_steps.specs.Readings.{Reading, and_then, given, ◌>>=◌}
use Rattle.mr_steps.specs.Requests.{or_usage, rebuild_words, request_of}
use Rattle.mr_top.specs.Taken.{IsTaken, TookRight, plan_bytes, survivor_asks, whole_taken}
use Rattle.mr_steps.specs.declared.fault.Fault.{Fault}
use Rattle.mr_steps.specs.declared.request.Request.{Request}
use Rattle.mr_steps.specs.declared.request.Request.TheVariants.{Check, Convert, Drill, Encode, Make, Plan, Rebuild, Scrub, Sectors}
use Rattle.mr_top.proofs.AcceptedParts.{rebuild_of_head, rebuild_of_loss, rebuild_of_plan}
use Rattle.mr_top.proofs.Accepting.{handed-is, image_file-is, matrix-is, head-is}
use Rattle.mr_top.proofs.CheckSteps.{cost_next, lost_next, plan_next, valid_next}
use Rattle.mr_top.proofs.CodewordsOwn.{HasRead, asks-inside, given-code, given-valid, has-read, targets-loss}
use Rattle.mr_top.proofs.EncodeSteps.{code_next, head_next, image_next}
use Rattle.mr_top.proofs.Findings.{IsWriting, writing-of}
use Rattle.mr_top.proofs.HeadLimits.{IsImageGiven, image-given}
use Rattle.mr_top.proofs.ImageSteps.{asks_next, handed_next, loss_next, matrix_next}
use Rattle.mr_top.proofs.Rotations.{plans-copied, used-valid}
use Rattle.mr_top.specs.WholeImages.{allowed_answer, any_version, body_answer, image_answer}
use Rattle.mr_top.specs.Convert.{converted_output, first_accepted, first_version, convert_answer}
use Rattle.mr_top.specs.Scrub.{either_accepted, scrub_answer, scrub_output}
use Rattle.mr_bits.specs.declared.errors.What.TheVariants.{SectorBytes}
use Rattle.mr_io.specs.declared.duty.Duty.TheVariants.{Mend}
use Rattle.mr_patch.specs.Damages.{DamageParts}
use Rattle.mr_sector.specs.Sectors.{sectors_of}
use Rattle.mr_sector.specs.declared.sectors.TheConstants.{SECTORS_LIMIT}
use Rattle.mr_sectors.specs.Steps.{copy_answer, copy_bytes, mend_bytes, repair_answer}
use Rattle.mr_steps.specs.Losses.{lost_symbols_given}
use Rattle.mr_words.specs.declared.sectors_words.SectorsWords.{SectorsWords}
use Rattle.mr_top.specs.Sectors.{damage_of, determined_damage, or_bad_sectors, repair_accepted, sectors_words}
use Rattle.mr_top.specs.SectorsSteps.{damage_file, determined_answer, sectors_answer, sectors_file}
use Rattle.mr_top.specs.Taken.{repair_taken}
use Rattle.mr_top.proofs.DamageSteps.{damage_by_code, damage_by_head, damage_by_lost}
use Rattle.mr_top.proofs.Sectoring.{damage-is}
use Rattle.mr_top.proofs.WholeImages.{body_next, layout_next, spelled_next}

-- ---- chains that give a value

-- the bytes that a chain takes where it gives a value
abbrev TakesBytes : {X : Type 0} → Reading X → Totals → Type 0
TakesBytes {X} reading t = (x : X) → reading.result ≡ Ok x → reading.taken ≡ t

taken-next : {X Y : Type 0} (reading : Reading X) (next : X → Reading Y) (x : X) → reading.result ≡ Ok x
    → (reading >>= next).taken ≡ added reading.taken (next x).taken
taken-next reading next x e = ap (λ r. (and_then reading.eyes reading.taken r next).taken) e

takes-then : {X Y : Type 0} (reading : Reading X) (next : X → Reading Y) (a b : Totals) → TakesBytes reading a
    → ((x : X) → TakesBytes (next x) b) → TakesBytes (reading >>= next) (added a b)
takes-then reading next a b first later = λ y e.
    let g = gave-on reading next y e in
    taken-next reading next g.value g.is ∙ ap (λ t. added t (next g.value).taken) (first g.value g.is) ∙ ap (added a) (later g.value y g.holds)

takes-same : {X : Type 0} (reading : Reading X) (t : Totals) → reading.taken ≡ t → TakesBytes reading t
takes-same reading t e = λ x is. e

-- a step after which nothing is read
takes-given : {X Y : Type 0} (reading : Reading X) (next : X → Result Y Fault) (t : Totals) → TakesBytes reading t
    → TakesBytes (reading >>= λ x. given (next x)) (added t no_bytes)
takes-given reading next t first = takes-then reading (λ x. given (next x)) t no_bytes first (λ x. takes-same (given (next x)) no_bytes refl)

-- ---- files

abbrev text_taken : (List ℕ → List ℕ) → List ℕ → Totals
text_taken contents name = added (bytes_of Text (length (contents name))) no_bytes

takes-text : (contents : List ℕ → List ℕ) (name : List ℕ) (what : What) → TakesBytes (text_file contents name what) (text_taken contents name)
unfolding text_file text_within
takes-text contents name what = λ x e. refl

abbrev matrix_taken : (List ℕ → List ℕ) → List ℕ → Totals
matrix_taken contents name = added (text_taken contents name) no_bytes

takes-matrix : (contents : List ℕ → List ℕ) (name : List ℕ) → TakesBytes (matrix_file contents name) (matrix_taken contents name)
unfolding matrix_file
takes-matrix contents name = takes-given (text_file contents name MatrixBytes) (λ bytes. or_matrix_fault (matrix_of bytes)) (text_taken contents name) (takes-text contents name MatrixBytes)

abbrev handed_taken : (List ℕ → List ℕ) → Option (List ℕ) → Totals
handed_taken contents None = no_bytes
handed_taken contents (Some plan) = added (text_taken contents plan) no_bytes

takes-handed : (contents : List ℕ → List ℕ) (plan : Option (List ℕ)) (m : Code) (targets : ℕ) → TakesBytes (handed_file contents plan m targets) (handed_taken contents plan)
unfolding plan_file
takes-handed contents None m targets = λ x e. refl
takes-handed contents (Some plan) m targets = takes-given (text_file contents plan PlanBytes) (handed_given m targets) (text_taken contents plan) (takes-text contents plan PlanBytes)

abbrev head_taken : Totals
head_taken = added (added (bytes_of Head HEAD_BYTES) no_bytes) no_bytes

takes-bytes : (contents : List ℕ → List ℕ) (image : List ℕ) (m : Code) → TakesBytes (head_file contents image m) (added (bytes_of Head HEAD_BYTES) no_bytes)
unfolding head_file
takes-bytes contents image m = λ x e. refl

takes-head : (contents : List ℕ → List ℕ) (image : List ℕ) (m : Code) (targets : ℕ) (handed : Option ChosenPlan) → TakesBytes (image_file contents image m targets handed) head_taken
unfolding image_file
takes-head contents image m targets handed =
    takes-given (head_file contents image m) (layout_allowed m targets handed) (added (bytes_of Head HEAD_BYTES) no_bytes) (takes-bytes contents image m)

takes-encoded : (contents : List ℕ → List ℕ) (payload : List ℕ) (m : Code) (l : Layout) → TakesBytes (encoded_file contents payload m l) (added (bytes_of Copy (length (contents payload))) no_bytes)
unfolding encoded_file
takes-encoded contents payload m l = λ x e. refl

-- ---- commands

pub plan-taken : (contents : List ℕ → List ℕ) (matrix lost : List ℕ) (budget : ℕ) (output : Output) → (plan_answer contents matrix lost budget).result ≡ Ok output
    → (plan_answer contents matrix lost budget).taken ≡ record no_bytes { text = length (contents matrix) }
unfolding plan_answer
plan-taken contents matrix lost budget output e =
    takes-given (matrix_file contents matrix) (λ m. plan_given budget m lost) (matrix_taken contents matrix) (takes-matrix contents matrix) output e
    ∙ same_totals _ _ _ _ _ _ _ _ _ _ (omega arith) (omega arith) (omega arith) (omega arith) (omega arith)

pub check-taken : (contents : List ℕ → List ℕ) (matrix lost plan : List ℕ) (output : Output) → (check_answer contents matrix lost plan).result ≡ Ok output
    → (check_answer contents matrix lost plan).taken ≡ record no_bytes { text = length (contents matrix) + length (contents plan) }
unfolding check_answer
check-taken contents matrix lost plan output e =
    takes-then (matrix_file contents matrix) (lost_next contents lost plan) (matrix_taken contents matrix) (added no_bytes (added (text_taken contents plan) (added no_bytes no_bytes))) (takes-matrix contents matrix) (λ m.
    takes-then (given (targets_given m lost)) (plan_next contents plan m) no_bytes (added (text_taken contents plan) (added no_bytes no_bytes)) (λ _ _. refl) (λ targets.
    takes-then (text_file contents plan PlanBytes) (cost_next m targets) (text_taken contents plan) (added no_bytes no_bytes) (takes-text contents plan PlanBytes) (λ bytes.
    takes-given (given (cost_given m targets bytes)) valid_next no_bytes (λ _ _. refl)))) output e
    ∙ same_totals _ _ _ _ _ _ _ _ _ _ (omega arith) (omega arith) (omega arith) (omega arith) (omega arith)

pub encode-taken : (contents : List ℕ → List ℕ) (matrix payload : List ℕ) (stripes bytes : ℕ) (output : Output) → (encode_answer contents matrix payload stripes bytes).result ≡ Ok output
    → (encode_answer contents matrix payload stripes bytes).taken ≡ record no_bytes { text = length (contents matrix); copy = length (contents payload) }
unfolding encode_answer
encode-taken contents matrix payload stripes bytes output e =
    takes-then (matrix_file contents matrix) (code_next contents payload stripes bytes) (matrix_taken contents matrix) (added no_bytes (added (added (bytes_of Copy (length (contents payload))) no_bytes) no_bytes)) (takes-matrix contents matrix) (λ m.
    takes-then (given (layout_given m bytes stripes)) (head_next contents payload m) no_bytes (added (added (bytes_of Copy (length (contents payload))) no_bytes) no_bytes) (λ _ _. refl) (λ l.
    takes-given (encoded_file contents payload m l) image_next (added (bytes_of Copy (length (contents payload))) no_bytes) (takes-encoded contents payload m l))) output e
    ∙ same_totals _ _ _ _ _ _ _ _ _ _ (omega arith) (omega arith) (omega arith) (omega arith) (omega arith)

-- ---- a rebuild

abbrev read_taken : (List ℕ → List ℕ) → RebuildWords → Totals
read_taken contents words = added (matrix_taken contents words.matrix) (added no_bytes (added (handed_taken contents words.plan) (added head_taken no_bytes)))

takes-image : (contents : List ℕ → List ℕ) (words : RebuildWords) → TakesBytes (image_read contents words) (read_taken contents words)
unfolding image_read
takes-image contents words =
    takes-then (matrix_file contents words.matrix) (matrix_next contents words) (matrix_taken contents words.matrix) (added no_bytes (added (handed_taken contents words.plan) (added head_taken no_bytes))) (takes-matrix contents words.matrix) (λ m.
    takes-then (given (targets_given m words.lost)) (loss_next contents words m) no_bytes (added (handed_taken contents words.plan) (added head_taken no_bytes)) (λ _ _. refl) (λ targets.
    takes-then (handed_file contents words.plan m targets) (handed_next contents words m targets) (handed_taken contents words.plan) (added head_taken no_bytes) (takes-handed contents words.plan m targets) (λ handed.
    takes-given (image_file contents words.image m targets handed) (λ l. Ok (parts_as m targets handed l)) head_taken (takes-head contents words.image m targets handed))))

takes-none : (contents : List ℕ → List ℕ) (words : RebuildWords) (read : ImageParts) (asks : List Ask) → (rebuild_by contents words read asks).taken ≡ no_bytes
unfolding rebuild_by
takes-none contents words read asks = refl

-- ---- the reads of survivors

filter-inside : {X : Type 0} (p q : X → Bool) (xs : List X) (d : X) → ((k : ℕ) → k < length xs → p (get_or xs k d) ≡ q (get_or xs k d))
    → (i : ℕ) → i ≤ length xs → filter p (take i xs) ≡ filter q (take i xs)
filter-inside p q xs d same zero low = refl
filter-inside p q xs d same (suc i) low =
    let e : suc i ≡ i + 1 = omega arith in
    ap (λ n. filter p (take n xs)) e ∙ filter_more p xs i d (omega (arith, low))
    ∙ ap (λ front. front ++ cond (p (get_or xs i d)) (get_or xs i d ∷ []) []) (filter-inside p q xs d same i (omega (arith, low)))
    ∙ ap (λ b. filter q (take i xs) ++ cond b (get_or xs i d ∷ []) []) (same i (omega (arith, low)))
    ∙ sym (ap (λ n. filter q (take n xs)) e ∙ filter_more q xs i d (omega (arith, low)))

filter-same : {X : Type 0} (p q : X → Bool) (xs : List X) (d : X) → ((k : ℕ) → k < length xs → p (get_or xs k d) ≡ q (get_or xs k d)) → filter p xs ≡ filter q xs
filter-same p q xs d same =
    ap (filter p) (sym (take-length xs)) ∙ filter-inside p q xs d same (length xs) (omega arith) ∙ ap (filter q) (take-length xs)

has-below : (n : ℕ) (p : ℕ → Bool) (i : ℕ) → i < n → has (set_below n p) i ≡ p i
has-below n p i low = go (p i) refl
  where
    go : (b : Bool) → p i ≡ b → has (set_below n p) i ≡ b
    go true e = has-true (set_below n p) i (bit_at_set_below n p i low ∙ ap (λ x. cond x 1 0) e)
    go false e = has-false (set_below n p) i (bit_at_set_below n p i low ∙ ap (λ x. cond x 1 0) e)

copied-has : (l : Layout) (recipes : List Recipe) (i : ℕ) → i < stripe_symbols l → has (copied_set l recipes) i ≡ not (has_recipe recipes i)
unfolding copied_set
copied-has l recipes i low = has-below (stripe_symbols l) (λ i. not (has_recipe recipes i)) i low

abbrev no_ask : Ask
no_ask = record { stripe = 0; symbol = 0 }

-- those without a recipe in their stripe are the survivors
live-survives : (l : Layout) (plans : List PlanParts) (set : ℕ) (asks : List Ask) → ((s : ℕ) → copied_set l (recipes_at plans s) ≡ set) → All (IsInRange l) asks
    → live_reads l (recipes_at plans) asks ≡ length (filter (λ ask. has set ask.symbol) asks) * l.symbol_bytes
unfolding live_reads
live-survives l plans set asks same inside =
    ap (λ xs. length xs * l.symbol_bytes)
    (filter-same (λ ask. is_live (recipes_at plans) ask) (λ ask. has set ask.symbol) asks no_ask (λ k low.
    sym (copied-has l (recipes_at plans (get_or asks k no_ask).stripe) (get_or asks k no_ask).symbol (inside k no_ask low).symbol)
    ∙ ap (λ s. has s (get_or asks k no_ask).symbol) (same (get_or asks k no_ask).stripe)))

handed-bytes : (contents : List ℕ → List ℕ) (plan : Option (List ℕ)) → handed_taken contents plan ≡ bytes_of Text (plan_bytes contents plan)
handed-bytes contents None = refl
handed-bytes contents (Some plan) = same_totals _ _ _ _ _ _ _ _ _ _ (omega arith) (omega arith) (omega arith) (omega arith) (omega arith)

-- what a rebuild takes before it is carried
abbrev numbers : (List ℕ → List ℕ) → RebuildWords → Totals
numbers contents words = record no_bytes {
  text = length (contents words.matrix) + plan_bytes contents words.plan;
  head = HEAD_BYTES;
}

numbers-are : (contents : List ℕ → List ℕ) (words : RebuildWords) → added (read_taken contents words) (added no_bytes no_bytes) ≡ numbers contents words
numbers-are contents words =
    ap (λ t. added (added (matrix_taken contents words.matrix) (added no_bytes (added t (added head_taken no_bytes)))) (added no_bytes no_bytes))
    (handed-bytes contents words.plan)
    ∙ same_totals _ _ _ _ _ _ _ _ _ _ (omega arith) (omega arith) (omega arith) (omega arith) (omega arith)

-- totals after two steps, of which the one takes nothing
first-exact : (t u v a : ℕ) → u ≡ counted t a → counted u 0 ≤ v → v ≤ counted u 0 → v ≡ counted t a
first-exact t u v a e least most = omega (arith, e, least, most)

then-exact : (t u v b : ℕ) → u ≡ counted t 0 → counted u b ≤ v → v ≤ counted u b → v ≡ counted t b
then-exact t u v b e least most = omega (arith, e, least, most)

then-least : (t u v b : ℕ) → u ≡ counted t 0 → counted u b ≤ v → counted t b ≤ v
then-least t u v b e least = omega (arith, e, least)

then-most : (t u v b : ℕ) → u ≡ counted t 0 → v ≤ counted u b → v ≤ counted t b
then-most t u v b e most = omega (arith, e, most)

-- what is taken of what was found, once it is written or carried
abbrev pub TookOf : Finding → Totals → Totals → Type 0
TookOf (writing output) old new = new ≡ old
TookOf (rebuilding order image) old new = GrewWithin old new (least_reads order) (most_reads order)

module _ (contents : List ℕ → List ℕ) (left : List ℕ) (words : RebuildWords) (read : ImageParts) (asks : List Ask)
    (reads : (image_read contents words).result ≡ Ok read) (has_read : HasRead contents words read) (asking : asks_given read.head left ≡ Ok asks) where
  is-accepted : rebuild_accepted contents left words ≡ Ok (rebuild_of_parts contents words read.matrix read.lost read.handed read.head asks)
  is-accepted =
      ap (λ s. followed_by s (λ m. followed_by (targets_given m words.lost) (rebuild_of_loss contents left words m))) (sym (matrix-is contents words.matrix) ∙ has_read.matrix_is)
      ∙ ap (λ s. followed_by s (rebuild_of_loss contents left words read.matrix)) has_read.loss_is
      ∙ ap (λ s. followed_by s (rebuild_of_plan contents left words read.matrix read.lost)) (sym (handed-is contents words.plan read.matrix read.lost) ∙ has_read.handed_is)
      ∙ ap (λ s. followed_by s (rebuild_of_head contents left words read.matrix read.lost read.handed)) (sym (image_file-is contents words.image read.matrix read.lost read.handed) ∙ has_read.image_is)
      ∙ ap (λ s. followed_by s (λ asks. Ok (rebuild_of_parts contents words read.matrix read.lost read.handed read.head asks))) asking

  taken : (rebuild_answer contents left words).taken ≡ numbers contents words
  unfolding rebuild_answer
  taken =
      taken-next (image_read contents words) (asks_next contents left words) read reads
      ∙ ap (λ t. added t (asks_next contents left words read).taken) (takes-image contents words read reads)
      ∙ ap (added (read_taken contents words)) (taken-next (given (asks_given read.head left)) (rebuild_by contents words read) asks asking
      ∙ ap (added no_bytes) (takes-none contents words read asks))
      ∙ numbers-are contents words

  abbrev order : OrderParts
  order = order_of words read asks

  code : IsMatrixCode read.matrix
  code = given-code (contents words.matrix) read.matrix (sym (matrix-is contents words.matrix) ∙ has_read.matrix_is)

  image : IsImageGiven read.matrix read.lost read.handed (contents words.image) read.head
  image = image-given read.matrix read.lost read.handed (contents words.image) read.head code
      (sym (image_file-is contents words.image read.matrix read.lost read.handed) ∙ has_read.image_is)

  valid : AreValidPlans read.head read.matrix read.lost order.plans
  valid = used-valid read.head read.matrix read.lost code image.limits.fits (targets-loss read.matrix words.lost read.lost code has_read.loss_is).targets_below
      image.determined words.budget read.handed (given-valid (option_map contents words.plan) read.matrix read.lost read.handed
      (sym (handed-is contents words.plan read.matrix read.lost) ∙ has_read.handed_is)) image.version

  abbrev accepted : RebuildAccepted
  accepted = rebuild_of_parts contents words read.matrix read.lost read.handed read.head asks

  copied : (s : ℕ) → copied_set read.head (recipes_at order.plans s) ≡ survivors read.matrix read.lost
  copied = plans-copied read.head read.matrix read.lost order.plans code image.limits.fits valid

  live-are : replying_reads order ≡ length (survivor_asks accepted) * read.head.symbol_bytes
  live-are = live-survives read.head order.plans (survivors read.matrix read.lost) asks copied (asks-inside read.head left asks asking)

  -- without `live` there is no more to read
  most-off : order.live ≡ false → most_replying_reads order ≡ replying_reads order
  most-off off = ap (λ b. cond b (sum_by (most_symbols_for order) asks * read.head.symbol_bytes) (replying_reads order)) off

  is-taken : (old mid new : Totals) → mid ≡ grown old (rebuild_answer contents left words).taken → GrewWithin mid new (least_reads order) (most_reads order)
      → IsTaken contents words accepted old new
  is-taken old mid new h within =
      let all : mid ≡ grown old (numbers contents words) = h ∙ ap (grown old) taken in
      let none_live : mid.live ≡ counted old.live 0 = ap (λ (t : Totals). t.live) all in
      let least : counted old.live (replying_reads order) ≤ new.live = then-least _ _ _ _ none_live within.live_least in
      record {
        text = first-exact _ _ _ _ (ap (λ (t : Totals). t.text) all) within.text_least within.text_most;
        head = first-exact _ _ _ _ (ap (λ (t : Totals). t.head) all) within.head_least within.head_most;
        mend = then-exact _ _ _ _ (ap (λ (t : Totals). t.mend) all) within.mend_least within.mend_most;
        live = λ off.
            then-exact _ _ _ _ none_live within.live_least (subst (λ n. new.live ≤ counted mid.live n) (most-off off) within.live_most)
            ∙ ap (counted old.live) live-are;
        live_least = subst (λ n. counted old.live n ≤ new.live) live-are least;
        live_most = then-most _ _ _ _ none_live within.live_most;
        copy = then-exact _ _ _ _ (ap (λ (t : Totals). t.copy) all) within.copy_least within.copy_most
            ∙ ap (λ set. counted old.copy (read.head.stripes * (length (members set) * read.head.symbol_bytes))) (copied 0);
      }

found-is : (contents : List ℕ → List ℕ) (words : RebuildWords) (read : ImageParts) (asks : List Ask) (found : Finding)
    → (rebuild_by contents words read asks).result ≡ Ok found → found ≡ rebuilding (order_of words read asks) (Some (contents words.image))
unfolding rebuild_by
found-is contents words read asks found e = sym (ok-same e)

rebuild-took : (contents : List ℕ → List ℕ) (left : List ℕ) (words : RebuildWords) (found : Finding) (old mid new : Totals)
    → (rebuild_answer contents left words).result ≡ Ok found → mid ≡ grown old (rebuild_answer contents left words).taken → TookOf found mid new
    → Gave (rebuild_accepted contents left words) (λ r. IsTaken contents words r old new)
unfolding rebuild_answer
rebuild-took contents left words found old mid new e h took =
    let g = gave-on (image_read contents words) (asks_next contents left words) found e in
    let k = gave-on (given (asks_given g.value.head left)) (rebuild_by contents words g.value) found g.holds in
    let hr : HasRead contents words g.value = has-read contents words g.value g.is in
    let within : GrewWithin mid new (least_reads (order_of words g.value k.value)) (most_reads (order_of words g.value k.value)) =
    subst (λ f. TookOf f mid new) (found-is contents words g.value k.value found k.holds) took in
    record {
      value = rebuild_of_parts contents words g.value.matrix g.value.lost g.value.handed g.value.head k.value;
      is = is-accepted contents left words g.value k.value g.is hr k.is;
      holds = is-taken contents left words g.value k.value g.is hr k.is old mid new h within;
    }

-- ---- commands that read an image file whole

module _ (allowed : Layout → Result Layout Fault) (written : Code → Layout → List ℕ → Output) (contents : List ℕ → List ℕ) (matrix image : List ℕ) where
  body-taken : (m : Code) (taken : Layout) → (body_next written contents image m taken).taken ≡ added (bytes_of Copy (body_bytes taken)) no_bytes
  unfolding body_answer
  body-taken m taken = refl

  layout-taken : (m : Code) (l : Layout) (output : Output) → (layout_next allowed written contents image m l).result ≡ Ok output
      → Gave (allowed l) (λ taken. (layout_next allowed written contents image m l).taken ≡ added no_bytes (added (bytes_of Copy (body_bytes taken)) no_bytes))
  unfolding allowed_answer
  layout-taken m l output e =
      let g = gave-on (given (allowed l)) (body_next written contents image m) output e in
      record {
        value = g.value;
        is = g.is;
        holds = taken-next (given (allowed l)) (body_next written contents image m) g.value g.is ∙ ap (added no_bytes) (body-taken m g.value);
      }

  whole-took : (output : Output) → (image_answer allowed written contents matrix image).result ≡ Ok output
      → Gave (followed_by (matrix_given (contents matrix)) (λ m. followed_by (head_given m (contents image)) allowed))
      (λ l. (image_answer allowed written contents matrix image).taken ≡ whole_taken (length (contents matrix)) l)
  unfolding image_answer
  whole-took output e =
      let g = gave-on (matrix_file contents matrix) (spelled_next allowed written contents image) output e in
      let h = gave-on (head_file contents image g.value) (layout_next allowed written contents image g.value) output g.holds in
      let k = layout-taken g.value h.value output h.holds in
      record {
        value = k.value;
        is = ap (λ r. followed_by r (λ m. followed_by (head_given m (contents image)) allowed)) (sym (matrix-is contents matrix) ∙ g.is)
            ∙ ap (λ r. followed_by r allowed) (sym (head-is contents image g.value) ∙ h.is) ∙ k.is;
        holds = taken-next (matrix_file contents matrix) (spelled_next allowed written contents image) g.value g.is
            ∙ ap (λ t. added t (spelled_next allowed written contents image g.value).taken) (takes-matrix contents matrix g.value g.is)
            ∙ ap (added (matrix_taken contents matrix))
            (taken-next (head_file contents image g.value) (layout_next allowed written contents image g.value) h.value h.is
            ∙ ap (λ t. added t (layout_next allowed written contents image g.value h.value).taken) (takes-bytes contents image g.value h.value h.is)
            ∙ ap (added (added (bytes_of Head HEAD_BYTES) no_bytes)) k.holds)
            ∙ same_totals _ _ _ _ _ _ _ _ _ _ (omega arith) (omega arith) (omega arith) (omega arith) (omega arith);
      }

-- ---- a repair

module _ (contents : List ℕ → List ℕ) (words : SectorsWords) where
  takes-within : TakesBytes (text_within SECTORS_LIMIT contents words.bad SectorBytes) (text_taken contents words.bad)
  unfolding text_within
  takes-within = λ x e. refl

  takes-list : (lost : ℕ) (l : Layout) → TakesBytes (sectors_file contents words.bad lost l) (added (text_taken contents words.bad) no_bytes)
  unfolding sectors_file
  takes-list lost l =
      takes-given (text_within SECTORS_LIMIT contents words.bad SectorBytes) (λ text. or_bad_sectors (sectors_of l lost text)) (text_taken contents words.bad) takes-within

  abbrev damage_taken : Totals
  damage_taken =
      added (matrix_taken contents words.matrix)
      (added no_bytes (added (added (bytes_of Head HEAD_BYTES) no_bytes) (added (added (text_taken contents words.bad) no_bytes) no_bytes)))

  takes-damage : TakesBytes (damage_file contents words) damage_taken
  unfolding damage_file
  takes-damage =
      takes-then (matrix_file contents words.matrix) (damage_by_code contents words) (matrix_taken contents words.matrix)
      (added no_bytes (added (added (bytes_of Head HEAD_BYTES) no_bytes) (added (added (text_taken contents words.bad) no_bytes) no_bytes))) (takes-matrix contents words.matrix) (λ m.
      takes-then (given (lost_symbols_given m words.lost)) (damage_by_lost contents words m) no_bytes
      (added (added (bytes_of Head HEAD_BYTES) no_bytes) (added (added (text_taken contents words.bad) no_bytes) no_bytes)) (λ _ _. refl) (λ lost.
      takes-then (head_file contents words.image m) (damage_by_head contents words m lost) (added (bytes_of Head HEAD_BYTES) no_bytes)
      (added (added (text_taken contents words.bad) no_bytes) no_bytes) (takes-bytes contents words.image m) (λ l.
      takes-given (sectors_file contents words.bad lost l) (λ sectors. Ok (damage_of m lost l sectors)) (added (text_taken contents words.bad) no_bytes) (takes-list lost l))))

  takes-repair : (d : DamageParts) → (repair_answer contents words.image d words.budget).taken
      ≡ added (bytes_of Mend (mend_bytes d words.budget)) (added (bytes_of Copy (copy_bytes d)) no_bytes)
  unfolding repair_answer copy_answer
  takes-repair d = refl

  sectors-took : (output : Output) → (sectors_answer contents words).result ≡ Ok output
      → Gave (repair_accepted contents words) (λ d. (sectors_answer contents words).taken
      ≡ repair_taken (length (contents words.matrix) + length (contents words.bad)) d words.budget)
  unfolding sectors_answer determined_answer
  sectors-took output e =
      let g = gave-on (damage_file contents words) (determined_answer contents words.image words.budget) output e in
      let h = gave-on (given (determined_damage g.value)) (λ whole. repair_answer contents words.image whole words.budget) output g.holds in
      record {
        value = h.value;
        is = ap (λ r. followed_by r determined_damage) (sym (damage-is contents words) ∙ g.is) ∙ h.is;
        holds = taken-next (damage_file contents words) (determined_answer contents words.image words.budget) g.value g.is
            ∙ ap (λ t. added t (determined_answer contents words.image words.budget g.value).taken) (takes-damage g.value g.is)
            ∙ ap (added damage_taken)
            (taken-next (given (determined_damage g.value)) (λ whole. repair_answer contents words.image whole words.budget) h.value h.is
            ∙ ap (added no_bytes) (takes-repair h.value))
            ∙ same_totals _ _ _ _ _ _ _ _ _ _ (omega arith) (omega arith) (omega arith) (omega arith) (omega arith);
      }

-- totals that grew by what a chain took
grew-gave : {X : Type 0} (r : Result X Fault) (f : X → Totals) (taken old new : Totals) → new ≡ grown old taken → Gave r (λ x. taken ≡ f x)
    → Gave r (λ x. new ≡ grown old (f x))
grew-gave r f taken old new h g = record { value = g.value; is = g.is; holds = h ∙ ap (grown old) g.holds }

-- steps whose result is written take no more
took-written : (reading : Reading Output) (found : Finding) (old mid new : Totals) (t : Totals) → (w : IsWriting reading found) → reading.taken ≡ t
    → mid ≡ grown old reading.taken → TookOf found mid new → new ≡ grown old t
took-written reading found old mid new t w is h took = subst (λ f. TookOf f mid new) w.is took ∙ h ∙ ap (grown old) is

pub took-right : (request : Request) (contents : List ℕ → List ℕ) (left : List ℕ) (found : Finding) (old mid new : Totals)
    → (command_answer contents left request).result ≡ Ok found → mid ≡ grown old (command_answer contents left request).taken → TookOf found mid new
    → TookRight request contents left old new
took-right (Plan matrix lost workers budget) contents left found old mid new e h took =
    let w = writing-of (plan_answer contents matrix lost budget) found e in
    took-written (plan_answer contents matrix lost budget) found old mid new _ w (plan-taken contents matrix lost budget w.output w.result_is) h took
took-right (Check matrix lost plan) contents left found old mid new e h took =
    let w = writing-of (check_answer contents matrix lost plan) found e in
    took-written (check_answer contents matrix lost plan) found old mid new _ w (check-taken contents matrix lost plan w.output w.result_is) h took
took-right (Make code p) contents left found old mid new e h took =
    took-written (given (make_given code p)) found old mid new no_bytes (writing-of (given (make_given code p)) found e) refl h took
took-right (Encode matrix payload stripes bytes) contents left found old mid new e h took =
    let w = writing-of (encode_answer contents matrix payload stripes bytes) found e in
    took-written (encode_answer contents matrix payload stripes bytes) found old mid new _ w (encode-taken contents matrix payload stripes bytes w.output w.result_is) h took
took-right (Rebuild matrix image lost workers budget plan live) contents left found old mid new e h took =
    rebuild-took contents left (rebuild_words matrix image lost workers budget plan live) found old mid new e h took
took-right (Convert matrix image) contents left found old mid new e h took =
    let w = writing-of (convert_answer contents matrix image) found e in
    grew-gave (first_accepted contents matrix image) (whole_taken (length (contents matrix))) (convert_answer contents matrix image).taken old new
    (took-written (convert_answer contents matrix image) found old mid new _ w refl h took)
    (whole-took first_version (λ _. converted_output) contents matrix image w.output w.result_is)
took-right (Scrub matrix image) contents left found old mid new e h took =
    let w = writing-of (scrub_answer contents matrix image) found e in
    grew-gave (either_accepted contents matrix image) (whole_taken (length (contents matrix))) (scrub_answer contents matrix image).taken old new
    (took-written (scrub_answer contents matrix image) found old mid new _ w refl h took)
    (whole-took any_version scrub_output contents matrix image w.output w.result_is)
took-right (Sectors matrix image lost bad budget) contents left found old mid new e h took =
    let words = sectors_words matrix image lost bad budget in
    let w = writing-of (sectors_answer contents words) found e in
    grew-gave (repair_accepted contents words) (λ d. repair_taken (length (contents matrix) + length (contents bad)) d budget) (sectors_answer contents words).taken old new
    (took-written (sectors_answer contents words) found old mid new _ w refl h took)
    (sectors-took contents words w.output w.result_is)
took-right (Drill number) contents left found old mid new e h took =
    took-written (given (drill_given number)) found old mid new no_bytes (writing-of (given (drill_given number)) found e) refl h took

-- the totals of a run that answered its words
pub words-took : (words : List (List ℕ)) (contents : List ℕ → List ℕ) (left : List ℕ) (found : Finding) (old mid new : Totals)
    → (answer words contents left).result ≡ Ok found
    → mid ≡ grown old (answer words contents left).taken → TookOf found mid new → IfSome (request_of words) (λ request. TookRight request contents left old new)
unfolding answer
words-took words contents left found old mid new e h took = go (request_of words) e h
  where
    go : (o : Option Request)
        → (and_then [] no_bytes (or_usage o) (command_answer contents left)).result ≡ Ok found
        → mid ≡ grown old (and_then [] no_bytes (or_usage o) (command_answer contents left)).taken
        → IfSome o (λ request. TookRight request contents left old new)
    go None e h = tt
    go (Some request) e h =
        took-right request contents left found old mid new e
        (h ∙ ap (grown old) (same_totals _ _ _ _ _ _ _ _ _ _ (omega arith) (omega arith) (omega arith) (omega arith) (omega arith))) took
