-- A run that answers its words keeps to the headline.
use Rattle.std.proofs.Common.{arith, ◌≡◌, ◌≢◌, ◌⊎◌, inl, inr, ℕ, ◌+◌, ◌<◌, ◌^◌, ◌==◌, ◌&&◌, Bool, true, false, cond, is_some, nat_le, nat_lt, List, [], ◌++◌, All, length, Option, Some, None, IfSome, Result, Ok, Err, refl, sym, ◌∙◌, ap, subst, option_map, take}
use Rattle.mr_bits.specs.Matrices.{IsMatrixCode}
use Rattle.mr_bits.specs.declared.errors.What.{What}
use Rattle.mr_bits.specs.declared.errors.What.TheVariants.{PlanBytes, ScriptBytes}
use Rattle.mr_choices.specs.Chosen.{chosen_by, singles_chosen}
use Rattle.mr_choices.specs.Handed.{as_given, handed_given, or_plan_line, or_wrong, plan_file_given, sound_given}
use Rattle.mr_choices.specs.Rotations.{undetermined_at}
use Rattle.mr_choices.specs.declared.chosen.ChosenPlan.{ChosenPlan}
use Rattle.mr_choices.specs.declared.errors.UndeterminedAt.{UndeterminedAt as FoundAt}
use Rattle.mr_choices.proofs.AtLaws.{found-least}
use Rattle.mr_image.specs.Heads.{image_bytes, read_head}
use Rattle.mr_image.specs.Images.{ComeFrom, Layout, code_image, every_stripe, image_of, mended, singles_of}
use Rattle.mr_image.specs.Rotated.{codes_by, rotations}
use Rattle.mr_image.specs.declared.faults.HeadFault.{HeadFault}
use Rattle.mr_image.specs.declared.faults.HeadFault.TheVariants.{Bad as IsBadHead, Large as IsLargeImage}
use Rattle.mr_image.specs.declared.faults.ImageKind.TheVariants.{Head, Planned}
use Rattle.mr_image.specs.declared.limits.TheConstants.{HEAD_BYTES}
use Rattle.mr_mend.specs.Replies.{reply_lines}
use Rattle.mr_mend.specs.Rotations.{AreValidPlans}
use Rattle.mr_mend.specs.Scripts.{IsInRange, asks_of, script_limit}
use Rattle.mr_mend.specs.declared.asks.Ask.{Ask}
use Rattle.mr_mend.specs.declared.asks.ScriptFault.{ScriptFault}
use Rattle.mr_mend.specs.declared.asks.ScriptFault.TheVariants.{Line as IsBadLine, Large as IsLargeScript, Memory as ScriptMemory}
use Rattle.mr_mend.proofs.Planned.{gives-rotated}
use Rattle.mr_model.specs.Code.{Code, dimensions, undetermined}
use Rattle.mr_plan.specs.Checks.{first_fault, sound_unless}
use Rattle.mr_plan.specs.PlanLists.{plan_at, recipes_at}
use Rattle.mr_plan.specs.Plans.{PlanParts, survivors}
use Rattle.mr_plan.specs.Readings.{read_plan}
use Rattle.mr_plan.specs.declared.errors.PlanLine.{PlanLine}
use Rattle.mr_plan.specs.declared.errors.Wrong.{Wrong}
use Rattle.mr_ready.specs.Lawful.{single_sets}
use Rattle.mr_ready.specs.Orders.{OrderParts}
use Rattle.mr_ready.specs.Reports.{line_at, plans_report}
use Rattle.mr_ready.specs.Writing.{IsOutput}
use Rattle.mr_words.specs.declared.rebuild_words.RebuildWords.{RebuildWords}
use Rattle.mr_steps.specs.Faults.{fault_line, fault_status}
use Rattle.mr_steps.specs.Losses.{lost_given, symbols_of_devices, targets_given}
use Rattle.mr_steps.specs.Refusals.{Gave, refusal_of, status_by, followed_by}
use Rattle.mr_steps.specs.Requests.{rebuild_words, request_of}
use Rattle.mr_steps.specs.Sinks.{Output, HasLine}
use Rattle.mr_steps.specs.Texts.{matrix_given, text_limit, within_limit}
use Rattle.mr_steps.specs.declared.fault.Fault.{Fault}
use Rattle.mr_steps.specs.declared.fault.Fault.TheVariants.{BadImage, TooLarge, UndeterminedAt}
use Rattle.mr_steps.specs.declared.request.Request.{Request}
use Rattle.mr_steps.specs.declared.request.Request.TheVariants.{Check, Convert, Drill, Encode, Make, Plan, Rebuild, Scrub, Sectors}
use Rattle.mr_steps.proofs.LossRefused.{IsPast, by-targets, is-refused, loss-refused, next-status, past-ok, past-then, told-as}
use Rattle.mr_steps.proofs.Results.{followed-followed, ok-same}
use Rattle.mr_top.specs.Answered.{IsAnswer, IsAnswered, refusal, words_refusal}
use Rattle.mr_top.specs.Encode.{or_head_fault}
use Rattle.mr_top.specs.Headline.{HasPlanned, HasRebuilt, Headline, IsImageRefused, IsLeastRotation, IsLeastUndetermined, IsOrderWanted, IsPlanWanted, PlansRight, RebuildsRight}
use Rattle.mr_top.specs.Plan.{PlanAccepted, plan_accepted, plan_written, plan_of_parts}
use Rattle.mr_top.specs.Ran.{Ran, Wrote}
use Rattle.mr_top.specs.Rebuild.{RebuildAccepted, rebuild_accepted, asks_given, head_given, layout_allowed, lines_used, or_script_fault, plans_used, rebuild_of_parts, rotations_given, script_within, unless_rotation, unplanned}
use Rattle.mr_top.specs.Taken.{IsTaken, TookRight}
use Rattle.mr_top.proofs.AcceptedParts.{rebuild_of_head, rebuild_of_loss, rebuild_of_plan}
use Rattle.mr_top.proofs.Answering.{AcceptedBy, accepted-by, accepted-code, accepted-image}
use Rattle.mr_top.proofs.CodewordsOwn.{asks-inside, given-code, given-valid, targets-loss}
use Rattle.mr_top.proofs.HeadLimits.{IsImageGiven, head-limits, unplanned-ok}
use Rattle.mr_top.proofs.LawfulReplies.{lines-mended, lines-own, singles-of_stripe}
use Rattle.mr_top.proofs.RotationFaults.{first-determined, least-rotation, rotation-found}
use Rattle.mr_top.proofs.Rotations.{used-valid, used-wanted}
use Rattle.mr_top.specs.Sectors.{sectors_words}
use Rattle.mr_top.proofs.ScrubRight.{has-scrubbed}
use Rattle.mr_top.proofs.SectorsRight.{sectors-right}
use Rattle.mr_top.proofs.Wanting.{Determined, Refused, TargetsCases, plan-wanted, targets-cases, targets-determined}

-- ---- steps that do not refuse with the status 7

past-unless : {X : Type 0} (b : Bool) (x : X) (fault : Fault) → fault_status fault ≢ 7 → IsPast (cond b (Ok x) (Err fault))
past-unless true x fault other = past-ok x
past-unless false x fault other = other

past-if : {X : Type 0} (b : Bool) (fault : Fault) (step : Result X Fault) → fault_status fault ≢ 7 → IsPast step → IsPast (cond b (Err fault) step)
past-if true fault step other past = other
past-if false fault step other past = past

past-limit : (what : What) (bytes : List ℕ) → IsPast (within_limit what bytes)
past-limit what bytes = past-unless (nat_le (length bytes) text_limit) bytes (TooLarge what (length bytes)) (λ e. omega (arith, e))

past-line : (r : Result PlanParts PlanLine) → IsPast (or_plan_line r)
past-line (Ok plan) = past-ok plan
past-line (Err bad) = λ e. omega (arith, e)

past-wrong : (r : Result (Unit {0}) Wrong) → IsPast (or_wrong r)
past-wrong (Ok sound) = past-ok sound
past-wrong (Err wrong) = λ e. omega (arith, e)

past-sound : (m : Code) (targets : ℕ) (text : List ℕ) → IsPast (sound_given m targets text)
unfolding sound_given
past-sound m targets text =
    past-then (or_plan_line (read_plan text)) (λ plan. followed_by (or_wrong (sound_unless (first_fault m targets plan))) (λ _. Ok plan)) (past-line (read_plan text)) (λ plan.
    past-then (or_wrong (sound_unless (first_fault m targets plan))) (λ _. Ok plan) (past-wrong (sound_unless (first_fault m targets plan))) (λ _. past-ok plan))

past-plan : (m : Code) (targets : ℕ) (plan : Option (List ℕ)) → IsPast (plan_file_given m targets plan)
past-plan m targets None = past-ok {X = Option ChosenPlan} None
past-plan m targets (Some bytes) =
    past-then (within_limit PlanBytes bytes) (handed_given m targets) (past-limit PlanBytes bytes) (λ text.
    past-then (sound_given m targets text) (λ plan. Ok (Some (as_given m plan))) (past-sound m targets text) (λ plan. past-ok (Some (as_given m plan))))

past-unplanned : (handed : Option ChosenPlan) (l : Layout) → IsPast (unplanned handed l)
past-unplanned handed l = past-if (is_some handed && l.version == 2) (BadImage Planned) (Ok l) (λ e. omega (arith, e)) (past-ok l)

past-head-fault : (r : Result Layout HeadFault) → IsPast (or_head_fault r)
past-head-fault (Ok l) = past-ok l
past-head-fault (Err (IsBadHead kind)) = λ e. omega (arith, e)
past-head-fault (Err (IsLargeImage large)) = λ e. omega (arith, e)

past-head : (m : Code) (bytes : List ℕ) → IsPast (head_given m bytes)
unfolding head_given
past-head m bytes =
    past-if (nat_lt (length bytes) HEAD_BYTES) (BadImage Head) (or_head_fault (read_head (take HEAD_BYTES bytes) (dimensions m) (length bytes)))
    (λ e. omega (arith, e)) (past-head-fault (read_head (take HEAD_BYTES bytes) (dimensions m) (length bytes)))

past-script-fault : (r : Result (List Ask) ScriptFault) → IsPast (or_script_fault r)
past-script-fault (Ok asks) = past-ok asks
past-script-fault (Err (IsBadLine line)) = λ e. omega (arith, e)
past-script-fault (Err (IsLargeScript large)) = λ e. omega (arith, e)
past-script-fault (Err ScriptMemory) = λ e. omega (arith, e)

past-asks : (l : Layout) (left : List ℕ) → IsPast (asks_given l left)
unfolding asks_given
past-asks l left =
    past-then (script_within left) (λ bytes. or_script_fault (asks_of l bytes))
    (past-unless (nat_le (length left) script_limit) left (TooLarge ScriptBytes (script_limit + 1)) (λ e. omega (arith, e)))
    (λ bytes. past-script-fault (asks_of l bytes))

-- ---- a rotation that is not determined

-- a status 7 of two steps, of which the first has none, is that of the second
seven-next : {X Y : Type 0} (step : Result X Fault) (next : X → Result Y Fault) → IsPast step → status_by (refusal_of (followed_by step next)) ≡ 7
    → Gave step (λ x. status_by (refusal_of (next x)) ≡ 7)
seven-next (Ok x) next past seven = record { value = x; is = refl; holds = seven }
seven-next (Err fault) next past seven = absurd (past seven)

-- a rotation of the image is not determined
abbrev OfRotation : (List ℕ → List ℕ) → RebuildWords → Code → ℕ → Type 0
OfRotation contents words m lost =
    (l : Layout) × (r : ℕ) × (t : ℕ) × (head_given m (contents words.image) ≡ Ok l) × IsLeastRotation l m lost r t

module _ (contents : List ℕ → List ℕ) (left : List ℕ) (words : RebuildWords) (m : Code) (lost : ℕ) (code : IsMatrixCode m)
    (determined : undetermined m (survivors m lost) lost ≡ None) where
  by-found : (handed : Option ChosenPlan) (l : Layout) (o : Option FoundAt) → head_given m (contents words.image) ≡ Ok l → undetermined_at m lost (rotations l) ≡ o
      → status_by (refusal_of (followed_by (unless_rotation o l) (rebuild_of_head contents left words m lost handed))) ≡ 7 → OfRotation contents words m lost
  by-found handed l None spells none seven =
      absurd (past-then (asks_given l left) (λ asks. Ok (rebuild_of_parts contents words m lost handed l asks)) (past-asks l left) (λ asks e. omega (arith, e)) seven)
  by-found handed l (Some at) spells some seven = (
    l,
    at.rotation,
    at.symbol,
    spells,
    least-rotation l m lost code (head-limits m (contents words.image) l code spells).fits at determined (found-least m lost (rotations l) at some),
  )

  by-head : (handed : Option ChosenPlan) (l k : Layout) → head_given m (contents words.image) ≡ Ok l → l ≡ k
      → status_by (refusal_of (followed_by (rotations_given m lost k) (rebuild_of_head contents left words m lost handed))) ≡ 7 → OfRotation contents words m lost
  by-head handed l k spells same seven =
      by-found handed k (undetermined_at m lost (rotations k)) (spells ∙ ap (λ (x : Layout). Ok x) same) refl seven

  -- after the loss the status 7 comes from a rotation alone
  seven-rotation : status_by (refusal_of (rebuild_of_loss contents left words m lost)) ≡ 7 → OfRotation contents words m lost
  seven-rotation seven =
      let plan = seven-next (plan_file_given m lost (option_map contents words.plan)) (rebuild_of_plan contents left words m lost) (past-plan m lost (option_map contents words.plan)) seven in
      let behind : Layout → Result RebuildAccepted Fault = rebuild_of_head contents left words m lost plan.value in
      let flat : status_by (refusal_of (followed_by (head_given m (contents words.image)) (λ l. followed_by (layout_allowed m lost plan.value l) behind))) ≡ 7 =
      ap (λ r. status_by (refusal_of r)) (sym (followed-followed (head_given m (contents words.image)) (layout_allowed m lost plan.value) behind)) ∙ plan.holds in
      let head = seven-next (head_given m (contents words.image)) (λ l. followed_by (layout_allowed m lost plan.value l) behind) (past-head m (contents words.image)) flat in
      let flat_head : status_by (refusal_of (followed_by (unplanned plan.value head.value) (λ l. followed_by (rotations_given m lost l) behind))) ≡ 7 =
      ap (λ r. status_by (refusal_of r)) (sym (followed-followed (unplanned plan.value head.value) (rotations_given m lost) behind)) ∙ head.holds in
      let free = seven-next (unplanned plan.value head.value) (λ l. followed_by (rotations_given m lost l) behind) (past-unplanned plan.value head.value) flat_head in
      by-head plan.value head.value free.value head.is (unplanned-ok plan.value head.value free.value free.is).1 free.holds

module _ (contents : List ℕ → List ℕ) (left : List ℕ) (words : RebuildWords) (first : Option Fault) (failed : Type 0) (ran : Ran)
    (first_is : first ≡ refusal_of (rebuild_accepted contents left words))
    (status : ran.status ≡ status_by first) (line : (fault : Fault) → first ≡ Some fault → HasLine ran.report_old ran.report_new failed (fault_line fault)) where
  -- what is refused of an image in which a rotation is not determined
  rotation-refusal : (m : Code) (lost : ℕ) (l : Layout) (at : FoundAt) → words.plan ≡ None → head_given m (contents words.image) ≡ Ok l
      → undetermined_at m lost (rotations l) ≡ Some at
      → rebuild_of_loss contents left words m lost ≡ Err (UndeterminedAt at.rotation at.symbol)
  rotation-refusal m lost l at none spells some =
      ap (λ plan. followed_by (plan_file_given m lost (option_map contents plan)) (rebuild_of_plan contents left words m lost)) none
      ∙ ap (λ r. followed_by (followed_by r (layout_allowed m lost None)) (rebuild_of_head contents left words m lost None)) spells
      ∙ ap (λ o. followed_by (unless_rotation o l) (rebuild_of_head contents left words m lost None)) some

  later-refused : (m : Code) (devices : ℕ) (l : Layout) (r t : ℕ) → matrix_given (contents words.matrix) ≡ Ok m → lost_given m.devices words.lost ≡ Ok devices
      → words.plan ≡ None → head_given m (contents words.image) ≡ Ok l → IsLeastRotation l m (symbols_of_devices m devices) r t
      → (ran.status ≡ 7) × HasLine ran.report_old ran.report_new failed (fault_line (UndeterminedAt r t))
  later-refused m devices l r t reads names none spells least =
      let lost : ℕ = symbols_of_devices m devices in
      let code = given-code (contents words.matrix) m reads in
      let fits = (head-limits m (contents words.image) l code spells).fits in
      let loses : targets_given m words.lost ≡ Ok lost = targets-determined m words.lost devices names (first-determined l m lost code fits r t least) in
      told-as contents words.matrix words.lost (rebuild_of_loss contents left words) first failed ran first_is status line (UndeterminedAt r t)
      (by-targets contents words.matrix words.lost (rebuild_of_loss contents left words) first failed ran first_is status line m (Ok lost) reads loses
      ∙ ap refusal_of (rotation-refusal m lost l (record { rotation = r; symbol = t }) none spells (rotation-found l m lost code fits r t least))) refl

  only-cases : (m : Code) (devices : ℕ) → matrix_given (contents words.matrix) ≡ Ok m → ran.status ≡ 7 → TargetsCases m words.lost (symbols_of_devices m devices)
      → ((t : ℕ) × IsLeastUndetermined m (symbols_of_devices m devices) t) ⊎ OfRotation contents words m (symbols_of_devices m devices)
  only-cases m devices reads seven (Refused t h) = inl (t, h)
  only-cases m devices reads seven (Determined none loses) =
      inr (seven-rotation contents left words m (symbols_of_devices m devices) (given-code (contents words.matrix) m reads) none
      (next-status contents words.matrix words.lost (rebuild_of_loss contents left words) first failed ran first_is status line m devices reads loses seven))

  pub image-refused : IsImageRefused contents words failed ran
  image-refused = record {
    refused = loss-refused contents words.matrix words.lost (rebuild_of_loss contents left words) first failed ran first_is status line;
    later = later-refused;
    only = λ m devices reads names seven. only-cases m devices reads seven (targets-cases m words.lost devices names);
  }

-- ---- what was written

wrote-as : (ran : Ran) (output : Output) (out report : List ℕ) → output.out ≡ out → output.report ≡ report
    → Wrote ran output.out output.report → Wrote ran out report
wrote-as ran output out report o r w = subst (λ x. Wrote ran out x) r (subst (λ x. Wrote ran x output.report) o w)

module _ (contents : List ℕ → List ℕ) (left : List ℕ) (words : RebuildWords) (ran : Ran) (output : Output) (r : RebuildAccepted)
    (by : AcceptedBy contents left words r) (is : IsOutput r.order r.bytes output) (wrote : Wrote ran output.out output.report)
    (took : IsTaken contents words r ran.totals_old ran.totals_new) where
  abbrev l : Layout
  l = r.order.head

  abbrev plans : List PlanParts
  plans = r.order.plans

  code : IsMatrixCode r.code
  code = accepted-code contents left words r by

  image : IsImageGiven r.code r.lost by.handed r.bytes l
  image = accepted-image contents left words r by

  below : r.lost < 2 ^ length r.code.rows
  below = (targets-loss r.code words.lost r.lost code by.lost_is).targets_below

  plans_are : plans ≡ plans_used r.code r.lost words.budget (rotations l) by.handed
  plans_are = ap (λ (order : OrderParts). order.plans) by.order_is

  lines_are : r.order.lines ≡ lines_used r.code r.lost words.budget (rotations l) by.handed
  lines_are = ap (λ (order : OrderParts). order.lines) by.order_is

  live_is : r.order.live ≡ words.live
  live_is = ap (λ (order : OrderParts). order.live) by.order_is

  valid : AreValidPlans l r.code r.lost plans
  valid =
      subst (λ plans. AreValidPlans l r.code r.lost plans) (sym plans_are)
      (used-valid l r.code r.lost code image.limits.fits below image.determined words.budget by.handed
      (given-valid (option_map contents words.plan) r.code r.lost by.handed by.handed_is) image.version)

  wanted : (k : ℕ) → k < rotations l
      → IsPlanWanted (codes_by l r.code k) r.lost words.budget (option_map contents words.plan) (plan_at plans k) (line_at r.order.lines k)
  wanted k low =
      subst (λ plans. IsPlanWanted (codes_by l r.code k) r.lost words.budget (option_map contents words.plan) (plan_at plans k) (line_at r.order.lines k)) (sym plans_are)
      (subst (λ lines. IsPlanWanted (codes_by l r.code k) r.lost words.budget (option_map contents words.plan)
      (plan_at (plans_used r.code r.lost words.budget (rotations l) by.handed) k) (line_at lines k)) (sym lines_are)
      (used-wanted l r.code r.lost code image.limits.fits below image.determined words.budget (option_map contents words.plan) by.handed by.handed_is image.version k low))

  -- with `live` the single equations are those of all rotations
  singles_are : words.live ≡ true → r.order.singles ≡ singles_chosen r.code r.lost words.budget (rotations l)
  singles_are on =
      ap (λ (order : OrderParts). order.singles) by.order_is
      ∙ ap (λ b. cond b (singles_chosen r.code r.lost words.budget (rotations l)) []) on

  single-sets : words.live ≡ true → (s t : ℕ) → s < l.stripes
      → single_sets r.order.singles s t ≡ singles_of (codes_by l r.code) (every_stripe (survivors r.code r.lost)) words.budget s t
  single-sets on s t here =
      ap (λ list. single_sets list s t) (singles_are on) ∙ singles-of_stripe l r.code r.lost words.budget code image.limits.fits s t here

  order-wanted : IsOrderWanted r.code r.lost words.budget (option_map contents words.plan) l r.order.asks words.live r.order
  order-wanted = record {
    head = refl;
    asks_are = refl;
    live_is = live_is;
    count = valid.count;
    wanted = wanted;
    singles = single-sets;
  }

  inside : All (IsInRange l) r.order.asks
  inside = asks-inside l left r.order.asks by.asks_is

  mended-all : words.live ≡ false → Wrote ran (image_bytes l (mended l (recipes_at plans) (image_of l r.bytes)))
      (plans_report l plans r.order.lines ++ reply_lines (mended l (recipes_at plans) (image_of l r.bytes)) r.order.asks)
  mended-all off =
      wrote-as ran output _ _ is.image
      (is.report ∙ ap (λ lines. plans_report l plans r.order.lines ++ lines)
      (lines-mended r.order (image_of l r.bytes) is.replies is.are (live_is ∙ off)))
      wrote

  own-at : (columns : ℕ → List (List ℕ))
      → ComeFrom l (codes_by l r.code) (every_stripe (survivors r.code r.lost)) (image_of l r.bytes) columns
      → Wrote ran (image_bytes l (code_image l (codes_by l r.code) columns))
      (plans_report l plans r.order.lines ++ reply_lines (code_image l (codes_by l r.code) columns) r.order.asks)
  own-at columns from =
      wrote-as ran output _ _
      (is.image ∙ (gives-rotated l image.limits.limits).file r.code r.lost plans (image_of l r.bytes) columns code image.limits.fits valid from)
      (is.report ∙ ap (λ lines. plans_report l plans r.order.lines ++ lines)
      (lines-own r.order (image_of l r.bytes) is.replies is.are r.code r.lost words.budget columns image.limits.limits code image.limits.fits below valid inside
      (λ on. singles_are (sym live_is ∙ on)) from))
      wrote

  has-rebuilt : HasRebuilt r.code r.lost words.budget (option_map contents words.plan) l r.bytes r.order.asks words.live ran
  has-rebuilt = record {
    order = r.order;
    wanted = order-wanted;
    once = took.mend;
    lawful = (output, is, wrote);
    mended_file = mended-all;
    own = own-at;
  }

  rebuilt-for : (m : Code) (targets : ℕ) (k : Layout) (asks : List Ask)
      → matrix_given (contents words.matrix) ≡ Ok m → targets_given m words.lost ≡ Ok targets
      → head_given m (contents words.image) ≡ Ok k → asks_given k left ≡ Ok asks
      → HasRebuilt m targets words.budget (option_map contents words.plan) k (contents words.image) asks words.live ran
  rebuilt-for m targets k asks reads loses heads asking =
      let me : r.code ≡ m = ok-same (sym by.matrix_is ∙ reads) in
      let te : r.lost ≡ targets = ok-same (sym by.lost_is ∙ ap (λ (x : Code). targets_given x words.lost) me ∙ loses) in
      let le : l ≡ k = ok-same (sym image.head ∙ ap (head_given r.code) by.bytes_is ∙ ap (λ (x : Code). head_given x (contents words.image)) me ∙ heads) in
      let ae : r.order.asks ≡ asks = ok-same (sym by.asks_is ∙ ap (λ (x : Layout). asks_given x left) le ∙ asking) in
      let handed : Option (List ℕ) = option_map contents words.plan in
      subst (λ (x : Code). HasRebuilt x targets words.budget handed k (contents words.image) asks words.live ran) me
      (subst (λ x. HasRebuilt r.code x words.budget handed k (contents words.image) asks words.live ran) te
      (subst (λ (x : Layout). HasRebuilt r.code r.lost words.budget handed x (contents words.image) asks words.live ran) le
      (subst (λ x. HasRebuilt r.code r.lost words.budget handed l x asks words.live ran) by.bytes_is
      (subst (λ x. HasRebuilt r.code r.lost words.budget handed l r.bytes x words.live ran) ae has-rebuilt))))

-- ---- the headline

abbrev plan_next : ℕ → Code → ℕ → Result PlanAccepted Fault
plan_next budget m targets = Ok (plan_of_parts budget m targets)

-- What a run of this request says of its status and its sinks.
record IsRunOf (request : Request) (contents : List ℕ → List ℕ) (left : List ℕ) (failed : Type 0) (ran : Ran) : Type 0 where
  status : ran.status ≡ status_by (refusal contents left request)
  line : (fault : Fault) → refusal contents left request ≡ Some fault → HasLine ran.report_old ran.report_new failed (fault_line fault)
  written : ran.status ≡ 0 → (output : Output) × IsAnswered request contents left output × Wrote ran output.out output.report
  took : ran.status ≡ 0 → TookRight request contents left ran.totals_old ran.totals_new

has-planned : (contents : List ℕ → List ℕ) (matrix lost : List ℕ) (budget : ℕ) (ran : Ran) (output : Output)
    → Gave (plan_accepted contents matrix lost budget) (λ p. output ≡ plan_written p) → Wrote ran output.out output.report
    → (m : Code) (targets : ℕ) → matrix_given (contents matrix) ≡ Ok m → targets_given m lost ≡ Ok targets → HasPlanned m targets budget ran
has-planned contents matrix lost budget ran output g wrote m targets reads loses =
    let all : plan_accepted contents matrix lost budget ≡ plan_next budget m targets =
    ap (λ s. followed_by s (λ m. followed_by (targets_given m lost) (plan_next budget m))) reads
    ∙ ap (λ s. followed_by s (plan_next budget m)) loses in
    let same : g.value ≡ plan_of_parts budget m targets = ok-same (sym g.is ∙ all) in
    let is : output ≡ plan_written (plan_of_parts budget m targets) = g.holds ∙ ap plan_written same in
    record {
      plan = (chosen_by m targets budget).plan;
      line = (chosen_by m targets budget).line;
      wanted = plan-wanted m targets budget (targets-loss m lost targets (given-code (contents matrix) m reads) loses);
      wrote = wrote-as ran output _ _ (ap (λ (o : Output). o.out) is) (ap (λ (o : Output). o.report) is) wrote;
    }

plans-right : (matrix lost : List ℕ) (workers budget : ℕ) (contents : List ℕ → List ℕ) (left : List ℕ) (failed : Type 0) (ran : Ran)
    → IsRunOf (Plan matrix lost workers budget) contents left failed ran → PlansRight contents matrix lost budget failed ran
plans-right matrix lost workers budget contents left failed ran f = record {
  refused = is-refused contents matrix lost (plan_next budget) (refusal contents left (Plan matrix lost workers budget)) failed ran refl f.status f.line (λ m targets e. omega (arith, e));
  planned = λ zero. has-planned contents matrix lost budget ran (f.written zero).0 (f.written zero).1 (f.written zero).2;
}

has-mended : (contents : List ℕ → List ℕ) (left : List ℕ) (words : RebuildWords) (ran : Ran) (output : Output)
    → Gave (rebuild_accepted contents left words) (λ r. IsOutput r.order r.bytes output) → Wrote ran output.out output.report
    → Gave (rebuild_accepted contents left words) (λ r. IsTaken contents words r ran.totals_old ran.totals_new)
    → (m : Code) (targets : ℕ) (l : Layout) (asks : List Ask)
    → matrix_given (contents words.matrix) ≡ Ok m → targets_given m words.lost ≡ Ok targets
    → head_given m (contents words.image) ≡ Ok l → asks_given l left ≡ Ok asks
    → HasRebuilt m targets words.budget (option_map contents words.plan) l (contents words.image) asks words.live ran
has-mended contents left words ran output g wrote took =
    let by = accepted-by contents left words g.value g.is in
    rebuilt-for contents left words ran output g.value by g.holds wrote
    (subst (λ (r : RebuildAccepted). IsTaken contents words r ran.totals_old ran.totals_new) (ok-same (sym took.is ∙ g.is)) took.holds)

rebuilds-right : (matrix image lost : List ℕ) (workers budget : ℕ) (plan : Option (List ℕ)) (live : Bool) (contents : List ℕ → List ℕ) (left : List ℕ) (failed : Type 0) (ran : Ran)
    → IsRunOf (Rebuild matrix image lost workers budget plan live) contents left failed ran
    → RebuildsRight contents left (rebuild_words matrix image lost workers budget plan live) failed ran
rebuilds-right matrix image lost workers budget plan live contents left failed ran f =
    let words : RebuildWords = rebuild_words matrix image lost workers budget plan live in
    record {
      refused = image-refused contents left words (refusal contents left (Rebuild matrix image lost workers budget plan live)) failed ran refl f.status f.line;
      rebuilt = λ zero. has-mended contents left words ran (f.written zero).0 (f.written zero).1 (f.written zero).2 (f.took zero);
    }

headline-right : (request : Request) (contents : List ℕ → List ℕ) (left : List ℕ) (failed : Type 0) (ran : Ran)
    → IsRunOf request contents left failed ran → Headline request contents left failed ran
headline-right (Plan matrix lost workers budget) contents left failed ran f = plans-right matrix lost workers budget contents left failed ran f
headline-right (Check matrix lost plan) contents left failed ran f = tt
headline-right (Make code p) contents left failed ran f = tt
headline-right (Encode matrix payload stripes bytes) contents left failed ran f = tt
headline-right (Convert matrix image) contents left failed ran f = tt
headline-right (Scrub matrix image) contents left failed ran f = record {
  scrubbed = λ zero. has-scrubbed contents matrix image ran (f.written zero).0 (f.written zero).1 (f.written zero).2;
}
headline-right (Sectors matrix image lost bad budget) contents left failed ran f =
    sectors-right contents (sectors_words matrix image lost bad budget) failed ran f.status f.line f.written
headline-right (Drill number) contents left failed ran f = tt
headline-right (Rebuild matrix image lost workers budget plan live) contents left failed ran f =
    rebuilds-right matrix image lost workers budget plan live contents left failed ran f

-- a run of words keeps to the headline of their request
pub headline-of : (words : List (List ℕ)) (contents : List ℕ → List ℕ) (left : List ℕ) (failed : Type 0) (ran : Ran)
    → ran.status ≡ status_by (words_refusal contents left (request_of words))
    → ((fault : Fault) → words_refusal contents left (request_of words) ≡ Some fault → HasLine ran.report_old ran.report_new failed (fault_line fault))
    → (ran.status ≡ 0 → (output : Output) × IsAnswer words contents left output × Wrote ran output.out output.report)
    → (ran.status ≡ 0 → IfSome (request_of words) (λ request. TookRight request contents left ran.totals_old ran.totals_new))
    → IfSome (request_of words) (λ request. Headline request contents left failed ran)
headline-of words contents left failed ran status line answered took = go (request_of words) refl status line took
  where
    request-same : {a b : Request} → ◌≡◌ {A = Option Request} (Some a) (Some b) → a ≡ b
    request-same e = cc

    go : (o : Option Request) → request_of words ≡ o → ran.status ≡ status_by (words_refusal contents left o)
        → ((fault : Fault) → words_refusal contents left o ≡ Some fault → HasLine ran.report_old ran.report_new failed (fault_line fault))
        → (ran.status ≡ 0 → IfSome o (λ request. TookRight request contents left ran.totals_old ran.totals_new)) → IfSome o (λ request. Headline request contents left failed ran)
    go None e s l t = tt
    go (Some request) e s l t = headline-right request contents left failed ran (record {
      status = s;
      line = l;
      written = λ zero.
          let a = answered zero in
          (a.0, subst (λ (q : Request). IsAnswered q contents left a.0) (request-same (sym a.1.is ∙ e)) a.1.answered, a.2);
      took = t;
    })
