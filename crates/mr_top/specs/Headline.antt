-- The headline, for `plan` and for `rebuild`: a loss is refused as undetermined exactly where the
-- survivors do not determine it, in some rotation that the image uses; else the plan of each is
-- valid, and within the budget of the least cost and the first such; and where the survivors come
-- from codewords, the image written and every reply are the codewords' own.
use Rattle.std.specs.Int.{bit_at}
use Rattle.std.specs.Prelude.{Bool, List, None, Ok, Option, Some, false, length, option_map, true, ℕ, ⊤, ◌*◌, ◌++◌, ◌<◌, ◌≡◌, ◌≤◌, ◌⊎◌}
use Rattle.mr_choices.specs.Handed.{plan_file_given}
use Rattle.mr_eq.specs.Laws.{IsFirstSmallest}
use Rattle.mr_image.specs.Heads.{image_bytes}
use Rattle.mr_image.specs.Images.{ComeFrom, Layout, code_image, every_stripe, image_of, mended, singles_of}
use Rattle.mr_image.specs.Rotated.{codes_by, rotations}
use Rattle.mr_io.specs.Counts.{counted}
use Rattle.mr_mend.specs.Mending.{members_read}
use Rattle.mr_mend.specs.Replies.{reply_lines}
use Rattle.mr_mend.specs.declared.asks.Ask.{Ask}
use Rattle.mr_model.specs.Choice.{search_of}
use Rattle.mr_model.specs.Code.{Code, cost, has_equation, plain}
use Rattle.mr_model.specs.Plans.{IsValidPlan}
use Rattle.mr_model.specs.Search.{work}
use Rattle.mr_plan.specs.PlanLists.{plan_at, recipes_at}
use Rattle.mr_plan.specs.PlanText.{plan_text}
use Rattle.mr_plan.specs.Plans.{PlanParts, survivors}
use Rattle.mr_plan.specs.declared.kinds.Kind.TheVariants.{Given, Least, Spent}
use Rattle.mr_ready.specs.Lawful.{single_sets}
use Rattle.mr_ready.specs.Orders.{OrderParts}
use Rattle.mr_ready.specs.Reports.{line_at, plans_report}
use Rattle.mr_ready.specs.Writing.{IsOutput}
use Rattle.mr_words.specs.declared.rebuild_words.RebuildWords.{RebuildWords}
use Rattle.mr_steps.specs.Requests.{rebuild_words}
use Rattle.mr_steps.specs.Faults.{fault_line}
use Rattle.mr_steps.specs.Lines.{line_text}
use Rattle.mr_steps.specs.Losses.{loss_of, lost_given, symbols_of_devices, targets_given}
use Rattle.mr_steps.specs.Sinks.{HasLine, Output}
use Rattle.mr_steps.specs.Texts.{matrix_given}
use Rattle.mr_steps.specs.declared.choice_line.ChoiceLine.{ChoiceLine}
use Rattle.mr_steps.specs.declared.choice_line.ChoiceLine.TheVariants.{Given as GivenLine, Least as LeastLine, Spent as SpentLine}
use Rattle.mr_steps.specs.declared.fault.Fault.TheVariants.{Undetermined, UndeterminedAt}
use Rattle.mr_steps.specs.declared.request.Request.{Request}
use Rattle.mr_steps.specs.declared.request.Request.TheVariants.{Check, Convert, Drill, Encode, Make, Plan, Rebuild, Scrub, Sectors}
pub use Rattle.mr_steps.specs.Undetermined.{IsLeastUndetermined, IsRefused}
use Rattle.mr_top.specs.Ran.{Ran, Wrote}
use Rattle.mr_top.specs.Rebuild.{asks_given, head_given}
use Rattle.mr_top.specs.ScrubHeadline.{ScrubsRight}
use Rattle.mr_top.specs.Sectors.{sectors_words}
use Rattle.mr_top.specs.SectorsHeadline.{SectorsRight}

-- The survivors do not determine the lost symbol t in rotation r, which is in use and above 0, and
-- each lost symbol below it they do, and each in the rotations before it.
pub record IsLeastRotation (l : Layout) (m : Code) (lost r t : ℕ) : Type 0 where
  pub above : 0 < r
  pub used : r < rotations l
  pub symbol : IsLeastUndetermined (codes_by l m r) lost t
  pub before : (q i : ℕ) → q < r → bit_at lost i ≡ 1
      → has_equation (codes_by l m q) (survivors (codes_by l m q) lost) i ≡ true

-- The same of a rebuild, where besides the first rotation each other counts that the image uses.
pub record IsImageRefused (contents : List ℕ → List ℕ) (words : RebuildWords) (failed : Type 0)
    (ran : Ran) : Type 0 where
  pub refused : (m : Code) (devices t : ℕ) → matrix_given (contents words.matrix) ≡ Ok m
      → lost_given m.devices words.lost ≡ Ok devices
      → IsLeastUndetermined m (symbols_of_devices m devices) t
      → (ran.status ≡ 7)
      × HasLine ran.report_old ran.report_new failed (fault_line (Undetermined t))
  pub later : (m : Code) (devices : ℕ) (l : Layout) (r t : ℕ)
      → matrix_given (contents words.matrix) ≡ Ok m
      → lost_given m.devices words.lost ≡ Ok devices
      → words.plan ≡ None → head_given m (contents words.image) ≡ Ok l
      → IsLeastRotation l m (symbols_of_devices m devices) r t
      → (ran.status ≡ 7)
      × HasLine ran.report_old ran.report_new failed (fault_line (UndeterminedAt r t))
  pub only : (m : Code) (devices : ℕ) → matrix_given (contents words.matrix) ≡ Ok m
      → lost_given m.devices words.lost ≡ Ok devices → ran.status ≡ 7
      → ((t : ℕ) × IsLeastUndetermined m (symbols_of_devices m devices) t)
      ⊎ ((l : Layout) × (r : ℕ) × (t : ℕ) × (head_given m (contents words.image) ≡ Ok l)
      × IsLeastRotation l m (symbols_of_devices m devices) r t)

-- The plan is valid. Without a plan file it is the first smallest set where its work is within the
-- budget, and else the plain set; with one it is that file's.
pub record IsPlanWanted (m : Code) (lost budget : ℕ) (handed : Option (List ℕ)) (plan : PlanParts)
    (line : ChoiceLine) : Type 0 where
  pub valid : IsValidPlan m (survivors m lost) lost plan.set plan.recipes
  pub least : handed ≡ None → work (search_of m (survivors m lost) lost) ≤ budget
      → (plan.kind ≡ Least) × IsFirstSmallest (loss_of m lost) plan.set
      × (line ≡ LeastLine (cost m plan.set) (work (search_of m (survivors m lost) lost)))
  pub spent : handed ≡ None → budget < work (search_of m (survivors m lost) lost)
      → (plan.kind ≡ Spent) × (plan.set ≡ plain m (survivors m lost) lost)
      × (line ≡ SpentLine (cost m plan.set) budget)
  pub given : (bytes : List ℕ) → handed ≡ Some bytes
      → (plan.kind ≡ Given)
      × (plan_file_given m lost handed ≡ Ok (Some (record { plan = plan; line = line })))
      × (line ≡ GivenLine (cost m plan.set))

-- The plan was written, and its line to the report.
pub record HasPlanned (m : Code) (lost budget : ℕ) (ran : Ran) : Type 0 where
  pub plan : PlanParts
  pub line : ChoiceLine
  pub wanted : IsPlanWanted m lost budget None plan line
  pub wrote : Wrote ran (plan_text plan) (line_text line)

-- `plan` keeps to the headline.
pub record PlansRight (contents : List ℕ → List ℕ) (matrix lost : List ℕ) (budget : ℕ)
    (failed : Type 0) (ran : Ran) : Type 0 where
  pub refused : IsRefused contents matrix lost failed ran
  pub planned : ran.status ≡ 0 → (m : Code) (targets : ℕ) → matrix_given (contents matrix) ≡ Ok m
      → targets_given m lost ≡ Ok targets → HasPlanned m targets budget ran

-- What is rebuilt is the image of this layout: by one plan for each rotation in use, with the reads
-- that are asked for, and where these are served meanwhile with the single equations of the lost
-- symbols in the code of each stripe.
pub record IsOrderWanted (m : Code) (lost budget : ℕ) (handed : Option (List ℕ)) (l : Layout)
    (asks : List Ask) (live : Bool) (order : OrderParts) : Type 0 where
  pub head : order.head ≡ l
  pub asks_are : order.asks ≡ asks
  pub live_is : order.live ≡ live
  pub count : length order.plans ≡ rotations l
  pub wanted : (r : ℕ) → r < rotations l
      → IsPlanWanted (codes_by l m r) lost budget handed (plan_at order.plans r)
      (line_at order.lines r)
  pub singles : live ≡ true → (s t : ℕ) → s < l.stripes
      → single_sets order.singles s t
      ≡ singles_of (codes_by l m) (every_stripe (survivors m lost)) budget s t

-- The image is mended, each stripe once, and written, with a lawful reply to each read. Without
-- `live` each reply is the symbol of the mended image. Where the image's survivors come from data,
-- what was written and each reply, with `live` or without, are the codewords' own.
pub record HasRebuilt (m : Code) (lost budget : ℕ) (handed : Option (List ℕ)) (l : Layout)
    (bytes : List ℕ) (asks : List Ask) (live : Bool) (ran : Ran) : Type 0 where
  pub order : OrderParts
  pub wanted : IsOrderWanted m lost budget handed l asks live order
  pub once : ran.totals_new.mend
      ≡ counted ran.totals_old.mend (members_read order.plans l.stripes * l.symbol_bytes)
  pub lawful : (output : Output) × IsOutput order bytes output
      × Wrote ran output.out output.report
  pub mended_file : live ≡ false → Wrote ran
      (image_bytes l (mended l (recipes_at order.plans) (image_of l bytes)))
      (plans_report l order.plans order.lines
      ++ reply_lines (mended l (recipes_at order.plans) (image_of l bytes)) asks)
  pub own : (columns : ℕ → List (List ℕ))
      → ComeFrom l (codes_by l m) (every_stripe (survivors m lost)) (image_of l bytes) columns
      → Wrote ran (image_bytes l (code_image l (codes_by l m) columns))
      (plans_report l order.plans order.lines
      ++ reply_lines (code_image l (codes_by l m) columns) asks)

-- `rebuild` keeps to the headline.
pub record RebuildsRight (contents : List ℕ → List ℕ) (left : List ℕ) (words : RebuildWords)
    (failed : Type 0) (ran : Ran) : Type 0 where
  pub refused : IsImageRefused contents words failed ran
  pub rebuilt : ran.status ≡ 0 → (m : Code) (targets : ℕ) (l : Layout) (asks : List Ask)
      → matrix_given (contents words.matrix) ≡ Ok m → targets_given m words.lost ≡ Ok targets
      → head_given m (contents words.image) ≡ Ok l → asks_given l left ≡ Ok asks
      → HasRebuilt m targets words.budget (option_map contents words.plan) l
      (contents words.image) asks words.live ran

-- a run of this request keeps to the headline
abbrev pub Headline : Request → (List ℕ → List ℕ) → List ℕ → Type 0 → Ran → Type 0
Headline (Plan matrix lost workers budget) contents left failed ran =
    PlansRight contents matrix lost budget failed ran
Headline (Check matrix lost plan) contents left failed ran = ⊤
Headline (Make code p) contents left failed ran = ⊤
Headline (Encode matrix payload stripes bytes) contents left failed ran = ⊤
Headline (Rebuild matrix image lost workers budget plan live) contents left failed ran =
    RebuildsRight contents left (rebuild_words matrix image lost workers budget plan live) failed ran
Headline (Convert matrix image) contents left failed ran = ⊤
Headline (Scrub matrix image) contents left failed ran = ScrubsRight contents matrix image ran
Headline (Sectors matrix image lost bad budget) contents left failed ran =
    SectorsRight contents (sectors_words matrix image lost bad budget) failed ran
Headline (Drill number) contents left failed ran = ⊤
