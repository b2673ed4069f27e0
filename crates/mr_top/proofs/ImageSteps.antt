-- The steps of a rebuild up to the script and past it, each with what comes after it.
use Rattle.std.proofs.Common.{arith, ◌≡◌, ◌+◌, ◌-◌, ◌≤◌, ℕ, List, ◌++◌, Vec, Global, Option, Some, None, IfSome, Result, Ok, Err, length, option_map, refl, sym, ◌∙◌, ap, subst}
use Rattle.std.specs.Option.{ForSome}
use Rattle.std.proofs.Math.Seq.{take-length}
use Rattle.std.proofs.lemmas.Bool.{false≢true}
use Rattle.mr_choices.specs.Handed.{handed_file}
use Rattle.mr_choices.specs.declared.chosen.ChosenPlan.{ChosenPlan}
use Rattle.mr_eq.specs.Problems.{Loss}
use Rattle.mr_eq.specs.Singles.{SinglesOf}
use Rattle.mr_image.specs.Images.{Layout}
use Rattle.mr_image.specs.Heads.{file_bytes}
use Rattle.mr_image.specs.Rotated.{rotations}
use Rattle.mr_io.specs.Sights.{Sight}
use Rattle.mr_io.specs.Telling.{AsksFront, Told, told_asking, told_lending, told_returning}
use Rattle.mr_io.specs.declared.asked.Asked.{Asked}
use Rattle.mr_io.specs.declared.errors.FilesError.{FilesError}
use Rattle.mr_io.specs.declared.errors.FilesError.TheVariants.{Failed, Memory as NoRoom}
use Rattle.mr_io.specs.declared.totals.Totals.{Totals}
use Rattle.mr_io.proofs.Growth.{grown-none}
use Rattle.mr_mend.specs.declared.asks.Ask.{Ask}
use Rattle.mr_plan.specs.Plans.{PlanParts}
use Rattle.mr_model.specs.Code.{Code}
use Rattle.mr_ready.specs.Carrying.{image_told}
use Rattle.mr_ready.specs.Duties.{duties_of, eyes_on}
use Rattle.mr_ready.specs.Orders.{OrderParts, parts_of_order}
use Rattle.mr_ready.specs.declared.orders.Order.{Order}
use Rattle.mr_ready.specs.declared.ready.Ready.{Ready as ReadyImage}
use Rattle.mr_words.specs.declared.rebuild_words.RebuildWords.{RebuildWords}
use Rattle.mr_steps.specs.TextFiles.{matrix_file}
use Rattle.mr_top.specs.RebuildSteps.{ImageParts, head_file, image_file, image_read, order_of, parts_as, parts_of, rebuild_answer, rebuild_by}
use Rattle.mr_steps.specs.Faults.{IsFilesFault, fault_status}
use Rattle.mr_steps.specs.Losses.{targets_given}
use Rattle.mr_steps.specs.Readings.{Reading, given, ◌>>=◌}
use Rattle.mr_top.specs.Findings.{Finding, rebuilding}
use Rattle.mr_top.specs.ImagesRead.{HasFile}
use Rattle.mr_top.specs.Outcomes.{eyes_held, finding_of, told_after}
use Rattle.mr_top.specs.Rebuild.{asks_given, layout_allowed, lines_used, plans_used, singles_used}
use Rattle.mr_steps.specs.Steps.{FollowsWith, Gives, Grows, IsForeseen, IsLeft, IsUnread, Reads}
use Rattle.mr_steps.specs.declared.choice_line.ChoiceLine.{ChoiceLine}
use Rattle.mr_steps.specs.declared.fault.Fault.{Fault}
use Rattle.mr_top.specs.declared.image_read.ImageRead.{ImageRead}
use Rattle.mr_top.specs.declared.outcome.Outcome.{Outcome}
use Rattle.mr_top.specs.declared.outcome.Outcome.TheVariants.{Ready}
use Rattle.mr_steps.proofs.Chains.{reads_err, reads_given, reads_then}
use Rattle.mr_steps.proofs.Growing.{grows_given, grows_then, unread-then}
use Rattle.mr_top.proofs.WithScript.{with-then}

-- ---- up to the script

abbrev pub handed_next : (List ℕ → List ℕ) → RebuildWords → Code → ℕ → Option ChosenPlan → Reading ImageParts
handed_next contents words m targets handed =
    image_file contents words.image m targets handed >>= λ l. given (Ok (parts_as m targets handed l))

abbrev pub loss_next : (List ℕ → List ℕ) → RebuildWords → Code → ℕ → Reading ImageParts
loss_next contents words m targets =
    handed_file contents words.plan m targets >>= λ handed. handed_next contents words m targets handed

abbrev pub matrix_next : (List ℕ → List ℕ) → RebuildWords → Code → Reading ImageParts
matrix_next contents words m =
    given (targets_given m words.lost) >>= λ targets. loss_next contents words m targets

-- the loss is a step that reads nothing
loss-step : (old : Option Told) (m : Code) (lost : List ℕ) (result : Result Loss Fault)
    → Gives (λ (p : Loss). p.targets) result (targets_given m lost)
    → Reads (λ (p : Loss). p.targets) old old result (λ _. given (targets_given m lost))
loss-step old m lost result gives =
    reads_given (λ (p : Loss). p.targets) old result (targets_given m lost) gives

module _ (words : RebuildWords) (result : Result ImageRead Fault) where
  pub past-matrix : (old between new : Option Told) (m : Code)
      → Reads (λ (x : Code). x) old between (Ok m) (λ contents. matrix_file contents words.matrix)
      → Reads parts_of between new result (λ contents. matrix_next contents words m)
      → Reads parts_of old new result (λ contents. image_read contents words)
  unfolding image_read
  past-matrix old between new m first rest =
      reads_then (λ (x : Code). x) parts_of old between new m result
      (λ contents. matrix_file contents words.matrix) (λ contents m. matrix_next contents words m)
      first rest

  pub past-loss : (old new : Option Told) (m : Code) (p : Loss)
      → Gives (λ (p : Loss). p.targets) (Ok p) (targets_given m words.lost)
      → Reads parts_of old new result (λ contents. loss_next contents words m p.targets)
      → Reads parts_of old new result (λ contents. matrix_next contents words m)
  past-loss old new m p first rest =
      reads_then (λ (p : Loss). p.targets) parts_of old old new p result
      (λ _. given (targets_given m words.lost)) (λ contents targets. loss_next contents words m targets)
      (loss-step old m words.lost (Ok p) first) rest

  pub past-handed : (old between new : Option Told) (m : Code) (targets : ℕ) (handed : Option ChosenPlan)
      → Reads (λ (h : Option ChosenPlan). h) old between (Ok handed)
      (λ contents. handed_file contents words.plan m targets)
      → Reads parts_of between new result (λ contents. handed_next contents words m targets handed)
      → Reads parts_of old new result (λ contents. loss_next contents words m targets)
  past-handed old between new m targets handed first rest =
      reads_then (λ (h : Option ChosenPlan). h) parts_of old between new handed result
      (λ contents. handed_file contents words.plan m targets)
      (λ contents handed. handed_next contents words m targets handed) first rest

-- the head of an image that is to be rebuilt, and then the rotations
module _ (image : List ℕ) (m : Code) (targets : ℕ) (handed : Option ChosenPlan) (old new : Option Told) where
  pub head-err : (fault : Fault) → Reads (λ (l : Layout). l) old new (Err fault) (λ contents. head_file contents image m)
      → Reads (λ (l : Layout). l) old new (Err fault) (λ contents. image_file contents image m targets handed)
  unfolding image_file
  head-err fault first =
      reads_err (λ (l : Layout). l) (λ (l : Layout). l) old new fault (λ contents. head_file contents image m)
      (λ _ l. given (layout_allowed m targets handed l)) first

  pub head-then : {X : Type 0} (l : Layout) (result : Result X Fault) → Reads (λ (l : Layout). l) old new (Ok l) (λ contents. head_file contents image m)
      → Gives (λ (_ : X). l) result (layout_allowed m targets handed l)
      → Reads (λ (_ : X). l) old new result (λ contents. image_file contents image m targets handed)
  unfolding image_file
  head-then {X} l result first gives =
      reads_then (λ (l : Layout). l) (λ (_ : X). l) old new new l result (λ contents. head_file contents image m)
      (λ _ l. given (layout_allowed m targets handed l)) first (reads_given (λ (_ : X). l) new result (layout_allowed m targets handed l) gives)

  pub head-grows : {X : Type 0} (t0 t1 : Totals) (l : Layout) (result : Result X Fault) → Reads (λ (l : Layout). l) old new (Ok l) (λ contents. head_file contents image m)
      → Grows {X = Layout} old t0 t1 (Ok l) (λ contents. head_file contents image m)
      → Grows old t0 t1 result (λ contents. image_file contents image m targets handed)
  unfolding image_file
  head-grows t0 t1 l result first grew =
      grows_then (λ (l : Layout). l) old new t0 t1 t1 l result (λ contents. head_file contents image m)
      (λ _ l. given (layout_allowed m targets handed l)) first grew (grows_given new t1 result (layout_allowed m targets handed l))

-- where a step refuses
module _ (words : RebuildWords) (fault : Fault) where
  pub at-matrix : (old new : Option Told)
      → Reads (λ (x : Code). x) old new (Err fault) (λ contents. matrix_file contents words.matrix)
      → Reads parts_of old new (Err fault) (λ contents. image_read contents words)
  unfolding image_read
  at-matrix old new first =
      reads_err (λ (x : Code). x) parts_of old new fault (λ contents. matrix_file contents words.matrix)
      (λ contents m. matrix_next contents words m) first

  pub at-loss : (old : Option Told) (m : Code)
      → Gives (λ (p : Loss). p.targets) (Err fault) (targets_given m words.lost)
      → Reads parts_of old old (Err fault) (λ contents. matrix_next contents words m)
  at-loss old m first =
      reads_err (λ (p : Loss). p.targets) parts_of old old fault (λ _. given (targets_given m words.lost))
      (λ contents targets. loss_next contents words m targets) (loss-step old m words.lost (Err fault) first)

  pub at-handed : (old new : Option Told) (m : Code) (targets : ℕ)
      → Reads (λ (h : Option ChosenPlan). h) old new (Err fault)
      (λ contents. handed_file contents words.plan m targets)
      → Reads parts_of old new (Err fault) (λ contents. loss_next contents words m targets)
  at-handed old new m targets first =
      reads_err (λ (h : Option ChosenPlan). h) parts_of old new fault
      (λ contents. handed_file contents words.plan m targets)
      (λ contents handed. handed_next contents words m targets handed) first

  pub at-image : {X : Type 0} (view : X → Layout) (old new : Option Told) (m : Code) (targets : ℕ) (handed : Option ChosenPlan)
      → Reads view old new (Err fault) (λ contents. image_file contents words.image m targets handed)
      → Reads parts_of old new (Err fault) (λ contents. handed_next contents words m targets handed)
  at-image view old new m targets handed first =
      reads_err view parts_of old new fault (λ contents. image_file contents words.image m targets handed)
      (λ _ l. given (Ok (parts_as m targets handed l))) first

-- where none refuses
module _ (words : RebuildWords) (old between later new : Option Told) (m : Code) (p : Loss)
    (handed : Option ChosenPlan) (problems : Vec Loss Global) (read : ImageRead) (is : parts_of read ≡ parts_as m p.targets handed read.head)
    (first : Reads (λ (x : Code). x) old between (Ok m) (λ contents. matrix_file contents words.matrix))
    (second : Gives (λ (p : Loss). p.targets) (Ok p) (targets_given m words.lost))
    (third : Reads (λ (h : Option ChosenPlan). h) between later (Ok handed)
    (λ contents. handed_file contents words.plan m p.targets))
    (fourth : Reads (λ _. read.head) later new (Ok problems) (λ contents. image_file contents words.image m p.targets handed)) where
  last : ◌≡◌ {A = Result ImageParts Fault} (Ok (parts_as m p.targets handed read.head)) (Ok (parts_of read))
  last = ap (λ (parts : ImageParts). Ok parts) (sym is)

  pub image-reads : Reads parts_of old new (Ok read) (λ contents. image_read contents words)
  image-reads =
      past-matrix words (Ok read) old between new m first
      (past-loss words (Ok read) between new m p second
      (past-handed words (Ok read) between later new m p.targets handed third
      (reads_then (λ (_ : Vec Loss Global). read.head) parts_of later new new problems (Ok read)
      (λ contents. image_file contents words.image m p.targets handed) (λ _ l. given (Ok (parts_as m p.targets handed l))) fourth
      (reads_given parts_of new (Ok read) (Ok (parts_as m p.targets handed read.head)) last))))

  pub image-grows : (t0 t1 t2 t3 : Totals)
      → Grows {X = Code} old t0 t1 (Ok m) (λ contents. matrix_file contents words.matrix)
      → Grows {X = Option ChosenPlan} between t1 t2 (Ok handed) (λ contents. handed_file contents words.plan m p.targets)
      → Grows {X = Vec Loss Global} later t2 t3 (Ok problems) (λ contents. image_file contents words.image m p.targets handed)
      → Grows {X = ImageRead} old t0 t3 (Ok read) (λ contents. image_read contents words)
  unfolding image_read
  image-grows t0 t1 t2 t3 grew_first grew_third grew_fourth =
      grows_then (λ (x : Code). x) old between t0 t1 t3 m (Ok read)
      (λ contents. matrix_file contents words.matrix) (λ contents m. matrix_next contents words m) first grew_first
      (grows_then (λ (p : Loss). p.targets) between between t1 t1 t3 p (Ok read)
      (λ _. given (targets_given m words.lost)) (λ contents targets. loss_next contents words m targets)
      (loss-step between m words.lost (Ok p) second) (grows_given between t1 (Ok p) (targets_given m words.lost))
      (grows_then (λ (h : Option ChosenPlan). h) between later t1 t2 t3 handed (Ok read)
      (λ contents. handed_file contents words.plan m p.targets)
      (λ contents handed. handed_next contents words m p.targets handed) third grew_third
      (grows_then (λ (_ : Vec Loss Global). read.head) later new t2 t3 t3 problems (Ok read)
      (λ contents. image_file contents words.image m p.targets handed) (λ _ l. given (Ok (parts_as m p.targets handed l)))
      fourth grew_fourth
      (grows_given new t3 (Ok read) (Ok (parts_as m p.targets handed read.head))))))

-- what is left unread by these steps
pub unread-image : (t0 t1 t2 t3 : Totals) → IsUnread t0 t1 → IsUnread t1 t2 → IsUnread t2 t3 → IsUnread t0 t3
unread-image t0 t1 t2 t3 first second third = unread-then t0 t1 t3 first (unread-then t1 t2 t3 second third)

-- ---- past the script

abbrev pub asks_next : (List ℕ → List ℕ) → List ℕ → RebuildWords → ImageParts → Reading Finding
asks_next contents left words read =
    given (asks_given read.head left) >>= λ asks. rebuild_by contents words read asks

module _ {E : Type 0} (sight : E → Sight) (words : RebuildWords) (old between : Option Told) (t0 t1 : Totals) (script : Option (List ℕ))
    (read : ImageRead)
    (first : Reads parts_of old between (Ok read) (λ contents. image_read contents words))
    (grew : Grows {X = ImageRead} old t0 t1 (Ok read) (λ contents. image_read contents words)) where
  -- the script is refused
  pub asks-err : (fault : Fault)
      → (left : List ℕ) × IsLeft script left × Gives (λ (asks : Vec Ask Global). asks.items) (Err fault) (asks_given read.head left)
      → FollowsWith (finding_of sight) old between t0 t1 script (Err fault) (λ contents left. rebuild_answer contents left words)
  unfolding rebuild_answer
  asks-err fault h =
      with-then parts_of (finding_of sight) old between between t0 t1 t1 script read (Err fault)
      (λ contents. image_read contents words) (λ contents left read. asks_next contents left words read) first grew
      (record {
        left = h.0;
        is = h.1;
        reads = reads_err (λ (asks : Vec Ask Global). asks.items) (finding_of sight) between between fault
            (λ _. given (asks_given read.head h.0)) (λ contents asks. rebuild_by contents words (parts_of read) asks)
            (reads_given (λ (asks : Vec Ask Global). asks.items) between (Err fault) (asks_given read.head h.0) h.2);
        grows = tt;
      })

  -- the last step takes no bytes
  ends-grown : (old : Option Told) (t2 : Totals) (asks : List Ask) (result : Result (Outcome E) Fault) → t2 ≡ t1
      → Grows old t1 t2 result (λ contents. rebuild_by contents words (parts_of read) asks)
  unfolding rebuild_by
  ends-grown old t2 asks (Ok outcome) same = λ told there. same ∙ grown-none t1
  ends-grown old t2 asks (Err fault) same = tt

  -- the script asks for reads
  pub asks-then : (new : Option Told) (t2 : Totals) (asks : Vec Ask Global) (result : Result (Outcome E) Fault)
      → (left : List ℕ) × IsLeft script left × Gives (λ (asks : Vec Ask Global). asks.items) (Ok asks) (asks_given read.head left)
      → Reads (finding_of sight) between new result (λ contents. rebuild_by contents words (parts_of read) asks.items)
      → t2 ≡ t1
      → FollowsWith (finding_of sight) old new t0 t2 script result (λ contents left. rebuild_answer contents left words)
  unfolding rebuild_answer
  asks-then new t2 asks result h reads same =
      let given_asks = reads_given (λ (asks : Vec Ask Global). asks.items) between (Ok asks) (asks_given read.head h.0) h.2 in
      with-then parts_of (finding_of sight) old between new t0 t1 t2 script read result
      (λ contents. image_read contents words) (λ contents left read. asks_next contents left words read) first grew
      (record {
        left = h.0;
        is = h.1;
        reads = reads_then (λ (asks : Vec Ask Global). asks.items) (finding_of sight) between between new asks result
            (λ _. given (asks_given read.head h.0)) (λ contents asks. rebuild_by contents words (parts_of read) asks)
            given_asks reads;
        grows = grows_then (λ (asks : Vec Ask Global). asks.items) between between t1 t1 t2 asks result
            (λ _. given (asks_given read.head h.0)) (λ contents asks. rebuild_by contents words (parts_of read) asks)
            given_asks (grows_given between t1 (Ok asks) (asks_given read.head h.0)) (ends-grown between t2 asks.items result same);
      })

-- ---- a rebuild that is made ready

-- what files tell of eyes that were lent and given back
lent-back : (eyes : List Asked) (n : ℕ) (told : Told) → told_returning n (told_lending eyes n told) ≡ told_asking eyes told
lent-back eyes n told = λ j. record told { asked = told.asked ++ eyes; lent = all-back told.lent n j }
  where
    all-back : (lent n : ℕ) → lent + n - n ≡ lent
    all-back lent n = omega arith

module _ {E : Type 0} (sight : E → Sight) (words : RebuildWords) (read : ImageParts) (asks : List Ask) (old new : Option Told)
    (name : List ℕ) (named : name ≡ words.image) where
  -- it is refused
  pub ready-err : (error : FilesError) (fault : Fault) → IsFilesFault error fault
      → ForSome old (λ told. AsksFront told new (eyes_on name (duties_of words.workers words.live)))
      → Reads {X = Outcome E} (finding_of sight) old new (Err fault) (λ contents. rebuild_by contents words read asks)
  unfolding rebuild_by
  ready-err error fault is front = λ told there. record {
    gives = λ foreseen. unforeseen error is foreseen;
    front = subst (λ n. AsksFront told new (eyes_on n (duties_of words.workers words.live))) named (front told there);
    whole = λ ok. absurd (false≢true ok);
  }
    where
      unforeseen : {P : Type 0} (e : FilesError) → IsFilesFault e fault → IsForeseen (fault_status fault) → P
      unforeseen Failed is foreseen = absurd (foreseen.0 (ap fault_status is))
      unforeseen NoRoom is foreseen = absurd (foreseen.2 (ap fault_status is))

  module _ (ready : ReadyImage E) (order : parts_of_order ready.order ≡ order_of words read asks)
      (told : new ≡ option_map (told_lending (eyes_on name (duties_of words.workers words.live)) (length (duties_of words.workers words.live))) old)
      (image : image_told sight ready ≡ option_map (λ t. t.contents name) old) where
    held : eyes_held ready ≡ length (duties_of words.workers words.live)
    held = ap (λ (parts : OrderParts). length (duties_of parts.workers parts.live)) order

    after-asked : (t : Told) → old ≡ Some t → told_after (Ok (Ready ready)) new ≡ Some (told_asking (eyes_on words.image (duties_of words.workers words.live)) t)
    after-asked t there =
        ap (λ n. option_map (told_returning n) new) held
        ∙ ap (option_map (told_returning (length (duties_of words.workers words.live)))) (told ∙ ap (option_map (told_lending (eyes_on name (duties_of words.workers words.live)) (length (duties_of words.workers words.live)))) there)
        ∙ ap Some (lent-back (eyes_on name (duties_of words.workers words.live)) (length (duties_of words.workers words.live)) t)
        ∙ ap (λ n. Some (told_asking (eyes_on n (duties_of words.workers words.live)) t)) named

    pub ready-reads : Reads (finding_of sight) old (told_after (Ok (Ready ready)) new) (Ok (Ready ready)) (λ contents. rebuild_by contents words read asks)
    unfolding rebuild_by
    ready-reads = λ t there.
        let asked = after-asked t there in
        let bytes : image_told sight ready ≡ Some (t.contents words.image) =
        image ∙ ap (option_map (λ (u : Told). u.contents name)) there ∙ ap (λ n. Some (t.contents n)) named in
        record {
          gives = λ j. Ok (rebuilding (sym order j) (sym bytes j));
          front = record {
            count = length (eyes_on words.image (duties_of words.workers words.live));
            within = omega arith;
            asked = asked ∙ ap (λ eyes. Some (told_asking eyes t)) (sym (take-length (eyes_on words.image (duties_of words.workers words.live))));
          };
          whole = λ _. asked;
        }

    -- all its eyes are lent
    pub ready-lent : IfSome new (λ t. eyes_held ready ≤ t.lent)
    ready-lent = subst (λ o. IfSome o (λ t. eyes_held ready ≤ t.lent)) (sym told) (go old)
      where
        go : (o : Option Told) → IfSome (option_map (told_lending (eyes_on name (duties_of words.workers words.live)) (length (duties_of words.workers words.live))) o) (λ t. eyes_held ready ≤ t.lent)
        go None = tt
        go (Some t) = omega (arith, held)

-- the length of a file that is told
pub fits-told : (told : Option Told) (name image : List ℕ) (l : Layout) → name ≡ image → HasFile told image l
    → IfSome told (λ t. length (t.contents name) ≡ file_bytes l)
fits-told None name image l same fits = tt
fits-told (Some t) name image l same fits = ap (λ n. length (t.contents n)) same ∙ fits t refl

-- what is to be rebuilt, as it is made ready
pub ready-order : (words : RebuildWords) (read : ImageParts) (asks : Vec Ask Global) (plans : List PlanParts) (lines : Vec ChoiceLine Global) (singles : Vec SinglesOf Global) (order : Order)
    → order ≡ record { head = read.head; plans = plans; lines = lines; singles = singles; asks = asks; workers = words.workers; live = words.live }
    → plans ≡ plans_used read.matrix read.lost words.budget (rotations read.head) read.handed
    → lines.items ≡ lines_used read.matrix read.lost words.budget (rotations read.head) read.handed
    → singles.items ≡ singles_used read.matrix read.lost words.budget (rotations read.head) words.live
    → parts_of_order order ≡ order_of words read asks.items
ready-order words read asks plans lines singles order is by lined single =
    ap parts_of_order is
    ∙ (λ j. record {
      head = read.head;
      plans = by j;
      lines = lined j;
      singles = single j;
      asks = asks.items;
      workers = words.workers;
      live = words.live;
    })
