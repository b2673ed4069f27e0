-- What a rebuild accepts is sound: the matrix, the loss, a plan that is handed in, and what the script asks for.
use Rattle.std.proofs.Common.{◌≡◌, ℕ, List, All, Option, Some, None, IfSome, Result, Ok, Err, refl, subst}
use Rattle.mr_model.specs.Code.{Code}
use Rattle.mr_bits.specs.declared.errors.What.TheVariants.{PlanBytes}
use Rattle.mr_choices.specs.Handed.{as_given, handed_file, handed_given, or_wrong, or_plan_line, plan_file_given, sound_given}
use Rattle.mr_choices.specs.declared.chosen.ChosenPlan.{ChosenPlan}
use Rattle.mr_image.specs.Images.{Layout}
use Rattle.mr_mend.specs.Scripts.{IsInRange, asks_of}
use Rattle.mr_mend.proofs.ScriptFaults.{asks-in_range}
use Rattle.mr_mend.specs.declared.asks.Ask.{Ask}
use Rattle.mr_mend.specs.declared.asks.ScriptFault.{ScriptFault}
use Rattle.mr_plan.specs.Checks.{first_fault, sound_unless}
use Rattle.mr_plan.specs.Plans.{PlanParts}
use Rattle.mr_plan.specs.Readings.{read_plan}
use Rattle.mr_plan.specs.declared.errors.Wrong.{Wrong}
use Rattle.mr_plan.proofs.CheckLaws.{valid-sound}
use Rattle.mr_steps.specs.TextFiles.{matrix_file}
use Rattle.mr_steps.specs.Texts.{within_limit}
use Rattle.mr_steps.proofs.Results.{gave-on, gave-then, ok-same}
pub use Rattle.mr_steps.proofs.Given.{given-code, targets-loss}
pub use Rattle.mr_choices.proofs.Wanted.{Valid, chosen-valid}
use Rattle.mr_top.specs.RebuildSteps.{ImageParts, image_file, image_read, parts_as}
use Rattle.mr_steps.specs.Losses.{targets_given}
use Rattle.mr_steps.specs.Readings.{given}
use Rattle.mr_top.specs.Rebuild.{asks_given, or_script_fault, script_within}
use Rattle.mr_steps.specs.declared.fault.Fault.{Fault}
use Rattle.mr_words.specs.declared.rebuild_words.RebuildWords.{RebuildWords}
use Rattle.mr_top.proofs.ImageSteps.{handed_next, loss_next, matrix_next}

-- ---- the plan is valid

no-fault : (o : Option Wrong) (u : Unit {0}) → or_wrong (sound_unless o) ≡ Ok u → o ≡ None
no-fault None u e = refl
no-fault (Some wrong) u e = let clash : ◌≡◌ {A = Result (Unit {0}) Fault} (Err _) (Ok u) = e in cc

pub sound-valid : (m : Code) (targets : ℕ) (bytes : List ℕ) (plan : PlanParts) → sound_given m targets bytes ≡ Ok plan → Valid m targets plan
unfolding sound_given
sound-valid m targets bytes plan e =
    let f = gave-then (or_plan_line (read_plan bytes)) _ plan e in
    let h = gave-then (or_wrong (sound_unless (first_fault m targets f.value))) _ plan f.holds in
    subst (Valid m targets) (ok-same h.holds) (valid-sound m targets f.value (no-fault _ h.value h.is))

-- a plan that is handed in is valid
pub given-valid : (file : Option (List ℕ)) (m : Code) (targets : ℕ) (handed : Option ChosenPlan)
    → plan_file_given m targets file ≡ Ok handed → IfSome handed (λ chosen. Valid m targets chosen.plan)
given-valid None m targets handed e = subst (λ h. IfSome h (λ chosen. Valid m targets chosen.plan)) (ok-same {Y = Option ChosenPlan} e) tt
given-valid (Some bytes) m targets handed e =
    let read = gave-then (within_limit PlanBytes bytes) (handed_given m targets) handed e in
    let f = gave-then (sound_given m targets read.value) (λ plan. Ok (Some (as_given m plan))) handed read.holds in
    subst (λ h. IfSome h (λ chosen. Valid m targets chosen.plan)) (ok-same f.holds) (sound-valid m targets read.value f.value f.is)

-- ---- the asks

read-asks : (r : Result (List Ask) ScriptFault) (asks : List Ask) → or_script_fault r ≡ Ok asks → r ≡ Ok asks
read-asks (Ok found) asks e = let same : ◌≡◌ {A = Result (List Ask) Fault} (Ok found) (Ok asks) = e in cc
read-asks (Err fault) asks e = let clash : ◌≡◌ {A = Result (List Ask) Fault} (Err _) (Ok asks) = e in cc

-- what a script asks for is in the image
pub asks-inside : (l : Layout) (left : List ℕ) (asks : List Ask) → asks_given l left ≡ Ok asks → All (IsInRange l) asks
unfolding asks_given
asks-inside l left asks e =
    let f = gave-then (script_within left) (λ bytes. or_script_fault (asks_of l bytes)) asks e in
    asks-in_range l f.value asks (read-asks (asks_of l f.value) asks f.holds)

-- ---- what was read

-- what was read is of the code, the loss and the image that the words name
pub record HasRead (contents : List ℕ → List ℕ) (words : RebuildWords) (read : ImageParts) : Type 0 where
  pub matrix_is : (matrix_file contents words.matrix).result ≡ Ok read.matrix
  pub loss_is : targets_given read.matrix words.lost ≡ Ok read.lost
  pub handed_is : (handed_file contents words.plan read.matrix read.lost).result ≡ Ok read.handed
  pub image_is : (image_file contents words.image read.matrix read.lost read.handed).result ≡ Ok read.head

pub has-read : (contents : List ℕ → List ℕ) (words : RebuildWords) (read : ImageParts) → (image_read contents words).result ≡ Ok read → HasRead contents words read
unfolding image_read
has-read contents words read e =
    let a = gave-on (matrix_file contents words.matrix) (matrix_next contents words) read e in
    let b = gave-on (given (targets_given a.value words.lost)) (loss_next contents words a.value) read a.holds in
    let d = gave-on (handed_file contents words.plan a.value b.value) (handed_next contents words a.value b.value) read b.holds in
    let f = gave-on (image_file contents words.image a.value b.value d.value) (λ l. given (Ok (parts_as a.value b.value d.value l))) read d.holds in
    subst (HasRead contents words) (ok-same f.holds) (record { matrix_is = a.is; loss_is = b.is; handed_is = d.is; image_is = f.is })
