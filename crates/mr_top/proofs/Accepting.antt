-- The chain of a command gives what the command accepts.
use Rattle.std.proofs.Common.{◌≡◌, ℕ, is_ok, List, Option, Some, None, Result, Ok, refl, sym, ◌∙◌, ap, option_map}
use Rattle.mr_bits.specs.declared.errors.What.TheVariants.{PlanBytes}
use Rattle.mr_choices.specs.Handed.{handed_file, handed_given, plan_file, plan_file_given}
use Rattle.mr_image.specs.Images.{Layout}
use Rattle.mr_mend.specs.declared.asks.Ask.{Ask}
use Rattle.mr_model.specs.Code.{Code}
use Rattle.mr_words.specs.declared.rebuild_words.RebuildWords.{RebuildWords}
use Rattle.mr_steps.specs.Texts.{matrix_given, within_limit}
pub use Rattle.mr_steps.proofs.Given.{matrix-is, text-is}
use Rattle.mr_steps.proofs.Results.{nest, result-as, tells-ok, tells-value}
use Rattle.mr_top.specs.Check.{check_accepted, check_written, cost_given}
use Rattle.mr_top.specs.Encode.{encode_accepted, image_written, encoded_given, layout_given}
use Rattle.mr_top.specs.Plan.{PlanAccepted, plan_accepted, plan_given, plan_output, plan_written, plan_of_parts}
use Rattle.mr_top.specs.Rebuild.{RebuildAccepted, image_accepted, image_given, layout_allowed, rebuild_accepted, asks_given, head_given, rebuild_of_parts}
use Rattle.mr_steps.specs.Sinks.{Output}
use Rattle.mr_steps.specs.TextFiles.{matrix_file, text_file}
use Rattle.mr_top.specs.CheckSteps.{check_answer}
use Rattle.mr_top.specs.EncodeSteps.{encode_answer, encoded_file}
use Rattle.mr_top.specs.Findings.{Finding, rebuilding}
use Rattle.mr_top.specs.PlanSteps.{plan_answer}
use Rattle.mr_top.specs.RebuildSteps.{ImageParts, head_file, image_file, image_read, order_of, parts_as, rebuild_answer, rebuild_by}
use Rattle.mr_steps.specs.Losses.{targets_given}
use Rattle.mr_steps.specs.Readings.{given}
use Rattle.mr_steps.specs.Refusals.{followed_by}
use Rattle.mr_choices.specs.declared.chosen.ChosenPlan.{ChosenPlan}
use Rattle.mr_steps.specs.declared.fault.Fault.{Fault}
use Rattle.mr_top.proofs.AcceptedParts.{image_of_loss, image_of_matrix, image_of_plan, rebuild_of_head, rebuild_of_loss, rebuild_of_matrix, rebuild_of_plan}
use Rattle.mr_top.proofs.CheckSteps.{cost_next, lost_next, plan_next, valid_next}
use Rattle.mr_top.proofs.EncodeSteps.{code_next, head_next, image_next}
use Rattle.mr_top.proofs.ImageSteps.{asks_next, handed_next, loss_next, matrix_next}

-- ---- files

pub handed-is : (contents : List ℕ → List ℕ) (plan : Option (List ℕ)) (m : Code) (targets : ℕ)
    → (handed_file contents plan m targets).result ≡ plan_file_given m targets (option_map contents plan)
unfolding plan_file
handed-is contents None m targets = refl
handed-is contents (Some name) m targets =
    result-as (text_file contents name PlanBytes) (λ bytes. given (handed_given m targets bytes))
    (within_limit PlanBytes (contents name)) (λ bytes. handed_given m targets bytes) (text-is contents name PlanBytes) (λ _. refl)

pub head-is : (contents : List ℕ → List ℕ) (image : List ℕ) (m : Code) → (head_file contents image m).result ≡ head_given m (contents image)
unfolding head_file
head-is contents image m = refl

pub image_file-is : (contents : List ℕ → List ℕ) (image : List ℕ) (m : Code) (targets : ℕ) (handed : Option ChosenPlan)
    → (image_file contents image m targets handed).result ≡ image_given m targets handed (contents image)
unfolding image_file
image_file-is contents image m targets handed =
    result-as (head_file contents image m) (λ l. given (layout_allowed m targets handed l))
    (head_given m (contents image)) (layout_allowed m targets handed) (head-is contents image m) (λ _. refl)

-- ---- commands

module _ (contents : List ℕ → List ℕ) (matrix lost : List ℕ) (budget : ℕ) where
  abbrev plan_by_code : Code → Result Output Fault
  plan_by_code m = followed_by (targets_given m lost) (λ targets. Ok (plan_output budget m targets))

  abbrev plan_of_code : Code → Result PlanAccepted Fault
  plan_of_code m = followed_by (targets_given m lost) (λ targets. Ok (plan_of_parts budget m targets))

  pub plan-is : (plan_answer contents matrix lost budget).result
      ≡ followed_by (plan_accepted contents matrix lost budget) (λ p. Ok (plan_written p))
  unfolding plan_answer plan_given
  plan-is =
      result-as (matrix_file contents matrix) (λ m. given (plan_given budget m lost)) (matrix_given (contents matrix)) plan_by_code
      (matrix-is contents matrix) (λ _. refl)
      ∙ sym (nest (matrix_given (contents matrix)) plan_of_code (λ p. Ok (plan_written p)) plan_by_code (λ m.
      nest (targets_given m lost) (λ targets. Ok (plan_of_parts budget m targets))
      (λ (p : PlanAccepted). Ok (plan_written p)) (λ targets. Ok (plan_output budget m targets)) (λ _. refl)))

module _ (contents : List ℕ → List ℕ) (matrix lost plan : List ℕ) where
  abbrev check_by_text : Code → ℕ → List ℕ → Result Output Fault
  check_by_text m targets text = followed_by (cost_given m targets text) valid_next

  abbrev check_by_loss : Code → ℕ → Result Output Fault
  check_by_loss m targets = followed_by (within_limit PlanBytes (contents plan)) (check_by_text m targets)

  abbrev check_by_code : Code → Result Output Fault
  check_by_code m = followed_by (targets_given m lost) (check_by_loss m)

  abbrev cost_of_loss : Code → ℕ → Result ℕ Fault
  cost_of_loss m targets = followed_by (within_limit PlanBytes (contents plan)) (cost_given m targets)

  abbrev cost_of_code : Code → Result ℕ Fault
  cost_of_code m = followed_by (targets_given m lost) (cost_of_loss m)

  pub check-is : (check_answer contents matrix lost plan).result
      ≡ followed_by (check_accepted contents matrix lost plan) (λ cost. Ok (check_written cost))
  unfolding check_answer
  check-is =
      result-as (matrix_file contents matrix) (lost_next contents lost plan) (matrix_given (contents matrix)) check_by_code (matrix-is contents matrix) (λ m.
      result-as (given (targets_given m lost)) (plan_next contents plan m) (targets_given m lost) (check_by_loss m) refl (λ targets.
      result-as (text_file contents plan PlanBytes) (cost_next m targets) (within_limit PlanBytes (contents plan)) (check_by_text m targets) (text-is contents plan PlanBytes) (λ text.
      result-as (given (cost_given m targets text)) (λ cost. given (valid_next cost)) (cost_given m targets text) valid_next refl (λ _. refl))))
      ∙ sym (nest (matrix_given (contents matrix)) cost_of_code valid_next check_by_code (λ m.
      nest (targets_given m lost) (cost_of_loss m) valid_next (check_by_loss m) (λ targets.
      nest (within_limit PlanBytes (contents plan)) (cost_given m targets) valid_next (check_by_text m targets) (λ _. refl))))

encoded-is : (contents : List ℕ → List ℕ) (payload : List ℕ) (m : Code) (l : Layout) → (encoded_file contents payload m l).result ≡ encoded_given m l (contents payload)
unfolding encoded_file
encoded-is contents payload m l = refl

module _ (contents : List ℕ → List ℕ) (matrix payload : List ℕ) (stripes bytes : ℕ) where
  abbrev encode_by_layout : Code → Layout → Result Output Fault
  encode_by_layout m l = followed_by (encoded_given m l (contents payload)) image_next

  abbrev encode_by_code : Code → Result Output Fault
  encode_by_code m = followed_by (layout_given m bytes stripes) (encode_by_layout m)

  abbrev image_of_code : Code → Result (List ℕ) Fault
  image_of_code m = followed_by (layout_given m bytes stripes) (λ l. encoded_given m l (contents payload))

  pub encode-is : (encode_answer contents matrix payload stripes bytes).result
      ≡ followed_by (encode_accepted contents matrix payload stripes bytes) (λ image. Ok (image_written image))
  unfolding encode_answer
  encode-is =
      result-as (matrix_file contents matrix) (code_next contents payload stripes bytes) (matrix_given (contents matrix)) encode_by_code (matrix-is contents matrix) (λ m.
      result-as (given (layout_given m bytes stripes)) (head_next contents payload m) (layout_given m bytes stripes) (encode_by_layout m) refl (λ l.
      result-as (encoded_file contents payload m l) (λ image. given (image_next image)) (encoded_given m l (contents payload)) image_next (encoded-is contents payload m l) (λ _. refl)))
      ∙ sym (nest (matrix_given (contents matrix)) image_of_code image_next encode_by_code (λ m.
      nest (layout_given m bytes stripes) (λ l. encoded_given m l (contents payload)) image_next (encode_by_layout m) (λ _. refl)))

-- what is found of what a rebuild accepts
abbrev pub rebuild_found : RebuildAccepted → Finding
rebuild_found r = rebuilding r.order (Some r.bytes)

module _ (contents : List ℕ → List ℕ) (left : List ℕ) (words : RebuildWords) where
  pub image-is : (image_read contents words).result ≡ followed_by (matrix_given (contents words.matrix)) (image_of_matrix contents words)
  unfolding image_read
  image-is =
      result-as (matrix_file contents words.matrix) (matrix_next contents words) (matrix_given (contents words.matrix)) (image_of_matrix contents words) (matrix-is contents words.matrix) (λ m.
      result-as (given (targets_given m words.lost)) (loss_next contents words m) (targets_given m words.lost) (image_of_loss contents words m) refl (λ targets.
      result-as (handed_file contents words.plan m targets) (handed_next contents words m targets) (plan_file_given m targets (option_map contents words.plan)) (image_of_plan contents words m targets)
      (handed-is contents words.plan m targets) (λ handed.
      result-as (image_file contents words.image m targets handed) (λ l. given (Ok (parts_as m targets handed l))) (image_given m targets handed (contents words.image)) (λ l. Ok (parts_as m targets handed l))
      (image_file-is contents words.image m targets handed) (λ _. refl))))

  abbrev head_of_loss : Code → ℕ → Result Layout Fault
  head_of_loss m targets = followed_by (plan_file_given m targets (option_map contents words.plan)) (λ handed. image_given m targets handed (contents words.image))

  -- all before the script is accepted exactly where it is read
  pub image-tells : is_ok (image_read contents words).result ≡ is_ok (image_accepted contents words)
  image-tells =
      ap is_ok image-is
      ∙ tells-ok (matrix_given (contents words.matrix)) (image_of_matrix contents words) (λ m. followed_by (targets_given m words.lost) (head_of_loss m)) (λ m.
      tells-ok (targets_given m words.lost) (image_of_loss contents words m) (head_of_loss m) (λ targets.
      tells-ok (plan_file_given m targets (option_map contents words.plan)) (image_of_plan contents words m targets) (λ handed. image_given m targets handed (contents words.image)) (λ handed.
      tells-value (image_given m targets handed (contents words.image)) (λ l. parts_as m targets handed l))))

  -- what is found of what was read
  abbrev found_of : ImageParts → List Ask → Finding
  found_of read asks = rebuilding (order_of words read asks) (Some (contents words.image))

  abbrev by_read : ImageParts → Result Finding Fault
  by_read read = followed_by (asks_given read.head left) (λ asks. Ok (found_of read asks))

  by-asks : (read : ImageParts) (asks : List Ask) → (rebuild_by contents words read asks).result ≡ Ok (found_of read asks)
  unfolding rebuild_by
  by-asks read asks = refl

  chain-is : (rebuild_answer contents left words).result ≡ followed_by (followed_by (matrix_given (contents words.matrix)) (image_of_matrix contents words)) by_read
  unfolding rebuild_answer
  chain-is =
      result-as (image_read contents words) (asks_next contents left words) (followed_by (matrix_given (contents words.matrix)) (image_of_matrix contents words)) by_read image-is (λ read.
      result-as (given (asks_given read.head left)) (rebuild_by contents words read) (asks_given read.head left) (λ asks. Ok (found_of read asks)) refl (by-asks read))

  -- both, step by step
  abbrev by_head : Code → ℕ → Option ChosenPlan → Layout → Result Finding Fault
  by_head m targets handed l = by_read (parts_as m targets handed l)

  abbrev by_handed : Code → ℕ → Option ChosenPlan → Result Finding Fault
  by_handed m targets handed = followed_by (image_given m targets handed (contents words.image)) (by_head m targets handed)

  abbrev by_loss : Code → ℕ → Result Finding Fault
  by_loss m targets = followed_by (plan_file_given m targets (option_map contents words.plan)) (by_handed m targets)

  abbrev by_code : Code → Result Finding Fault
  by_code m = followed_by (targets_given m words.lost) (by_loss m)

  chain-steps : followed_by (followed_by (matrix_given (contents words.matrix)) (image_of_matrix contents words)) by_read ≡ followed_by (matrix_given (contents words.matrix)) by_code
  chain-steps =
      nest (matrix_given (contents words.matrix)) (image_of_matrix contents words) by_read by_code (λ m.
      nest (targets_given m words.lost) (image_of_loss contents words m) by_read (by_loss m) (λ targets.
      nest (plan_file_given m targets (option_map contents words.plan)) (image_of_plan contents words m targets) by_read (by_handed m targets) (λ handed.
      nest (image_given m targets handed (contents words.image)) (λ l. Ok (parts_as m targets handed l)) by_read (by_head m targets handed) (λ _. refl))))

  abbrev all_found : RebuildAccepted → Result Finding Fault
  all_found r = Ok (rebuild_found r)

  accepted-steps : followed_by (rebuild_accepted contents left words) all_found ≡ followed_by (matrix_given (contents words.matrix)) by_code
  accepted-steps =
      nest (matrix_given (contents words.matrix)) (rebuild_of_matrix contents left words) all_found by_code (λ m.
      nest (targets_given m words.lost) (rebuild_of_loss contents left words m) all_found (by_loss m) (λ targets.
      nest (plan_file_given m targets (option_map contents words.plan)) (rebuild_of_plan contents left words m targets) all_found (by_handed m targets) (λ handed.
      nest (image_given m targets handed (contents words.image)) (rebuild_of_head contents left words m targets handed) all_found (by_head m targets handed) (λ l.
      nest (asks_given l left) (λ asks. Ok (rebuild_of_parts contents words m targets handed l asks)) all_found (λ asks. Ok (found_of (parts_as m targets handed l) asks)) (λ _. refl)))))

  pub rebuild-is : (rebuild_answer contents left words).result ≡ followed_by (rebuild_accepted contents left words) (λ r. Ok (rebuild_found r))
  rebuild-is = chain-is ∙ chain-steps ∙ sym accepted-steps
