-- What a drill goes by is right for its code and its image, and what it comes to is what its number says.
use Rattle.std.proofs.Common.{arith, ◌≡◌, ◌∙◌, ◌+◌, ◌*◌, ◌-◌, ◌%◌, ◌<◌, ◌≤◌, ◌^◌, ℕ, true, List, All, Some, drop, take, length, refl, sym, ap, subst}
use Rattle.std.specs.Int.{bit_at}
use Rattle.std.proofs.lemmas.List.{length-drop, take_all}
use Rattle.std.proofs.lemmas.Nat.{mod_below}
use Rattle.mr_bits.specs.Matrices.{IsMatrixCode}
use Rattle.mr_choices.specs.Chosen.{choice_for, singles_chosen}
use Rattle.mr_drill.specs.Words.{after_words, digest_of}
use Rattle.mr_encode.specs.Data.{columns_of, data_bytes}
use Rattle.mr_eq.specs.Singles.{SinglesOf}
use Rattle.mr_image.specs.Heads.{file_bytes, image_bytes}
use Rattle.mr_image.specs.Images.{IsLayout, Layout, code_image, every_stripe, image_body, stripe_symbols}
use Rattle.mr_image.specs.Rotated.{FitsCode, rotations}
use Rattle.mr_mend.specs.Mending.{AreMendable, mended_file}
use Rattle.mr_mend.specs.Rotations.{AreValidPlans}
use Rattle.mr_mend.specs.Scripts.{IsInRange}
use Rattle.mr_mend.specs.Serving.{reply_bytes}
use Rattle.mr_mend.specs.declared.asks.Ask.{Ask}
use Rattle.mr_model.specs.Code.{Code, cost, device_symbols, has_equation, survivors}
use Rattle.mr_model.specs.Search.{chosen}
use Rattle.mr_plan.specs.PlanLists.{recipes_at}
use Rattle.mr_plan.specs.Plans.{PlanParts}
use Rattle.mr_ready.specs.Lawful.{AreSinglesFor}
use Rattle.mr_ready.specs.Replying.{AreLawful}
use Rattle.mr_steps.specs.declared.choice_line.ChoiceLine.{ChoiceLine}
use Rattle.mr_drill_run.specs.Damage.{Clears}
use Rattle.mr_drill_run.specs.Drills.{data_of, drill_code, drill_layout, image_drilled, lost_symbols, order_of, reads_from, reads_of}
use Rattle.mr_drill_run.specs.Summaries.{summary_of}
use Rattle.mr_drill_run.specs.declared.running.TheConstants.{BUDGET}
use Rattle.mr_drill_run.specs.declared.summaries.Summary.{Summary}
use Rattle.mr_drill_run.proofs.CodeLaws.{drill-below, drill-bytes, drill-columns, drill-determined, drill-devices, drill-fits, drill-stripes, drill-symbols, drill-version}
use Rattle.mr_drill_run.proofs.DrawnLaws.{length-bytes_from, length-reads_from, reads-inside}
use Rattle.mr_drill_run.proofs.RunLaws.{mended-own, replies-own}
use Rattle.mr_drill_run.proofs.SinglesFor.{mendable, singles-for}

module _ (l : Layout) (m : Code) (head_is : l ≡ drill_layout) (code_is : m ≡ drill_code) where
  pub given-fits : FitsCode l m
  given-fits = subst (λ (k : Layout). FitsCode k m) (sym head_is) (subst (λ (n : Code). FitsCode drill_layout n) (sym code_is) drill-fits)

  pub given-version : l.version ≡ 1
  given-version = ap (λ (k : Layout). k.version) head_is ∙ drill-version

  pub given-devices : m.devices ≡ 6
  given-devices = ap (λ (n : Code). n.devices) code_is ∙ drill-devices

  bytes-are : l.symbol_bytes ≡ 4096
  bytes-are = ap (λ (k : Layout). k.symbol_bytes) head_is ∙ drill-bytes

  stripes-are : l.stripes ≡ 64
  stripes-are = ap (λ (k : Layout). k.stripes) head_is ∙ drill-stripes

  symbols-are : stripe_symbols l ≡ 24
  symbols-are = ap stripe_symbols head_is ∙ drill-symbols

  columns-are : m.columns ≡ 16
  columns-are = ap (λ (n : Code). n.columns) code_is ∙ drill-columns

  -- the data have their length
  pub given-data : (number : ℕ) (payload : List ℕ) → payload ≡ data_of number → length payload ≡ data_bytes l m
  given-data number payload is =
      ap length is ∙ length-bytes_from number 524288 ∙ sym (λ j. stripes-are j * columns-are j * bytes-are j)

  -- the lost symbols
  pub given-below : (number lost : ℕ) → lost ≡ device_symbols m (number % 6) → lost < 2 ^ length m.rows
  given-below number lost is =
      subst (λ x. x < 2 ^ length m.rows) (sym is)
      (subst (λ (n : Code). device_symbols n (number % 6) < 2 ^ length n.rows) (sym code_is) (drill-below (number % 6) (mod_below number 6 (omega arith))))

  pub given-determined : (number lost : ℕ) → lost ≡ device_symbols m (number % 6) → (t : ℕ) → bit_at lost t ≡ 1 → has_equation m (survivors m lost) t ≡ true
  given-determined number lost is =
      subst (λ x. (t : ℕ) → bit_at x t ≡ 1 → has_equation m (survivors m x) t ≡ true) (sym is)
      (subst (λ (n : Code). (t : ℕ) → bit_at (device_symbols n (number % 6)) t ≡ 1 → has_equation n (survivors n (device_symbols n (number % 6))) t ≡ true) (sym code_is)
      (λ t gone. drill-determined (number % 6) t (mod_below number 6 (omega arith)) gone))

  -- the reads
  pub given-inside : (number : ℕ) (asks : List Ask) → asks ≡ reads_of number → All (IsInRange l) asks
  given-inside number asks is = subst (All (IsInRange l)) (sym is) (reads-inside l (after_words number 524288) 64 stripes-are symbols-are)

  pub given-few : (number : ℕ) (asks : List Ask) → asks ≡ reads_of number → length asks ≡ 64
  given-few number asks is = ap length is ∙ length-reads_from (after_words number 524288) 64

  -- what is digested has whole words
  pub whole-body : (bytes : List ℕ) → length bytes ≡ file_bytes l → length (drop 32 bytes) % 8 ≡ 0
  whole-body bytes long =
      let size : file_bytes l ≡ 32 + 64 * 24 * 4096 = λ j. 32 + stripes-are j * symbols-are j * bytes-are j in
      let rest : length (drop 32 bytes) ≡ 6291456 = length-drop 32 bytes ∙ omega (arith, long, size) in
      ap (λ n. n % 8) rest

  pub whole-replies : (number : ℕ) (asks : List Ask) (replies : List ℕ) → asks ≡ reads_of number → length replies ≡ length asks * l.symbol_bytes → length replies % 8 ≡ 0
  whole-replies number asks replies is long =
      let rest : length replies ≡ 262144 = long ∙ (λ j. given-few number asks is j * bytes-are j) in
      ap (λ n. n % 8) rest

  module _ (is : IsMatrixCode m) (number lost : ℕ) (lost_is : lost ≡ device_symbols m (number % 6)) (plans : List PlanParts) (are : AreValidPlans l m lost plans) where
    pub given-mendable : AreMendable l plans
    given-mendable = mendable l m lost plans is given-fits (given-below number lost lost_is) are

    pub given-singles : (singles : List SinglesOf) → singles ≡ singles_chosen m lost BUDGET (rotations l) → AreSinglesFor l plans singles
    given-singles singles singles_are = subst (AreSinglesFor l plans) (sym singles_are) (singles-for l m lost plans is given-fits (given-below number lost lost_is) are BUDGET)

    -- what is made is the codewords' own
    module _ (limits : IsLayout l) (payload damaged : List ℕ) (payload_is : payload ≡ data_of number)
        (clears : Clears l lost 0 l.stripes (stripe_symbols l) (image_bytes l (code_image l (every_stripe m) (columns_of l m.columns payload))) damaged) where
      pub image-is : (made : List ℕ) → made ≡ mended_file l (recipes_at plans) damaged → drop 32 made ≡ image_body drill_layout (image_drilled number)
      image-is made is_made =
          mended-own l m lost (columns_of l m.columns payload) limits is given-fits given-version (given-below number lost lost_is) damaged clears plans are made is_made
          ∙ (λ j. image_body (head_is j) (code_image (head_is j) (every_stripe (code_is j)) (columns_of (head_is j) (code_is j).columns (payload_is j))))

      pub replies-is : (lines : List ChoiceLine) (singles : List SinglesOf) (asks : List Ask) (replies : List ℕ) → singles ≡ singles_chosen m lost BUDGET (rotations l) → asks ≡ reads_of number
          → AreLawful (order_of l plans lines singles asks) (Some damaged) replies → length replies ≡ length asks * l.symbol_bytes
          → replies ≡ reply_bytes (image_drilled number) (reads_of number)
      replies-is lines singles asks replies singles_are asks_are lawful long =
          replies-own l m lost (columns_of l m.columns payload) limits is given-fits given-version (given-below number lost lost_is) damaged clears plans are
          lines singles asks BUDGET replies singles_are (given-inside number asks asks_are) lawful long
          ∙ (λ j. reply_bytes (code_image (head_is j) (every_stripe (code_is j)) (columns_of (head_is j) (code_is j).columns (payload_is j))) (asks_are j))

    pub cost-is : (c : ℕ) → c ≡ cost m (chosen (choice_for m lost BUDGET)) → c ≡ cost drill_code (chosen (choice_for drill_code (lost_symbols number) BUDGET))
    cost-is c is_cost = is_cost ∙ ap (λ x. cost m (chosen (choice_for m x BUDGET))) lost_is
        ∙ ap (λ (n : Code). cost n (chosen (choice_for n (device_symbols n (number % 6)) BUDGET))) code_is

-- the summary of parts that are right
pub summary-is : (number c image replies : ℕ) → c ≡ (summary_of number).cost → image ≡ (summary_of number).image → replies ≡ (summary_of number).replies
    → ◌≡◌ {A = Summary} (record { number = number; lost = number % 6; cost = c; image = image; replies = replies }) (summary_of number)
summary-is number c image replies cost_is image_is replies_is =
    λ j. record { number = number; lost = number % 6; cost = cost_is j; image = image_is j; replies = replies_is j }

-- what stands behind the head, as the code cuts it
pub behind-head : (bytes : List ℕ) → take (length bytes - 32) (drop 32 bytes) ≡ drop 32 bytes
behind-head bytes = take_all (length bytes - 32) (drop 32 bytes) (omega (arith, length-drop 32 bytes))
