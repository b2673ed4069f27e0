-- A run of `sectors` keeps to its headline.
use Rattle.std.proofs.Common.{arith, ◌≡◌, ◌≤◌, ◌^◌, ◌<◌, ℕ, List, length, Option, Some, None, Result, Ok, Err, refl, sym, ◌∙◌, ap, subst, cond}
use Rattle.std.proofs.lemmas.Bool.{le-leb}
use Rattle.mr_bits.specs.Matrices.{IsMatrixCode}
use Rattle.mr_bits.specs.declared.errors.What.{What}
use Rattle.mr_bits.specs.declared.errors.What.TheVariants.{SectorBytes}
use Rattle.mr_image.specs.Images.{Layout}
use Rattle.mr_mend.specs.declared.asks.Ask.{Ask}
use Rattle.mr_model.specs.Code.{Code}
use Rattle.mr_patch.specs.Damages.{DamageParts, IsDamage, patched_file, set_reads}
use Rattle.mr_sector.specs.Sectors.{HasFirstBadSector, sectors_of}
use Rattle.mr_sector.specs.declared.sectors.TheConstants.{SECTORS_LIMIT}
use Rattle.mr_sector.proofs.SectorTexts.{bad-read, text-read}
use Rattle.mr_sectors.specs.Counts.{mended_of, patterns_of}
use Rattle.mr_sectors.specs.Repairs.{report_text}
use Rattle.mr_sectors.proofs.RepairLaws.{damage-from, writes-codewords}
use Rattle.mr_losses.proofs.LostSymbols.{lost-below}
use Rattle.mr_losses.specs.Losses.{symbols_of_devices}
use Rattle.mr_survey.specs.Surveys.{IsFirstUndetermined, first_undetermined}
use Rattle.mr_survey.specs.declared.errors.UndeterminedIn.{UndeterminedIn as OpenStripe}
use Rattle.mr_survey.proofs.SurveyLaws.{first-found, first-only, finds-first}
use Rattle.mr_words.specs.declared.sectors_words.SectorsWords.{SectorsWords}
use Rattle.mr_steps.specs.Faults.{fault_line, fault_status}
use Rattle.mr_steps.specs.Losses.{lost_given, lost_symbols_given}
use Rattle.mr_steps.specs.Refusals.{Gave, followed_by, refusal_of, status_by}
use Rattle.mr_steps.specs.Sinks.{HasLine, Output}
use Rattle.mr_steps.specs.Texts.{within}
use Rattle.mr_steps.specs.declared.fault.Fault.{Fault}
use Rattle.mr_steps.specs.declared.fault.Fault.TheVariants.{BadSectors, TooLarge, UndeterminedIn}
use Rattle.mr_steps.proofs.Results.{gave-then, ok-same}
use Rattle.mr_top.specs.Ran.{Ran, Wrote}
use Rattle.mr_top.specs.Sectors.{damage_accepted, damage_of, determined_damage, or_bad_sectors, repair_accepted, repair_written, unless_stripe}
use Rattle.mr_top.specs.SectorsHeadline.{AreRead, HasRepaired, IsSpelled, SectorsRight}
use Rattle.mr_top.proofs.CodewordsOwn.{given-code}
use Rattle.mr_top.proofs.HeadLimits.{HasLimits, head-limits}
use Rattle.mr_top.proofs.Sectoring.{given_by_code, given_by_head, given_by_lost}

-- ---- what the files spell

within-ok : (limit : ℕ) (what : What) (bytes : List ℕ) → length bytes ≤ limit → within limit what bytes ≡ Ok bytes
within-ok limit what bytes few = ap (λ b. cond b (Ok bytes) (Err (TooLarge what (length bytes)))) (le-leb (length bytes) limit few)

symbols-low : (m : Code) (word : List ℕ) (lost : ℕ) → lost_symbols_given m word ≡ Ok lost → lost < 2 ^ length m.rows
unfolding lost_symbols_given
symbols-low m word lost e =
    let g = gave-then (lost_given m.devices word) (λ devices. Ok (symbols_of_devices m devices)) lost e in
    subst (λ n. n < 2 ^ length m.rows) (ok-same g.holds) (lost-below m g.value)

module _ (contents : List ℕ → List ℕ) (words : SectorsWords) (m : Code) (lost : ℕ) (l : Layout) (read : AreRead contents words m lost l) where
  code : IsMatrixCode m
  code = given-code (contents words.matrix) m read.matrix

  limits : HasLimits m (length (contents words.image)) l
  limits = head-limits m (contents words.image) l code read.head

  -- up to the list
  by-list : (r : Result (List Ask) Fault) → or_bad_sectors (sectors_of l lost (contents words.bad)) ≡ r
      → damage_accepted contents words ≡ followed_by r (λ sectors. Ok (damage_of m lost l sectors))
  by-list r is =
      ap (λ s. followed_by s (given_by_code contents words)) read.matrix
      ∙ ap (λ s. followed_by s (given_by_lost contents words m)) read.lost_is
      ∙ ap (λ s. followed_by s (given_by_head contents words m lost)) read.head
      ∙ ap (λ s. followed_by (followed_by s (λ text. or_bad_sectors (sectors_of l lost text))) (λ sectors. Ok (damage_of m lost l sectors))) (within-ok SECTORS_LIMIT SectorBytes (contents words.bad) read.few)
      ∙ ap (λ s. followed_by s (λ sectors. Ok (damage_of m lost l sectors))) is

  lost-low : lost < 2 ^ length m.rows
  lost-low = symbols-low m words.lost lost read.lost_is

  -- a line of the list that is not of its form
  pub bad-list : (line : ℕ) → HasFirstBadSector l lost (contents words.bad) line → repair_accepted contents words ≡ Err (BadSectors line)
  bad-list line bad =
      ap (λ s. followed_by s determined_damage) (by-list (Err (BadSectors line)) (ap or_bad_sectors (bad-read l lost limits.limits (contents words.bad) line bad)))

module _ (contents : List ℕ → List ℕ) (words : SectorsWords) (d : DamageParts) (is : IsSpelled contents words d) where
  pub spelled-accepted : damage_accepted contents words ≡ Ok d
  spelled-accepted =
      by-list contents words d.code d.lost d.layout is.read (Ok d.sectors)
      (ap or_bad_sectors (text-read d.layout d.lost (limits contents words d.code d.lost d.layout is.read).limits (contents words.bad) d.sectors is.list is.sectors))

  pub spelled-damage : IsDamage d
  spelled-damage =
      damage-from d.layout d.code d.lost d.sectors (code contents words d.code d.lost d.layout is.read) (limits contents words d.code d.lost d.layout is.read).fits
      (lost-low contents words d.code d.lost d.layout is.read) is.sectors

  pub then-determined : repair_accepted contents words ≡ determined_damage d
  then-determined = ap (λ s. followed_by s determined_damage) spelled-accepted

  -- a damage that is accepted is this one, and is determined
  accepted-is : (o : Option OpenStripe) (e : DamageParts) → unless_stripe o d ≡ Ok e → (o ≡ None) × (d ≡ e)
  accepted-is None e h = (refl, ok-same h)
  accepted-is (Some at) e h = let clash : ◌≡◌ {A = Result DamageParts Fault} (Err _) (Ok e) = h in cc

  pub has-repaired : (ran : Ran) (output : Output) → Gave (repair_accepted contents words) (λ d. output ≡ repair_written contents words d)
      → Wrote ran output.out output.report → HasRepaired d words.budget (contents words.image) ran
  has-repaired ran output g wrote =
      let a = accepted-is (first_undetermined d) g.value (sym then-determined ∙ g.is) in
      let same : output ≡ repair_written contents words d = g.holds ∙ ap (repair_written contents words) (sym a.1) in
      let whole : Wrote ran (patched_file d words.budget (contents words.image)) (report_text (patterns_of d) (mended_of d) (set_reads d words.budget d.layout.stripes)) =
      subst (λ (o : Output). Wrote ran o.out o.report) same wrote in
      record {
        patched = whole;
        own = λ columns from.
            subst (λ file. Wrote ran file (report_text (patterns_of d) (mended_of d) (set_reads d words.budget d.layout.stripes)))
            ((writes-codewords d (limits contents words d.code d.lost d.layout is.read).limits (code contents words d.code d.lost d.layout is.read) spelled-damage).written
            words.budget (contents words.image) columns ((finds-first d spelled-damage).none a.0) from) whole;
      }

-- ---- the run

module _ (contents : List ℕ → List ℕ) (words : SectorsWords) (failed : Type 0) (ran : Ran)
    (status : ran.status ≡ status_by (refusal_of (repair_accepted contents words)))
    (line : (fault : Fault) → refusal_of (repair_accepted contents words) ≡ Some fault → HasLine ran.report_old ran.report_new failed (fault_line fault)) where
  told : (fault : Fault) → repair_accepted contents words ≡ Err fault → (ran.status ≡ fault_status fault) × HasLine ran.report_old ran.report_new failed (fault_line fault)
  told fault is = (status ∙ ap (λ r. status_by (refusal_of r)) is, line fault (ap refusal_of is))

  found : (d : DamageParts) → IsSpelled contents words d → ran.status ≡ 7 → (at : OpenStripe) × IsFirstUndetermined d at
  found d is seven = go (first_undetermined d) refl
    where
      go : (o : Option OpenStripe) → first_undetermined d ≡ o → (at : OpenStripe) × IsFirstUndetermined d at
      go None none =
          let zero : ran.status ≡ 0 = status ∙ ap (λ r. status_by (refusal_of r)) (then-determined contents words d is ∙ ap (λ o. unless_stripe o d) none) in
          absurd (omega (arith, zero, seven))
      go (Some at) some = (at, first-found d at some)

  pub sectors-right : (ran.status ≡ 0 → (output : Output) × Gave (repair_accepted contents words) (λ d. output ≡ repair_written contents words d) × Wrote ran output.out output.report)
      → SectorsRight contents words failed ran
  sectors-right written = record {
    refused = λ d at is first.
        told (UndeterminedIn at.stripe at.symbol) (then-determined contents words d is ∙ ap (λ o. unless_stripe o d) (first-only d at first));
    only = found;
    bad_line = λ m lost l n read bad. told (BadSectors n) (bad-list contents words m lost l read n bad);
    repaired = λ zero d is. let w = written zero in has-repaired contents words d is ran w.0 w.1 w.2;
  }
