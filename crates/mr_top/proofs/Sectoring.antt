-- The chain of `sectors` and what it accepts.
use Rattle.std.proofs.Common.{◌≡◌, ℕ, List, [], ◌∷◌, Option, Some, None, Result, Ok, Err, refl, sym, ◌∙◌, ap}
use Rattle.mr_bits.specs.declared.errors.What.TheVariants.{SectorBytes}
use Rattle.mr_image.specs.Images.{Layout}
use Rattle.mr_io.specs.Telling.{Told}
use Rattle.mr_io.specs.declared.duty.Duty.TheVariants.{Text}
use Rattle.mr_io.specs.declared.totals.Totals.{Totals}
use Rattle.mr_model.specs.Code.{Code}
use Rattle.mr_patch.specs.Damages.{DamageParts}
use Rattle.mr_sector.specs.Sectors.{sectors_of}
use Rattle.mr_sector.specs.declared.sectors.TheConstants.{SECTORS_LIMIT}
use Rattle.mr_sectors.specs.Repairs.{repair_output, repaired_output}
use Rattle.mr_sectors.specs.Steps.{copy_answer, repair_answer}
use Rattle.mr_sectors.specs.declared.repairing.Repaired.{Repaired}
use Rattle.mr_survey.specs.Surveys.{first_undetermined}
use Rattle.mr_survey.specs.declared.errors.UndeterminedIn.{UndeterminedIn as OpenStripe}
use Rattle.mr_words.specs.declared.sectors_words.SectorsWords.{SectorsWords}
use Rattle.mr_steps.specs.Losses.{lost_symbols_given}
use Rattle.mr_steps.specs.Readings.{given}
use Rattle.mr_steps.specs.Refusals.{followed_by}
use Rattle.mr_steps.specs.Steps.{Grows, Reads}
use Rattle.mr_steps.specs.TextFiles.{matrix_file, text_within}
use Rattle.mr_steps.specs.Texts.{matrix_given, within}
use Rattle.mr_steps.specs.declared.fault.Fault.{Fault}
use Rattle.mr_steps.specs.declared.fault.Fault.TheVariants.{UndeterminedIn}
use Rattle.mr_steps.proofs.Chains.{eyes-given, reads_err, reads_given, reads_then}
use Rattle.mr_steps.proofs.Growing.{grows_given, grows_then}
use Rattle.mr_steps.proofs.Results.{followed-followed, result-as}
use Rattle.mr_top.specs.Rebuild.{head_given}
use Rattle.mr_top.specs.RebuildSteps.{head_file}
use Rattle.mr_top.specs.Replies.{output_of}
use Rattle.mr_top.specs.Sectors.{damage_accepted, damage_of, determined_damage, or_bad_sectors, repair_accepted, repair_written, sectors_given, unless_stripe}
use Rattle.mr_top.specs.SectorsSteps.{damage_file, damage_in, determined_answer, repair_eyes, sectors_answer, sectors_file}
use Rattle.mr_top.specs.declared.damage_read.DamageRead.{DamageRead}
use Rattle.mr_top.specs.declared.reply.Reply.{Reply}
use Rattle.mr_top.specs.declared.reply.Reply.TheVariants.{Sectors}
use Rattle.mr_top.proofs.Accepting.{head-is, matrix-is}
use Rattle.mr_top.proofs.DamageSteps.{damage_by_code, damage_by_head, damage_by_lost}

-- ---- what the chain gives

within-is : (contents : List ℕ → List ℕ) (bad : List ℕ) → (text_within SECTORS_LIMIT contents bad SectorBytes).result ≡ within SECTORS_LIMIT SectorBytes (contents bad)
unfolding text_within
within-is contents bad = refl

list-is : (contents : List ℕ → List ℕ) (bad : List ℕ) (lost : ℕ) (l : Layout) → (sectors_file contents bad lost l).result ≡ sectors_given l lost (contents bad)
unfolding sectors_file
list-is contents bad lost l =
    result-as (text_within SECTORS_LIMIT contents bad SectorBytes) (λ text. given (or_bad_sectors (sectors_of l lost text)))
    (within SECTORS_LIMIT SectorBytes (contents bad)) (λ text. or_bad_sectors (sectors_of l lost text)) (within-is contents bad) (λ _. refl)

module _ (contents : List ℕ → List ℕ) (words : SectorsWords) where
  abbrev pub given_by_head : Code → ℕ → Layout → Result DamageParts Fault
  given_by_head m lost l = followed_by (sectors_given l lost (contents words.bad)) (λ sectors. Ok (damage_of m lost l sectors))

  abbrev pub given_by_lost : Code → ℕ → Result DamageParts Fault
  given_by_lost m lost = followed_by (head_given m (contents words.image)) (given_by_head m lost)

  abbrev pub given_by_code : Code → Result DamageParts Fault
  given_by_code m = followed_by (lost_symbols_given m words.lost) (given_by_lost m)

  pub damage-is : (damage_file contents words).result ≡ damage_accepted contents words
  unfolding damage_file
  damage-is =
      result-as (matrix_file contents words.matrix) (damage_by_code contents words) (matrix_given (contents words.matrix)) given_by_code (matrix-is contents words.matrix) (λ m.
      result-as (given (lost_symbols_given m words.lost)) (damage_by_lost contents words m) (lost_symbols_given m words.lost) (given_by_lost m) refl (λ lost.
      result-as (head_file contents words.image m) (damage_by_head contents words m lost) (head_given m (contents words.image)) (given_by_head m lost) (head-is contents words.image m) (λ l.
      result-as (sectors_file contents words.bad lost l) (λ sectors. given (Ok (damage_of m lost l sectors))) (sectors_given l lost (contents words.bad)) (λ sectors. Ok (damage_of m lost l sectors))
      (list-is contents words.bad lost l) (λ _. refl))))

repair-is : (contents : List ℕ → List ℕ) (image : List ℕ) (budget : ℕ) (d : DamageParts) → (repair_answer contents image d budget).result ≡ Ok (repair_output d budget (contents image))
unfolding repair_answer copy_answer
repair-is contents image budget d = refl

determined-is : (contents : List ℕ → List ℕ) (image : List ℕ) (budget : ℕ) (d : DamageParts)
    → (determined_answer contents image budget d).result ≡ followed_by (determined_damage d) (λ whole. Ok (repair_output whole budget (contents image)))
unfolding determined_answer
determined-is contents image budget d =
    result-as (given (determined_damage d)) (λ whole. repair_answer contents image whole budget) (determined_damage d) (λ whole. Ok (repair_output whole budget (contents image))) refl
    (repair-is contents image budget)

pub sectors-is : (contents : List ℕ → List ℕ) (words : SectorsWords)
    → (sectors_answer contents words).result ≡ followed_by (repair_accepted contents words) (λ d. Ok (repair_written contents words d))
unfolding sectors_answer
sectors-is contents words =
    result-as (damage_file contents words) (determined_answer contents words.image words.budget) (damage_accepted contents words)
    (λ d. followed_by (determined_damage d) (λ whole. Ok (repair_written contents words whole))) (damage-is contents words) (determined-is contents words.image words.budget)
    ∙ sym (followed-followed (damage_accepted contents words) determined_damage (λ d. Ok (repair_written contents words d)))

-- ---- its eyes

pub eyes-within : (contents : List ℕ → List ℕ) (bad : List ℕ) → (text_within SECTORS_LIMIT contents bad SectorBytes).eyes ≡ record { name = bad; duty = Text } ∷ []
unfolding text_within
eyes-within contents bad = refl

pub eyes-list : (contents : List ℕ → List ℕ) (bad : List ℕ) (lost : ℕ) (l : Layout) → (sectors_file contents bad lost l).eyes ≡ record { name = bad; duty = Text } ∷ []
unfolding sectors_file
eyes-list contents bad lost l =
    eyes-given (text_within SECTORS_LIMIT contents bad SectorBytes) (λ text. or_bad_sectors (sectors_of l lost text)) ∙ eyes-within contents bad

pub eyes-repair : (contents : List ℕ → List ℕ) (image : List ℕ) (budget : ℕ) (d : DamageParts) → (repair_answer contents image d budget).eyes ≡ repair_eyes image
unfolding repair_answer copy_answer
eyes-repair contents image budget d = refl

-- ---- the steps past the list

module _ (image : List ℕ) (budget : ℕ) (d : DamageParts) where
  -- a stripe is not determined
  pub stripe-err : (old : Option Told) (at : OpenStripe) → first_undetermined d ≡ Some at
      → Reads output_of old old (Err (UndeterminedIn at.stripe at.symbol)) (λ contents. determined_answer contents image budget d)
  unfolding determined_answer
  stripe-err old at found =
      reads_err (λ (x : DamageParts). x) output_of old old (UndeterminedIn at.stripe at.symbol) (λ _. given (determined_damage d)) (λ contents whole. repair_answer contents image whole budget)
      (reads_given (λ (x : DamageParts). x) old (Err (UndeterminedIn at.stripe at.symbol)) (determined_damage d) (λ _. ap (λ o. unless_stripe o d) found))

  module _ (old new : Option Told) (none : first_undetermined d ≡ None) where
    abbrev known : Result DamageParts Fault
    known = Ok d

    known-reads : Reads (λ (x : DamageParts). x) old old known (λ _. given (determined_damage d))
    known-reads = reads_given (λ (x : DamageParts). x) old known (determined_damage d) (ap (λ o. unless_stripe o d) none)

    -- what is written of a repair, and its refusal
    pub repair-err : (fault : Fault) → Reads repaired_output old new (Err fault) (λ contents. repair_answer contents image d budget)
        → Reads output_of old new (Err fault) (λ contents. determined_answer contents image budget d)
    unfolding determined_answer
    repair-err fault h =
        reads_then (λ (x : DamageParts). x) output_of old old new d (Err fault) (λ _. given (determined_damage d)) (λ contents whole. repair_answer contents image whole budget) known-reads
        (λ told there. let f = h told there in record { gives = f.gives; front = f.front; whole = f.whole })

    pub repair-reads : (repaired : Repaired) → Reads repaired_output old new (Ok repaired) (λ contents. repair_answer contents image d budget)
        → Reads output_of old new (Ok (Sectors repaired)) (λ contents. determined_answer contents image budget d)
    unfolding determined_answer
    repair-reads repaired h =
        reads_then (λ (x : DamageParts). x) output_of old old new d (Ok (Sectors repaired)) (λ _. given (determined_damage d)) (λ contents whole. repair_answer contents image whole budget) known-reads
        (λ told there. let f = h told there in record { gives = f.gives; front = f.front; whole = f.whole })

    pub repair-grows : (t0 t1 : Totals) (repaired : Repaired) → Grows {X = Repaired} old t0 t1 (Ok repaired) (λ contents. repair_answer contents image d budget)
        → Grows {X = Reply} old t0 t1 (Ok (Sectors repaired)) (λ contents. determined_answer contents image budget d)
    unfolding determined_answer
    repair-grows t0 t1 repaired grew =
        grows_then (λ (x : DamageParts). x) old old t0 t0 t1 d (Ok (Sectors repaired)) (λ _. given (determined_damage d)) (λ contents whole. repair_answer contents image whole budget) known-reads
        (grows_given old t0 known (determined_damage d)) grew

-- the whole chain
module _ (words : SectorsWords) where
  pub sectors-err : (old new : Option Told) (fault : Fault) → Reads damage_in old new (Err fault) (λ contents. damage_file contents words)
      → Reads output_of old new (Err fault) (λ contents. sectors_answer contents words)
  unfolding sectors_answer
  sectors-err old new fault h =
      reads_err damage_in output_of old new fault (λ contents. damage_file contents words) (λ contents d. determined_answer contents words.image words.budget d) h

  module _ (old between new : Option Told) (read : DamageRead) (result : Result Reply Fault)
      (first : Reads damage_in old between (Ok read) (λ contents. damage_file contents words)) where
    pub sectors-reads : Reads output_of between new result (λ contents. determined_answer contents words.image words.budget (damage_in read))
        → Reads output_of old new result (λ contents. sectors_answer contents words)
    unfolding sectors_answer
    sectors-reads h =
        reads_then damage_in output_of old between new read result (λ contents. damage_file contents words) (λ contents d. determined_answer contents words.image words.budget d) first h

    pub sectors-grows : (t0 t1 t2 : Totals) → Grows {X = DamageRead} old t0 t1 (Ok read) (λ contents. damage_file contents words)
        → Grows between t1 t2 result (λ contents. determined_answer contents words.image words.budget (damage_in read))
        → Grows old t0 t2 result (λ contents. sectors_answer contents words)
    unfolding sectors_answer
    sectors-grows t0 t1 t2 grew h =
        grows_then damage_in old between t0 t1 t2 read result (λ contents. damage_file contents words) (λ contents d. determined_answer contents words.image words.budget d) first grew h
