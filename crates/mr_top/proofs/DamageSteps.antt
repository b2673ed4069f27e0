-- The steps of `sectors` up to the list of the symbols that cannot be read, each with what comes after it.
use Rattle.std.proofs.Common.{◌≡◌, ℕ, List, Vec, Global, Option, Some, None, Result, Ok, Err, length, option_map, refl, sym, ◌∙◌, ap}
use Rattle.mr_bits.specs.declared.errors.What.TheVariants.{SectorBytes}
use Rattle.mr_image.specs.Images.{Layout}
use Rattle.mr_io.specs.Telling.{Told}
use Rattle.mr_io.specs.declared.totals.Totals.{Totals}
use Rattle.mr_mend.specs.declared.asks.Ask.{Ask}
use Rattle.mr_model.specs.Code.{Code}
use Rattle.mr_patch.specs.Damages.{DamageParts}
use Rattle.mr_sector.specs.Sectors.{sectors_of}
use Rattle.mr_sector.specs.declared.sectors.TheConstants.{SECTORS_LIMIT}
use Rattle.mr_words.specs.declared.sectors_words.SectorsWords.{SectorsWords}
use Rattle.mr_steps.specs.Losses.{lost_symbols_given}
use Rattle.mr_steps.specs.Readings.{Reading, given, ◌>>=◌}
use Rattle.mr_steps.specs.Steps.{Gives, Grows, KeepsContents, Reads}
use Rattle.mr_steps.specs.TextFiles.{matrix_file, text_within}
use Rattle.mr_steps.specs.declared.fault.Fault.{Fault}
use Rattle.mr_steps.proofs.Chains.{reads_err, reads_given, reads_then}
use Rattle.mr_steps.proofs.Growing.{grows_given, grows_then}
use Rattle.mr_top.specs.ImagesRead.{HasFile}
use Rattle.mr_top.specs.RebuildSteps.{head_file}
use Rattle.mr_top.specs.Sectors.{damage_of, or_bad_sectors}
use Rattle.mr_top.specs.SectorsSteps.{damage_file, damage_in, sectors_file}
use Rattle.mr_top.specs.declared.damage_read.DamageRead.{DamageRead}

-- ---- what comes after each step

abbrev pub damage_by_head : (List ℕ → List ℕ) → SectorsWords → Code → ℕ → Layout → Reading DamageParts
damage_by_head contents words m lost l =
    sectors_file contents words.bad lost l >>= λ sectors. given (Ok (damage_of m lost l sectors))

abbrev pub damage_by_lost : (List ℕ → List ℕ) → SectorsWords → Code → ℕ → Reading DamageParts
damage_by_lost contents words m lost =
    head_file contents words.image m >>= λ l. damage_by_head contents words m lost l

abbrev pub damage_by_code : (List ℕ → List ℕ) → SectorsWords → Code → Reading DamageParts
damage_by_code contents words m =
    given (lost_symbols_given m words.lost) >>= λ lost. damage_by_lost contents words m lost

-- the lost devices are a step that reads nothing
lost-step : (old : Option Told) (m : Code) (lost : List ℕ) (result : Result ℕ Fault)
    → Gives (λ (s : ℕ). s) result (lost_symbols_given m lost)
    → Reads (λ (s : ℕ). s) old old result (λ _. given (lost_symbols_given m lost))
lost-step old m lost result gives = reads_given (λ (s : ℕ). s) old result (lost_symbols_given m lost) gives

module _ (words : SectorsWords) (result : Result DamageRead Fault) where
  pub past-code : (old between new : Option Told) (m : Code)
      → Reads (λ (x : Code). x) old between (Ok m) (λ contents. matrix_file contents words.matrix)
      → Reads damage_in between new result (λ contents. damage_by_code contents words m)
      → Reads damage_in old new result (λ contents. damage_file contents words)
  unfolding damage_file
  past-code old between new m first rest =
      reads_then (λ (x : Code). x) damage_in old between new m result
      (λ contents. matrix_file contents words.matrix) (λ contents m. damage_by_code contents words m) first rest

  pub past-lost : (old new : Option Told) (m : Code) (lost : ℕ)
      → Gives (λ (s : ℕ). s) (Ok lost) (lost_symbols_given m words.lost)
      → Reads damage_in old new result (λ contents. damage_by_lost contents words m lost)
      → Reads damage_in old new result (λ contents. damage_by_code contents words m)
  past-lost old new m lost first rest =
      reads_then (λ (s : ℕ). s) damage_in old old new lost result
      (λ _. given (lost_symbols_given m words.lost)) (λ contents lost. damage_by_lost contents words m lost)
      (lost-step old m words.lost (Ok lost) first) rest

  pub past-head : (old between new : Option Told) (m : Code) (lost : ℕ) (l : Layout)
      → Reads (λ (l : Layout). l) old between (Ok l) (λ contents. head_file contents words.image m)
      → Reads damage_in between new result (λ contents. damage_by_head contents words m lost l)
      → Reads damage_in old new result (λ contents. damage_by_lost contents words m lost)
  past-head old between new m lost l first rest =
      reads_then (λ (l : Layout). l) damage_in old between new l result
      (λ contents. head_file contents words.image m) (λ contents l. damage_by_head contents words m lost l) first rest

-- where a step refuses
module _ (words : SectorsWords) (fault : Fault) where
  pub at-code : (old new : Option Told)
      → Reads (λ (x : Code). x) old new (Err fault) (λ contents. matrix_file contents words.matrix)
      → Reads damage_in old new (Err fault) (λ contents. damage_file contents words)
  unfolding damage_file
  at-code old new first =
      reads_err (λ (x : Code). x) damage_in old new fault (λ contents. matrix_file contents words.matrix)
      (λ contents m. damage_by_code contents words m) first

  pub at-lost : (old : Option Told) (m : Code)
      → Gives (λ (s : ℕ). s) (Err fault) (lost_symbols_given m words.lost)
      → Reads damage_in old old (Err fault) (λ contents. damage_by_code contents words m)
  at-lost old m first =
      reads_err (λ (s : ℕ). s) damage_in old old fault (λ _. given (lost_symbols_given m words.lost))
      (λ contents lost. damage_by_lost contents words m lost) (lost-step old m words.lost (Err fault) first)

  pub at-head : (old new : Option Told) (m : Code) (lost : ℕ)
      → Reads (λ (l : Layout). l) old new (Err fault) (λ contents. head_file contents words.image m)
      → Reads damage_in old new (Err fault) (λ contents. damage_by_lost contents words m lost)
  at-head old new m lost first =
      reads_err (λ (l : Layout). l) damage_in old new fault (λ contents. head_file contents words.image m)
      (λ contents l. damage_by_head contents words m lost l) first

  pub at-list : (old new : Option Told) (m : Code) (lost : ℕ) (l : Layout)
      → Reads (λ (sectors : Vec Ask Global). sectors.items) old new (Err fault) (λ contents. sectors_file contents words.bad lost l)
      → Reads damage_in old new (Err fault) (λ contents. damage_by_head contents words m lost l)
  at-list old new m lost l first =
      reads_err (λ (sectors : Vec Ask Global). sectors.items) damage_in old new fault (λ contents. sectors_file contents words.bad lost l)
      (λ _ sectors. given (Ok (damage_of m lost l sectors))) first

-- where none refuses
module _ (words : SectorsWords) (old between later new : Option Told) (read : DamageRead)
    (first : Reads (λ (x : Code). x) old between (Ok read.matrix) (λ contents. matrix_file contents words.matrix))
    (second : Gives (λ (s : ℕ). s) (Ok read.lost) (lost_symbols_given read.matrix words.lost))
    (third : Reads (λ (l : Layout). l) between later (Ok read.head) (λ contents. head_file contents words.image read.matrix))
    (fourth : Reads (λ (sectors : Vec Ask Global). sectors.items) later new (Ok read.sectors) (λ contents. sectors_file contents words.bad read.lost read.head)) where
  pub damage-reads : Reads damage_in old new (Ok read) (λ contents. damage_file contents words)
  damage-reads =
      past-code words (Ok read) old between new read.matrix first
      (past-lost words (Ok read) between new read.matrix read.lost second
      (past-head words (Ok read) between later new read.matrix read.lost read.head third
      (reads_then (λ (sectors : Vec Ask Global). sectors.items) damage_in later new new read.sectors (Ok read)
      (λ contents. sectors_file contents words.bad read.lost read.head) (λ _ sectors. given (Ok (damage_of read.matrix read.lost read.head sectors))) fourth
      (reads_given damage_in new (Ok read) (Ok (damage_in read)) refl))))

  pub damage-grows : (t0 t1 t2 t3 : Totals)
      → Grows {X = Code} old t0 t1 (Ok read.matrix) (λ contents. matrix_file contents words.matrix)
      → Grows {X = Layout} between t1 t2 (Ok read.head) (λ contents. head_file contents words.image read.matrix)
      → Grows {X = Vec Ask Global} later t2 t3 (Ok read.sectors) (λ contents. sectors_file contents words.bad read.lost read.head)
      → Grows {X = DamageRead} old t0 t3 (Ok read) (λ contents. damage_file contents words)
  unfolding damage_file
  damage-grows t0 t1 t2 t3 grew_first grew_third grew_fourth =
      grows_then (λ (x : Code). x) old between t0 t1 t3 read.matrix (Ok read)
      (λ contents. matrix_file contents words.matrix) (λ contents m. damage_by_code contents words m) first grew_first
      (grows_then (λ (s : ℕ). s) between between t1 t1 t3 read.lost (Ok read)
      (λ _. given (lost_symbols_given read.matrix words.lost)) (λ contents lost. damage_by_lost contents words read.matrix lost)
      (lost-step between read.matrix words.lost (Ok read.lost) second) (grows_given between t1 (Ok read.lost) (lost_symbols_given read.matrix words.lost))
      (grows_then (λ (l : Layout). l) between later t1 t2 t3 read.head (Ok read)
      (λ contents. head_file contents words.image read.matrix) (λ contents l. damage_by_head contents words read.matrix read.lost l) third grew_third
      (grows_then (λ (sectors : Vec Ask Global). sectors.items) later new t2 t3 t3 read.sectors (Ok read)
      (λ contents. sectors_file contents words.bad read.lost read.head) (λ _ sectors. given (Ok (damage_of read.matrix read.lost read.head sectors)))
      fourth grew_fourth
      (grows_given new t3 (Ok read) (Ok (damage_in read))))))

-- ---- the list

module _ (bad : List ℕ) (lost : ℕ) (l : Layout) where
  pub list-err : (old new : Option Told) (fault : Fault)
      → Reads (λ (bytes : Vec ℕ Global). bytes.items) old new (Err fault) (λ contents. text_within SECTORS_LIMIT contents bad SectorBytes)
      → Reads (λ (sectors : Vec Ask Global). sectors.items) old new (Err fault) (λ contents. sectors_file contents bad lost l)
  unfolding sectors_file
  list-err old new fault first =
      reads_err (λ (bytes : Vec ℕ Global). bytes.items) (λ (sectors : Vec Ask Global). sectors.items) old new fault
      (λ contents. text_within SECTORS_LIMIT contents bad SectorBytes) (λ _ bytes. given (or_bad_sectors (sectors_of l lost bytes))) first

  module _ (old new : Option Told) (bytes : Vec ℕ Global) (result : Result (Vec Ask Global) Fault)
      (first : Reads (λ (bytes : Vec ℕ Global). bytes.items) old new (Ok bytes) (λ contents. text_within SECTORS_LIMIT contents bad SectorBytes)) where
    pub list-reads : Gives (λ (sectors : Vec Ask Global). sectors.items) result (or_bad_sectors (sectors_of l lost bytes.items))
        → Reads (λ (sectors : Vec Ask Global). sectors.items) old new result (λ contents. sectors_file contents bad lost l)
    unfolding sectors_file
    list-reads gives =
        reads_then (λ (bytes : Vec ℕ Global). bytes.items) (λ (sectors : Vec Ask Global). sectors.items) old new new bytes result
        (λ contents. text_within SECTORS_LIMIT contents bad SectorBytes) (λ _ bytes. given (or_bad_sectors (sectors_of l lost bytes))) first
        (reads_given (λ (sectors : Vec Ask Global). sectors.items) new result (or_bad_sectors (sectors_of l lost bytes.items)) gives)

    pub list-grows : (t0 t1 : Totals) → Grows {X = Vec ℕ Global} old t0 t1 (Ok bytes) (λ contents. text_within SECTORS_LIMIT contents bad SectorBytes)
        → Grows old t0 t1 result (λ contents. sectors_file contents bad lost l)
    unfolding sectors_file
    list-grows t0 t1 grew =
        grows_then (λ (bytes : Vec ℕ Global). bytes.items) old new t0 t1 t1 bytes result
        (λ contents. text_within SECTORS_LIMIT contents bad SectorBytes) (λ _ bytes. given (or_bad_sectors (sectors_of l lost bytes))) first grew
        (grows_given new t1 result (or_bad_sectors (sectors_of l lost bytes.items)))

-- what is known of a file, where the files hold what they held
pub file-kept : (old new : Option Told) (image : List ℕ) (l : Layout) → KeepsContents old new → HasFile old image l → HasFile new image l
file-kept None new image l kept fits = λ t there.
    let clash : ◌≡◌ {A = Option (List ℕ → List ℕ)} (Some t.contents) None = sym (ap (option_map (λ (told : Told). told.contents)) there) ∙ kept in cc
file-kept (Some a) new image l kept fits = λ t there.
    let same : ◌≡◌ {A = Option (List ℕ → List ℕ)} (Some t.contents) (Some a.contents) = sym (ap (option_map (λ (told : Told). told.contents)) there) ∙ kept in
    ap (λ o. length (hold o image)) same ∙ fits a refl
  where
    hold : Option (List ℕ → List ℕ) → List ℕ → List ℕ
    hold None name = name
    hold (Some contents) name = contents name
