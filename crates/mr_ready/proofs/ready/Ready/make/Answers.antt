use Rattle.std.proofs.Common.{◌≡◌, ◌∙◌, List, ap, chars, length, map, option_map, subst, sym}
use Rattle.std.proofs.lemmas.List.{length-map}
use Rattle.std.specs.Option.{ForSome}
use Rattle.std.specs.Prelude.{IfSome}
use Rattle.mr_image.specs.Heads.{file_bytes}
use Rattle.mr_io.specs.Telling.{AsksFront, told_returning}
use Rattle.mr_ready.specs.Duties.{duties_of, eyes_on}
use Rattle.mr_ready.specs.Lent.{AreLent, told_by}
use Rattle.mr_ready.specs.Written.{HaveRoom}
use Rattle.mr_ready.proofs.CarryLaws.{lent-eyes, lent-fits, lent-image}
use Rattle.mr_ready.proofs.Lending.{asks-front_of, asks-none, on-err, totals-kept, whole-front}
use Rattle.mr_ready.proofs.ready.Ready.make.Goals as goal

pub returns-in_err-duties-clause-refused : goal.returns-in_err-duties-clause-refused
returns-in_err-duties-clause-refused g c =
    on-err _ (asks-none (g.F.Files.told c.args.files.now) (eyes_on (chars c.args.image.now) (duties_of c.args.workers c.args.live)))

pub hire-requires-clause-eyes : goal.hire-requires-clause-eyes
hire-requires-clause-eyes g c =
    lent-eyes g.E.Eye.sight g.E.Eye.faults (g.F.Files.told c.args.files.now) (chars c.args.image.now) c.args.workers c.args.live c.deref-2.result.now c.in-Ok-lend_eyes.eyes.items
    c.in-Ok-lend_eyes.ensures.sights (c.deref-2.ensures.value ∙ c.in_ok-duties.ensures) c.requires.workers.0 c.in-Ok-lend_eyes.ensures.no_faults

pub returns-in-Ok-hire-clause-ready : goal.returns-in-Ok-hire-clause-ready
returns-in-Ok-hire-clause-ready g c =
    let are = c.deref-2.ensures.value ∙ c.in_ok-duties.ensures in
    record {
      plans = c.requires.plans;
      lines = c.requires.lines;
      singles = c.requires.singles;
      asks = c.requires.asks;
      few = c.requires.few;
      some = c.requires.workers.0;
      fits = subst (λ (es : List _). IfSome (told_by g.E.Eye.sight es) (λ bytes. length bytes ≡ file_bytes c.args.head)) (sym c.in-Ok-hire.ensures.eyes)
          (lent-fits g.E.Eye.sight g.E.Eye.faults (g.F.Files.told c.args.files.now) (chars c.args.image.now) c.args.workers c.args.live c.deref-2.result.now c.in-Ok-lend_eyes.eyes.items
          c.in-Ok-lend_eyes.ensures.sights are c.requires.workers.0 (file_bytes c.args.head) c.requires.fits);
      crew = c.in-Ok-hire.ensures.crew;
      eyes = subst (λ (es : List _). AreLent g.E.Eye.sight g.E.Eye.faults (told_by g.E.Eye.sight es) c.args.workers c.args.live es) (sym c.in-Ok-hire.ensures.eyes)
          (lent-eyes g.E.Eye.sight g.E.Eye.faults (g.F.Files.told c.args.files.now) (chars c.args.image.now) c.args.workers c.args.live c.deref-2.result.now c.in-Ok-lend_eyes.eyes.items
          c.in-Ok-lend_eyes.ensures.sights are c.requires.workers.0 c.in-Ok-lend_eyes.ensures.no_faults);
      buffers = subst (λ asks. HaveRoom c.args.head asks c.in-Ok.buffers) c.deref.ensures.value c.in-Ok.ensures;
    }

pub returns-in-Ok-hire-clause-image : goal.returns-in-Ok-hire-clause-image
returns-in-Ok-hire-clause-image g c =
    ap (told_by g.E.Eye.sight) c.in-Ok-hire.ensures.eyes
    ∙ lent-image g.E.Eye.sight g.E.Eye.faults (g.F.Files.told c.args.files.now) (chars c.args.image.now) c.args.workers c.args.live c.deref-2.result.now c.in-Ok-lend_eyes.eyes.items
    c.in-Ok-lend_eyes.ensures.sights (c.deref-2.ensures.value ∙ c.in_ok-duties.ensures) c.requires.workers.0

pub returns-in-Err-hire-clause-refused : goal.returns-in-Err-hire-clause-refused
returns-in-Err-hire-clause-refused g c =
    let name = chars c.args.image.now in
    let old = g.F.Files.told c.args.files.now in
    let between = g.F.Files.told c.lend_eyes.new.files in
    let duties = c.deref-2.result.now in
    let many : length c.in-Err-hire.eyes.items ≡ length duties =
    ap length c.in-Err-hire.ensures.refused ∙ sym (length-map c.in-Ok-lend_eyes.eyes.items g.E.Eye.sight) ∙ ap length c.in-Ok-lend_eyes.ensures.sights ∙ length-map duties _ in
    subst (λ ds. ForSome old (λ told. AsksFront told (g.F.Files.told c.retire_all.new.files) (eyes_on name ds))) (c.deref-2.ensures.value ∙ c.in_ok-duties.ensures)
    (asks-front_of old between (g.F.Files.told c.retire_all.new.files) (eyes_on name duties) (length duties) (whole-front old between (eyes_on name duties) (length duties) c.in-Ok-lend_eyes.ensures.told)
    (c.retire_all.ensures.told ∙ ap (λ n. option_map (told_returning n) between) many))

pub returns-in-Err-hire-clause-totals : goal.returns-in-Err-hire-clause-totals
returns-in-Err-hire-clause-totals g c =
    totals-kept g.E.Eye.sight _ c.deref-2.result.now c.in-Err-hire.eyes.items _ _ _ (ap (map g.E.Eye.sight) c.in-Err-hire.ensures.refused ∙ c.in-Ok-lend_eyes.ensures.sights) c.in-Ok-lend_eyes.ensures.totals c.retire_all.ensures.totals

pub returns-in-Err-clause-refused : goal.returns-in-Err-clause-refused
returns-in-Err-clause-refused g c =
    subst (λ duties. ForSome (g.F.Files.told c.args.files.now) (λ told. AsksFront told (g.F.Files.told c.lend_eyes.new.files) (eyes_on (chars c.args.image.now) duties)))
    (c.deref-2.ensures.value ∙ c.in_ok-duties.ensures) c.in-Err.ensures.refused
