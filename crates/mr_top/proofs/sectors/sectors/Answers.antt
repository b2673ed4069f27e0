use Rattle.std.proofs.lemmas.Result.{err_from_is_err_and}
use Rattle.mr_steps.proofs.Chains.{reads_named}
use Rattle.mr_steps.proofs.Growing.{grows_named}
use Rattle.mr_top.specs.Replies.{output_of}
use Rattle.mr_top.specs.Sectors.{damage_of}
use Rattle.mr_top.specs.SectorsSteps.{determined_answer}
use Rattle.mr_top.proofs.Sectoring.{sectors-err, sectors-grows, sectors-reads}
use Rattle.mr_top.proofs.sectors.sectors.Goals as goal

pub returns-in_err-read-clause-reads : goal.returns-in_err-read-clause-reads
returns-in_err-read-clause-reads g c =
    let p = err_from_is_err_and c.from_residual.result c.from_residual.ensures.1 in
    rw (p.1, p.2) (sectors-err c.args.words.now _ _ _ c.in_err-read.ensures.reads)

pub returns-clause-reads : goal.returns-clause-reads
returns-clause-reads g c = sectors-reads c.args.words.now _ _ _ c.in_ok-read.read c.repaired.result c.in_ok-read.ensures.reads
    (reads_named output_of _ _ c.repaired.result (λ sectors contents. determined_answer contents c.args.words.now.image c.args.words.now.budget
    (damage_of c.in_ok-read.read.matrix c.in_ok-read.read.lost c.in_ok-read.read.head sectors)) c.deref.ensures.value c.repaired.ensures.reads)

pub returns-clause-totals : goal.returns-clause-totals
returns-clause-totals g c = sectors-grows c.args.words.now _ _ (g.F.Files.told c.repaired.new.files) c.in_ok-read.read c.repaired.result c.in_ok-read.ensures.reads _ _ _ c.in_ok-read.ensures.totals
    (grows_named _ _ _ c.repaired.result (λ sectors contents. determined_answer contents c.args.words.now.image c.args.words.now.budget
    (damage_of c.in_ok-read.read.matrix c.in_ok-read.read.lost c.in_ok-read.read.head sectors)) c.deref.ensures.value c.repaired.ensures.totals)
