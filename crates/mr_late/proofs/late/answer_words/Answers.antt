use Rattle.std.proofs.lemmas.Result.{err_from_is_err_and}
use Rattle.mr_late.proofs.Reading.{words-go-on, words-refused}
use Rattle.mr_late.proofs.late.answer_words.Goals as goal

pub returns-in_err-asked-clause-reads : goal.returns-in_err-asked-clause-reads
returns-in_err-asked-clause-reads g c =
    let p = err_from_is_err_and c.from_residual.result c.from_residual.ensures.1 in
    rw p.1 (words-refused _ _ _ _ c.in_err-asked.ensures.reads p.2)

pub returns-clause-reads : goal.returns-clause-reads
returns-clause-reads g c = words-go-on _ _ _ c.in_ok-asked.asked _ c.in_ok-asked.ensures.reads c.make_table.ensures.reads
