use Rattle.std.proofs.Common.{map, drop, string_bytes, ap, Ok}
use Rattle.std.proofs.lemmas.Result.{err_from_is_err_and}
use Rattle.mr_least_words.specs.Words.{least_of}
use Rattle.mr_least_words.specs.declared.words.LeastWords.{LeastWords}
use Rattle.mr_steps.specs.Readings.{given}
use Rattle.mr_steps.specs.Requests.{or_usage}
use Rattle.mr_steps.proofs.Chains.{reads_err, reads_given, reads_then, refuses_words}
use Rattle.mr_steps.proofs.Growing.{grows_given, grows_then}
use Rattle.mr_least.specs.Answer.{answer, least_answer, output_of}
use Rattle.mr_least.proofs.answering.answer.Goals as goal

pub returns-in_err-asked-clause-reads : goal.returns-in_err-asked-clause-reads
unfolding answer
returns-in_err-asked-clause-reads g c =
    let p = err_from_is_err_and c.from_residual.result c.from_residual.ensures.1 in
    rw p.1 (reads_err (λ (asked : LeastWords). asked) output_of _ _ _ (λ contents. given (or_usage (least_of (drop 1 (map string_bytes c.args.words.now)))))
    (λ contents asked. least_answer contents asked.matrix asked.lost asked.budget)
    (reads_given (λ (asked : LeastWords). asked) _ _ _ (refuses_words _ _ _ c.in_err-asked.ensures.reads p.2)))

pub returns-clause-reads : goal.returns-clause-reads
unfolding answer
returns-clause-reads g c = reads_then (λ (asked : LeastWords). asked) output_of _ _ _ c.in_ok-asked.asked _
    (λ contents. given (or_usage (least_of (drop 1 (map string_bytes c.args.words.now))))) (λ contents asked. least_answer contents asked.matrix asked.lost asked.budget)
    (reads_given (λ (asked : LeastWords). asked) _ (Ok c.in_ok-asked.asked) _ (ap or_usage c.in_ok-asked.ensures.reads)) c.answer_asked.ensures.reads

pub returns-clause-totals : goal.returns-clause-totals
unfolding answer
returns-clause-totals g c = grows_then (λ (asked : LeastWords). asked) _ _ _ _ _ c.in_ok-asked.asked _
    (λ contents. given (or_usage (least_of (drop 1 (map string_bytes c.args.words.now))))) (λ contents asked. least_answer contents asked.matrix asked.lost asked.budget)
    (reads_given (λ (asked : LeastWords). asked) _ (Ok c.in_ok-asked.asked) _ (ap or_usage c.in_ok-asked.ensures.reads))
    (grows_given _ _ (Ok c.in_ok-asked.asked) (or_usage (least_of (drop 1 (map string_bytes c.args.words.now))))) c.answer_asked.ensures.totals
