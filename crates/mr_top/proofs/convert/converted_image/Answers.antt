use Rattle.std.proofs.Common.{Err, Ok}
use Rattle.std.proofs.lemmas.Result.{err_from_is_err_and}
use Rattle.mr_steps.specs.Readings.{given}
use Rattle.mr_steps.proofs.Chains.{reads_err, reads_given, reads_memory, reads_then}
use Rattle.mr_steps.proofs.Growing.{grows_given, grows_then}
use Rattle.mr_top.specs.Convert.{converted_output, first_version}
use Rattle.mr_top.specs.Replies.{output_of}
use Rattle.mr_top.specs.WholeImages.{allowed_answer, body_answer}
use Rattle.mr_top.proofs.convert.converted_image.Goals as goal

pub returns-in_err-refuse_second-clause-reads : goal.returns-in_err-refuse_second-clause-reads
unfolding allowed_answer
returns-in_err-refuse_second-clause-reads g c =
    let p = err_from_is_err_and c.from_residual.result c.from_residual.ensures.1 in
    rw (p.1, p.2) (reads_err (λ (first : Unit {0}). c.args.head.now) output_of _ _ _ (λ _. given (first_version c.args.head.now))
    (λ contents l. body_answer converted_output contents c.args.image.now l)
    (reads_given (λ (first : Unit {0}). c.args.head.now) _ (Err c.in_err-refuse_second.field-0.0) (first_version c.args.head.now) c.in_err-refuse_second.ensures.given))

pub returns-in_err-room-clause-reads : goal.returns-in_err-room-clause-reads
returns-in_err-room-clause-reads g c =
    let p = err_from_is_err_and c.from_residual-in_err-room.result c.from_residual-in_err-room.ensures.1 in
    rw (p.1, p.2) (reads_memory output_of _ (λ contents. allowed_answer first_version converted_output contents c.args.image.now c.args.head.now))

pub returns-clause-reads : goal.returns-clause-reads
unfolding allowed_answer
returns-clause-reads g c = reads_then (λ (first : Unit {0}). c.args.head.now) output_of _ _ _ c.in_ok-refuse_second.field-0 c.converted_in.result
    (λ _. given (first_version c.args.head.now)) (λ contents l. body_answer converted_output contents c.args.image.now l)
    (reads_given (λ (first : Unit {0}). c.args.head.now) _ (Ok c.in_ok-refuse_second.field-0) (first_version c.args.head.now) c.in_ok-refuse_second.ensures.given)
    c.converted_in.ensures.reads

pub returns-clause-totals : goal.returns-clause-totals
unfolding allowed_answer
returns-clause-totals g c = grows_then (λ (first : Unit {0}). c.args.head.now) _ _ _ _ _ c.in_ok-refuse_second.field-0 c.converted_in.result
    (λ _. given (first_version c.args.head.now)) (λ contents l. body_answer converted_output contents c.args.image.now l)
    (reads_given (λ (first : Unit {0}). c.args.head.now) _ (Ok c.in_ok-refuse_second.field-0) (first_version c.args.head.now) c.in_ok-refuse_second.ensures.given)
    (grows_given _ _ (Ok c.in_ok-refuse_second.field-0) (first_version c.args.head.now)) c.converted_in.ensures.totals
