use Rattle.std.proofs.lemmas.Result.{err_from_is_err_and}
use Rattle.mr_bits.specs.declared.errors.What.TheVariants.{PlanBytes}
use Rattle.mr_steps.specs.TextFiles.{text_file}
use Rattle.mr_choices.specs.Handed.{plan_file}
use Rattle.mr_steps.specs.Readings.{given}
use Rattle.mr_choices.specs.Handed.{handed_given}
use Rattle.mr_steps.proofs.Chains.{reads_err, reads_given, reads_named, reads_then}
use Rattle.mr_steps.proofs.Growing.{grows_given, grows_then}
use Rattle.mr_choices.proofs.handed.plan_in_file.Goals as goal

pub returns-in_err-bytes-clause-reads : goal.returns-in_err-bytes-clause-reads
unfolding plan_file
returns-in_err-bytes-clause-reads g c =
    let p = err_from_is_err_and c.from_residual.result c.from_residual.ensures.1 in
    rw (p.1, p.2) (reads_err (λ bytes. bytes.items) (λ handed. handed) _ _ _ (λ contents. text_file contents c.args.name.now PlanBytes) (λ _ bytes. given (handed_given c.args.matrix.now c.args.problem.now.targets bytes)) c.in_err-bytes.ensures.reads)

pub returns-clause-reads : goal.returns-clause-reads
unfolding plan_file
returns-clause-reads g c = reads_then (λ bytes. bytes.items) (λ handed. handed) _ _ _ c.in_ok-bytes.bytes _ (λ contents. text_file contents c.args.name.now PlanBytes) (λ _ bytes. given (handed_given c.args.matrix.now c.args.problem.now.targets bytes)) c.in_ok-bytes.ensures.reads
    (reads_named (λ handed. handed) _ _ _ (λ bytes _. given (handed_given c.args.matrix.now c.args.problem.now.targets bytes)) c.deref.ensures.value
    (reads_given (λ handed. handed) _ _ (handed_given c.args.matrix.now c.args.problem.now.targets c.deref.result.now) c.handed_in.ensures.given))

pub returns-clause-totals : goal.returns-clause-totals
unfolding plan_file
returns-clause-totals g c = grows_then (λ bytes. bytes.items) _ _ _ _ _ c.in_ok-bytes.bytes _ (λ contents. text_file contents c.args.name.now PlanBytes) (λ _ bytes. given (handed_given c.args.matrix.now c.args.problem.now.targets bytes)) c.in_ok-bytes.ensures.reads c.in_ok-bytes.ensures.totals
    (grows_given _ _ _ (handed_given c.args.matrix.now c.args.problem.now.targets c.in_ok-bytes.bytes.items))
