use Rattle.std.proofs.Common.{Ok}
use Rattle.std.proofs.lemmas.Result.{err_from_is_err_and}
use Rattle.mr_bits.specs.declared.errors.What.TheVariants.{PlanBytes}
use Rattle.mr_choices.specs.Handed.{sound_given}
use Rattle.mr_plan.specs.Plans.{PlanParts}
use Rattle.mr_steps.specs.Readings.{given}
use Rattle.mr_steps.specs.Refusals.{followed_by}
use Rattle.mr_steps.specs.TextFiles.{text_file}
use Rattle.mr_steps.proofs.Chains.{gives_named, reads_err, reads_given, reads_then}
use Rattle.mr_steps.proofs.Growing.{grows_given, grows_then}
use Rattle.mr_gather_run.specs.Tasks.{plan_set}
use Rattle.mr_gather_run.proofs.task.set_in_file.Goals as goal

pub returns-in_err-bytes-clause-reads : goal.returns-in_err-bytes-clause-reads
unfolding plan_set
returns-in_err-bytes-clause-reads g c =
    let p = err_from_is_err_and c.from_residual.result c.from_residual.ensures.1 in
    rw (p.1, p.2) (reads_err (λ bytes. bytes.items) (λ set. set) _ _ _ (λ contents. text_file contents c.args.name.now PlanBytes)
    (λ contents bytes. given (followed_by (sound_given c.args.matrix.now c.args.lost bytes) (λ (plan : PlanParts). Ok plan.set))) c.in_err-bytes.ensures.reads)

pub returns-clause-reads : goal.returns-clause-reads
unfolding plan_set
returns-clause-reads g c = reads_then (λ bytes. bytes.items) (λ set. set) _ _ _ c.in_ok-bytes.bytes c.set_of_text.result
    (λ contents. text_file contents c.args.name.now PlanBytes)
    (λ contents bytes. given (followed_by (sound_given c.args.matrix.now c.args.lost bytes) (λ (plan : PlanParts). Ok plan.set)))
    c.in_ok-bytes.ensures.reads (reads_given (λ set. set) _ c.set_of_text.result _
    (gives_named (λ set. set) c.set_of_text.result (λ bytes. followed_by (sound_given c.args.matrix.now c.args.lost bytes) (λ (plan : PlanParts). Ok plan.set)) c.deref.ensures.value c.set_of_text.ensures.given))

pub returns-clause-totals : goal.returns-clause-totals
unfolding plan_set
returns-clause-totals g c = grows_then (λ bytes. bytes.items) _ _ _ _ _ c.in_ok-bytes.bytes c.set_of_text.result
    (λ contents. text_file contents c.args.name.now PlanBytes)
    (λ contents bytes. given (followed_by (sound_given c.args.matrix.now c.args.lost bytes) (λ (plan : PlanParts). Ok plan.set)))
    c.in_ok-bytes.ensures.reads c.in_ok-bytes.ensures.totals
    (grows_given _ _ c.set_of_text.result (followed_by (sound_given c.args.matrix.now c.args.lost c.in_ok-bytes.bytes.items) (λ (plan : PlanParts). Ok plan.set)))
