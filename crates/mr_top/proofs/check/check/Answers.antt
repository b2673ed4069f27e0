use Rattle.std.proofs.Common.{Err, Ok, refl}
use Rattle.std.proofs.lemmas.Result.{err_from_is_err_and}
use Rattle.mr_bits.specs.declared.errors.What.TheVariants.{PlanBytes}
use Rattle.mr_eq.specs.Problems.{Loss}
use Rattle.mr_steps.specs.TextFiles.{matrix_file, text_file}
use Rattle.mr_top.specs.CheckSteps.{check_answer}
use Rattle.mr_top.specs.Check.{cost_given}
use Rattle.mr_steps.specs.Losses.{targets_given}
use Rattle.mr_steps.specs.Readings.{given}
use Rattle.mr_top.specs.Replies.{output_of}
use Rattle.mr_top.specs.declared.reply.Reply.TheVariants.{Check}
use Rattle.mr_steps.proofs.Chains.{gives_named, reads_err, reads_given, reads_then}
use Rattle.mr_top.proofs.CheckSteps.{cost_next, lost_next, plan_next, valid_next}
use Rattle.mr_steps.proofs.Growing.{grows_given, grows_then}
use Rattle.mr_top.proofs.check.check.Goals as goal

pub returns-in_err-matrix-clause-reads : goal.returns-in_err-matrix-clause-reads
unfolding check_answer
returns-in_err-matrix-clause-reads g c =
    let p = err_from_is_err_and c.from_residual.result c.from_residual.ensures.1 in
    rw (p.1, p.2) (reads_err (λ m. m) output_of _ _ _ (λ contents. matrix_file contents c.args.words.now.matrix)
    (λ contents m. lost_next contents c.args.words.now.lost c.args.words.now.plan m) c.in_err-matrix.ensures.reads)

pub returns-in_err-problem-clause-reads : goal.returns-in_err-problem-clause-reads
unfolding check_answer
returns-in_err-problem-clause-reads g c =
    let p = err_from_is_err_and c.from_residual-in_err-problem.result c.from_residual-in_err-problem.ensures.1 in
    rw (p.1, p.2) (reads_then (λ m. m) output_of _ _ _ c.in_ok-matrix.matrix (Err c.in_err-problem.field-0.0) (λ contents. matrix_file contents c.args.words.now.matrix)
    (λ contents m. lost_next contents c.args.words.now.lost c.args.words.now.plan m) c.in_ok-matrix.ensures.reads
    (reads_err (λ (problem : Loss). problem.targets) output_of _ _ _ (λ _. given (targets_given c.in_ok-matrix.matrix c.args.words.now.lost))
    (λ contents targets. plan_next contents c.args.words.now.plan c.in_ok-matrix.matrix targets)
    (reads_given (λ (problem : Loss). problem.targets) _ (Err c.in_err-problem.field-0.0) (targets_given c.in_ok-matrix.matrix c.args.words.now.lost) c.in_err-problem.ensures.given)))

pub returns-in_err-bytes-clause-reads : goal.returns-in_err-bytes-clause-reads
unfolding check_answer
returns-in_err-bytes-clause-reads g c =
    let p = err_from_is_err_and c.from_residual-in_err-bytes.result c.from_residual-in_err-bytes.ensures.1 in
    rw (p.1, p.2) (reads_then (λ m. m) output_of _ _ _ c.in_ok-matrix.matrix (Err c.in_err-bytes.field-0.0) (λ contents. matrix_file contents c.args.words.now.matrix)
    (λ contents m. lost_next contents c.args.words.now.lost c.args.words.now.plan m) c.in_ok-matrix.ensures.reads
    (reads_then (λ (problem : Loss). problem.targets) output_of _ _ _ c.in_ok-problem.problem (Err c.in_err-bytes.field-0.0) (λ _. given (targets_given c.in_ok-matrix.matrix c.args.words.now.lost))
    (λ contents targets. plan_next contents c.args.words.now.plan c.in_ok-matrix.matrix targets)
    (reads_given (λ (problem : Loss). problem.targets) _ (Ok c.in_ok-problem.problem) (targets_given c.in_ok-matrix.matrix c.args.words.now.lost) c.in_ok-problem.ensures.given)
    (reads_err (λ bytes. bytes.items) output_of _ _ _ (λ contents. text_file contents c.args.words.now.plan PlanBytes)
    (λ _ bytes. cost_next c.in_ok-matrix.matrix c.in_ok-problem.problem.targets bytes) c.in_err-bytes.ensures.reads)))

pub returns-in_err-cost-clause-reads : goal.returns-in_err-cost-clause-reads
unfolding check_answer
returns-in_err-cost-clause-reads g c =
    let p = err_from_is_err_and c.from_residual-in_err-cost.result c.from_residual-in_err-cost.ensures.1 in
    rw (p.1, p.2) (reads_then (λ m. m) output_of _ _ _ c.in_ok-matrix.matrix (Err c.in_err-cost.field-0.0) (λ contents. matrix_file contents c.args.words.now.matrix)
    (λ contents m. lost_next contents c.args.words.now.lost c.args.words.now.plan m) c.in_ok-matrix.ensures.reads
    (reads_then (λ (problem : Loss). problem.targets) output_of _ _ _ c.in_ok-problem.problem (Err c.in_err-cost.field-0.0) (λ _. given (targets_given c.in_ok-matrix.matrix c.args.words.now.lost))
    (λ contents targets. plan_next contents c.args.words.now.plan c.in_ok-matrix.matrix targets)
    (reads_given (λ (problem : Loss). problem.targets) _ (Ok c.in_ok-problem.problem) (targets_given c.in_ok-matrix.matrix c.args.words.now.lost) c.in_ok-problem.ensures.given)
    (reads_then (λ bytes. bytes.items) output_of _ _ _ c.in_ok-bytes.bytes (Err c.in_err-cost.field-0.0) (λ contents. text_file contents c.args.words.now.plan PlanBytes)
    (λ _ bytes. cost_next c.in_ok-matrix.matrix c.in_ok-problem.problem.targets bytes) c.in_ok-bytes.ensures.reads
    (reads_err (λ cost. cost) output_of _ _ _ (λ _. given (cost_given c.in_ok-matrix.matrix c.in_ok-problem.problem.targets c.in_ok-bytes.bytes.items)) (λ _ cost. given (valid_next cost))
    (reads_given (λ cost. cost) _ (Err c.in_err-cost.field-0.0) (cost_given c.in_ok-matrix.matrix c.in_ok-problem.problem.targets c.in_ok-bytes.bytes.items)
    (gives_named (λ cost. cost) (Err c.in_err-cost.field-0.0) (cost_given c.in_ok-matrix.matrix c.in_ok-problem.problem.targets) c.deref.ensures.value
    c.in_err-cost.ensures.given))))))

pub returns-clause-reads : goal.returns-clause-reads
unfolding check_answer
returns-clause-reads g c =
    (reads_then (λ m. m) output_of _ _ _ c.in_ok-matrix.matrix (Ok (Check c.in_ok-cost.cost)) (λ contents. matrix_file contents c.args.words.now.matrix)
    (λ contents m. lost_next contents c.args.words.now.lost c.args.words.now.plan m) c.in_ok-matrix.ensures.reads
    (reads_then (λ (problem : Loss). problem.targets) output_of _ _ _ c.in_ok-problem.problem (Ok (Check c.in_ok-cost.cost)) (λ _. given (targets_given c.in_ok-matrix.matrix c.args.words.now.lost))
    (λ contents targets. plan_next contents c.args.words.now.plan c.in_ok-matrix.matrix targets)
    (reads_given (λ (problem : Loss). problem.targets) _ (Ok c.in_ok-problem.problem) (targets_given c.in_ok-matrix.matrix c.args.words.now.lost) c.in_ok-problem.ensures.given)
    (reads_then (λ bytes. bytes.items) output_of _ _ _ c.in_ok-bytes.bytes (Ok (Check c.in_ok-cost.cost)) (λ contents. text_file contents c.args.words.now.plan PlanBytes)
    (λ _ bytes. cost_next c.in_ok-matrix.matrix c.in_ok-problem.problem.targets bytes) c.in_ok-bytes.ensures.reads
    (reads_then (λ cost. cost) output_of _ _ _ c.in_ok-cost.cost (Ok (Check c.in_ok-cost.cost)) (λ _. given (cost_given c.in_ok-matrix.matrix c.in_ok-problem.problem.targets c.in_ok-bytes.bytes.items)) (λ _ cost. given (valid_next cost))
    (reads_given (λ cost. cost) _ (Ok c.in_ok-cost.cost) (cost_given c.in_ok-matrix.matrix c.in_ok-problem.problem.targets c.in_ok-bytes.bytes.items)
    (gives_named (λ cost. cost) (Ok c.in_ok-cost.cost) (cost_given c.in_ok-matrix.matrix c.in_ok-problem.problem.targets) c.deref.ensures.value
    c.in_ok-cost.ensures.given))
    (reads_given output_of _ (Ok (Check c.in_ok-cost.cost)) (valid_next c.in_ok-cost.cost) refl)))))

pub returns-clause-totals : goal.returns-clause-totals
unfolding check_answer
returns-clause-totals g c =
    grows_then (λ m. m) _ _ _ _ _ c.in_ok-matrix.matrix (Ok (Check c.in_ok-cost.cost)) (λ contents. matrix_file contents c.args.words.now.matrix)
    (λ contents m. lost_next contents c.args.words.now.lost c.args.words.now.plan m) c.in_ok-matrix.ensures.reads c.in_ok-matrix.ensures.totals
    (grows_then (λ (problem : Loss). problem.targets) _ _ _ _ _ c.in_ok-problem.problem (Ok (Check c.in_ok-cost.cost)) (λ _. given (targets_given c.in_ok-matrix.matrix c.args.words.now.lost))
    (λ contents targets. plan_next contents c.args.words.now.plan c.in_ok-matrix.matrix targets)
    (reads_given (λ (problem : Loss). problem.targets) _ (Ok c.in_ok-problem.problem) (targets_given c.in_ok-matrix.matrix c.args.words.now.lost) c.in_ok-problem.ensures.given)
    (grows_given _ _ (Ok c.in_ok-problem.problem) (targets_given c.in_ok-matrix.matrix c.args.words.now.lost))
    (grows_then (λ bytes. bytes.items) _ _ _ _ _ c.in_ok-bytes.bytes (Ok (Check c.in_ok-cost.cost)) (λ contents. text_file contents c.args.words.now.plan PlanBytes)
    (λ _ bytes. cost_next c.in_ok-matrix.matrix c.in_ok-problem.problem.targets bytes) c.in_ok-bytes.ensures.reads c.in_ok-bytes.ensures.totals
    (grows_then (λ cost. cost) _ _ _ _ _ c.in_ok-cost.cost (Ok (Check c.in_ok-cost.cost)) (λ _. given (cost_given c.in_ok-matrix.matrix c.in_ok-problem.problem.targets c.in_ok-bytes.bytes.items)) (λ _ cost. given (valid_next cost))
    (reads_given (λ cost. cost) _ (Ok c.in_ok-cost.cost) (cost_given c.in_ok-matrix.matrix c.in_ok-problem.problem.targets c.in_ok-bytes.bytes.items)
    (gives_named (λ cost. cost) (Ok c.in_ok-cost.cost) (cost_given c.in_ok-matrix.matrix c.in_ok-problem.problem.targets) c.deref.ensures.value
    c.in_ok-cost.ensures.given))
    (grows_given _ _ (Ok c.in_ok-cost.cost) (cost_given c.in_ok-matrix.matrix c.in_ok-problem.problem.targets c.in_ok-bytes.bytes.items))
    (grows_given _ _ (Ok (Check c.in_ok-cost.cost)) (valid_next c.in_ok-cost.cost)))))
