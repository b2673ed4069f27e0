use Rattle.std.proofs.lemmas.Result.{err_from_is_err_and}
use Rattle.mr_bits.specs.declared.errors.What.TheVariants.{MatrixBytes}
use Rattle.mr_form.specs.MatrixText.{matrix_of}
use Rattle.mr_steps.specs.TextFiles.{matrix_file, text_file}
use Rattle.mr_steps.specs.Texts.{or_matrix_fault}
use Rattle.mr_steps.specs.Readings.{given}
use Rattle.mr_steps.proofs.Chains.{reads_err, reads_given, reads_named, reads_then}
use Rattle.mr_steps.proofs.Growing.{grows_given, grows_then}
use Rattle.mr_steps.proofs.text.matrix_text.Goals as goal

pub returns-in_err-bytes-clause-reads : goal.returns-in_err-bytes-clause-reads
unfolding matrix_file
returns-in_err-bytes-clause-reads g c =
    let p = err_from_is_err_and c.from_residual.result c.from_residual.ensures.1 in
    rw (p.1, p.2) (reads_err (λ bytes. bytes.items) (λ m. m) _ _ _
    (λ contents. text_file contents c.args.name.now MatrixBytes) (λ contents bytes. given (or_matrix_fault (matrix_of bytes)))
    c.in_err-bytes.ensures.reads)

pub returns-clause-reads : goal.returns-clause-reads
unfolding matrix_file
returns-clause-reads g c = reads_then (λ bytes. bytes.items) (λ m. m) _ _ _ c.in_ok-bytes.bytes _
    (λ contents. text_file contents c.args.name.now MatrixBytes) (λ contents bytes. given (or_matrix_fault (matrix_of bytes)))
    c.in_ok-bytes.ensures.reads
    (reads_named (λ m. m) _ _ _ (λ bytes _. given (or_matrix_fault (matrix_of bytes))) c.deref.ensures.value
    (reads_given (λ m. m) _ _ (or_matrix_fault (matrix_of c.deref.result.now)) c.matrix_in.ensures.given))

pub returns-clause-totals : goal.returns-clause-totals
unfolding matrix_file
returns-clause-totals g c = grows_then (λ bytes. bytes.items) _ _ _ _ _ c.in_ok-bytes.bytes _
    (λ contents. text_file contents c.args.name.now MatrixBytes) (λ contents bytes. given (or_matrix_fault (matrix_of bytes)))
    c.in_ok-bytes.ensures.reads c.in_ok-bytes.ensures.totals
    (grows_given _ _ _ (or_matrix_fault (matrix_of c.in_ok-bytes.bytes.items)))
