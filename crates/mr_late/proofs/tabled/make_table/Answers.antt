use Rattle.std.proofs.Common.{List, [], Ok, Err, ap, sym, refl, ◌∙◌, flat_map}
use Rattle.std.proofs.lemmas.Result.{err_from_is_err_and}
use Rattle.mr_table.specs.Losses.{losses}
use Rattle.mr_table.specs.declared.row.Row.{Row}
use Rattle.mr_steps.specs.Readings.{given}
use Rattle.mr_steps.specs.TextFiles.{matrix_file}
use Rattle.mr_steps.proofs.Chains.{reads_err, reads_given, reads_memory, reads_then}
use Rattle.mr_late.specs.Tables.{output_of, row_text, table_answer, table_output}
use Rattle.mr_late.proofs.tabled.make_table.Goals as goal

pub returns-in_err-matrix-clause-reads : goal.returns-in_err-matrix-clause-reads
unfolding table_answer
returns-in_err-matrix-clause-reads g c =
    let p = err_from_is_err_and c.from_residual.result c.from_residual.ensures.1 in
    rw (p.1, p.2) (reads_err (λ m. m) output_of _ _ _ (λ contents. matrix_file contents c.args.words.now.matrix)
    (λ contents m. given (Ok (table_output c.args.words.now.budget m))) c.in_err-matrix.ensures.reads)

pub returns-in_err-losses-clause-reads : goal.returns-in_err-losses-clause-reads
unfolding table_answer
returns-in_err-losses-clause-reads g c =
    let p = err_from_is_err_and c.from_residual-in_err-losses.result c.from_residual-in_err-losses.ensures.1 in
    rw (p.1, p.2) (reads_then (λ m. m) output_of _ _ _ c.in_ok-matrix.matrix _ (λ contents. matrix_file contents c.args.words.now.matrix)
    (λ contents m. given (Ok (table_output c.args.words.now.budget m))) c.in_ok-matrix.ensures.reads (reads_memory output_of _ _))

pub returns-in_err-rows-clause-reads : goal.returns-in_err-rows-clause-reads
unfolding table_answer
returns-in_err-rows-clause-reads g c =
    let p = err_from_is_err_and c.from_residual-in_err-rows.result c.from_residual-in_err-rows.ensures.1 in
    rw (p.1, p.2) (reads_then (λ m. m) output_of _ _ _ c.in_ok-matrix.matrix _ (λ contents. matrix_file contents c.args.words.now.matrix)
    (λ contents m. given (Ok (table_output c.args.words.now.budget m))) c.in_ok-matrix.ensures.reads (reads_memory output_of _ _))

pub returns-clause-reads : goal.returns-clause-reads
unfolding table_answer
returns-clause-reads g c = reads_then (λ m. m) output_of _ _ _ c.in_ok-matrix.matrix _ (λ contents. matrix_file contents c.args.words.now.matrix)
    (λ contents m. given (Ok (table_output c.args.words.now.budget m))) c.in_ok-matrix.ensures.reads
    (reads_given output_of _ _ _ (ap (λ (rows : List Row). Ok (record { out = flat_map (row_text c.in_ok-matrix.matrix c.args.words.now.budget) rows; report = [] }))
    (sym c.in_ok-rows.ensures.rows)))

pub returns-clause-ready : goal.returns-clause-ready
returns-clause-ready g c = record {
  losses_are = c.in_ok-losses.ensures.losses ∙ ap losses (c.n.ensures ∙ ap (λ d. d.devices) c.shape.ensures.shape);
  rows = c.in_ok-rows.ensures.each;
}
