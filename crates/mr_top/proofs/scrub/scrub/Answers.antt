use Rattle.std.proofs.lemmas.Result.{err_from_is_err_and}
use Rattle.mr_top.specs.Replies.{output_of}
use Rattle.mr_top.specs.Scrub.{scrub_output}
use Rattle.mr_top.specs.WholeImages.{any_version}
use Rattle.mr_top.proofs.WholeSteps.{any-grows, any-reads, no-head, no-matrix, whole-grows, whole-reads}
use Rattle.mr_top.proofs.scrub.scrub.Goals as goal

pub returns-in_err-matrix-clause-reads : goal.returns-in_err-matrix-clause-reads
returns-in_err-matrix-clause-reads g c =
    let p = err_from_is_err_and c.from_residual.result c.from_residual.ensures.1 in
    rw (p.1, p.2) (no-matrix output_of any_version scrub_output c.args.words.now.matrix c.args.words.now.image _ _ _ c.in_err-matrix.ensures.reads)

pub returns-in_err-head-clause-reads : goal.returns-in_err-head-clause-reads
returns-in_err-head-clause-reads g c =
    let p = err_from_is_err_and c.from_residual-in_err-head.result c.from_residual-in_err-head.ensures.1 in
    rw (p.1, p.2) (no-head output_of any_version scrub_output c.args.words.now.matrix c.args.words.now.image _ _ _ c.in_ok-matrix.matrix c.in_err-head.field-0.0
    c.in_ok-matrix.ensures.reads c.in_err-head.ensures.reads)

pub returns-clause-reads : goal.returns-clause-reads
returns-clause-reads g c = whole-reads output_of any_version scrub_output c.args.words.now.matrix c.args.words.now.image _ _ _ _ c.in_ok-matrix.matrix c.in_ok-head.head
    c.scrubbed_image.result c.in_ok-matrix.ensures.reads c.in_ok-head.ensures.reads
    (any-reads output_of (scrub_output c.in_ok-matrix.matrix) c.args.words.now.image c.in_ok-head.head c.scrubbed_image.result _ _ c.scrubbed_image.ensures.reads)

pub returns-clause-totals : goal.returns-clause-totals
returns-clause-totals g c = whole-grows output_of any_version scrub_output c.args.words.now.matrix c.args.words.now.image _ _ _ _ _ _ _ c.in_ok-matrix.matrix c.in_ok-head.head
    c.scrubbed_image.result c.in_ok-matrix.ensures.reads c.in_ok-head.ensures.reads c.in_ok-matrix.ensures.totals c.in_ok-head.ensures.totals
    (any-grows output_of (scrub_output c.in_ok-matrix.matrix) c.args.words.now.image c.in_ok-head.head c.scrubbed_image.result _ _ _ c.scrubbed_image.ensures.totals)
