use Rattle.std.proofs.Common.{Err, ap, ◌∙◌, drop}
use Rattle.std.proofs.lemmas.Result.{err_from_is_err_and}
use Rattle.mr_form.specs.MatrixText.{lines, read_body, after_shape}
use Rattle.mr_form.proofs.HeadTexts.{head-is}
use Rattle.mr_form.proofs.Readings.{answer-bad, answer-shape, answer-read, answer-spelled, matrix_of-limits}
use Rattle.mr_form.proofs.FaultLaws.{answer-first}
use Rattle.mr_form.proofs.reading.read_matrix.Goals as goal

pub new-requires-clause-n : goal.new-requires-clause-n
new-requires-clause-n c = (head-is _ c.in-Ok.head c.in-Ok.ensures.ok.1).n

pub new-requires-clause-w : goal.new-requires-clause-w
new-requires-clause-w c = (head-is _ c.in-Ok.head c.in-Ok.ensures.ok.1).w

pub new-requires-clause-k : goal.new-requires-clause-k
new-requires-clause-k c = (head-is _ c.in-Ok.head c.in-Ok.ensures.ok.1).k

large : goal.returns-in_err-shape-in-Ok-clause-value
large c =
    let p = err_from_is_err_and c.from_residual.result c.from_residual.ensures.1 in
    p.1 ∙ ap Err p.2
    ∙ ap (λ r. after_shape c.in-Ok.head.version r (drop 1 (lines c.args.bytes.now))) c.in_err-shape-in-Ok.ensures
    ∙ answer-shape c.args.bytes.now c.in-Ok.head c.in-Ok.ensures.ok.0 c.in-Ok.ensures.ok.1

pub returns-in_err-shape-in-Ok-clause-value : goal.returns-in_err-shape-in-Ok-clause-value
returns-in_err-shape-in-Ok-clause-value c = large c

pub returns-in_err-shape-in-Ok-clause-spelled : goal.returns-in_err-shape-in-Ok-clause-spelled
returns-in_err-shape-in-Ok-clause-spelled c = answer-spelled c.args.bytes.now _ (large c)

pub returns-in_err-shape-in-Ok-clause-first : goal.returns-in_err-shape-in-Ok-clause-first
returns-in_err-shape-in-Ok-clause-first c = answer-first c.args.bytes.now _ (large c)

pub returns-in_err-shape-in-Ok-clause-limits : goal.returns-in_err-shape-in-Ok-clause-limits
returns-in_err-shape-in-Ok-clause-limits c = matrix_of-limits c.args.bytes.now

body : goal.returns-in_ok-shape-in-Ok-clause-value
body c =
    c.read_body.ensures
    ∙ ap (read_body c.in-Ok.head.version c.in_ok-shape-in-Ok.shape) c.in-Ok.ensures.ok.2
    ∙ ap (λ r. after_shape c.in-Ok.head.version r (drop 1 (lines c.args.bytes.now))) c.in_ok-shape-in-Ok.ensures
    ∙ answer-shape c.args.bytes.now c.in-Ok.head c.in-Ok.ensures.ok.0 c.in-Ok.ensures.ok.1

pub returns-in_ok-shape-in-Ok-clause-value : goal.returns-in_ok-shape-in-Ok-clause-value
returns-in_ok-shape-in-Ok-clause-value c = body c

pub returns-in_ok-shape-in-Ok-clause-read : goal.returns-in_ok-shape-in-Ok-clause-read
returns-in_ok-shape-in-Ok-clause-read c = answer-read c.args.bytes.now _ (body c)

pub returns-in_ok-shape-in-Ok-clause-spelled : goal.returns-in_ok-shape-in-Ok-clause-spelled
returns-in_ok-shape-in-Ok-clause-spelled c = answer-spelled c.args.bytes.now _ (body c)

pub returns-in_ok-shape-in-Ok-clause-first : goal.returns-in_ok-shape-in-Ok-clause-first
returns-in_ok-shape-in-Ok-clause-first c = answer-first c.args.bytes.now _ (body c)

pub returns-in_ok-shape-in-Ok-clause-limits : goal.returns-in_ok-shape-in-Ok-clause-limits
returns-in_ok-shape-in-Ok-clause-limits c = matrix_of-limits c.args.bytes.now

pub returns-in-Err-clause-value : goal.returns-in-Err-clause-value
returns-in-Err-clause-value c = answer-bad c.args.bytes.now c.in-Err.kind c.in-Err.ensures.err

pub returns-in-Err-clause-spelled : goal.returns-in-Err-clause-spelled
returns-in-Err-clause-spelled c = answer-spelled c.args.bytes.now _ (answer-bad c.args.bytes.now c.in-Err.kind c.in-Err.ensures.err)

pub returns-in-Err-clause-first : goal.returns-in-Err-clause-first
returns-in-Err-clause-first c = answer-first c.args.bytes.now _ (answer-bad c.args.bytes.now c.in-Err.kind c.in-Err.ensures.err)

pub returns-in-Err-clause-limits : goal.returns-in-Err-clause-limits
returns-in-Err-clause-limits c = matrix_of-limits c.args.bytes.now
