use Rattle.std.proofs.Common.{Some, None, is_some, ap, sym, ◌∙◌, cond, drop}
use Rattle.std.proofs.lemmas.Result.{err_from_is_err_and}
use Rattle.mr_form.specs.declared.faults.LineKind.TheVariants.{Head}
use Rattle.mr_form.specs.MatrixText.{lines, line_at, head_of}
use Rattle.mr_form.proofs.LineLaws.{fault-ended, fault-last}
use Rattle.mr_form.proofs.reading.first_line.Goals as goal

pub returns-in_err-line-clause-err : goal.returns-in_err-line-clause-err
returns-in_err-line-clause-err c =
    let p = err_from_is_err_and c.from_residual.result c.from_residual.ensures.1 in
    let e = c.in_err-line.ensures in
    rw p.1 (fault-last (λ line. is_some (head_of line)) Head (lines c.args.bytes.now) c.args.bytes.now e.0 ∙ ap Some (sym e.1 ∙ sym p.2))

pub returns-in-Some-clause-ok : goal.returns-in-Some-clause-ok
returns-in-Some-clause-ok c =
    let e = c.in_ok-line.ensures in (
      fault-ended (λ line. is_some (head_of line)) Head (lines c.args.bytes.now) c.in_ok-line.line.now c.in_ok-line.body.now e
          ∙ ap (λ o. cond (is_some o) None (Some Head)) (sym c.in-Some.ensures),
      ap (λ t. head_of (line_at t 0)) e ∙ sym c.in-Some.ensures,
      sym (ap (drop 1) e),
    )

pub returns-in-None-clause-err : goal.returns-in-None-clause-err
returns-in-None-clause-err c =
    fault-ended (λ line. is_some (head_of line)) Head (lines c.args.bytes.now) c.in_ok-line.line.now c.in_ok-line.body.now c.in_ok-line.ensures
    ∙ ap (λ o. cond (is_some o) None (Some Head)) (sym c.in-None.ensures)
