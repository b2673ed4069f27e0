use Rattle.std.proofs.Common.{Some, None, ap, sym, ◌∙◌, cond, drop}
use Rattle.std.proofs.lemmas.Result.{err_from_is_err_and}
use Rattle.mr_form.specs.declared.faults.LineKind.TheVariants.{Price}
use Rattle.mr_form.specs.MatrixText.{lines, line_at, is_price_line, prices_of}
use Rattle.mr_form.proofs.LineLaws.{fault-ended, fault-last}
use Rattle.mr_form.proofs.reading.price_line.Goals as goal

pub returns-in_err-line-clause-err : goal.returns-in_err-line-clause-err
returns-in_err-line-clause-err c =
    let p = err_from_is_err_and c.from_residual.result c.from_residual.ensures.1 in
    let e = c.in_err-line.ensures in
    rw p.1 (fault-last (is_price_line c.args.devices) Price (lines c.args.left.now) c.args.left.now e.0 ∙ ap Some (sym e.1 ∙ sym p.2))

pub returns-in-Some-clause-ok : goal.returns-in-Some-clause-ok
returns-in-Some-clause-ok c =
    let e = c.in_ok-line.ensures in (
      fault-ended (is_price_line c.args.devices) Price (lines c.args.left.now) c.in_ok-line.line.now c.in_ok-line.rest.now e ∙ ap (λ t. cond t None (Some Price)) c.in-Some.ensures.0,
      c.in-Some.ensures.1 ∙ ap prices_of (sym (ap (λ t. line_at t 0) e)),
      sym (ap (drop 1) e),
    )

pub returns-in-None-clause-err : goal.returns-in-None-clause-err
returns-in-None-clause-err c =
    fault-ended (is_price_line c.args.devices) Price (lines c.args.left.now) c.in_ok-line.line.now c.in_ok-line.rest.now c.in_ok-line.ensures
    ∙ ap (λ t. cond t None (Some Price)) c.in-None.ensures
