use Rattle.std.proofs.Common.{◌≡◌, ◌<◌, ◌+◌, true, false, take, ap, sym, subst, ◌∙◌, arith, Some, None, Ok, Err}
use Rattle.mr_model.specs.Code.{priced_code}
use Rattle.mr_bits.specs.Matrices.{symbol_count}
use Rattle.mr_form.specs.declared.faults.LineKind.TheVariants.{Extra}
use Rattle.mr_form.specs.declared.faults.MatrixFault.TheVariants.{Bad}
use Rattle.mr_form.specs.MatrixText.{lines, row_fault}
use Rattle.mr_form.proofs.LineLaws.{end-lines}
use Rattle.mr_form.proofs.BodyLaws.{IsReadSoFar, read-more, body-bad, body-end, rows-below}
use Rattle.mr_form.proofs.reading.read_rows.Goals as goal

pub returns-in-Err : goal.returns-in-Err
returns-in-Err c =
    let within : c.loop-i.i < symbol_count c.args.shape = omega (arith, c.symbols-symbols.ensures.count) in
    body-bad c.args.shape c.args.prices.now c.args.first (lines c.args.body.now) (lines c.loop-i.left.now) c.loop-i.rows c.loop-i.i c.in-Err.kind c.loop-i.invariant within
    (subst (λ k. row_fault k (lines c.loop-i.left.now) 0 ≡ Some c.in-Err.kind) c.k.ensures c.in-Err.ensures.err)

pub loop-i-preserved : goal.loop-i-preserved
loop-i-preserved c =
    let few = c.symbols-symbols.ensures.in_range.few_symbols in
    let within : c.loop-i.i < 128 = omega (arith, c.symbols-symbols.ensures.count) in
    read-more _ _ _ _ _ _ _ c.loop-i.invariant within
    (subst (λ k. row_fault k (lines c.loop-i.left.now) 0 ≡ None) c.k.ensures c.in-Ok.ensures.ok.0) c.in-Ok.ensures.ok.1 c.in-Ok.ensures.ok.2

pub priced-requires-clause-columns : goal.priced-requires-clause-columns
priced-requires-clause-columns c =
    let done : c.loop-i.i ≡ c.symbols-symbols.result = omega arith in
    rows-below c.args.shape.columns c.symbols-symbols.result (lines c.args.body.now) (lines c.loop-i.left.now) c.loop-i.rows
    (subst (λ n. IsReadSoFar c.args.shape.columns (lines c.args.body.now) (lines c.loop-i.left.now) n c.loop-i.rows) done c.loop-i.invariant)

pub returns-then-is_empty : goal.returns-then-is_empty
returns-then-is_empty c =
    let done : c.loop-i.i ≡ symbol_count c.args.shape = omega (arith, c.symbols-symbols.ensures.count) in
    ap Ok (c.priced.ensures ∙ ap (λ n. priced_code c.args.shape (take n c.loop-i.rows) c.args.prices.now) c.symbols-symbols.ensures.count)
    ∙ sym (body-end c.args.shape c.args.prices.now c.args.first (lines c.args.body.now) (lines c.loop-i.left.now) c.loop-i.rows true
    (subst (λ n. IsReadSoFar c.args.shape.columns (lines c.args.body.now) (lines c.loop-i.left.now) n c.loop-i.rows) done c.loop-i.invariant)
    (end-lines c.loop-i.left.now ∙ sym c.if-is_empty.ensures))

pub returns-else-is_empty : goal.returns-else-is_empty
returns-else-is_empty c =
    let done : c.loop-i.i ≡ symbol_count c.args.shape = omega (arith, c.symbols-symbols.ensures.count) in
    ap (λ n. Err (Bad (c.args.first + n) Extra)) c.symbols-symbols.ensures.count
    ∙ sym (body-end c.args.shape c.args.prices.now c.args.first (lines c.args.body.now) (lines c.loop-i.left.now) c.loop-i.rows false
    (subst (λ n. IsReadSoFar c.args.shape.columns (lines c.args.body.now) (lines c.loop-i.left.now) n c.loop-i.rows) done c.loop-i.invariant)
    (end-lines c.loop-i.left.now ∙ sym c.if-is_empty.ensures))
