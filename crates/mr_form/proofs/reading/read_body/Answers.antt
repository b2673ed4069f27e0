use Rattle.std.proofs.Common.{◌≤◌, ℕ, List, length, take, replicate, ap, sym, subst, ◌∙◌, arith}
use Rattle.mr_bits.specs.Matrices.{IsPriceList}
use Rattle.mr_bits.proofs.RowLaws.{take-ones, devices-few}
use Rattle.mr_form.specs.declared.faults.LineKind.TheVariants.{Price}
use Rattle.mr_form.specs.declared.heads.Version.{Version}
use Rattle.mr_form.specs.MatrixText.{lines, line_at, is_price_line, read_body, read_rows}
use Rattle.mr_form.proofs.LineLaws.{good-line}
use Rattle.mr_form.proofs.PriceLaws.{price-line, prices-good}
use Rattle.mr_form.proofs.reading.read_body.Goals as goal

pub read_rows-requires-in-Ok-clause-price_count : goal.read_rows-requires-in-Ok-clause-price_count
read_rows-requires-in-Ok-clause-price_count c =
    let good = good-line (is_price_line c.n-in-Two.result) Price (lines c.args.body.now) c.in-Ok.ensures.ok.0 in
    let told = price-line c.n-in-Two.result (line_at (lines c.args.body.now) 0) good.formed in
    ap length (c.deref.ensures.0 ∙ c.in-Ok.ensures.ok.1) ∙ told.count ∙ c.n-in-Two.ensures

pub read_rows-requires-in-Ok-clause-prices : goal.read_rows-requires-in-Ok-clause-prices
read_rows-requires-in-Ok-clause-prices c =
    let good = good-line (is_price_line c.n-in-Two.result) Price (lines c.args.body.now) c.in-Ok.ensures.ok.0 in
    let told = price-line c.n-in-Two.result (line_at (lines c.args.body.now) 0) good.formed in
    subst (λ (ps : List ℕ). IsPriceList ps) (sym (c.deref.ensures.0 ∙ c.in-Ok.ensures.ok.1)) (prices-good _ told.each)

pub returns-in-One : goal.returns-in-One
returns-in-One c =
    let few : c.args.shape.devices ≤ 128 =
    omega (arith, devices-few c.args.shape.devices c.args.shape.symbols_per_device c.symbols-symbols.ensures.in_range.some_symbols, c.symbols-symbols.ensures.in_range.few_symbols) in
    c.read_rows.ensures
    ∙ ap (λ (ps : List ℕ). read_rows c.args.shape ps 2 (lines c.args.body.now))
    (ap (λ (n : ℕ). take n (replicate 128 1)) c.n.ensures ∙ take-ones 128 c.args.shape.devices few)
    ∙ sym (ap (λ (v : Version). read_body v c.args.shape (lines c.args.body.now)) c.in-One.is)
