use Rattle.std.proofs.Common.{◌≡◌, ◌<◌, take, length-set, ap, ◌∙◌, arith}
use Rattle.mr_model.specs.Code.{code_of}
use Rattle.mr_bits.specs.Matrices.{symbol_count}
use Rattle.mr_form.specs.Layouts.{layout_shape}
use Rattle.mr_form.proofs.LayoutLaws.{shape-made, rows-made, columns-made, rows-more}
use Rattle.mr_form.proofs.makers.Layout.matrix.Goals as goal

pub loop-symbol-preserved : goal.loop-symbol-preserved
loop-symbol-preserved c =
    let shape = shape-made c.args.self c.args.p _ _ c.unwrap-shape.result c.requires c.unwrap-shape.ensures c.new.ensures c.data_devices-data.ensures in
    let within : c.loop-symbol.symbol < symbol_count (layout_shape c.args.self c.args.p) = omega (arith, c.symbols-symbols.ensures.count ∙ ap symbol_count shape) in
    (rows-more c.args.self c.args.p _ _ _ c.requires within c.loop-symbol.invariant.1 c.loop-symbol.invariant.0 c.row.ensures, length-set _ _ _ ∙ c.loop-symbol.invariant.1)

pub new-requires-2-clause-columns : goal.new-requires-2-clause-columns
new-requires-2-clause-columns c =
    let shape = shape-made c.args.self c.args.p _ _ c.unwrap-shape.result c.requires c.unwrap-shape.ensures c.new.ensures c.data_devices-data.ensures in
    let done : c.loop-symbol.symbol ≡ c.symbols-symbols.result = omega arith in
    let rows = rows-made c.args.self c.args.p _ _ c.unwrap-shape.result c.loop-symbol.rows c.requires shape c.symbols-symbols.ensures.count done c.loop-symbol.invariant.0 in
    columns-made c.args.self c.args.p c.unwrap-shape.result (take c.symbols-symbols.result c.loop-symbol.rows) c.requires shape rows

pub returns : goal.returns
returns c =
    let shape = shape-made c.args.self c.args.p _ _ c.unwrap-shape.result c.requires c.unwrap-shape.ensures c.new.ensures c.data_devices-data.ensures in
    let done : c.loop-symbol.symbol ≡ c.symbols-symbols.result = omega arith in
    let rows = rows-made c.args.self c.args.p _ _ c.unwrap-shape.result c.loop-symbol.rows c.requires shape c.symbols-symbols.ensures.count done c.loop-symbol.invariant.0 in
    c.new-2.ensures ∙ (λ i. code_of (shape i) (rows i))
