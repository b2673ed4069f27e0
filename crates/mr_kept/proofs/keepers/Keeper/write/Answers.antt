use Rattle.std.proofs.Common.{◌≡◌, ℕ, ◌+◌, ◌-◌, ◌*◌, ◌<◌, length, sym, ap, ◌∙◌, arith}
use Rattle.mr_model.specs.Code.{Code, Dimensions}
use Rattle.mr_image.specs.Images.{stripe_symbols}
use Rattle.mr_kept.specs.Kept.{coded_bytes}
use Rattle.mr_kept.proofs.CodedLaws.{payload-there, coded-turn, coded-all}
use Rattle.mr_kept.proofs.keepers.Keeper.write.Goals as goal

pub xor_around-requires : goal.xor_around-requires
xor_around-requires g c i member =
    let size : ℕ = c.bytes-size.result in
    let long : length c.args.payload.now ≡ c.code-code.result.columns * c.args.self.now.head.now.symbol_bytes =
    c.requires.payload ∙ ap (λ k. k * c.args.self.now.head.now.symbol_bytes) (sym c.code-code.ensures.columns) in
    let low : c.loop-number.number < stripe_symbols c.args.self.now.head.now = omega (arith, c.loop-number-test.true, c.loop-number.auto.number-end, c.symbols-number-end.ensures.count) in
    payload-there c.args.self.now.head.now c.code-code.result c.shape.ensures.code c.code-code.ensures.rows c.args.payload.now long
    size c.loop-number.number c.from.result (c.from.result * size + size - c.from.result * size) c.k-columns.result c.row.result c.loop-number.bytes
    c.bytes-size.ensures.number (c.loop-number.auto.bytes ∙ c.requires.bytes) low c.from.ensures (omega arith)
    (c.k-columns.ensures ∙ ap (λ (d : Dimensions). d.columns) c.shape.ensures.shape) c.row.ensures i member

pub loop-number-preserved : goal.loop-number-preserved
loop-number-preserved g c =
    let size : ℕ = c.bytes-size.result in
    let long : length c.args.payload.now ≡ c.code-code.result.columns * c.args.self.now.head.now.symbol_bytes =
    c.requires.payload ∙ ap (λ k. k * c.args.self.now.head.now.symbol_bytes) (sym c.code-code.ensures.columns) in
    let low : c.loop-number.number < stripe_symbols c.args.self.now.head.now = omega (arith, c.loop-number-test.true, c.loop-number.auto.number-end, c.symbols-number-end.ensures.count) in
    coded-turn c.args.self.now.head.now c.code-code.result c.shape.ensures.code c.code-code.ensures.rows c.args.payload.now long
    size c.loop-number.number c.from.result (c.from.result * size + size - c.from.result * size) c.k-columns.result c.row.result c.loop-number.bytes
    c.bytes-size.ensures.number (c.loop-number.auto.bytes ∙ c.requires.bytes) low c.from.ensures (omega arith)
    (c.k-columns.ensures ∙ ap (λ (d : Dimensions). d.columns) c.shape.ensures.shape) c.row.ensures
    c.xor_around.new.symbol c.xor_around.ensures c.loop-number.invariant

pub returns : goal.returns
returns g c =
    let long : length c.args.payload.now ≡ c.code-code.result.columns * c.args.self.now.head.now.symbol_bytes =
    c.requires.payload ∙ ap (λ k. k * c.args.self.now.head.now.symbol_bytes) (sym c.code-code.ensures.columns) in
    let all : c.loop-number.number ≡ stripe_symbols c.args.self.now.head.now = omega (arith, c.loop-number-test.false, c.loop-number.auto.number-end, c.symbols-number-end.ensures.count) in
    coded-all c.args.self.now.head.now c.code-code.result c.shape.ensures.code c.code-code.ensures.rows c.args.payload.now long
    c.bytes-size.result c.loop-number.number c.loop-number.bytes c.bytes-size.ensures.number (c.loop-number.auto.bytes ∙ c.requires.bytes) all c.loop-number.invariant
    ∙ ap (λ (m : Code). coded_bytes c.args.self.now.head.now m c.args.payload.now) c.code-code.ensures.code
