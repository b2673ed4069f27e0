use Rattle.std.proofs.Common.{◌≡◌, ℕ, ◌+◌, ◌-◌, ◌*◌, ◌∙◌, length, ap, ap₂, refl, sym, arith}
use Rattle.std.proofs.Math.Nat.{add-mul}
use Rattle.mr_model.specs.Code.{Code}
use Rattle.mr_encode.specs.Data.{IsSystematic}
use Rattle.mr_encode.proofs.StripeLaws.{stripe-read}
use Rattle.mr_encode.proofs.stripes.encode_stripe.Goals as goal

pub encode_symbols-requires-clause-symbols : goal.encode_symbols-requires-clause-symbols
encode_symbols-requires-clause-symbols g c =
    let m : Code = c.args.encoder.now.matrix.now in
    let size : ℕ = c.args.encoder.now.head.now.symbol_bytes in
    let first : IsSystematic m = c.args.encoder.now.systematic c.if-encoder.true in
    let count : c.k-then-encoder.result ≡ m.columns = c.k-then-encoder.ensures ∙ (λ j. (c.shape-then-encoder.ensures.shape j).columns) in
    let width : c.k.result * c.bytes.result ≡ m.columns * size = ap₂ (λ a b. a * b) (c.k.ensures ∙ (λ j. (c.shape.ensures.shape j).columns)) c.bytes.ensures.number in
    let whole : length m.rows ≡ m.columns + (length m.rows - m.columns) = omega (arith, first.few) in
    let parts : length m.rows * size ≡ m.columns * size + (length m.rows - m.columns) * size = ap (λ r. r * size) whole ∙ add-mul m.columns (length m.rows - m.columns) size in
    let back : length c.split_at_mut-front.result.1.now ≡ (length m.rows - m.columns) * size = omega (arith, c.split_at_mut-front.ensures.back_len, c.requires.stripe, width, parts) in
    back ∙ ap (λ n. (length m.rows - n) * size) (sym count)

pub returns-in_ok-read_at-clause-made : goal.returns-in_ok-read_at-clause-made
returns-in_ok-read_at-clause-made g c =
    let m : Code = c.args.encoder.now.matrix.now in
    let size : ℕ = c.args.encoder.now.head.now.symbol_bytes in
    let first : IsSystematic m = c.args.encoder.now.systematic c.if-encoder.true in
    let count : c.k-then-encoder.result ≡ m.columns = c.k-then-encoder.ensures ∙ (λ j. (c.shape-then-encoder.ensures.shape j).columns) in
    let width : c.k.result * c.bytes.result ≡ m.columns * size = ap₂ (λ a b. a * b) (c.k.ensures ∙ (λ j. (c.shape.ensures.shape j).columns)) c.bytes.ensures.number in
    let read : length c.split_at_mut-front.result.0.now ≡ m.columns * size = c.split_at_mut-front.ensures.front_len ∙ width in
    stripe-read m size first c.args.number c.read_at.new.buf _ c.encode_symbols.new.symbols (g.E.Eye.sight c.args.eye.now).bytes
    (length c.split_at_mut-front.result.0.now) (c.from.result * (c.k.result * c.bytes.result)) c.k-then-encoder.result
    c.in_ok-read_at.ensures.read read (ap₂ (λ a b. a * b) c.from.ensures width) (c.read_at.auto.buf ∙ read) refl count c.encode_symbols.ensures
