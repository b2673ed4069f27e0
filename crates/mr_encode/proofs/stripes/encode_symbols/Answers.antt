use Rattle.std.proofs.Common.{◌≡◌, ℕ, ◌+◌, ◌-◌, ◌*◌, ◌<◌, ◌∙◌, sym, ap, subst, take, drop, flat_map, length, arith}
use Rattle.std.specs.List.{range_with_len}
use borrow.Rule.Slice.PartMut.{put_mid}
use Rattle.mr_model.specs.Code.{Code}
use Rattle.mr_encode.proofs.FrontLaws.{HasFront, front-all, front-none}
use Rattle.mr_encode.proofs.StripeLaws.{stripe-turn, symbols_of}
use Rattle.mr_encode.proofs.stripes.encode_symbols.Goals as goal

pub loop-symbol-init : goal.loop-symbol-init
loop-symbol-init g c = front-none _ _ _ _ _ (omega arith)

pub loop-symbol-preserved : goal.loop-symbol-preserved
loop-symbol-preserved g c =
    let m : Code = c.args.encoder.now.matrix.now in
    let size : ℕ = c.bytes-size.result in
    let rows : c.symbols-count.result ≡ length m.rows =
    c.symbols-count.ensures.count ∙ (λ j. (c.shape.ensures.shape j).devices * (c.shape.ensures.shape j).symbols_per_device) ∙ sym c.shape.ensures.code.count in
    let n : ℕ = c.loop-symbol.symbol - c.args.first in
    let here : n < length m.rows - c.args.first = omega arith in
    let next : n + 1 ≡ c.loop-symbol.symbol + 1 - c.args.first = omega arith in
    let number : c.args.first + n ≡ c.loop-symbol.symbol = omega arith in
    let width : ℕ = c.from.result * size + size - c.from.result * size in
    subst (λ k. HasFront (symbols_of m size c.args.columns.now) size c.args.first k (put_mid (c.from.result * size) width c.loop-symbol.symbols c.encode_symbol.new.symbol)) next
    (stripe-turn m size c.args.columns.now c.args.first n c.from.result width (length m.rows - c.args.first) c.loop-symbol.symbols c.encode_symbol.new.symbol
    (c.loop-symbol.auto.symbols ∙ c.requires.symbols ∙ ap (λ k. (length m.rows - c.args.first) * k) (sym c.bytes-size.ensures.number)) here c.from.ensures (omega arith) c.loop-symbol.invariant
    (c.encode_symbol.ensures ∙ ap (λ i. symbols_of m (length (take width (drop (c.from.result * size) c.loop-symbol.symbols))) c.args.columns.now i) (sym number)))

pub returns : goal.returns
returns g c =
    let m : Code = c.args.encoder.now.matrix.now in
    let size : ℕ = c.bytes-size.result in
    let rows : c.symbols-count.result ≡ length m.rows =
    c.symbols-count.ensures.count ∙ (λ j. (c.shape.ensures.shape j).devices * (c.shape.ensures.shape j).symbols_per_device) ∙ sym c.shape.ensures.code.count in
    let all : c.loop-symbol.symbol - c.args.first ≡ length m.rows - c.args.first = omega arith in
    front-all (symbols_of m size c.args.columns.now) size c.args.first (length m.rows - c.args.first) c.loop-symbol.symbols
    (subst (λ k. HasFront (symbols_of m size c.args.columns.now) size c.args.first k c.loop-symbol.symbols) all c.loop-symbol.invariant)
    (c.loop-symbol.auto.symbols ∙ c.requires.symbols ∙ ap (λ k. (length m.rows - c.args.first) * k) (sym c.bytes-size.ensures.number))
    ∙ ap (λ k. flat_map (symbols_of m k c.args.columns.now) (range_with_len c.args.first (length m.rows - c.args.first))) c.bytes-size.ensures.number
