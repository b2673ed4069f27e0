use Rattle.std.proofs.Common.{◌≤◌, ◌^◌, ◌∙◌, sym, arith, pow_mono}
use Rattle.std.proofs.lemmas.Bool.{le-leb, lt-ltb}
use Rattle.mr_null.proofs.basis.is_above.Goals as goal

pub returns-then-d-ge-BITS : goal.returns-then-d-ge-BITS
returns-then-d-ge-BITS c =
    let wide : 2 ^ 32 ≤ 2 ^ c.args.d = pow_mono c.if-d-ge-BITS.true in
    le-leb 32 c.args.d c.if-d-ge-BITS.true ∙ sym (lt-ltb c.args.most (2 ^ c.args.d) (omega (arith, wide, c.ranges.most.fits)))
