use Rattle.std.proofs.Common.{◌≡◌, ◌<◌, ◌∙◌, sym, subst, pos_of_ne-zero}
use Rattle.std.specs.Int.{bit_at, trailing_zeros}
use mir.Syntax.{w128}
use Rattle.std.proofs.lemmas.Nat.Bits.{bit_at-trailing_zeros}
use Rattle.mr_null.proofs.basis.lowest.Goals as goal

pub returns : goal.returns
returns c =
    let some : 0 < c.number.result = pos_of_ne-zero (λ e. c.requires.some (sym c.number.ensures ∙ e)) in
    let h = bit_at-trailing_zeros w128 c.number.result some c.number.type_inv in
    record {
      in_range = h.0;
      member = subst (λ v. bit_at v (trailing_zeros w128 c.number.result) ≡ 1) c.number.ensures h.1;
    }
