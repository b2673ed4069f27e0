use Rattle.std.proofs.Common.{rules, ◌≡◌, ◌*◌, ◌∙◌, ap, length, arith}
use Rattle.hex.proofs.HexLemmas.{length-encode_with}
use Rattle.hex.specs.Hex.{encode_lower, lower_digits}
use Rattle.mr_mend.proofs.ReplyLines.{encoded, line-written}
use Rattle.mr_mend.proofs.replies.write_line.Goals as goal

pub returns-clause-line : goal.returns-clause-line
returns-clause-line c =
    let hex : c.encode_to_slice.new.output ≡ encode_lower c.args.symbol.now =
    encoded c.encode_to_slice.result c.encode_to_slice.new.output c.args.symbol.now (c.encode_to_slice.ensures.fits.1 (search rules)) c.encode_to_slice.ensures.written in
    let long : length c.encode_to_slice.new.output ≡ 2 * length c.args.symbol.now = ap length hex ∙ length-encode_with lower_digits c.args.symbol.now in
    let front : c.copy_from_slice.new.self ≡ c.front_of-front.result.items = c.copy_from_slice.ensures.after ∙ c.deref.ensures.0 in
    line-written c.args.ask c.args.symbol.now c.copy_from_slice.new.self c.encode_to_slice.new.output c.args.line.now _ c.len-at.result (2 * length c.args.symbol.now)
    (front ∙ c.front_of-front.ensures) hex (omega (arith, ap length front, c.len-at.ensures.value)) long (search rules)
