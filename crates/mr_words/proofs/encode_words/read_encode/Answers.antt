use Rattle.std.proofs.Common.{refl, codes, map, string_bytes}
use Rattle.mr_words.specs.Encode.{encode_from, encode_syntax}
use Rattle.mr_words.proofs.Steps.{asks_err, asks_ok}
use Rattle.mr_words.proofs.encode_words.read_encode.Goals as goal

pub returns-in_err-matches : goal.returns-in_err-matches
returns-in_err-matches c = asks_err encode_syntax encode_from (map string_bytes c.args.words.now) c.in_err-matches.field-0.0 c.from_residual-in_err-matches.result
    (c.in_err-matches.ensures (codes "encode") encode_syntax (record { is = c.in_ok-command.ensures; fit = refl })) c.from_residual-in_err-matches.ensures.1

pub returns : goal.returns
returns c =
    let p = c.in_ok-matches.ensures (codes "encode") encode_syntax (record { is = c.in_ok-command.ensures; fit = refl }) in
    asks_ok encode_syntax encode_from (map string_bytes c.args.words.now) c.in_ok-matches.matches c.encode_values.result p
    (rw (p.2.0 (codes "matrix") refl, p.2.0 (codes "payload") refl, p.2.0 (codes "stripes") refl, p.2.0 (codes "bytes") refl) refl) c.encode_values.ensures
