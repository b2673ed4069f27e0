use Rattle.std.proofs.Common.{refl, codes, map, string_bytes}
use Rattle.mr_words.specs.ImageWords.{image_from, image_syntax}
use Rattle.mr_words.proofs.Steps.{asks_err, asks_ok}
use Rattle.mr_words.proofs.image_words.read_image_words.Goals as goal

pub returns-in_err-matches : goal.returns-in_err-matches
returns-in_err-matches c = asks_err image_syntax image_from (map string_bytes c.args.words.now) c.in_err-matches.field-0.0 c.from_residual-in_err-matches.result
    (c.in_err-matches.ensures c.args.name.now image_syntax (record { is = c.in_ok-command.ensures; fit = refl })) c.from_residual-in_err-matches.ensures.1

pub returns : goal.returns
returns c =
    let p = c.in_ok-matches.ensures c.args.name.now image_syntax (record { is = c.in_ok-command.ensures; fit = refl }) in
    asks_ok image_syntax image_from (map string_bytes c.args.words.now) c.in_ok-matches.matches c.image_values.result p
    (rw (p.2.0 (codes "matrix") refl, p.2.0 (codes "image") refl) refl) c.image_values.ensures
