use Rattle.std.proofs.Common.{refl, codes, map, string_bytes}
use Rattle.mr_words.specs.Sectors.{sectors_from, sectors_syntax}
use Rattle.mr_words.proofs.Steps.{asks_err, asks_ok}
use Rattle.mr_words.proofs.sectors_words.read_sectors_words.Goals as goal

pub returns-in_err-matches : goal.returns-in_err-matches
returns-in_err-matches c = asks_err sectors_syntax sectors_from (map string_bytes c.args.words.now) c.in_err-matches.field-0.0 c.from_residual-in_err-matches.result
    (c.in_err-matches.ensures (codes "sectors") sectors_syntax (record { is = c.in_ok-command.ensures; fit = refl })) c.from_residual-in_err-matches.ensures.1

pub returns : goal.returns
returns c =
    let p = c.in_ok-matches.ensures (codes "sectors") sectors_syntax (record { is = c.in_ok-command.ensures; fit = refl }) in
    asks_ok sectors_syntax sectors_from (map string_bytes c.args.words.now) c.in_ok-matches.matches c.sectors_values.result p
    (rw (p.2.0 (codes "matrix") refl, p.2.0 (codes "image") refl, p.2.0 (codes "lost") refl, p.2.0 (codes "bad") refl, p.2.0 (codes "budget") refl) refl) c.sectors_values.ensures
