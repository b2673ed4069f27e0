use Rattle.std.proofs.Common.{refl, codes, map, string_bytes}
use Rattle.mr_words.specs.Drill.{drill_from, drill_syntax}
use Rattle.mr_words.proofs.Steps.{asks_err, asks_ok}
use Rattle.mr_words.proofs.drill_words.read_drill.Goals as goal

pub returns-in_err-matches : goal.returns-in_err-matches
returns-in_err-matches c = asks_err drill_syntax drill_from (map string_bytes c.args.words.now) c.in_err-matches.field-0.0 c.from_residual-in_err-matches.result
    (c.in_err-matches.ensures (codes "drill") drill_syntax (record { is = c.in_ok-command.ensures; fit = refl })) c.from_residual-in_err-matches.ensures.1

pub returns : goal.returns
returns c =
    let p = c.in_ok-matches.ensures (codes "drill") drill_syntax (record { is = c.in_ok-command.ensures; fit = refl }) in
    asks_ok drill_syntax drill_from (map string_bytes c.args.words.now) c.in_ok-matches.matches c.drill_values.result p
    (rw (p.2.0 (codes "number") refl) refl) c.drill_values.ensures
