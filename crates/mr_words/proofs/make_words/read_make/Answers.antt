use Rattle.std.proofs.Common.{refl, codes, map, string_bytes}
use Rattle.mr_words.specs.Make.{make_from, make_syntax}
use Rattle.mr_words.proofs.Steps.{asks_err, asks_ok}
use Rattle.mr_words.proofs.make_words.read_make.Goals as goal

pub returns-in_err-matches-clause-reads : goal.returns-in_err-matches-clause-reads
returns-in_err-matches-clause-reads c = asks_err make_syntax make_from (map string_bytes c.args.words.now) c.in_err-matches.field-0.0 c.from_residual-in_err-matches.result
    (c.in_err-matches.ensures (codes "make") make_syntax (record { is = c.in_ok-command.ensures; fit = refl })) c.from_residual-in_err-matches.ensures.1

pub returns-clause-reads : goal.returns-clause-reads
returns-clause-reads c =
    let p = c.in_ok-matches.ensures (codes "make") make_syntax (record { is = c.in_ok-command.ensures; fit = refl }) in
    asks_ok make_syntax make_from (map string_bytes c.args.words.now) c.in_ok-matches.matches c.make_values.result p
    (rw (p.2.0 (codes "code") refl, p.2.0 (codes "prime") refl) refl) c.make_values.ensures.reads
