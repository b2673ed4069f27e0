use Rattle.std.proofs.Common.{refl, codes, map, string_bytes}
use Rattle.mr_late.specs.Words.{table_from, table_syntax}
use Rattle.mr_words.proofs.Steps.{asks_err, asks_ok}
use Rattle.mr_late.proofs.words.read_table.Goals as goal

pub returns-in_err-matches-clause-reads : goal.returns-in_err-matches-clause-reads
returns-in_err-matches-clause-reads c = asks_err table_syntax table_from (map string_bytes c.args.words.now) c.in_err-matches.field-0.0 c.from_residual-in_err-matches.result
    (c.in_err-matches.ensures (codes "table") table_syntax (record { is = c.in_ok-command.ensures; fit = refl })) c.from_residual-in_err-matches.ensures.1

pub returns-clause-reads : goal.returns-clause-reads
returns-clause-reads c =
    let p = c.in_ok-matches.ensures (codes "table") table_syntax (record { is = c.in_ok-command.ensures; fit = refl }) in
    asks_ok table_syntax table_from (map string_bytes c.args.words.now) c.in_ok-matches.matches c.table_values.result p
    (rw (p.2.0 (codes "matrix") refl, p.2.0 (codes "workers") refl, p.2.0 (codes "budget") refl) refl) c.table_values.ensures.reads
