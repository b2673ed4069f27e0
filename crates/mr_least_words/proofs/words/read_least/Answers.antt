use Rattle.std.proofs.Common.{refl, codes, map, string_bytes}
use Rattle.mr_words.specs.Plan.{plan_syntax}
use Rattle.mr_words.proofs.Steps.{asks_err, asks_ok}
use Rattle.mr_least_words.specs.Words.{least_from}
use Rattle.mr_least_words.proofs.words.read_least.Goals as goal

pub returns-in_err-matches-clause-reads : goal.returns-in_err-matches-clause-reads
returns-in_err-matches-clause-reads c = asks_err plan_syntax least_from (map string_bytes c.args.words.now) c.in_err-matches.field-0.0 c.from_residual-in_err-matches.result
    (c.in_err-matches.ensures (codes "leastplan") plan_syntax (record { is = c.in_ok-command.ensures; fit = refl })) c.from_residual-in_err-matches.ensures.1

pub returns-clause-reads : goal.returns-clause-reads
returns-clause-reads c =
    let p = c.in_ok-matches.ensures (codes "leastplan") plan_syntax (record { is = c.in_ok-command.ensures; fit = refl }) in
    asks_ok plan_syntax least_from (map string_bytes c.args.words.now) c.in_ok-matches.matches c.least_values.result p
    (rw (p.2.0 (codes "matrix") refl, p.2.0 (codes "lost") refl, p.2.0 (codes "workers") refl, p.2.0 (codes "budget") refl) refl) c.least_values.ensures.reads
