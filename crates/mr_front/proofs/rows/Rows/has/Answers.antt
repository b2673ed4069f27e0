use Rattle.std.proofs.Common.{◌<◌, length, sym, subst, arith}
use Rattle.mr_front.specs.PutOff.{Has}
use Rattle.mr_front.specs.Rows.{StandsAt}
use Rattle.mr_front.proofs.RowsLaws.{at-read}
use Rattle.mr_front.proofs.rows.Rows.has.Goals as goal

pub returns-clause-none : goal.returns-clause-none
returns-clause-none c e u h =
    let rs = c.args.self.now.rows.items in
    let k = c.from.result in
    let low : k < length rs = omega (arith, c.from.ensures, c.requires, c.args.self.now.rows.ok.0) in
    c.has.ensures.none e u ((at-read (λ r. Has c.args.equations.now r.lists.map u) rs k c.index.result.now low c.index.ensures).0 (subst (λ i. StandsAt c.args.equations.now rs i u) (sym c.from.ensures) h))

pub returns-clause-some : goal.returns-clause-some
returns-clause-some c e =
    let rs = c.args.self.now.rows.items in
    let k = c.from.result in
    let low : k < length rs = omega (arith, c.from.ensures, c.requires, c.args.self.now.rows.ok.0) in
    let some = c.has.ensures.some e in
    (some.0, subst (λ i. StandsAt c.args.equations.now rs i some.0) c.from.ensures ((at-read (λ r. Has c.args.equations.now r.lists.map some.0) rs k c.index.result.now low c.index.ensures).1 some.1), some.2)
