use Rattle.std.proofs.Common.{ℕ, Vec, Global, ap}
use Rattle.std.specs.declared.collections.VecDeque.{VecDeque}
use Rattle.mr_kept.specs.Kept.{items_of}
use Rattle.mr_history.specs.declared.terms.Terms.{Terms}
use Rattle.mr_history.specs.Histories.{names_of}
use Rattle.mr_amend.proofs.Openings.{opens_told}
use Rattle.mr_amend.proofs.opening.Opened.of.Goals as goal

pub returns-clause-opening : goal.returns-clause-opening
returns-clause-opening g c =
    let job = c.args.job in
    let terms : Terms = record { head = job.head; matrix = job.matrix; plans = job.plans; image = c.of.result; ops = job.ops } in
    opens_told (names_of terms) (g.E.Eye.sight c.args.eye.now).bytes (items_of c.in_ok-stripes.stripes.items)
    (ap (λ (v : VecDeque (Vec ℕ Global) Global). items_of v.items) c.of.ensures) c.in_ok-stripes.ensures.opened
