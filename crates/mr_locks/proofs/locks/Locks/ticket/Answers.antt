use Rattle.std.proofs.Common.{rules, arith, ap, ◌∙◌, refl}
use Rattle.mr_locks.specs.Rule.{Mine}
use Rattle.mr_locks.specs.Seats.{names}
use Rattle.mr_locks.proofs.Moves.{draws}
use Rattle.mr_locks.proofs.locks.Locks.ticket.Goals as goal

pub fetch_add-requires : goal.fetch_add-requires
fetch_add-requires c =
    let b = c.args.self.now in
    let words = b.words in
    let low = c.requires.stripe in
    let seat = c.requires.seat.table in
    (search rules, omega arith, draws (names b) _ _ _ _ c.requires.idle c.requires.stripe c.requires.left)

pub returns-clause-seat : goal.returns-clause-seat
returns-clause-seat c = record {
  table = c.fetch_add.ensures.0 ∙ c.requires.seat.table;
  names_are = ap (λ (m : Mine). m.0.names) (c.fetch_add.ensures.2 c.args.stripe refl) ∙ c.requires.seat.names_are;
}
