use Rattle.std.proofs.Common.{rules, arith, ap}
use Rattle.mr_locks.specs.Rule.{Mine}
use Rattle.mr_locks.specs.Seats.{names}
use Rattle.mr_locks.proofs.Moves.{deals_ask, joins}
use Rattle.mr_locks.proofs.locks.Locks.deal_ask.Goals as goal

pub split_seat-part-requires : goal.split_seat-part-requires
split_seat-part-requires c =
    let b = c.args.self.now in
    let words = b.words in
    let seat = c.requires.giver.table in
    (search rules, omega arith, deals_ask (names b) _ _ c.requires.idle.0)

pub join_seat-requires : goal.join_seat-requires
join_seat-requires c =
    let b = c.args.self.now in
    let words = b.words in
    let seat = c.requires.taker.table in
    let giver = c.requires.giver.table in
    let new = c.split_seat-part.ensures.4 in
    (search rules, search rules, ap (λ (m : Mine). m.1) new, omega arith, joins (names b) _ _ _ _ c.requires.idle.1 (ap (λ (m : Mine). m.0.turn) new))
