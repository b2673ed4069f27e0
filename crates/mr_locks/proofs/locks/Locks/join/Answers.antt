use Rattle.std.proofs.Common.{rules, arith}
use Rattle.mr_locks.specs.Seats.{names}
use Rattle.mr_locks.proofs.Moves.{joins}
use Rattle.mr_locks.proofs.locks.Locks.join.Goals as goal

pub join_seat-requires : goal.join_seat-requires
join_seat-requires c =
    let b = c.args.self.now in
    let words = b.words in
    let seat = c.requires.seat.table in
    let other = c.requires.other.table in
    (search rules, search rules, c.requires.bare, omega arith, joins (names b) _ _ _ _ c.requires.idle.0 c.requires.idle.1)
