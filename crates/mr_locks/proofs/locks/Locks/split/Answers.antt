use Rattle.std.proofs.Common.{rules, arith}
use Rattle.mr_locks.specs.Seats.{names}
use Rattle.mr_locks.proofs.Moves.{blanks}
use Rattle.mr_locks.proofs.locks.Locks.split.Goals as goal

pub split_seat-requires : goal.split_seat-requires
split_seat-requires c =
    let b = c.args.self.now in
    let words = b.words in
    let seat = c.requires.seat.table in
    (search rules, omega arith, blanks (names b) _ _ c.requires.idle)
