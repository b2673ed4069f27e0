use Rattle.mr_locks.specs.Seats.{names}
use Rattle.mr_locks.proofs.Held.{takes-locked}
use Rattle.mr_locks.proofs.locks.Locks.lock.Goals as goal

pub returns-clause-locked : goal.returns-clause-locked
returns-clause-locked g c =
    takes-locked (names c.args.self.now) c.args.seat.now.me c.ticket-ticket.new.seat.me c.wait.new.seat.me c.args.stripe c.ticket-ticket.result
    c.requires.seat.names_are c.requires.bare c.ticket-ticket.ensures.waits c.wait.ensures.takes
