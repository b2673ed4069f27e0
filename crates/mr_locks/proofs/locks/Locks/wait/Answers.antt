use Rattle.std.proofs.Common.{rules, arith, ap, ◌∙◌, subst, refl}
use Rattle.mr_locks.specs.Rule.{Mine, Takes}
use Rattle.mr_locks.specs.Seats.{names}
use Rattle.mr_locks.proofs.Moves.{looks}
use Rattle.mr_locks.proofs.locks.Locks.wait.Goals as goal

pub load-requires : goal.load-requires
load-requires g c =
    let b = c.args.self.now in
    let words = b.words in
    let low = c.requires.stripe in
    let same = c.loop.invariant.1 in
    let seat = c.loop.invariant.0 ∙ c.requires.seat.table in
    (search rules, omega arith, looks (names b) _ _ c.loop.seat.me c.args.stripe c.args.ticket (ap (λ (m : Mine). m.0.names) same ∙ c.requires.seat.names_are) (ap (λ (m : Mine). m.0.turn) same ∙ c.requires.waits))

pub loop-preserved : goal.loop-preserved
loop-preserved g c =
    let same = c.loop.invariant.1 in
    let told = c.load.ensures.2 c.args.stripe c.args.ticket (ap (λ (m : Mine). m.0.turn) same ∙ c.requires.waits) refl in
    (c.load.ensures.0 ∙ c.loop.invariant.0, told.1 c.if-load-ticket.false ∙ same)

pub returns-then-load-ticket-clause-seat : goal.returns-then-load-ticket-clause-seat
returns-then-load-ticket-clause-seat g c =
    let same = c.loop.invariant.1 in
    let told = c.load.ensures.2 c.args.stripe c.args.ticket (ap (λ (m : Mine). m.0.turn) same ∙ c.requires.waits) refl in
    let took = told.0 c.if-load-ticket.true in record {
      table = c.load.ensures.0 ∙ c.loop.invariant.0 ∙ c.requires.seat.table;
      names_are = ap (λ (m : Mine). m.0.names) took.2 ∙ ap (λ (m : Mine). m.0.names) same ∙ c.requires.seat.names_are;
    }

pub returns-then-load-ticket-clause-takes : goal.returns-then-load-ticket-clause-takes
returns-then-load-ticket-clause-takes g c =
    let same = c.loop.invariant.1 in
    let told = c.load.ensures.2 c.args.stripe c.args.ticket (ap (λ (m : Mine). m.0.turn) same ∙ c.requires.waits) refl in
    subst (λ (m : Mine). Takes m c.args.stripe c.args.ticket c.load.new.seat.me) same (told.0 c.if-load-ticket.true)
