use Rattle.std.proofs.Common.{◌≡◌, length, ap, ◌∙◌}
use Rattle.mr_history.specs.declared.entry.Entry.TheVariants.{Mend}
use Rattle.mr_locks.specs.Rule.{Mine, holding_view, served_view}
use Rattle.mr_locks.specs.declared.view.LockView.{LockView}
use Rattle.mr_amend.specs.Callers.{view}
use Rattle.mr_amend.proofs.Calling.{called}
use Rattle.mr_amend.proofs.amend.Amend.mend_next.Goals as goal

pub unlock-place-requires-clause-held : goal.unlock-place-requires-clause-held
unlock-place-requires-clause-held g c =
    let locked = c.lock.ensures.locked in
    (locked.0, c.mend.ensures.grown locked.0 locked.1)

pub returns-clause-caller : goal.returns-clause-caller
returns-clause-caller g c =
    let caller = c.args.caller.now in
    let v = view caller in
    let t = c.in_ok-stripe.stripe in
    let locked = c.lock.ensures.locked in
    let log = locked.0 in
    let held : c.mend.new.seat.me.0 ≡ holding_view v t (length log) log = c.mend.ensures.view ∙ locked.2 in
    let served = c.unlock-place.ensures.served log (ap (λ (u : LockView). u.turn) held) in
    called c.args.self.now caller _ t log Mend c.requires.caller c.unlock-place.ensures.seat
    (ap (λ (m : Mine). m.0) served.2 ∙ ap (λ (u : LockView). served_view u t log Mend) held)
