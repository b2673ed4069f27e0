use Rattle.std.proofs.Common.{List, sym, subst, get_or}
use Rattle.mr_history.specs.declared.kept.KeptStripe.{KeptStripe}
use Rattle.mr_locks.specs.Calls.{made_of}
use Rattle.mr_locks.specs.Seats.{IsClosed, names}
use Rattle.mr_locks.proofs.Closing.{closes_all}
use Rattle.mr_locks.proofs.locks.Locks.close.Goals as goal

pub returns-clause-closed : goal.returns-clause-closed
returns-clause-closed c = λ t d low.
    let b = c.args.self in
    let all = closes_all (names b) _ _ _ _ c.close_with.ensures.values.2 c.requires.all t d low in
    subst (λ (l : List KeptStripe). IsClosed (names b) (λ h. made_of h t c.args.seat.me.0.made) t (get_or l t d)) (sym c.take_all.ensures) all
