use Rattle.mr_locks_calls.proofs.tests.mended.Goals as goal

pub unlock-place-requires-clause-held : goal.unlock-place-requires-clause-held
unlock-place-requires-clause-held g c =
    let locked = c.lock.ensures.locked in
    (locked.0, c.mend.ensures.grown locked.0 locked.1)
