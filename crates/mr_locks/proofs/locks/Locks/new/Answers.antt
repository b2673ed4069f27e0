use Rattle.std.proofs.Common.{rules, ◌≡◌, ◌+◌, ◌*◌, replicate}
use Rattle.mr_history.specs.Histories.{names_of}
use Rattle.mr_locks.proofs.Moves.{starts}
use Rattle.mr_locks.proofs.locks.Locks.new.Goals as goal

pub new-requires : goal.new-requires
new-requires c =
    let words : c.as_slice.result.now ≡ replicate (1 + 2 * c.args.terms.now.head.stripes) 0 = search rules in
    starts (names_of c.args.terms.now) _ _ c.requires.small words c.requires.count c.requires.fresh
