use Rattle.std.proofs.Common.{rules, ◌≡◌, ℕ, List, [], ◌∷◌, sym, ap, subst, ◌∙◌, arith, slice_index_or, slice_get}
use Rattle.mr_history.specs.Histories.{FitsHistory, ask_count, names_of, one_at, stripe_asked}
use Rattle.mr_history.specs.declared.kept.KeptStripe.{KeptStripe}
use Rattle.mr_history.proofs.HistoryLaws.{fresh_fits}
use Rattle.mr_locks.proofs.Sums.{below-none}
use Rattle.mr_ops.specs.declared.ops.Op.{Op}
use Rattle.mr_locks_calls.proofs.tests.locks.Goals as goal

none_asked : (t : ℕ) → ask_count [] t ≡ 0
none_asked t = below-none (λ k. one_at t (stripe_asked (slice_get [] k)))

pub new-requires-clause-small : goal.new-requires-clause-small
new-requires-clause-small c = λ t.
    let a = ap (λ (ops : List Op). ask_count ops t) c.requires.ops in
    let b = none_asked t in
    omega (arith, a, b)

pub new-requires-clause-fresh : goal.new-requires-clause-fresh
new-requires-clause-fresh c = λ t d low.
    let n = names_of c.args.terms.now in
    let list : c.push.new.self.items ≡ c.in_ok-kept.kept ∷ [] = search rules in
    let first : t ≡ 0 = omega (arith, low, c.requires.stripes) in
    let one = c.requires.stripes in
    let a = ap (λ (ops : List Op). ask_count ops 0) c.requires.ops in
    let b = none_asked 0 in
    let room = c.in_ok-kept.ensures.room in
    subst (λ (x : ℕ). FitsHistory n x [] (slice_index_or c.push.new.self.items x d)) (sym first)
    (subst (λ (l : List KeptStripe). FitsHistory n 0 [] (slice_index_or l 0 d)) (sym list)
    (fresh_fits n 0 c.in_ok-kept.kept c.requires.parts (omega (arith, one)) (record {
      none = c.in_ok-kept.ensures.history;
      bytes = c.in_ok-kept.ensures.bytes ∙ c.requires.bytes;
      lost = c.in_ok-kept.ensures.lost;
      room = omega (arith, a, b, room);
    })))
