use Rattle.std.proofs.Common.{◌≡◌, ◌≤◌, ◌+◌, ℕ, inl, inr, ⊎_elim, subst, sym, ap, arith}
use Rattle.std.specs.Prelude.{slice_index}
use Rattle.std.specs.List.{Contains}
use Rattle.mr_bound.specs.Cost.{least_cost}
use Rattle.mr_bound.specs.Seats.{problem_of}
use Rattle.mr_front.specs.Children.{unions_of}
use Rattle.mr_front.specs.Rows.{InRows}
use Rattle.mr_front.proofs.JoinLaws.{child-more, union-some}
use Rattle.mr_search.proofs.CoverLaws.{cover-one}
use Rattle.mr_search.proofs.worker.expand_drawn.Goals as goal

pub join-requires-clause-level : goal.join-requires-clause-level
join-requires-clause-level c = c.requires.task.level

pub make_known-requires-clause-cost : goal.make_known-requires-clause-cost
make_known-requires-clause-cost c last =
    let p = c.args.task.now.equations.now in
    let l = c.args.task.now.layer.now in
    ⊎_elim
    (λ none. subst (λ (n : ℕ). least_cost (problem_of c.args.task.now.bound.now) ≤ n) (sym none) c.read-most.ensures.least)
    (λ some.
    let floor = c.requires.task.floor last some.0 (union-some p l c.args.number some.0 c.requires.number some.1) in
    omega (arith, floor, some.2, ap least_cost c.requires.task.problem))
    c.in_ok-made.ensures.least

pub returns-clause-only : goal.returns-clause-only
returns-clause-only c i u h =
    let p = c.args.task.now.equations.now in
    let l = c.args.task.now.layer.now in
    ⊎_elim (λ (old : InRows p c.args.rows.now i u). inl old)
    (λ (new : (i ≡ l.level + 1) × Contains (unions_of p l.level (slice_index l.masks c.args.number)) u). inr (new.0, union-some p l c.args.number u c.requires.number new.1))
    (c.in_ok-made.ensures.only i u h)

pub returns-clause-covers : goal.returns-clause-covers
returns-clause-covers c =
    let p = c.args.task.now.equations.now in
    let l = c.args.task.now.layer.now in
    let high : least_cost p ≤ c.read-most.result = omega (arith, c.read-most.ensures.least, ap least_cost c.requires.task.problem) in
    cover-one p l (least_cost p) c.args.number (InRows p c.join.new.self (l.level + 1)) (λ u child.
    c.in_ok-made.ensures.joins u (child-more p l.level (least_cost p) c.read-most.result (slice_index l.masks c.args.number) u high child))
