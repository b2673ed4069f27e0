use Rattle.std.proofs.Common.{◌≡◌, ◌<◌, ◌+◌, length, sym, subst, arith}
use Rattle.std.specs.Prelude.{slice_index_or}
use Rattle.mr_model.specs.Members.{members}
use Rattle.mr_eq.specs.Problems.{Loss}
use Rattle.mr_bound.specs.Cost.{least_cost}
use Rattle.mr_bound.specs.Seats.{problem_of}
use Rattle.mr_front.specs.Layers.{HasJoined}
use Rattle.mr_front.proofs.RowsLaws.{on_ok-all}
use Rattle.mr_search.specs.Crew.{InCrew}
use Rattle.mr_search.proofs.HireLaws.{done-from, same-shares, crew-joined}
use Rattle.mr_search.proofs.layers.expand_layer.Goals as goal

pub gather-requires-clause-done : goal.gather-requires-clause-done
gather-requires-clause-done g c k d less =
    let short : k < length c.hire.new.crew = omega (arith, less, c.run.auto.crew) in
    done-from c.args.task.now.bound.now c.args.task.now.layer.now (length (members c.args.task.now.equations.now.targets) + 1)
    (slice_index_or c.hire.new.crew k d) (slice_index_or c.run.new.crew k d) (c.run.ensures k d short) (c.hire.ensures.ready k d short).has_rows

pub gather-requires-clause-shares : goal.gather-requires-clause-shares
gather-requires-clause-shares g c =
    omega (arith, same-shares c.hire.new.crew c.run.new.crew (omega (arith, c.run.auto.crew)) (λ k d short. (c.run.ensures k d short).share), c.hire.ensures.shares)

pub returns-clause-joined : goal.returns-clause-joined
returns-clause-joined g c =
    let b = c.args.task.now.bound.now in
    let l = c.args.task.now.layer.now in
    let same : problem_of b ≡ c.args.task.now.equations.now = sym c.requires.task.problem in
    let done = c.gather.ensures in
    on_ok-all c.gather.result _ _ _ _ (λ rows worked covers.
    subst (λ (p : Loss). HasJoined p l (least_cost p) (InCrew p c.args.crew.now) (InCrew p c.gather.new.crew)) same
    (crew-joined b l c.args.crew.now c.hire.new.crew c.run.new.crew c.gather.new.crew
    (omega (arith, c.hire.auto.crew)) (omega (arith, c.hire.auto.crew, c.run.auto.crew)) (omega (arith, c.hire.auto.crew, c.run.auto.crew, c.gather.auto.crew))
    c.hire.ensures.rows c.run.ensures rows worked covers)) done.rows done.worked done.covers
