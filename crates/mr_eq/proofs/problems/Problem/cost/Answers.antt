use Rattle.std.proofs.Common.{◌≤◌, ℕ, List, ap, subst, sym, ◌∙◌}
use Rattle.mr_model.specs.Code.{cost}
use Rattle.mr_model.specs.Planes.{ArePlanes}
use Rattle.mr_bits.specs.Matrices.{greatest_cost}
use Rattle.mr_bits.proofs.MatrixLaws.{matrix-cost}
use Rattle.mr_eq.specs.Problems.{Loss, IsLoss}
use Rattle.mr_eq.proofs.problems.Problem.cost.Goals as goal

pub returns-clause-cost : goal.returns-clause-cost
returns-clause-cost c =
    let m = c.self.inside.matrix in
    let are = subst (λ (planes : List ℕ). ArePlanes m planes) (sym c.deref.ensures.0) c.self.invariant.planes_are in
    c.cost_by.ensures m are ∙ ap (λ (p : Loss). cost p.code c.args.set) c.self.view_is

pub returns-clause-few : goal.returns-clause-few
returns-clause-few c =
    let loss = subst (λ (p : Loss). IsLoss p) c.self.view_is c.self.invariant.loss in
    subst (λ (n : ℕ). n ≤ greatest_cost) (sym (returns-clause-cost c)) (matrix-cost c.args.self.now.code loss.code_is c.args.set)
