use Rattle.std.proofs.Common.{◌≡◌, ◌+◌, ◌^◌, ◌<◌, ap, subst, sym, ◌∙◌, arith, pow_pos}
use Rattle.std.specs.Prelude.{count_ones}
use Rattle.mr_model.specs.Code.{cost, dropped}
use Rattle.mr_eq.specs.Equations.{width_of, equations_at, is_better}
use Rattle.mr_eq.proofs.LeastLaws.{IsLeastOf, least-keeps, least-takes, least-cheapest}
use Rattle.mr_eq.proofs.equations.Equations.least.Goals as goal
use Rattle.mr_eq.proofs.equations.Equations.least.Goals.{then-is_better, else-is_better}

pub loop-index-preserved : goal.loop-index-preserved
loop-index-preserved c =
    let p = c.args.self.now in
    let xs = equations_at p c.args.level in
    let n = c.loop-index.index in
    let least = c.loop-index.least in
    let test = ap (λ x. is_better (cost p.code) x least) (sym c.get-other.ensures.value) ∙ sym c.is_better.ensures in
    elim c.if-is_better.branch [
      | then-is_better w ↦ subst (λ x. IsLeastOf (cost p.code) xs (n + 1) x) (sym c.get-other.ensures.value ∙ sym w.least-is) (least-takes (cost p.code) xs n least c.loop-index.invariant (test ∙ w.if-is_better.true))
      | else-is_better w ↦ subst (λ x. IsLeastOf (cost p.code) xs (n + 1) x) (sym w.least-is) (least-keeps (cost p.code) xs n least c.loop-index.invariant (test ∙ w.if-is_better.false))
    ]

pub returns : goal.returns
returns c =
    let p = c.args.self.now in
    let some : 0 < 2 ^ count_ones (dropped p.code p.avail) = pow_pos (count_ones (dropped p.code p.avail)) in
    let all : c.loop-index.index ≡ width_of p = omega (arith, some, c.width-width.ensures.width, c.width-width.ensures.power, c.loop-index.auto.index-end, c.loop-index-test.false) in
    least-cheapest p c.width-width.ensures.loss c.args.level c.requires c.loop-index.index c.loop-index.least all c.loop-index.invariant
