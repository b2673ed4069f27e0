use Rattle.std.proofs.Common.{◌≤◌, ◌∙◌, length, arith}
use Rattle.mr_eq.specs.Equations.{equations_at}
use Rattle.mr_eq.proofs.EquationLists.{equations-length}
use Rattle.mr_front.specs.Children.{children_of, AppendsPrefix}
use Rattle.mr_front.proofs.AppendLaws.{on_err_from}
use Rattle.mr_front.proofs.ChildLaws.{unions-prefix, unions-all}
use Rattle.mr_front.proofs.children.expand_mask.Goals as goal

pub returns-in_err-push-clause-prefix : goal.returns-in_err-push-clause-prefix
returns-in_err-push-clause-prefix c =
    on_err_from c.from_residual.result (AppendsPrefix c.args.out.now.items c.push.new.self.items (children_of c.args.equations.now c.args.level c.args.bound c.args.mask))
    (unions-prefix c.args.equations.now c.args.mask c.args.bound (equations_at c.args.equations.now c.args.level) c.args.out.now.items c.push.new.self.items c.loop-index.index
    (c.in_err-push.ensures.items ∙ c.loop-index.invariant.done))

pub returns-clause-all : goal.returns-clause-all
returns-clause-all c =
    let p = c.args.equations.now in
    let long : length (equations_at p c.args.level) ≤ c.loop-index.index =
    omega (arith, equations-length p c.width-index-end.ensures.loss c.args.level c.requires, c.width-index-end.ensures.width, c.loop-index-test.false) in
    unions-all p c.args.mask c.args.bound (equations_at p c.args.level) c.args.out.now.items c.loop-index.out.items c.loop-index.index c.loop-index.invariant.done long
