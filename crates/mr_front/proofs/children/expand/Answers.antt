use Rattle.std.proofs.Common.{◌+◌, add-one, arith}
use Rattle.std.specs.Prelude.{slice_range}
use Rattle.mr_front.specs.Children.{children_of, children, AppendsPrefix}
use Rattle.mr_front.proofs.AppendLaws.{on_err_from}
use Rattle.mr_front.proofs.ChildLaws.{each-more, each-prefix}
use Rattle.mr_front.proofs.children.expand.Goals as goal

pub returns-in_err-expand_mask-clause-prefix : goal.returns-in_err-expand_mask-clause-prefix
returns-in_err-expand_mask-clause-prefix c =
    let p = c.args.equations.now in
    let l = c.args.layer.now in
    on_err_from c.from_residual.result (AppendsPrefix c.args.out.now.items c.expand_mask.new.out.items (children p l.level c.args.bound (slice_range l.masks c.args.first c.args.«end»)))
    (each-prefix l.masks c.args.first c.loop-place.place c.args.«end» c.get.result c.loop-place.auto.place (omega arith) c.requires.inside c.get.ensures
    (children_of p l.level c.args.bound) c.args.out.now.items c.loop-place.out.items c.loop-place.invariant.done c.expand_mask.new.out.items c.in_err-expand_mask.ensures.prefix)

pub loop-place-preserved : goal.loop-place-preserved
loop-place-preserved c =
    let p = c.args.equations.now in
    let l = c.args.layer.now in
    record {
      done = each-more l.masks c.args.first c.loop-place.place c.args.«end» c.get.result c.loop-place.auto.place (omega arith) c.requires.inside c.get.ensures
          (children_of p l.level c.args.bound) c.args.out.now.items c.loop-place.out.items c.loop-place.invariant.done c.expand_mask.new.out.items (c.loop-place.place + 1) (add-one c.loop-place.place)
          c.in_ok-expand_mask.ensures.all;
    }
