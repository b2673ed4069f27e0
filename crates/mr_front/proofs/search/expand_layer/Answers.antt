use Rattle.std.proofs.Common.{◌∙◌, arith, refl}
use Rattle.mr_front.specs.Rows.{InRows}
use Rattle.mr_front.proofs.JoinLaws.{expanded-none, expanded-next, expanded-all}
use Rattle.mr_front.proofs.search.expand_layer.Goals as goal

pub loop-place-init : goal.loop-place-init
loop-place-init c = record {
  count = refl;
  expanded = expanded-none c.args.equations.now c.args.layer.now c.args.most (InRows c.args.equations.now c.args.rows.now);
}

pub loop-place-preserved : goal.loop-place-preserved
loop-place-preserved c =
    let p = c.args.equations.now in
    let done = c.in_ok-join.ensures in
    record {
      count = c.join.ensures.count ∙ c.loop-place.invariant.count;
      expanded = expanded-next p c.args.layer.now c.args.most c.loop-place.place (InRows p c.args.rows.now) (InRows p c.loop-place.rows) (InRows p c.join.new.self)
          (omega (arith, c.loop-place-test.true, c.len-place-end.ensures)) c.loop-place.invariant.expanded done.stays done.only done.joins;
    }

pub returns-clause-joined : goal.returns-clause-joined
returns-clause-joined c =
    let p = c.args.equations.now in
    expanded-all p c.args.layer.now c.args.most c.loop-place.place (InRows p c.args.rows.now) (InRows p c.loop-place.rows)
    (omega (arith, c.loop-place-test.false, c.len-place-end.ensures)) c.loop-place.invariant.expanded
