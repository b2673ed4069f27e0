use Rattle.mr_front.specs.Rows.{InRows, LateIn}
use Rattle.mr_front.proofs.ScanLaws.{in-level, key-made, layer-of}
use Rattle.mr_front.proofs.search.take_layer.Goals as goal

pub take-requires-clause-level : goal.take-requires-clause-level
take-requires-clause-level c =
    let some = c.requires.some in
    in-level c.args.equations.now c.args.rows.now c.args.level some.0 some.1

pub take-requires-clause-made : goal.take-requires-clause-made
take-requires-clause-made c = key-made c.args.equations.now (InRows c.args.equations.now c.args.rows.now) (LateIn c.args.rows.now) c.args.cost c.args.level c.requires

pub returns-clause-layer : goal.returns-clause-layer
returns-clause-layer c =
    layer-of c.args.equations.now (InRows c.args.equations.now c.args.rows.now) (LateIn c.args.rows.now) c.args.cost c.args.level c.requires c.new-list.result.items c.take.new.list.items
    c.new-list.ensures.items c.in_ok-take.ensures.taken c.distinct.result c.distinct.ensures.rises c.distinct.ensures.same
