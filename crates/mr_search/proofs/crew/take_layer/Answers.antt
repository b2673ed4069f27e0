use Rattle.std.proofs.Common.{◌+◌, length}
use Rattle.mr_model.specs.Members.{members}
use Rattle.mr_front.proofs.ScanLaws.{key-made, layer-of}
use Rattle.mr_search.specs.Crew.{InCrew, LateWith}
use Rattle.mr_search.proofs.CrewLaws.{crew-level}
use Rattle.mr_search.proofs.crew.take_layer.Goals as goal

pub take_lists-requires-clause-level : goal.take_lists-requires-clause-level
take_lists-requires-clause-level c =
    let p = c.args.inputs.now.equations.now in
    let some = c.requires.first.some in
    crew-level p (length (members p.targets) + 1) c.args.crew.now c.requires.idle c.args.level some.0 some.1

pub take_lists-requires-clause-made : goal.take_lists-requires-clause-made
take_lists-requires-clause-made c =
    let p = c.args.inputs.now.equations.now in
    key-made p (InCrew p c.args.crew.now) (LateWith c.args.crew.now) c.args.cost c.args.level c.requires.first

pub returns-clause-layer : goal.returns-clause-layer
returns-clause-layer c =
    let p = c.args.inputs.now.equations.now in
    layer-of p (InCrew p c.args.crew.now) (LateWith c.args.crew.now) c.args.cost c.args.level c.requires.first c.new-list.result.items c.take_lists.new.list.items
    c.new-list.ensures.items c.in_ok-take_lists.ensures.taken c.distinct.result c.distinct.ensures.rises c.distinct.ensures.same
