use Rattle.std.proofs.Common.{ap, ◌∙◌, arith}
use Rattle.mr_image.specs.Rotated.{rotations}
use Rattle.mr_choices.specs.Chosen.{singles_chosen}
use Rattle.mr_choices.proofs.ChosenLaws.{all-rotations, devices-few, problem-at, rotation-low}
use Rattle.mr_choices.proofs.SinglesLaws.{singles-below, singles-determined, singles-turn}
use Rattle.mr_choices.proofs.singles.singles_of.Goals as goal

pub rotated-rotated-requires : goal.rotated-rotated-requires
rotated-rotated-requires g c =
    rotation-low c.args.head.now c.args.matrix.now c.args.lost c.loop-rotation.rotation c.args.problems.now c.shape-within_the_limits.ensures.code c.requires.head c.requires.problems (omega arith)

pub overflow_cast-rotation : goal.overflow_cast-rotation
overflow_cast-rotation g c =
    let low = rotation-low c.args.head.now c.args.matrix.now c.args.lost c.loop-rotation.rotation c.args.problems.now c.shape-within_the_limits.ensures.code c.requires.head c.requires.problems (omega arith) in
    let few = devices-few c.args.matrix.now c.shape-within_the_limits.ensures.code in
    omega arith

pub of-requires-clause-lost_below : goal.of-requires-clause-lost_below
of-requires-clause-lost_below g c κs within =
    singles-below c.args.matrix.now c.args.lost c.args.choosing.now.budget c.loop-rotation.rotation c.rotated-rotated.result c.index-problems-rotation.result c.targets-targets.result c.rotated-rotated.ensures.code
    (problem-at c.args.matrix.now c.args.lost c.args.choosing.now.budget (rotations c.args.head.now) c.loop-rotation.rotation c.args.problems.now c.index-problems-rotation.result c.requires.problems (omega arith) c.index-problems-rotation.is)
    c.targets-targets.ensures.targets c.targets-targets.ensures.loss

pub of-requires-clause-determined : goal.of-requires-clause-determined
of-requires-clause-determined g c κs within =
    singles-determined c.args.matrix.now c.args.lost c.args.choosing.now.budget c.loop-rotation.rotation c.rotated-rotated.result c.index-problems-rotation.result c.targets-targets.result c.rotated-rotated.ensures.code
    (problem-at c.args.matrix.now c.args.lost c.args.choosing.now.budget (rotations c.args.head.now) c.loop-rotation.rotation c.args.problems.now c.index-problems-rotation.result c.requires.problems (omega arith) c.index-problems-rotation.is)
    c.targets-targets.ensures.targets c.targets-targets.ensures.loss

pub loop-rotation-preserved : goal.loop-rotation-preserved
loop-rotation-preserved g c =
    c.in_ok-push.ensures.items
    ∙ singles-turn c.args.matrix.now c.args.lost c.args.choosing.now.budget c.loop-rotation.rotation c.rotated-rotated.result c.index-problems-rotation.result c.targets-targets.result c.rotated-rotated.ensures.code
    (problem-at c.args.matrix.now c.args.lost c.args.choosing.now.budget (rotations c.args.head.now) c.loop-rotation.rotation c.args.problems.now c.index-problems-rotation.result c.requires.problems (omega arith) c.index-problems-rotation.is)
    c.targets-targets.ensures.targets c.loop-rotation.list.items c.in_ok-singles.singles c.loop-rotation.invariant c.in_ok-singles.ensures

pub returns : goal.returns
returns g c =
    c.loop-rotation.invariant
    ∙ ap (singles_chosen c.args.matrix.now c.args.lost c.args.choosing.now.budget)
    (all-rotations c.args.head.now c.args.matrix.now c.args.lost c.loop-rotation.rotation c.args.problems.now c.requires.problems (omega arith))
