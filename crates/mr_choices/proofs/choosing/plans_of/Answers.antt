use Rattle.std.proofs.Common.{◌+◌, List, [], ◌∷◌, ◌++◌, ap, sym, subst, ◌∙◌, arith}
use Rattle.mr_image.specs.Rotated.{rotations}
use Rattle.mr_plan.specs.Plans.{PlanParts}
use Rattle.mr_mend.specs.Rotations.{AreValidPlans}
use Rattle.mr_mend.proofs.Planned.{planned-symbols}
use Rattle.mr_steps.specs.declared.choice_line.ChoiceLine.{ChoiceLine}
use Rattle.mr_choices.specs.Chosen.{lines_chosen, plans_chosen}
use Rattle.mr_choices.proofs.ChosenLaws.{ChosenBelow, chosen-turn, chosen-valid, problem-at, own-problem, own-chosen, own-valid, rotation-low, devices-few, all-rotations}
use Rattle.mr_choices.proofs.choosing.plans_of.Goals as goal

pub rotated-rotated-requires : goal.rotated-rotated-requires
rotated-rotated-requires g c =
    rotation-low c.args.head.now c.args.matrix.now c.args.lost c.loop-rotation.rotation c.args.problems.now c.shape-within_the_limits.ensures.code c.requires.head c.requires.problems (omega arith)

pub overflow_cast-rotation : goal.overflow_cast-rotation
overflow_cast-rotation g c =
    let low = rotation-low c.args.head.now c.args.matrix.now c.args.lost c.loop-rotation.rotation c.args.problems.now c.shape-within_the_limits.ensures.code c.requires.head c.requires.problems (omega arith) in
    let few = devices-few c.args.matrix.now c.shape-within_the_limits.ensures.code in
    omega arith

pub chosen_plan-requires-clause-loss : goal.chosen_plan-requires-clause-loss
chosen_plan-requires-clause-loss g c κs within =
    own-problem c.args.matrix.now c.args.lost c.args.choosing.now.budget c.loop-rotation.rotation c.rotated-rotated.result c.index-problems-rotation.result c.rotated-rotated.ensures.code
    (problem-at c.args.matrix.now c.args.lost c.args.choosing.now.budget (rotations c.args.head.now) c.loop-rotation.rotation c.args.problems.now c.index-problems-rotation.result c.requires.problems (omega arith) c.index-problems-rotation.is)

pub loop-rotation-preserved : goal.loop-rotation-preserved
loop-rotation-preserved g c =
    let is = problem-at c.args.matrix.now c.args.lost c.args.choosing.now.budget (rotations c.args.head.now) c.loop-rotation.rotation c.args.problems.now c.index-problems-rotation.result c.requires.problems (omega arith) c.index-problems-rotation.is in
    subst (λ (plans : List PlanParts). ChosenBelow c.args.matrix.now c.args.lost c.args.choosing.now.budget (c.loop-rotation.rotation + 1) plans c.push-in-loop-rotation.new.self.items) (sym c.in_ok-push.ensures.items)
    (subst (λ (lines : List ChoiceLine). ChosenBelow c.args.matrix.now c.args.lost c.args.choosing.now.budget (c.loop-rotation.rotation + 1) (c.loop-rotation.list.items ++ c.in_ok-chosen.chosen.plan ∷ []) lines) (sym c.in_ok-push-2.ensures.items)
    (chosen-turn c.args.matrix.now c.args.lost c.args.choosing.now.budget c.loop-rotation.rotation c.loop-rotation.list.items c.loop-rotation.lines.items c.in_ok-chosen.chosen c.loop-rotation.invariant
    (own-chosen c.args.matrix.now c.args.lost c.args.choosing.now.budget c.loop-rotation.rotation c.rotated-rotated.result c.index-problems-rotation.result c.in_ok-chosen.chosen c.rotated-rotated.ensures.code is c.in_ok-chosen.ensures.chosen)
    (own-valid c.args.matrix.now c.args.lost c.args.choosing.now.budget c.loop-rotation.rotation c.rotated-rotated.result c.index-problems-rotation.result c.in_ok-chosen.chosen.plan.set c.in_ok-chosen.chosen.plan.recipes c.rotated-rotated.ensures.code is c.in_ok-chosen.ensures.valid)))

pub new-requires : goal.new-requires
new-requires g c =
    let all = all-rotations c.args.head.now c.args.matrix.now c.args.lost c.loop-rotation.rotation c.args.problems.now c.requires.problems (omega arith) in
    planned-symbols c.args.head.now c.args.matrix.now c.args.lost c.loop-rotation.list.items c.shape-within_the_limits.ensures.code c.requires.head
    (chosen-valid c.args.head.now c.args.matrix.now c.args.lost c.args.choosing.now.budget c.loop-rotation.rotation c.loop-rotation.list.items c.loop-rotation.lines.items c.shape-within_the_limits.ensures.code c.requires.head all c.loop-rotation.invariant)

pub returns-clause-plans : goal.returns-clause-plans
returns-clause-plans g c =
    let all = all-rotations c.args.head.now c.args.matrix.now c.args.lost c.loop-rotation.rotation c.args.problems.now c.requires.problems (omega arith) in
    c.new.ensures ∙ c.loop-rotation.invariant.are ∙ ap (plans_chosen c.args.matrix.now c.args.lost c.args.choosing.now.budget) all

pub returns-clause-lines : goal.returns-clause-lines
returns-clause-lines g c =
    let all = all-rotations c.args.head.now c.args.matrix.now c.args.lost c.loop-rotation.rotation c.args.problems.now c.requires.problems (omega arith) in
    c.loop-rotation.invariant.lines_are ∙ ap (lines_chosen c.args.matrix.now c.args.lost c.args.choosing.now.budget) all

pub returns-clause-valid : goal.returns-clause-valid
returns-clause-valid g c =
    let all = all-rotations c.args.head.now c.args.matrix.now c.args.lost c.loop-rotation.rotation c.args.problems.now c.requires.problems (omega arith) in
    subst (λ (plans : List PlanParts). AreValidPlans c.args.head.now c.args.matrix.now c.args.lost plans) (sym c.new.ensures)
    (chosen-valid c.args.head.now c.args.matrix.now c.args.lost c.args.choosing.now.budget c.loop-rotation.rotation c.loop-rotation.list.items c.loop-rotation.lines.items c.shape-within_the_limits.ensures.code c.requires.head all c.loop-rotation.invariant)
