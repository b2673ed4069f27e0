use Rattle.std.proofs.Common.{◌^◌, ◌<◌, length, arith}
use Rattle.std.specs.Prelude.{count_ones}
use Rattle.mr_model.specs.Members.{members}
use Rattle.mr_model.specs.Code.{dropped}
use Rattle.mr_eq.proofs.EquationLists.{width-ones}
use Rattle.mr_front.proofs.LossSteps.{found-none, found-many}
use Rattle.mr_front.proofs.SearchAnswers.{many-above}
use Rattle.mr_search.proofs.choices.find.Goals as goal

pub returns-then-levels-eq0 : goal.returns-then-levels-eq0
returns-then-levels-eq0 g c = found-none c.args.question.now.problem.now c.targets-loss.ensures.loss c.args.question.now.budget (omega (arith, c.levels.ensures, c.if-levels-eq0.true))

pub returns-in-Err-TooMany : goal.returns-in-Err-TooMany
returns-in-Err-TooMany g c =
    let p = c.args.question.now.problem.now in
    let d = count_ones (dropped p.code p.avail) in
    let many = many-above c.in-Err-TooMany.field-0 c.args.question.now.budget (2 ^ d) d c.in-Err-TooMany.field-0-0 c.in-Err-TooMany.ensures.too_many c.in-Err-TooMany.field-0-is in
    let some : 0 < length (members p.targets) = omega (arith, c.levels.ensures, c.if-levels-eq0.false) in
    found-many p c.targets-loss.ensures.loss c.args.question.now.budget c.plain.result some c.plain.ensures.value (omega (arith, many, width-ones p c.targets-loss.ensures.loss))
