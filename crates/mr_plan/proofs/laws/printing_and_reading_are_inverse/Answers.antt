use Rattle.mr_plan.proofs.PlanReadLaws.{plan-read, plan-printed, text-same}
use Rattle.mr_plan.proofs.laws.printing_and_reading_are_inverse.Goals as goal

pub returns-clause-read_back : goal.returns-clause-read_back
returns-clause-read_back c = λ plan h. plan-printed plan h

pub returns-clause-plan : goal.returns-clause-plan
returns-clause-plan c = λ bytes plan e. (plan-read bytes plan e).plan

pub returns-clause-spelled : goal.returns-clause-spelled
returns-clause-spelled c = λ bytes plan e. (plan-read bytes plan e).spelled

pub returns-clause-one_text : goal.returns-clause-one_text
returns-clause-one_text c = λ p q h k e. text-same p q h k e
