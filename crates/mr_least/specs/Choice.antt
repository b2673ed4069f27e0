-- What `leastplan` chooses.
use Rattle.std.specs.Prelude.{Bool, count_ones, if◌then◌else◌, length, nat_lt, ℕ, ◌&&◌, ◌^◌}
use Rattle.mr_choices.specs.Chosen.{chosen_by, line_by, plan_by}
use Rattle.mr_choices.specs.declared.chosen.ChosenPlan.{ChosenPlan}
use Rattle.mr_model.specs.Code.{Code, dropped, plain}
use Rattle.mr_model.specs.Members.{members}
use Rattle.mr_model.specs.Search.{Spent}
use Rattle.mr_plan.specs.Plans.{survivors}

-- there is a lost symbol, and it has more than 2^25 equations among the survivors: each has as many
-- as there are sets of survivors with sum zero
abbrev pub has_too_many : Code → ℕ → Bool
has_too_many m lost =
    nat_lt 0 (length (members lost)) && nat_lt 25 (count_ones (dropped m (survivors m lost)))

-- the plan of the plain set, and its line, which names the budget
abbrev pub plain_by : Code → ℕ → ℕ → ChosenPlan
plain_by m lost budget = record {
  plan = plan_by m lost (Spent (plain m (survivors m lost) lost));
  line = line_by m budget (Spent (plain m (survivors m lost) lost));
}

-- the plan for the lost symbols, and its line: what the search gives within the budget, or the plain
-- set where a lost symbol has too many equations
abbrev pub least_by : Code → ℕ → ℕ → ChosenPlan
least_by m lost budget =
    if has_too_many m lost then plain_by m lost budget else chosen_by m lost budget
