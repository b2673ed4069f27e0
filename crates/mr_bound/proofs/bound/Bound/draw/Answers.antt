use Rattle.std.proofs.Common.{rules, subst, ℕ, ◌≤◌}
use Rattle.mr_counts.specs.Numbers.{next_above}
use Rattle.mr_counts.proofs.NumberLaws.{beyond-none}
use Rattle.mr_bound.proofs.Keeps.{draws}
use Rattle.mr_bound.proofs.bound.Bound.draw.Goals as goal

pub fetch_add-drawn-requires : goal.fetch_add-drawn-requires
fetch_add-drawn-requires c =
    let ns = c.args.seat.now.seat.me.0.draws in
    (search rules, search rules, draws _ _ _ _ _ c.args.seat.now.live (beyond-none _ ns (subst (λ (n : ℕ). next_above ns ≤ n) c.args.self.now.terms c.requires.open)))
