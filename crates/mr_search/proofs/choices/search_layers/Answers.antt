use Rattle.std.proofs.Common.{◌≡◌, ◌+◌, ℕ, List, All, length, sym, subst, ap, ◌∙◌}
use Rattle.std.specs.Prelude.{◌↔◌}
use Rattle.mr_model.specs.Members.{members}
use Rattle.mr_eq.specs.Problems.{Loss}
use Rattle.mr_search.specs.declared.worker.Worker.{Worker}
use Rattle.mr_search.specs.Crew.{InCrew}
use Rattle.mr_search.specs.Work.{IsIdle}
use Rattle.mr_search.proofs.choices.search_layers.Goals as goal

pub search_with-requires-clause-idle : goal.search_with-requires-clause-idle
search_with-requires-clause-idle g c κs within =
    subst (λ (ws : List Worker). All (IsIdle (length (members c.args.inputs.now.equations.now.targets) + 1)) ws) (sym c.as_mut_slice.ensures.value)
    (subst (λ (n : ℕ). All (IsIdle (n + 1)) c.in_ok-crew.crew.items) (c.levels.ensures ∙ sym (ap (λ (q : Loss). length (members q.targets)) c.requires.problem)) c.in_ok-crew.ensures.idle)

pub search_with-requires-clause-waits : goal.search_with-requires-clause-waits
search_with-requires-clause-waits g c κs within =
    subst (λ (ws : List Worker). (i u : ℕ) → InCrew c.args.inputs.now.equations.now ws i u ↔ ((i ≡ 0) × (u ≡ 0))) (sym c.as_mut_slice.ensures.value)
    (c.in_ok-crew.ensures.waits c.args.inputs.now.equations.now)
