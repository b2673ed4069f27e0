use Rattle.std.proofs.Common.{ℕ, List, ◌∷◌, map}
use Rattle.mr_counts.proofs.NumberLaws.{weighed-shared}
use Rattle.mr_table.specs.declared.view.JobView.{JobView}
use Rattle.mr_table.proofs.laws.jobs_are_taken_once.Goals as goal

pub returns : goal.returns
returns c pushed items views k = weighed-shared (λ (l : List ℕ). l) (items ∷ map (λ (v : JobView). v.taken) views) pushed k.all_jobs
