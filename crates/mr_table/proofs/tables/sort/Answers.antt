use Rattle.std.proofs.Common.{rules}
use Rattle.std.proofs.lemmas.List.Sorted.{IsNonDecreasingBy-from_sort_by_key}
use Rattle.mr_table.specs.declared.row.Row.{Row}
use Rattle.mr_table.proofs.tables.sort.Goals as goal

pub returns-clause-ascending : goal.returns-clause-ascending
returns-clause-ascending c =
    IsNonDecreasingBy-from_sort_by_key (λ (row : Row). row.job) _ c.sort_unstable_by_key.ensures.sorted (λ a r q k. search rules)
