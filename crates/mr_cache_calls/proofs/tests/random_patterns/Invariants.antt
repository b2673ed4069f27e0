use Rattle.std.proofs.Common.{◌≡◌}
use Rattle.mr_cache.specs.Cache.{code_of}
use Rattle.mr_cache_calls.proofs.tests.random_patterns.Given as goal

-- the cache is of the matrix
abbrev pub invariant-loop-row : goal.invariant-loop-row
invariant-loop-row g l = code_of l.cache ≡ l.matrix
