use Rattle.std.proofs.Common.{◌≡◌, ℕ, ◌^◌, ◌<◌}
use Rattle.mr_model.specs.Code.{row}
use Rattle.mr_encode.proofs.stripes.is_systematic.Given as goal

-- the rows so far are those of single columns
abbrev pub invariant-loop-column : goal.invariant-loop-column
invariant-loop-column l = (c : ℕ) → c < l.column → row l.matrix c ≡ 2 ^ c
