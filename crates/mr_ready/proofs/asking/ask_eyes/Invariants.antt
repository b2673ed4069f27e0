use Rattle.std.proofs.Common.{◌≡◌}
use Rattle.std.specs.Prelude.{chars, vec_capacity, vec_len}
use Rattle.mr_ready.proofs.Lending.{Lending}
use Rattle.mr_ready.proofs.asking.ask_eyes.Given as goal

-- the eyes of the duties before this one were lent
abbrev pub invariant-loop-duty : goal.invariant-loop-duty
invariant-loop-duty g l =
    Lending g.F.E.Eye.sight g.F.E.Eye.faults (chars l.image) (g.F.Files.told l.initial.files) (g.F.Files.told l.files) (g.F.Files.totals l.initial.files) (g.F.Files.totals l.files)
    (g.F.Files.faults l.initial.files) (g.F.Files.faults l.files) l.duties l.duty-index l.eyes.items
    × (vec_len l.eyes ≡ l.duty-index) × (vec_capacity l.eyes ≡ vec_capacity l.initial.eyes)
