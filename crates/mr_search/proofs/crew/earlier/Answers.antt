use Rattle.std.proofs.Common.{ℕ, Option, Some, sym, subst}
use Rattle.mr_search.specs.Crew.{IsKeyAtMost}
use Rattle.mr_search.proofs.CrewLaws.{key-refl}
use Rattle.mr_search.proofs.crew.earlier.Goals as goal

pub returns-in-Some-None-clause-first : goal.returns-in-Some-None-clause-first
returns-in-Some-None-clause-first c =
    subst (λ (o : Option (ℕ × ℕ)). IsKeyAtMost (Some c.in-Some-None.x) o) (sym c.in-Some-None.is-0) (key-refl (Some c.in-Some-None.x))

pub returns-in-Some-None-clause-second : goal.returns-in-Some-None-clause-second
returns-in-Some-None-clause-second c =
    subst (λ (o : Option (ℕ × ℕ)). IsKeyAtMost (Some c.in-Some-None.x) o) (sym c.in-Some-None.is-1) tt

pub returns-in-None-default-clause-first : goal.returns-in-None-default-clause-first
returns-in-None-default-clause-first c = subst (λ (o : Option (ℕ × ℕ)). IsKeyAtMost c.args.b o) (sym c.in-None-default.is-0) tt

pub returns-in-None-default-clause-second : goal.returns-in-None-default-clause-second
returns-in-None-default-clause-second c = key-refl c.args.b
