-- Patterns that compare equal are equal.
use Rattle.std.proofs.Common.{◌≡◌, ℕ, Bool, true, nat_eq, sym, refl}
use Rattle.std.proofs.lemmas.Bool.{and_parts, and_from, eqb-true, eq-eqb}
use Rattle.mr_cache.specs.declared.patterns.Pattern.{Pattern}
use Rattle.mr_cache.specs.contracts.patterns.PatternPartialEq.TheImpl.{eq-value}

-- the derived test
abbrev pub is_pattern : Pattern → Pattern → Bool
is_pattern p q = eq-value.it p q

itself : (n : ℕ) → nat_eq n n ≡ true
itself n = eq-eqb n n refl

pub is_pattern-self : (p : Pattern) → is_pattern p p ≡ true
is_pattern-self p = and_from _ _ (itself p.rotation) (itself p.lost)

pub is_pattern-same : (p q : Pattern) → is_pattern p q ≡ true → q ≡ p
is_pattern-same p q h =
    let both = and_parts (nat_eq p.rotation q.rotation) (nat_eq p.lost q.lost) h in
    let rotation = eqb-true p.rotation q.rotation both.0 in
    let lost = eqb-true p.lost q.lost both.1 in
    λ i. record { rotation = sym rotation i; lost = sym lost i }
