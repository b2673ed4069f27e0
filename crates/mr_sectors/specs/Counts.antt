-- How many patterns the stripes of an image have, and how many symbols fail in them.
use Rattle.std.specs.Prelude.{ℕ, Bool, ◌==◌, ◌&&◌, not, length, if◌then◌else◌}
use Rattle.mr_model.specs.Members.{members}
use Rattle.mr_model.specs.Search.{sum_below}
use Rattle.mr_model.specs.Sets.{any_below}
use Rattle.mr_cache.specs.declared.patterns.Pattern.{Pattern}
use Rattle.mr_patch.specs.Damages.{DamageParts, failed_at, pattern_at}

-- the same symbols in the same rotation
abbrev pub is_same : Pattern → Pattern → Bool
is_same p q = (p.rotation == q.rotation) && (p.lost == q.lost)

-- one of the first n stripes has this pattern
abbrev pub had_below : DamageParts → ℕ → Pattern → Bool
had_below d n p = any_below n (λ s. is_same (pattern_at d s) p)

-- something fails in the stripe, and no stripe before it has its pattern
abbrev pub is_fresh : DamageParts → ℕ → Bool
is_fresh d s = not (failed_at d s == 0) && not (had_below d s (pattern_at d s))

-- the patterns of the first n stripes in which something fails, each counted once
abbrev pub patterns_below : DamageParts → ℕ → ℕ
patterns_below d n = sum_below n (λ s. if is_fresh d s then 1 else 0)

-- the symbols that fail in the first n stripes, counted in each stripe
abbrev pub failures_below : DamageParts → ℕ → ℕ
failures_below d n = sum_below n (λ s. length (members (failed_at d s)))

-- in all stripes
abbrev pub patterns_of : DamageParts → ℕ
patterns_of d = patterns_below d d.layout.stripes

abbrev pub mended_of : DamageParts → ℕ
mended_of d = failures_below d d.layout.stripes
