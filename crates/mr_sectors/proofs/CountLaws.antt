-- The patterns and the symbols that fail, counted stripe after stripe.
use Rattle.std.proofs.Common.{◌≡◌, ℕ, ◌+◌, ◌*◌, ◌≤◌, ◌==◌, ◌&&◌, ◌||◌, Bool, true, false, cond, not, length, refl, sym, ap, ◌∙◌, arith, add-one, eqb-true}
use Rattle.mr_model.specs.Members.{members}
use Rattle.mr_model.specs.Search.{sum_below}
use Rattle.mr_model.specs.Sets.{any_below}
use Rattle.mr_model.proofs.Loops.{members-few, members-none}
use Rattle.mr_cache.specs.declared.patterns.Pattern.{Pattern}
use Rattle.mr_patch.specs.Damages.{DamageParts, failed_at, pattern_at}
use Rattle.mr_sectors.specs.Counts.{failures_below, had_below, is_fresh, is_same, patterns_below}

-- ---- one stripe more

patterns-more : (d : DamageParts) (n : ℕ) → patterns_below d (n + 1) ≡ patterns_below d n + cond (is_fresh d n) 1 0
unfolding sum_below
patterns-more d n = ap (patterns_below d) (add-one n)

failures-more : (d : DamageParts) (n : ℕ) → failures_below d (n + 1) ≡ failures_below d n + length (members (failed_at d n))
unfolding sum_below
failures-more d n = ap (failures_below d) (add-one n)

had-more : (d : DamageParts) (n : ℕ) (p : Pattern) → had_below d (n + 1) p ≡ (is_same (pattern_at d n) p || had_below d n p)
unfolding any_below
had-more d n p = ap (λ k. had_below d k p) (add-one n)

patterns-none : (d : DamageParts) → patterns_below d 0 ≡ 0
unfolding sum_below
patterns-none d = refl

failures-none : (d : DamageParts) → failures_below d 0 ≡ 0
unfolding sum_below
failures-none d = refl

had-none : (d : DamageParts) (p : Pattern) → had_below d 0 p ≡ false
unfolding any_below
had-none d p = refl

-- ---- tests

eq-zero : (n : ℕ) → n ≡ 0 → (n == 0) ≡ true
eq-zero n e = ap (λ k. k == 0) e

either : (b c : Bool) → cond b true c ≡ (b || c)
either true c = refl
either false c = refl

neither : (b c : Bool) → b ≡ false → (b || c) ≡ c
neither b c e = ap (λ a. a || c) e

-- a pattern in which something fails is none in which nothing does
apart : (p q : Pattern) → p.lost ≡ 0 → (q.lost == 0) ≡ false → is_same p q ≡ false
apart p q none some = go (p.rotation == q.rotation) (p.lost == q.lost) (λ same. clash (q.lost == 0) (eq-zero q.lost (sym (eqb-true p.lost q.lost same) ∙ none)) some)
  where
    clash : (b : Bool) → b ≡ true → b ≡ false → ⊥
    clash b e f = cc

    go : (a b : Bool) → (b ≡ true → ⊥) → (a && b) ≡ false
    go true true out = absurd (out refl)
    go true false out = refl
    go false b out = refl

-- ---- the stripes

-- of the first n stripes these patterns are seen, each once, and so many symbols fail in them
pub record CountedBelow (d : DamageParts) (n : ℕ) (has : Pattern → Bool) (patterns mended : ℕ) : Type 0 where
  pub seen : (p : Pattern) → (p.lost == 0) ≡ false → has p ≡ had_below d n p
  pub patterns_are : patterns ≡ patterns_below d n
  pub mended_are : mended ≡ failures_below d n
  pub few : mended ≤ 128 * n

module _ (d : DamageParts) where
  pub counted-start : (has : Pattern → Bool) (patterns mended : ℕ) → ((p : Pattern) → has p ≡ false) → patterns ≡ 0 → mended ≡ 0 → CountedBelow d 0 has patterns mended
  counted-start has patterns mended empty none nothing = record {
    seen = λ p some. empty p ∙ sym (had-none d p);
    patterns_are = none ∙ sym (patterns-none d);
    mended_are = nothing ∙ sym (failures-none d);
    few = omega (arith, nothing);
  }

  module _ (n : ℕ) (has : Pattern → Bool) (patterns mended : ℕ) (h : CountedBelow d n has patterns mended) where
    -- a stripe in which nothing fails
    pub counted-skip : failed_at d n ≡ 0 → CountedBelow d (n + 1) has patterns mended
    counted-skip none = record {
      seen = λ p some. h.seen p some ∙ sym (had-more d n p ∙ neither (is_same (pattern_at d n) p) (had_below d n p) (apart (pattern_at d n) p none some));
      patterns_are = h.patterns_are ∙ omega (arith, patterns-more d n, ap {B = ℕ} (λ b. cond (not b && not (had_below d n (pattern_at d n))) 1 0) (eq-zero (failed_at d n) none));
      mended_are = h.mended_are ∙ omega (arith, failures-more d n, ap (λ x. length (members x)) none, ap (λ xs. length xs) members-none);
      few = omega (arith, h.few);
    }

    -- a stripe in which something fails, whose pattern is put to those that are seen
    pub counted-turn : (next : Pattern → Bool) (patterns_next mended_next count : ℕ) (key : Pattern) (added : Bool) → key ≡ pattern_at d n → (failed_at d n == 0) ≡ false
        → added ≡ not (has key) → ((p : Pattern) → next p ≡ cond (is_same key p) true (has p)) → patterns_next ≡ patterns + cond added 1 0
        → count ≡ length (members (failed_at d n)) → mended_next ≡ mended + count → CountedBelow d (n + 1) next patterns_next mended_next
    counted-turn next patterns_next mended_next count key added is_key some is_added puts more count_is sum = record {
      seen = λ p fails.
          puts p ∙ either (is_same key p) (has p) ∙ (λ j. is_same (is_key j) p || h.seen p fails j) ∙ sym (had-more d n p);
      patterns_are =
          let fresh : added ≡ is_fresh d n = is_added ∙ ap not (ap has is_key ∙ h.seen (pattern_at d n) some)
          ∙ sym (ap (λ b. not b && not (had_below d n (pattern_at d n))) some) in
          more ∙ (λ j. h.patterns_are j + cond (fresh j) 1 0) ∙ sym (patterns-more d n);
      mended_are = sum ∙ (λ j. h.mended_are j + count_is j) ∙ sym (failures-more d n);
      few = omega (arith, sum, count_is, h.few, members-few (failed_at d n));
    }

  -- all stripes
  pub counted-patterns : (n m patterns mended : ℕ) (has : Pattern → Bool) → n ≡ m → CountedBelow d n has patterns mended → patterns ≡ patterns_below d m
  counted-patterns n m patterns mended has all h = h.patterns_are ∙ ap (patterns_below d) all

  pub counted-mended : (n m patterns mended : ℕ) (has : Pattern → Bool) → n ≡ m → CountedBelow d n has patterns mended → mended ≡ failures_below d m
  counted-mended n m patterns mended has all h = h.mended_are ∙ ap (failures_below d) all
