-- Totals that stand between two bounds.
use Rattle.std.proofs.Common.{arith, ℕ, ◌+◌, ◌≤◌, subst}
use Rattle.mr_io.specs.Counts.{counted}
use Rattle.mr_io.specs.declared.duty.Duty.{Duty}
use Rattle.mr_io.specs.declared.duty.Duty.TheVariants.{Text, Head, Mend, Live, Copy}
use Rattle.mr_io.specs.declared.totals.Totals.{Totals}
use Rattle.mr_io.specs.Growth.{GrewWithin, TakesWithin, added, bytes_of, grown, no_bytes}
use Rattle.mr_io.proofs.Growth.{grown-grown}

least-more : (t u v a b : ℕ) → counted t a ≤ u → counted u b ≤ v → counted t (a + b) ≤ v
least-more t u v a b h k = omega arith

most-more : (t u v a b : ℕ) → u ≤ counted t a → v ≤ counted u b → v ≤ counted t (a + b)
most-more t u v a b h k = omega arith

-- One after another.
pub within-more : (t u v a b c d : Totals) → GrewWithin t u a b → GrewWithin u v c d → GrewWithin t v (added a c) (added b d)
within-more t u v a b c d h k = record {
  text_least = least-more _ _ _ _ _ h.text_least k.text_least;
  text_most = most-more _ _ _ _ _ h.text_most k.text_most;
  head_least = least-more _ _ _ _ _ h.head_least k.head_least;
  head_most = most-more _ _ _ _ _ h.head_most k.head_most;
  mend_least = least-more _ _ _ _ _ h.mend_least k.mend_least;
  mend_most = most-more _ _ _ _ _ h.mend_most k.mend_most;
  live_least = least-more _ _ _ _ _ h.live_least k.live_least;
  live_most = most-more _ _ _ _ _ h.live_most k.live_most;
  copy_least = least-more _ _ _ _ _ h.copy_least k.copy_least;
  copy_most = most-more _ _ _ _ _ h.copy_most k.copy_most;
}

none-least : (x : ℕ) → counted x 0 ≤ counted x 0
none-least x = omega arith

-- Where nothing is taken.
pub within-none : TakesWithin no_bytes no_bytes no_bytes
within-none t = record {
  text_least = none-least _;
  text_most = none-least _;
  head_least = none-least _;
  head_most = none-least _;
  mend_least = none-least _;
  mend_most = none-least _;
  live_least = none-least _;
  live_most = none-least _;
  copy_least = none-least _;
  copy_most = none-least _;
}

one-least : (x a n : ℕ) → counted 0 a ≤ n → counted x a ≤ counted x n
one-least x a n h = omega arith

one-most : (x b n : ℕ) → n ≤ counted 0 b → counted x n ≤ counted x b
one-most x b n h = omega arith

-- One eye.
pub within-one : (duty : Duty) (n a b : ℕ) → counted 0 a ≤ n → n ≤ counted 0 b → TakesWithin (bytes_of duty n) (bytes_of duty a) (bytes_of duty b)
within-one Text n a b h k t = record {
  text_least = one-least _ a n h;
  text_most = one-most _ b n k;
  head_least = none-least _;
  head_most = none-least _;
  mend_least = none-least _;
  mend_most = none-least _;
  live_least = none-least _;
  live_most = none-least _;
  copy_least = none-least _;
  copy_most = none-least _;
}
within-one Head n a b h k t = record {
  text_least = none-least _;
  text_most = none-least _;
  head_least = one-least _ a n h;
  head_most = one-most _ b n k;
  mend_least = none-least _;
  mend_most = none-least _;
  live_least = none-least _;
  live_most = none-least _;
  copy_least = none-least _;
  copy_most = none-least _;
}
within-one Mend n a b h k t = record {
  text_least = none-least _;
  text_most = none-least _;
  head_least = none-least _;
  head_most = none-least _;
  mend_least = one-least _ a n h;
  mend_most = one-most _ b n k;
  live_least = none-least _;
  live_most = none-least _;
  copy_least = none-least _;
  copy_most = none-least _;
}
within-one Live n a b h k t = record {
  text_least = none-least _;
  text_most = none-least _;
  head_least = none-least _;
  head_most = none-least _;
  mend_least = none-least _;
  mend_most = none-least _;
  live_least = one-least _ a n h;
  live_most = one-most _ b n k;
  copy_least = none-least _;
  copy_most = none-least _;
}
within-one Copy n a b h k t = record {
  text_least = none-least _;
  text_most = none-least _;
  head_least = none-least _;
  head_most = none-least _;
  mend_least = none-least _;
  mend_most = none-least _;
  live_least = none-least _;
  live_most = none-least _;
  copy_least = one-least _ a n h;
  copy_most = one-most _ b n k;
}

-- The first of several eyes.
pub takes-more : (taken more a b c d : Totals) → TakesWithin taken a b → TakesWithin more c d → TakesWithin (added taken more) (added a c) (added b d)
takes-more taken more a b c d h k t =
    subst (λ v. GrewWithin t v (added a c) (added b d)) (grown-grown t taken more)
    (within-more t (grown t taken) (grown (grown t taken) more) a b c d (h t) (k (grown t taken)))
