-- What is drawn: so many bytes, and reads that the image has.
use Rattle.std.proofs.Common.{arith, ◌≡◌, ◌∙◌, ◌+◌, ◌*◌, ◌/◌, ◌%◌, ◌<◌, ◌≤◌, ◌^◌, ℕ, zero, suc, List, [], ◌∷◌, ◌++◌, All, flat_map, get_or, length, map, refl, sym, ap, subst, zero-add}
use Rattle.std.proofs.Math.Nat.{suc-mul, zero-mul}
use Rattle.std.specs.Int.{to_le_bytes, w64}
use Rattle.std.specs.List.{range_with_len}
use Rattle.std.proofs.lemmas.List.{length-append}
use Rattle.std.proofs.lemmas.List.FromFn.{get_or-map-range_with_len, length-map-range_with_len}
use Rattle.std.proofs.lemmas.Nat.{mod_below}
use Rattle.mr_drill.specs.Asks.{ask_at}
use Rattle.mr_drill.specs.Words.{word_at}
use Rattle.mr_image.specs.Images.{Layout, stripe_symbols}
use Rattle.mr_mend.specs.Scripts.{IsInRange}
use Rattle.mr_mend.specs.declared.asks.Ask.{Ask}
use Rattle.mr_drill_run.specs.Drills.{bytes_from, reads_from}

-- pieces of m bytes each
pub length-pieces : (f : ℕ → List ℕ) (m a n : ℕ) → ((k : ℕ) → length (f k) ≡ m) → length (flat_map f (range_with_len a n)) ≡ n * m
length-pieces f m a zero each = sym (zero-mul m)
length-pieces f m a (suc n) each =
    length-append (f a) (flat_map f (range_with_len (a + 1) n)) ∙ omega (arith, each a, length-pieces f m (a + 1) n each, suc-mul n m)

-- so many bytes
pub length-bytes_from : (x n : ℕ) → length (bytes_from x n) ≡ n * 8
unfolding bytes_from
length-bytes_from x n = length-pieces (λ k. to_le_bytes w64 (word_at x k)) 8 0 n (λ k. refl)

pub length-reads_from : (x n : ℕ) → length (reads_from x n) ≡ n
unfolding reads_from
length-reads_from x n = length-map-range_with_len (ask_at x) 0 n

ask-inside : (l : Layout) (x k : ℕ) → l.stripes ≡ 64 → stripe_symbols l ≡ 24 → IsInRange l (ask_at x k)
ask-inside l x k stripes symbols = record {
  stripe = omega (arith, stripes, mod_below (word_at x (2 * k) / 2 ^ 32) 64 (omega arith));
  symbol = omega (arith, symbols, mod_below (word_at x (2 * k + 1) / 2 ^ 32) 24 (omega arith));
}

-- of symbols that the image has
pub reads-inside : (l : Layout) (x n : ℕ) → l.stripes ≡ 64 → stripe_symbols l ≡ 24 → All (IsInRange l) (reads_from x n)
unfolding reads_from
reads-inside l x n stripes symbols k d low =
    let few : k < n = omega (arith, low, length-map-range_with_len (ask_at x) 0 n) in
    subst (IsInRange l) (sym (get_or-map-range_with_len (ask_at x) 0 n k k d few (zero-add k))) (ask-inside l x k stripes symbols)
