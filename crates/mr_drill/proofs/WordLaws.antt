-- Words that are drawn one after another.
use Rattle.std.proofs.Common.{◌≡◌, ℕ, zero, suc, ◌+◌, ◌*◌, ◌^◌, ◌%◌, ◌/◌, List, [], ◌∷◌, ◌++◌, ◌≤◌, length, refl, sym, ap, ◌∙◌, arith, add-zero, zero-add}
use Rattle.std.proofs.lemmas.List.FromFn.{map-range_with_len_more}
use Rattle.mr_mend.specs.declared.asks.Ask.{Ask}
use Rattle.std.specs.Int.{to_le_bytes, w64}
use borrow.Rule.Slice.PartMut.{put_mid}
use Rattle.mr_encode.proofs.FrontLaws.{HasFront, front-write}
use Rattle.mr_drill.specs.Words.{after_words, digest_of_words, next_word, word_at, word_in}
use Rattle.mr_drill.specs.Asks.{ask_at, asks_drawn}
use Rattle.mr_drill.specs.declared.asks.TheConstants.{STRIPES, SYMBOLS}
use Rattle.mr_drill.specs.declared.words.TheConstants.{MULTIPLIER}

pub after-none : (x : ℕ) → after_words x 0 ≡ x
unfolding after_words
after-none x = refl

-- one word more
pub after-more : (x n : ℕ) → after_words x (n + 1) ≡ next_word (after_words x n)
unfolding after_words
after-more x n = let next : n + 1 ≡ suc n = omega arith in ap (after_words x) next

-- m words more
pub after-add : (x n m : ℕ) → after_words (after_words x n) m ≡ after_words x (n + m)
after-add x n zero = after-none (after_words x n) ∙ ap (after_words x) (sym (add-zero n))
after-add x n (suc m) =
    let inner : suc m ≡ m + 1 = omega arith in
    let whole : n + m + 1 ≡ n + suc m = omega arith in
    ap (after_words (after_words x n)) inner
    ∙ after-more (after_words x n) m
    ∙ ap next_word (after-add x n m)
    ∙ sym (after-more x (n + m))
    ∙ ap (after_words x) whole

-- the digest of one word more
pub digest-none : (bytes : List ℕ) → digest_of_words bytes 0 ≡ 0
unfolding digest_of_words
digest-none bytes = refl

pub digest-more : (bytes : List ℕ) (n : ℕ) → digest_of_words bytes (n + 1) ≡ (digest_of_words bytes n * MULTIPLIER + word_in bytes n) % 2 ^ 64
unfolding digest_of_words
digest-more bytes n = let next : n + 1 ≡ suc n = omega arith in ap (digest_of_words bytes) next

-- an ask of a generator that has drawn two words for each of n asks
pub ask-later : (x g n : ℕ) → g ≡ after_words x (2 * n) → ask_at g 0 ≡ ask_at x n
ask-later x g n e =
    let first : 2 * n + 1 ≡ 2 * n + 1 = refl in
    let second : 2 * n + 2 ≡ 2 * n + 1 + 1 = omega arith in
    ap (λ h. ask_at h 0) e
    ∙ (λ j. record {
      stripe = after-add x (2 * n) 1 j / 2 ^ 32 % STRIPES;
      symbol = (after-add x (2 * n) 2 ∙ ap (after_words x) second) j / 2 ^ 32 % SYMBOLS;
    })

-- so the asks are drawn one after another
pub asks-more : (x g n : ℕ) (asks more : List Ask) (ask : Ask) → asks ≡ asks_drawn x n → g ≡ after_words x (2 * n) → ask ≡ ask_at g 0 → more ≡ asks ++ ask ∷ []
    → more ≡ asks_drawn x (n + 1)
asks-more x g n asks more ask before e is made =
    made
    ∙ (λ j. before j ++ (is ∙ ask-later x g n e) j ∷ [])
    ∙ sym (map-range_with_len_more (ask_at x) 0 n n (zero-add n))

-- ---- bytes that are filled

-- a sum may be cut to 64 bits before its last term is added
pub cut-sum : (a b : ℕ) → (a % 18446744073709551616 + b) % 18446744073709551616 ≡ (a + b) % 18446744073709551616
cut-sum a b = omega arith

-- the bytes of a generator that holds x
abbrev pub drawn_word : ℕ → ℕ → List ℕ
drawn_word x k = to_le_bytes w64 (word_at x k)

-- one word more is written: `at` is how n is written
pub fill-more : (x g w n at k : ℕ) (bytes piece : List ℕ) → HasFront (drawn_word x) 8 0 n bytes → g ≡ after_words x n → w ≡ next_word g → at ≡ n
    → n * 8 ≤ length bytes → piece ≡ to_le_bytes w64 w → HasFront (drawn_word x) 8 0 (n + 1) (put_mid (at * 8) k bytes piece)
fill-more x g w n at k bytes piece before last is e room made =
    let drawn : w ≡ word_at x n = is ∙ ap next_word last ∙ sym (after-more x n) in
    let same : piece ≡ drawn_word x (0 + n) = made ∙ ap (to_le_bytes w64) drawn ∙ ap (drawn_word x) (sym (zero-add n)) in
    front-write (drawn_word x) 8 0 n at k bytes piece before e room (ap length same ∙ refl) same
