-- The words that a drill is made of, and the digest of bytes.
use Rattle.std.specs.Prelude.{ℕ, zero, suc, ◌+◌, ◌*◌, ◌^◌, ◌%◌, ◌/◌, List, flat_map, take, drop, length}
use Rattle.std.specs.Int.{w64, from_le_bytes, to_le_bytes}
use Rattle.std.specs.List.{range_with_len}
use Rattle.mr_drill.specs.declared.words.TheConstants.{INCREMENT, MULTIPLIER}

-- the word behind x
abbrev pub next_word : ℕ → ℕ
next_word x = (x * MULTIPLIER + INCREMENT) % 2 ^ 64

-- what a generator that holds x holds n words later
unfoldable pub after_words : ℕ → ℕ → ℕ
after_words x zero = x
after_words x (suc n) = next_word (after_words x n)

-- word n, from 0, of a generator that holds x
abbrev pub word_at : ℕ → ℕ → ℕ
word_at x n = after_words x (n + 1)

-- the bytes of its first n words, the lowest byte of each first
abbrev pub bytes_drawn : ℕ → ℕ → List ℕ
bytes_drawn x n = flat_map (λ k. to_le_bytes w64 (word_at x k)) (range_with_len 0 n)

-- ---- digests

-- word k of these bytes, the lowest byte first
abbrev pub word_in : List ℕ → ℕ → ℕ
word_in bytes k = from_le_bytes w64 (take 8 (drop (k * 8) bytes))

-- the digest of the first n words
unfoldable pub digest_of_words : List ℕ → ℕ → ℕ
digest_of_words bytes zero = 0
digest_of_words bytes (suc n) = (digest_of_words bytes n * MULTIPLIER + word_in bytes n) % 2 ^ 64

-- the digest of bytes, by their whole words
abbrev pub digest_of : List ℕ → ℕ
digest_of bytes = digest_of_words bytes (length bytes / 8)
