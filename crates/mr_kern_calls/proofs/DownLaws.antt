-- A list that was XORed with another from its end down to some place.
use Rattle.std.proofs.Common.{◌≡◌, refl, sym, ap, ◌∙◌, ℕ, zero, suc, ◌+◌, ◌-◌, ◌<◌, List, [], ◌∷◌, ◌++◌, take, drop, length, get_or, set, bit_xor, arith}
use Rattle.mr_kern.specs.Xor.{xor_bytes}

-- a, of which the bytes from n on were XORed with those of b
abbrev pub xored_from : ℕ → List ℕ → List ℕ → List ℕ
xored_from n a b = take n a ++ xor_bytes (drop n a) (drop n b)

-- one byte more
pub xored_from-byte : (n : ℕ) (a b : List ℕ) → n < length a → length a ≡ length b
    → set (xored_from (suc n) a b) n (bit_xor (get_or (xored_from (suc n) a b) n 0) (get_or b n 0)) ≡ xored_from n a b
xored_from-byte n [] b h e = absurd (omega arith)
xored_from-byte n (x ∷ a) [] h e = absurd (omega arith)
xored_from-byte zero (x ∷ a) (y ∷ b) h e = refl
xored_from-byte (suc n) (x ∷ a) (y ∷ b) h e = ap (λ t. x ∷ t) (xored_from-byte n a b (omega arith) (omega arith))

-- none
pub xored_from-none : (a b : List ℕ) → length a ≡ length b → xored_from (length a) a b ≡ a
xored_from-none [] [] e = refl
xored_from-none [] (y ∷ b) e = absurd (omega arith)
xored_from-none (x ∷ a) [] e = absurd (omega arith)
xored_from-none (x ∷ a) (y ∷ b) e = ap (λ t. x ∷ t) (xored_from-none a b (omega arith))

module _ (a b : List ℕ) (long : length a ≡ 64) (same : length a ≡ length b) where
  -- what a loop holds at first
  pub downwards-begins : a ≡ xored_from 64 a b
  downwards-begins = sym (xored_from-none a b same) ∙ ap (λ n. xored_from n a b) long

  -- and after a turn
  pub downwards-turn : (done : ℕ) (now : List ℕ) → now ≡ xored_from (64 - done) a b → done < 64
      → set now (63 - done) (bit_xor (get_or now (63 - done) 0) (get_or b (63 - done) 0)) ≡ xored_from (64 - (done + 1)) a b
  downwards-turn done now is h =
      let at : 64 - done ≡ suc (63 - done) = omega arith in
      let next : 64 - (done + 1) ≡ 63 - done = omega arith in
      let held : now ≡ xored_from (suc (63 - done)) a b = is ∙ ap (λ n. xored_from n a b) at in
      (λ j. set (held j) (63 - done) (bit_xor (get_or (held j) (63 - done) 0) (get_or b (63 - done) 0)))
      ∙ xored_from-byte (63 - done) a b (omega arith) same
      ∙ ap (λ n. xored_from n a b) (sym next)
