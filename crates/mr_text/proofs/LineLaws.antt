-- A text cut at a byte: its first piece and what is behind it, and that the pieces fix the text.
use Rattle.std.proofs.Common.{◌≡◌, ℕ, ◌+◌, ◌-◌, ◌<◌, ◌==◌, List, [], ◌∷◌, length, take, drop, Some, None, sym, ap, subst, ◌∙◌, arith}
use Rattle.std.specs.List.{position_or_len, before_first, after_first, join_with_byte}
use Rattle.std.proofs.lemmas.Bool.{false_from_ne_true}
use Rattle.std.proofs.lemmas.List.{take_rest}
use Rattle.std.proofs.lemmas.List.Sums.{fails_before_first, position_or_len_is}
use Rattle.std.proofs.lemmas.List.Splits.{slice_split_none, slice_split_first, length-slice_split, join_with_byte-slice_split}
use Rattle.memchr.specs.Find.{IsFirstByte, is_byte}
use Rattle.mr_text.specs.Lines.{pieces}

-- ---- the place of the first byte, as a search answers it

module _ (at : ℕ) (bytes : List ℕ) where
  pub place-none : IsFirstByte (is_byte at) bytes None → position_or_len (λ b. b == at) bytes ≡ length bytes
  place-none h = position_or_len_is (λ b. b == at) bytes (length bytes) 0 (omega arith)
      (λ k low. false_from_ne_true _ (h k (omega arith) low)) (λ low. absurd (omega arith))

  pub place-some : (k : ℕ) → IsFirstByte (is_byte at) bytes (Some k) → position_or_len (λ b. b == at) bytes ≡ k
  place-some k h = position_or_len_is (λ b. b == at) bytes k 0 (omega (arith, h.0.high))
      (λ j low. false_from_ne_true _ (h.0.before j (omega arith) low)) (λ low. h.1)

  -- what stands behind that place
  pub rest-found : (k : ℕ) → position_or_len (λ b. b == at) bytes ≡ k
      → take (length bytes - (k + 1)) (drop (k + 1) bytes) ≡ after_first (λ b. b == at) bytes
  rest-found k e = take_rest bytes (k + 1) ∙ ap (λ n. drop (n + 1) bytes) (sym e)

  -- ---- the pieces

  pub pieces-one : position_or_len (λ b. b == at) bytes ≡ length bytes → pieces at bytes ≡ bytes ∷ []
  pieces-one e = slice_split_none (λ b. b == at) bytes (λ k d low. fails_before_first (λ b. b == at) bytes k d (omega (arith, e)))

  pub pieces-first : (before after : List ℕ) → position_or_len (λ b. b == at) bytes < length bytes
      → before ≡ before_first (λ b. b == at) bytes → after ≡ after_first (λ b. b == at) bytes → pieces at bytes ≡ before ∷ pieces at after
  pieces-first before after low is_before is_after =
      subst (λ xs. pieces at bytes ≡ xs ∷ pieces at after) (sym is_before)
      (subst (λ ys. pieces at bytes ≡ before_first (λ b. b == at) bytes ∷ pieces at ys) (sym is_after) (slice_split_first (λ b. b == at) bytes 0 low))

  -- there is always a piece
  pub pieces-some : 0 < length (pieces at bytes)
  pieces-some = omega (arith, length-slice_split (λ b. b == at) bytes)

-- the pieces fix the text
pub pieces-same : (at : ℕ) (xs ys : List ℕ) → pieces at xs ≡ pieces at ys → xs ≡ ys
pieces-same at xs ys e = sym (join_with_byte-slice_split at xs) ∙ ap (join_with_byte at) e ∙ join_with_byte-slice_split at ys
