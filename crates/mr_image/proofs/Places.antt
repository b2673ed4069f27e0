-- Parts of the bytes of a file: a part that is put, the parts beside it, and the places of symbols, which are apart.
use Rattle.std.proofs.Common.{◌≡◌, ℕ, ◌+◌, ◌-◌, ◌*◌, ◌<◌, ◌≤◌, ◌⊎◌, ⊎_elim, inl, inr, List, ◌++◌, take, drop, length, sym, ap, subst, ◌∙◌, arith}
use Rattle.std.proofs.lemmas.Bool.{cases_lt, cases_eq}
use Rattle.std.proofs.lemmas.Nat.{row_fits}
use Rattle.std.proofs.lemmas.Slice.{take-put_mid_below, drop-put_mid}
use Rattle.std.proofs.lemmas.List.{drop-take, take_at, drop_at, length-take-le, length-drop}
use Rattle.mr_image.specs.Images.{Layout, stripe_symbols, place}
use borrow.Rule.Slice.PartMut.{put_mid, post_of}

-- ---- one part of a list

-- the part that was put
pub part-here : (a k : ℕ) (xs ys : List ℕ) → a ≤ length xs → length ys ≡ k → take k (drop a (put_mid a k xs ys)) ≡ ys
part-here a k xs ys low long =
    ap (take k) (drop_at (take a xs) (ys ++ post_of a k xs) a (length-take-le a xs low)) ∙ take_at ys (post_of a k xs) k long

-- a part before it, or behind it
pub part-other : (a k b m : ℕ) (xs ys : List ℕ) → a ≤ length xs → length ys ≡ k → (b + m ≤ a) ⊎ (a + k ≤ b) → take m (drop b (put_mid a k xs ys)) ≡ take m (drop b xs)
part-other a k b m xs ys low long apart = ⊎_elim
    (λ (before : b + m ≤ a). sym (drop-take b m (put_mid a k xs ys)) ∙ ap (drop b) (take-put_mid_below a k xs ys (b + m) before low) ∙ drop-take b m xs)
    (λ (behind : a + k ≤ b). ap (take m) (drop-put_mid a k xs ys b behind low long))
    apart

-- the length of a part, as the code writes it
pub length-part : (at size : ℕ) (xs : List ℕ) → at + size ≤ length xs → length (take (at + size - at) (drop at xs)) ≡ size
length-part at size xs low = omega (arith, length-take-le (at + size - at) (drop at xs) (omega (arith, length-drop at xs)))

-- ---- places

module _ (l : Layout) where
  -- places of two symbols of which the first is before the second
  pub place-before : (s i t j : ℕ) → s * stripe_symbols l + i < t * stripe_symbols l + j → place l s i + l.symbol_bytes ≤ place l t j
  place-before s i t j before =
      let row : (s * stripe_symbols l + i) * l.symbol_bytes + l.symbol_bytes ≤ (t * stripe_symbols l + j) * l.symbol_bytes =
      row_fits (s * stripe_symbols l + i) l.symbol_bytes (t * stripe_symbols l + j) l.symbol_bytes before (omega arith) in
      omega (arith, row)

  -- the symbols of a stripe are before those of a later one
  pub stripe-before : (s i t j : ℕ) → i < stripe_symbols l → s < t → s * stripe_symbols l + i < t * stripe_symbols l + j
  stripe-before s i t j low before =
      let row : s * stripe_symbols l + stripe_symbols l ≤ t * stripe_symbols l = row_fits s (stripe_symbols l) t (stripe_symbols l) before (omega arith) in
      omega (arith, row, low)

  -- symbols of which the stripes or the numbers differ are apart
  pub places-apart : (s i t j : ℕ) → i < stripe_symbols l → j < stripe_symbols l → (t ≡ s → j ≡ i → ⊥)
      → (place l t j + l.symbol_bytes ≤ place l s i) ⊎ (place l s i + l.symbol_bytes ≤ place l t j)
  places-apart s i t j low_i low_j differ = ⊎_elim
      (λ (before : t < s). inl (place-before t j s i (stripe-before t j s i low_j before)))
      (λ (from : s ≤ t). ⊎_elim
      (λ (behind : s < t). inr (place-before s i t j (stripe-before s i t j low_i behind)))
      (λ (to : t ≤ s).
      let same : t ≡ s = omega arith in
      let P : ℕ → Type 0 = λ u. (place l u j + l.symbol_bytes ≤ place l s i) ⊎ (place l s i + l.symbol_bytes ≤ place l u j) in
      subst P (sym same) (⊎_elim
      (λ (less : j < i). inl (place-before s j s i (omega (arith, less))))
      (λ (more : i ≤ j). ⊎_elim
      (λ (equal : j ≡ i). absurd (differ same equal))
      (λ (other : j ≡ i → ⊥). inr (place-before s i s j (omega (arith, more, other))))
      (cases_eq j i))
      (cases_lt j i)))
      (cases_lt s t))
      (cases_lt t s)
