-- A symbol is put to its place in the bytes of a file: it stands there, and all others stay.
use Rattle.std.proofs.Common.{◌≡◌, ℕ, ◌+◌, ◌<◌, ◌≤◌, ◌⊎◌, List, take, drop, length, sym, subst, ◌∙◌, arith}
use Rattle.std.proofs.lemmas.Slice.{take-put_mid_below}
use Rattle.mr_image.specs.Images.{Layout, stripe_symbols, image_of, place}
use Rattle.mr_image.specs.Heads.{file_bytes}
use Rattle.mr_image.proofs.HeadLaws.{place-within}
use Rattle.mr_image.proofs.Places.{part-here, part-other, places-apart}
use borrow.Rule.Slice.PartMut.{put_mid}

module _ (l : Layout) where
  -- y was put as symbol i of stripe s
  pub record IsPut (s i : ℕ) (y before now : List ℕ) : Type 0 where
    pub there : image_of l now s i ≡ y
    pub others : (t j : ℕ) → j < stripe_symbols l → (t ≡ s → j ≡ i → ⊥) → image_of l now t j ≡ image_of l before t j
    pub front : take 32 now ≡ take 32 before

  pub is_put : (s i at size : ℕ) (y before : List ℕ) → s < l.stripes → i < stripe_symbols l → length before ≡ file_bytes l
      → at ≡ place l s i → size ≡ l.symbol_bytes → length y ≡ size → IsPut s i y before (put_mid at size before y)
  is_put s i at size y before here low long at_is size_is y_long =
      let inside : at + size ≤ length before = omega (arith, place-within l s i here low, at_is, size_is, long) in
      let reach : at ≤ length before = omega arith in
      record {
        there = (λ k. take (sym size_is k) (drop (sym at_is k) (put_mid at size before y))) ∙ part-here at size before y reach y_long;
        others = λ t j low_j differ.
            part-other at size (place l t j) l.symbol_bytes before y reach y_long
            (subst (λ p. (place l t j + l.symbol_bytes ≤ p) ⊎ (p + size ≤ place l t j)) (sym at_is)
            (subst (λ m. (place l t j + l.symbol_bytes ≤ place l s i) ⊎ (place l s i + m ≤ place l t j)) (sym size_is) (places-apart l s i t j low low_j differ)));
        front = take-put_mid_below at size before y 32 (omega (arith, at_is)) reach;
      }
