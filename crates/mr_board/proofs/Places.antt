-- Where the right words stand.
use Rattle.std.proofs.Common.{◌≡◌, ℕ, ◌+◌, ◌-◌, ◌*◌, ◌<◌, List, Some, take, drop, length, get_or, sym, refl, ap, ◌∙◌, arith, div-add-mod'}
use Rattle.std.proofs.Math.Nat.{add-mul, mul_assoc}
use Rattle.std.proofs.lemmas.List.{drop-drop, drop-take, take-take}
use Rattle.mr_image.specs.Images.{Layout, IsLayout, image_of}
use Rattle.mr_plan.specs.Plans.{PlanParts}
use Rattle.mr_plan.specs.PlanLists.{ArePlans, recipes_at}
use Rattle.mr_board.specs.Terms.{symbol_words, stripe_words}
use Rattle.mr_board.specs.Rights.{lost_bytes, word_of, word_in, rights_of}
use Rattle.mr_board.specs.Laws.{StandAtPlaces}
use Rattle.mr_board.proofs.RightLaws.{eight-times, lost-level, rights-at}
use Rattle.mr_board.proofs.Sizes.{level-inside}

module _ (l : Layout) (plans : List PlanParts) (bytes : List ℕ) (is : IsLayout l) (are : ArePlans plans) where
  abbrev lost : ℕ → List ℕ
  lost s = lost_bytes l (recipes_at plans) (image_of l bytes) s

  whole : 8 * symbol_words l ≡ l.symbol_bytes
  whole = omega (arith, div-add-mod' l.symbol_bytes 8, is.whole_words)

  place : (s p v : ℕ) → (s * length (recipes_at plans 0) + p) * symbol_words l + v ≡ s * stripe_words l plans + (p * symbol_words l + v)
  unfolding stripe_words
  place s p v =
      let L : ℕ = length (recipes_at plans 0) in
      let k : ℕ = symbol_words l in
      omega (arith, add-mul (s * L) p k, mul_assoc s L k)

  -- the words of a symbol are those behind the levels before
  inner : (s p v : ℕ) → v < symbol_words l
      → word_in (lost s) (p * symbol_words l + v) ≡ word_in (take l.symbol_bytes (drop (p * l.symbol_bytes) (lost s))) v
  inner s p v low =
      let at : p * l.symbol_bytes ≡ 8 * (p * symbol_words l) = ap (λ b. p * b) (sym whole) ∙ eight-times p (symbol_words l) in
      let rest : ℕ = l.symbol_bytes - 8 * v in
      let cut : l.symbol_bytes ≡ 8 * v + rest = omega (arith, whole, low) in
      let sum : 8 * (p * symbol_words l + v) ≡ p * l.symbol_bytes + 8 * v = omega (arith, at) in
      let behind : List ℕ = drop (p * l.symbol_bytes) (lost s) in
      ap word_of (
      ap (λ n. take 8 (drop n (lost s))) sum
      ∙ ap (take 8) (sym (drop-drop (8 * v) (p * l.symbol_bytes) (lost s)))
      ∙ sym (take-take 8 rest (drop (8 * v) behind) (omega (arith, whole, low)))
      ∙ ap (take 8) (sym (drop-take (8 * v) rest behind))
      ∙ ap (λ n. take 8 (drop (8 * v) (take n behind))) (sym cut)
      )

  pub stand-at-places : StandAtPlaces l plans bytes
  stand-at-places = record {
    word = λ s p v low level inside.
        ap (λ n. get_or (rights_of l plans (Some bytes)) n 0) (place s p v)
        ∙ rights-at l plans bytes s (p * symbol_words l + v) low (level-inside l plans p v (symbol_words l) refl level inside)
        ∙ inner s p v inside
        ∙ ap (λ (xs : List ℕ). word_in xs v) (lost-level l plans (image_of l bytes) s p are level);
  }
