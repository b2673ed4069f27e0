-- The bytes of a symbol, copied word by word.
use Rattle.std.proofs.Common.{◌≡◌, ℕ, ◌+◌, ◌*◌, ◌^◌, ◌<◌, List, ◌++◌, Some, take, drop, length, get_or, sym, ap, subst, ◌∙◌, arith}
use Rattle.std.specs.Int.{w64, to_le_bytes}
use Rattle.std.proofs.Math.Seq.{take-add}
use Rattle.std.proofs.lemmas.List.{take_all, drop-drop}
use Rattle.mr_image.specs.Images.{Layout, image_of, mended}
use Rattle.mr_plan.specs.Plans.{PlanParts}
use Rattle.mr_plan.specs.PlanLists.{ArePlans, recipes_at, symbols_of}
use Rattle.mr_board.specs.Terms.{BoardTerms, stripes_of, words_of, symbol_words}
use Rattle.mr_board.specs.Rights.{lost_bytes, terms_for, IsRight}
use Rattle.mr_board.proofs.RightLaws.{eight-times, lost-level, right-spells}

module _ (terms : BoardTerms) (are : ArePlans terms.plans) (whole : 8 * symbol_words terms.head ≡ terms.head.symbol_bytes)
    (l : Layout) (plans : List PlanParts) (bytes : List ℕ) (e : terms ≡ terms_for l plans (Some bytes)) (s : ℕ) where
  abbrev lost : List ℕ
  lost = lost_bytes l (recipes_at plans) (image_of l bytes) s

  -- one word more
  pub copied-more : (first n word : ℕ) (before now : List ℕ) → s < stripes_of terms → first + n < words_of terms → word < 2 ^ 64
      → IsRight terms s (first + n) word → take (8 * n + 8) now ≡ take (8 * n) before ++ to_le_bytes w64 word
      → take (8 * n) before ≡ take (8 * n) (drop (8 * first) lost) → take (8 * (n + 1)) now ≡ take (8 * (n + 1)) (drop (8 * first) lost)
  copied-more first n word before now low inside fits right put old =
      let next : 8 * (n + 1) ≡ 8 * n + 8 = omega arith in
      let place : 8 * (first + n) ≡ 8 * first + 8 * n = omega arith in
      let spelled : to_le_bytes w64 word ≡ take 8 (drop (8 * (first + n)) lost) =
      right-spells l plans bytes s (first + n) word
      (subst (λ (t : BoardTerms). ArePlans t.plans) e are)
      (subst (λ (t : BoardTerms). 8 * symbol_words t.head ≡ t.head.symbol_bytes) e whole)
      (subst (λ (t : BoardTerms). s < stripes_of t) e low)
      (subst (λ (t : BoardTerms). first + n < words_of t) e inside) fits
      (subst (λ (t : BoardTerms). IsRight t s (first + n) word) e right) in
      ap (λ k. take k now) next
      ∙ put
      ∙ ap (λ xs. xs ++ to_le_bytes w64 word) old
      ∙ ap (λ ys. take (8 * n) (drop (8 * first) lost) ++ ys)
      (spelled ∙ ap (λ k. take 8 (drop k lost)) place ∙ ap (take 8) (sym (drop-drop (8 * n) (8 * first) lost)))
      ∙ sym (take-add (8 * n) 8 (drop (8 * first) lost))
      ∙ ap (λ k. take k (drop (8 * first) lost)) (sym next)

  -- all words of a level
  pub copied-all : (level symbol first n : ℕ) (now : List ℕ) → level < length (recipes_at terms.plans 0) → symbol ≡ symbol_words terms.head
      → first ≡ level * symbol → n ≡ symbol → length now ≡ terms.head.symbol_bytes
      → take (8 * n) now ≡ take (8 * n) (drop (8 * first) lost)
      → now ≡ mended l (recipes_at plans) (image_of l bytes) s (get_or (symbols_of (recipes_at plans 0)) level 0)
  copied-all level symbol first n now low is start all size copied =
      let head : terms.head.symbol_bytes ≡ l.symbol_bytes = ap (λ (t : BoardTerms). t.head.symbol_bytes) e in
      let behind : 8 * n ≡ l.symbol_bytes = omega (arith, all, is, whole, head) in
      let eight : 8 * symbol ≡ l.symbol_bytes = omega (arith, is, whole, head) in
      let place : 8 * first ≡ level * l.symbol_bytes = ap (λ k. 8 * k) start ∙ sym (eight-times level symbol) ∙ ap (λ k. level * k) eight in
      sym (take_all (8 * n) now (omega (arith, behind, size, head)))
      ∙ copied
      ∙ ap (λ k. take k (drop (8 * first) lost)) behind
      ∙ ap (λ k. take l.symbol_bytes (drop k lost)) place
      ∙ lost-level l plans (image_of l bytes) s level
      (subst (λ (t : BoardTerms). ArePlans t.plans) e are)
      (subst (λ (t : BoardTerms). level < length (recipes_at t.plans 0)) e low)
