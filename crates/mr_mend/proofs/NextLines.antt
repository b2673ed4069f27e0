-- The line at the front of bytes, as a text: which read it spells, and that it spells none.
use Rattle.std.proofs.Common.{◌≡◌, ℕ, ◌<◌, ◌==◌, List, [], ◌∷◌, ◌++◌, length, get_or, Option, Some, None, sym, ap, ◌∙◌, arith, eqb-true}
use Rattle.std.specs.List.{position_or_len, before_first, after_first}
use Rattle.std.proofs.lemmas.List.{append_assoc}
use Rattle.std.proofs.lemmas.List.Sums.{split_at_first, passes_at_first}
use Rattle.mr_text.specs.Lines.{pieces}
use Rattle.mr_text.proofs.LineLaws.{pieces-some}
use Rattle.mr_image.specs.Images.{Layout, IsLayout}
use Rattle.mr_mend.specs.declared.asks.Ask.{Ask}
use Rattle.mr_mend.specs.Scripts.{IsInRange, ask_of, ask_text, ask_line}
use Rattle.mr_mend.proofs.ScriptTexts.{ask-printed, pieces-printed, line-spelled}

module _ (l : Layout) (left : List ℕ) where
  module _ (may : IsLayout l) (ask : Ask) (more : List ℕ) (in_range : IsInRange l ask) (text : left ≡ ask_line ask ++ more) where
    lines-of : pieces 10 left ≡ ask_text ask ∷ pieces 10 more
    lines-of = ap (pieces 10) text ∙ pieces-printed l may ask in_range more

    -- bytes without a line feed begin with no line
    pub next-unended : pieces 10 left ≡ left ∷ [] → ⊥
    next-unended alone =
        let count : length (ask_text ask ∷ pieces 10 more) ≡ length (left ∷ []) = ap length (sym lines-of ∙ alone) in
        omega (arith, count, pieces-some 10 more)

    -- a line that spells no read is the line of none
    pub next-none : (line rest : List ℕ) → pieces 10 left ≡ line ∷ pieces 10 rest → ask_of l line ≡ None → ⊥
    next-none line rest is none =
        let same : line ∷ pieces 10 rest ≡ ask_text ask ∷ pieces 10 more = sym is ∙ lines-of in
        let first : line ≡ ask_text ask = cc in
        let spelled : ask_of l line ≡ Some ask = ap (ask_of l) first ∙ ask-printed l may ask in_range in
        let both : ◌≡◌ {A = Option Ask} None (Some ask) = sym none ∙ spelled in
        cc

  -- the line at the front is the line of the read that it spells
  pub next-text : (line rest : List ℕ) (ask : Ask) → position_or_len (λ b. b == 10) left < length left
      → line ≡ before_first (λ b. b == 10) left → rest ≡ after_first (λ b. b == 10) left
      → ask_of l line ≡ Some ask → left ≡ ask_line ask ++ rest
  next-text line rest ask here is_line is_rest spelled =
      let feed : get_or left (position_or_len (λ b. b == 10) left) 0 ≡ 10 = eqb-true _ _ (passes_at_first (λ b. b == 10) left 0 here) in
      let first : before_first (λ b. b == 10) left ≡ ask_text ask = sym is_line ∙ line-spelled l line ask spelled in
      split_at_first (λ b. b == 10) left 0 here
      ∙ (λ j. first j ++ (feed j ∷ sym is_rest j))
      ∙ sym (append_assoc (ask_text ask) (10 ∷ []) rest)

-- bytes begin with the line of one read at most
pub next-same : (l : Layout) (may : IsLayout l) (left : List ℕ) (a b : Ask) (x y : List ℕ) → IsInRange l a → IsInRange l b
    → left ≡ ask_line a ++ x → left ≡ ask_line b ++ y → a ≡ b
next-same l may left a b x y in_a in_b text_a text_b =
    let same : ask_text a ∷ pieces 10 x ≡ ask_text b ∷ pieces 10 y = sym (lines-of l left may a x in_a text_a) ∙ lines-of l left may b y in_b text_b in
    let first : ask_text a ≡ ask_text b = cc in
    let both : Some a ≡ Some b = sym (ask-printed l may a in_a) ∙ ap (ask_of l) first ∙ ask-printed l may b in_b in
    cc
