-- Sectors one behind the other, and the lines that are read so far.
use Rattle.std.proofs.Common.{◌≡◌, ℕ, ◌+◌, ◌-◌, ◌<◌, ◌≤◌, List, [], ◌∷◌, ◌++◌, length, get_or, ⊎_elim, refl, sym, ap, subst, ◌∙◌, arith}
use Rattle.std.specs.Int.{bit_at}
use Rattle.std.proofs.Math.ListN.{get_or-append}
use Rattle.std.proofs.Math.Seq.{get_or-append_seam}
use Rattle.std.proofs.lemmas.Bool.{cases_lt}
use Rattle.std.proofs.lemmas.Grind.{flat_map-append}
use Rattle.std.proofs.lemmas.List.{append_assoc, append-nil, length-append}
use Rattle.std.proofs.lemmas.List.Elements.{All-push}
use Rattle.mr_image.specs.Images.{Layout, IsLayout}
use Rattle.mr_mend.specs.declared.asks.Ask.{Ask}
use Rattle.mr_mend.specs.Scripts.{IsInRange, ask_line, script_text}
use Rattle.mr_mend.proofs.NextLines.{next-same}
use Rattle.mr_sector.specs.Patterns.{AreFrom}
use Rattle.mr_sector.specs.Sectors.{ComesBefore, AreSectors, HasFirstBadSector}

-- the next stands behind the last of these
abbrev pub StandsBehind : List Ask → Ask → Type 0
StandsBehind sectors next = (d : Ask) → 0 < length sectors → ComesBefore (get_or sectors (length sectors - 1) d) next

module _ (l : Layout) (lost : ℕ) where
  pub sectors-none : AreSectors l lost []
  sectors-none = record { in_range = λ k d low. absurd (omega arith); not_lost = λ k d low. absurd (omega arith); upwards = λ k d low. absurd (omega arith) }

  pub sectors-more : (xs : List Ask) (next : Ask) → AreSectors l lost xs → IsInRange l next → bit_at lost next.symbol ≡ 0 → StandsBehind xs next → AreSectors l lost (xs ++ next ∷ [])
  sectors-more xs next h in_range not_lost behind = record {
    in_range = All-push (IsInRange l) xs next h.in_range in_range;
    not_lost = All-push (λ (sector : Ask). bit_at lost sector.symbol ≡ 0) xs next h.not_lost not_lost;
    upwards = λ k d low. let long : k + 1 < length xs + 1 = omega (arith, low, length-append xs (next ∷ [])) in ⊎_elim
        (λ (here : k + 1 < length xs).
        subst (λ a. ComesBefore a (get_or (xs ++ next ∷ []) (k + 1) d)) (sym (get_or-append xs (next ∷ []) d k (omega (arith, here))))
        (subst (λ b. ComesBefore (get_or xs k d) b) (sym (get_or-append xs (next ∷ []) d (k + 1) here)) (h.upwards k d here)))
        (λ (end_here : length xs ≤ k + 1).
        let same : k + 1 ≡ length xs = omega (arith, end_here, long) in
        let place : length xs - 1 ≡ k = omega (arith, same) in
        subst (λ a. ComesBefore a (get_or (xs ++ next ∷ []) (k + 1) d)) (sym (get_or-append xs (next ∷ []) d k (omega (arith, same))))
        (subst (λ b. ComesBefore (get_or xs k d) b) (sym (ap (λ n. get_or (xs ++ next ∷ []) n d) same ∙ get_or-append_seam xs next [] d))
        (subst (λ n. ComesBefore (get_or xs n d) next) place (behind d (omega (arith, same))))))
        (cases_lt (k + 1) (length xs));
  }

  -- sectors stand upwards by stripe
  pub sectors-from : (xs : List Ask) → AreSectors l lost xs → AreFrom 0 xs
  sectors-from xs h = record { least = λ k d low. omega arith; upwards = λ k d low. (h.upwards k d low).stripe }

  -- what the last of some sectors is
  pub sectors-in_range : (xs : List Ask) (next : Ask) → AreSectors l lost (xs ++ next ∷ []) → IsInRange l next
  sectors-in_range xs next h = subst (IsInRange l) (get_or-append_seam xs next [] next) (h.in_range (length xs) next (omega (arith, length-append xs (next ∷ []))))

  pub sectors-not_lost : (xs : List Ask) (next : Ask) → AreSectors l lost (xs ++ next ∷ []) → bit_at lost next.symbol ≡ 0
  sectors-not_lost xs next h = subst (λ (sector : Ask). bit_at lost sector.symbol ≡ 0) (get_or-append_seam xs next [] next) (h.not_lost (length xs) next (omega (arith, length-append xs (next ∷ []))))

  pub sectors-behind : (xs : List Ask) (next : Ask) → AreSectors l lost (xs ++ next ∷ []) → StandsBehind xs next
  sectors-behind xs next h = λ d some.
      let same : length xs - 1 + 1 ≡ length xs = omega (arith, some) in
      let low : length xs - 1 < length xs = omega (arith, some) in
      subst (λ a. ComesBefore a next) (get_or-append xs (next ∷ []) d (length xs - 1) low)
      (subst (λ b. ComesBefore (get_or (xs ++ next ∷ []) (length xs - 1) d) b) (ap (λ n. get_or (xs ++ next ∷ []) n d) same ∙ get_or-append_seam xs next [] d)
      (h.upwards (length xs - 1) d (omega (arith, same, length-append xs (next ∷ [])))))

  -- the line at the front is that of a read that may not stand here
  pub none-may : (may : IsLayout l) (left rest : List ℕ) (xs : List Ask) (read : Ask) → IsInRange l read → left ≡ ask_line read ++ rest
      → (AreSectors l lost (xs ++ read ∷ []) → ⊥) → (next : Ask) (more : List ℕ) → AreSectors l lost (xs ++ next ∷ []) → left ≡ ask_line next ++ more → ⊥
  none-may may left rest xs read in_range text out next more h other =
      let same : next ≡ read = next-same l may left next read more rest (sectors-in_range xs next h) in_range other text in
      out (subst (λ (a : Ask). AreSectors l lost (xs ++ a ∷ [])) same h)

  -- the lines so far are those of sectors
  pub record IsReading (bytes : List ℕ) (sectors : List Ask) (left : List ℕ) : Type 0 where
    pub text : bytes ≡ script_text sectors ++ left
    pub are : AreSectors l lost sectors
    pub few : length sectors + length left ≤ length bytes

  pub reading-start : (bytes : List ℕ) → IsReading bytes [] bytes
  reading-start bytes = record { text = refl; are = sectors-none; few = omega arith }

  -- the text of one sector more
  script-more : (sectors : List Ask) (next : Ask) → script_text sectors ++ ask_line next ≡ script_text (sectors ++ next ∷ [])
  script-more sectors next =
      ap (λ t. script_text sectors ++ t) (sym (append-nil (ask_line next)))
      ∙ sym (flat_map-append (λ ask. ask_line ask) sectors (next ∷ []))

  pub reading-more : (bytes left rest : List ℕ) (sectors more : List Ask) (next : Ask) → IsReading bytes sectors left → left ≡ ask_line next ++ rest
      → AreSectors l lost (sectors ++ next ∷ []) → length rest < length left → more ≡ sectors ++ next ∷ [] → IsReading bytes more rest
  reading-more bytes left rest sectors more next h text are shorter is = subst (λ xs. IsReading bytes xs rest) (sym is) (record {
    text = h.text ∙ ap (λ t. script_text sectors ++ t) text ∙ sym (append_assoc (script_text sectors) (ask_line next) rest)
        ∙ ap (λ t. t ++ rest) (script-more sectors next);
    are = are;
    few = omega (arith, h.few, shorter, length-append sectors (next ∷ []));
  })

  pub reading-end : (bytes left : List ℕ) (sectors : List Ask) → IsReading bytes sectors left → length left ≡ 0 → bytes ≡ script_text sectors
  reading-end bytes [] sectors h none = h.text ∙ append-nil (script_text sectors)
  reading-end bytes (b ∷ left) sectors h none = absurd (omega (arith, none))

  pub reading-bad : (bytes left : List ℕ) (sectors : List Ask) (n : ℕ) → IsReading bytes sectors left → 0 < length left → n ≡ length sectors + 1
      → ((next : Ask) (more : List ℕ) → AreSectors l lost (sectors ++ next ∷ []) → left ≡ ask_line next ++ more → ⊥) → HasFirstBadSector l lost bytes n
  reading-bad bytes left sectors n h some number bad =
      record { before = sectors; rest = left; number = number; sectors = h.are; parts = h.text; some = some; bad = bad }
