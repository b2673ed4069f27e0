-- A text is the lines of sectors, or has a first line that is not of its form, and never both.
use Rattle.std.proofs.Common.{◌≡◌, ℕ, suc, ◌+◌, ◌<◌, List, [], ◌∷◌, ◌++◌, length, get_or, All, codes, refl, sym, ap, subst, ◌∙◌, arith}
use Rattle.std.proofs.Math.ListN.{get_or-append}
use Rattle.std.proofs.lemmas.List.{append_assoc, append_cancel_left, length-append}
use Rattle.std.specs.Int.{bit_at}
use Rattle.mr_image.specs.Images.{Layout, IsLayout}
use Rattle.mr_mend.specs.declared.asks.Ask.{Ask}
use Rattle.mr_mend.specs.Scripts.{IsInRange, ask_line, ask_text, script_text}
use Rattle.mr_mend.proofs.NextLines.{next-same}
use Rattle.mr_sector.specs.Sectors.{ComesBefore, AreSectors, HasFirstBadSector, IsOneOf}

module _ (l : Layout) (may : IsLayout l) where
  -- what stands behind the first of some sectors' lines begins with the line of the next
  record Continues (before xs : List Ask) (rest : List ℕ) : Type 0 where
    next : Ask
    tail : List Ask
    more : List ℕ
    whole : xs ≡ before ++ next ∷ tail
    text : rest ≡ ask_line next ++ more

  longer : (b : Ask) (bs : List Ask) (rest : List ℕ) → 0 < length (script_text (b ∷ bs) ++ rest)
  longer b bs rest = omega (
    arith,
    length-append (script_text (b ∷ bs)) rest,
    length-append (ask_line b) (script_text bs),
    length-append (ask_text b) (codes "\n"),
  )

  continues : (before xs : List Ask) (rest : List ℕ) → All (IsInRange l) before → All (IsInRange l) xs → 0 < length rest
      → script_text xs ≡ script_text before ++ rest → Continues before xs rest
  continues [] [] rest in_before in_xs some e = absurd (let none = ap length e in omega (arith, none, some))
  continues [] (y ∷ ys) rest in_before in_xs some e = record {
    next = y;
    tail = ys;
    more = script_text ys;
    whole = refl;
    text = sym e;
  }
  continues (b ∷ before) [] rest in_before in_xs some e = absurd (let none = ap length e in omega (arith, none, longer b before rest))
  continues (b ∷ before) (y ∷ ys) rest in_before in_xs some e =
      let right : script_text (y ∷ ys) ≡ ask_line b ++ (script_text before ++ rest) = e ∙ append_assoc (ask_line b) (script_text before) rest in
      let same : y ≡ b = next-same l may (script_text (y ∷ ys)) y b (script_text ys) (script_text before ++ rest) (in_xs 0 y (omega arith)) (in_before 0 b (omega arith)) refl right in
      let behind : script_text ys ≡ script_text before ++ rest =
      append_cancel_left (ask_line b) (script_text ys) (script_text before ++ rest) (ap (λ (a : Ask). ask_line a ++ script_text ys) (sym same) ∙ right) in
      let rest_of = continues before ys rest (λ k d low. in_before (suc k) d (omega (arith, low))) (λ k d low. in_xs (suc k) d (omega (arith, low))) some behind in
      record {
        next = rest_of.next;
        tail = rest_of.tail;
        more = rest_of.more;
        whole = (λ j. same j ∷ rest_of.whole j);
        text = rest_of.text;
      }

  -- the first of some sectors are sectors
  pub sectors-front : (lost : ℕ) (xs ys : List Ask) → AreSectors l lost (xs ++ ys) → AreSectors l lost xs
  sectors-front lost xs ys h = record {
    in_range = λ k d low. subst (IsInRange l) (get_or-append xs ys d k low) (h.in_range k d (omega (arith, low, length-append xs ys)));
    not_lost = λ k d low. subst (λ (sector : Ask). bit_at lost sector.symbol ≡ 0) (get_or-append xs ys d k low) (h.not_lost k d (omega (arith, low, length-append xs ys)));
    upwards = λ k d low.
        subst (λ a. ComesBefore a (get_or xs (k + 1) d)) (get_or-append xs ys d k (omega (arith, low)))
        (subst (λ b. ComesBefore (get_or (xs ++ ys) k d) b) (get_or-append xs ys d (k + 1) low) (h.upwards k d (omega (arith, low, length-append xs ys))));
  }

  not-both : (lost n : ℕ) (bytes : List ℕ) (xs : List Ask) → bytes ≡ script_text xs → AreSectors l lost xs → HasFirstBadSector l lost bytes n → ⊥
  not-both lost n bytes xs text are found =
      let on = continues found.before xs found.rest found.sectors.in_range are.in_range found.some (sym text ∙ found.parts) in
      let split : xs ≡ (found.before ++ on.next ∷ []) ++ on.tail = on.whole ∙ sym (append_assoc found.before (on.next ∷ []) on.tail) in
      found.bad on.next on.more (sectors-front lost (found.before ++ on.next ∷ []) on.tail (subst (AreSectors l lost) split are)) on.text

pub is-one-of : (l : Layout) → IsLayout l → (lost : ℕ) → IsOneOf l lost
is-one-of l may lost = record { not_both = λ bytes sectors n text are found. not-both l may lost n bytes sectors text are found }
