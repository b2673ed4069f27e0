-- The lines that are read so far, and that a text is the lines of one list of asks at most.
use Rattle.std.proofs.Common.{◌≡◌, ℕ, suc, ◌+◌, ◌<◌, ◌≤◌, List, [], ◌∷◌, ◌++◌, length, get_or, All, refl, sym, ap, subst, ◌∙◌, arith}
use Rattle.std.proofs.Math.Seq.{get_or-append_seam}
use Rattle.std.proofs.lemmas.Grind.{flat_map-append}
use Rattle.std.proofs.lemmas.List.{append_assoc, append-nil, append_cancel_left, length-append}
use Rattle.std.proofs.lemmas.List.Elements.{All-push}
use Rattle.mr_image.specs.Images.{Layout, IsLayout}
use Rattle.mr_ops.specs.declared.ops.Op.{Op}
use Rattle.mr_ops.specs.Ops.{AreOneOf, BeginsWithNone, HasFirstBadLine, IsOpOf, op_line, ops_text}
use Rattle.mr_ops.proofs.LineLaws.{line-front, next-op-same}

-- ---- the lines so far

module _ (l : Layout) (k : ℕ) (bytes : List ℕ) where
  -- they are those of asks
  pub record IsReading (ops : List Op) (left : List ℕ) : Type 0 where
    pub text : bytes ≡ ops_text ops ++ left
    pub in_range : All (IsOpOf l k) ops
    pub few : length ops + length left ≤ length bytes

  pub reading-start : IsReading [] bytes
  reading-start = record { text = refl; in_range = λ i d low. absurd (omega arith); few = omega arith }

  -- the text of one ask more
  text-more : (ops : List Op) (op : Op) → ops_text ops ++ op_line op ≡ ops_text (ops ++ op ∷ [])
  text-more ops op =
      ap (λ t. ops_text ops ++ t) (sym (append-nil (op_line op)))
      ∙ sym (flat_map-append (λ op. op_line op) ops (op ∷ []))

  pub reading-more : (ops more : List Op) (left rest : List ℕ) (op : Op) → IsReading ops left → left ≡ op_line op ++ rest
      → IsOpOf l k op → length rest < length left → more ≡ ops ++ op ∷ [] → IsReading more rest
  reading-more ops more left rest op h text in_range shorter is = subst (λ xs. IsReading xs rest) (sym is) (record {
    text = h.text ∙ ap (λ t. ops_text ops ++ t) text ∙ sym (append_assoc (ops_text ops) (op_line op) rest) ∙ ap (λ t. t ++ rest) (text-more ops op);
    in_range = All-push (IsOpOf l k) ops op h.in_range in_range;
    few = omega (arith, h.few, shorter, length-append ops (op ∷ []));
  })

  pub reading-end : (ops : List Op) (left : List ℕ) → IsReading ops left → length left ≡ 0 → bytes ≡ ops_text ops
  reading-end ops [] h none = h.text ∙ append-nil (ops_text ops)
  reading-end ops (b ∷ left) h none = absurd (omega (arith, none))

  pub reading-bad : (ops : List Op) (left : List ℕ) (n : ℕ) → IsReading ops left → 0 < length left → n ≡ length ops + 1
      → BeginsWithNone l k left → HasFirstBadLine l k bytes n
  reading-bad ops left n h some number bad =
      record { ops = ops; rest = left; number = number; in_range = h.in_range; parts = h.text; some = some; bad = bad }

-- ---- one list of asks

module _ (l : Layout) (may : IsLayout l) (k : ℕ) where
  -- the lines of these asks begin with others, or go on behind them with the next
  record Continues (before xs : List Op) (rest : List ℕ) : Type 0 where
    next : Op
    tail : List Op
    more : List ℕ
    whole : xs ≡ before ++ next ∷ tail
    text : rest ≡ op_line next ++ more

  longer : (op : Op) (more rest : List ℕ) → [] ≡ (op_line op ++ more) ++ rest → ⊥
  longer op more rest e = omega (arith, ap length e, length-append (op_line op ++ more) rest, (line-front op more).long)

  continues : (before xs : List Op) (rest : List ℕ) → All (IsOpOf l k) before → All (IsOpOf l k) xs → 0 < length rest
      → ops_text xs ≡ ops_text before ++ rest → Continues before xs rest
  continues [] [] rest in_before in_xs some e = absurd (let none = ap length e in omega (arith, none, some))
  continues [] (y ∷ ys) rest in_before in_xs some e = record {
    next = y;
    tail = ys;
    more = ops_text ys;
    whole = refl;
    text = sym e;
  }
  continues (b ∷ before) [] rest in_before in_xs some e = absurd (longer b (ops_text before) rest e)
  continues (b ∷ before) (y ∷ ys) rest in_before in_xs some e =
      let right : op_line y ++ ops_text ys ≡ op_line b ++ (ops_text before ++ rest) = e ∙ append_assoc (op_line b) (ops_text before) rest in
      let same : y ≡ b = next-op-same l may k y b (ops_text ys) (ops_text before ++ rest) (in_xs 0 y (omega arith)) (in_before 0 b (omega arith)) right in
      let behind : ops_text ys ≡ ops_text before ++ rest =
      append_cancel_left (op_line b) (ops_text ys) (ops_text before ++ rest) (ap (λ (a : Op). op_line a ++ ops_text ys) (sym same) ∙ right) in
      let on = continues before ys rest (λ i d low. in_before (suc i) d (omega (arith, low))) (λ i d low. in_xs (suc i) d (omega (arith, low))) some behind in
      record {
        next = on.next;
        tail = on.tail;
        more = on.more;
        whole = (λ j. same j ∷ on.whole j);
        text = on.text;
      }

  same-ops : (xs ys : List Op) → All (IsOpOf l k) xs → All (IsOpOf l k) ys → ops_text xs ≡ ops_text ys → xs ≡ ys
  same-ops [] [] in_xs in_ys e = refl
  same-ops [] (y ∷ ys) in_xs in_ys e = absurd (longer y (ops_text ys) [] (e ∙ sym (append-nil (op_line y ++ ops_text ys))))
  same-ops (x ∷ xs) [] in_xs in_ys e = absurd (longer x (ops_text xs) [] (sym e ∙ sym (append-nil (op_line x ++ ops_text xs))))
  same-ops (x ∷ xs) (y ∷ ys) in_xs in_ys e =
      let first : x ≡ y = next-op-same l may k x y (ops_text xs) (ops_text ys) (in_xs 0 x (omega arith)) (in_ys 0 y (omega arith)) e in
      let behind : ops_text xs ≡ ops_text ys = append_cancel_left (op_line y) (ops_text xs) (ops_text ys) (ap (λ (a : Op). op_line a ++ ops_text xs) (sym first) ∙ e) in
      let rest = same-ops xs ys (λ i d low. in_xs (suc i) d (omega (arith, low))) (λ i d low. in_ys (suc i) d (omega (arith, low))) behind in
      (λ j. first j ∷ rest j)

  not-both : (bytes : List ℕ) (ops : List Op) (n : ℕ) → bytes ≡ ops_text ops → All (IsOpOf l k) ops → HasFirstBadLine l k bytes n → ⊥
  not-both bytes ops n text in_range found =
      let on = continues found.ops ops found.rest found.in_range in_range found.some (sym text ∙ found.parts) in
      let place : length found.ops < length ops = omega (arith, ap length on.whole, length-append found.ops (on.next ∷ on.tail)) in
      let here = in_range (length found.ops) on.next place in
      found.bad on.next on.more (subst (IsOpOf l k) (ap (λ xs. get_or xs (length found.ops) on.next) on.whole ∙ get_or-append_seam found.ops on.next on.tail on.next) here) on.text

pub are-one-of : (l : Layout) → IsLayout l → AreOneOf l
are-one-of l may = record {
  same = λ k xs ys in_xs in_ys e. same-ops l may k xs ys in_xs in_ys e;
  not_both = λ k bytes ops n text in_range found. not-both l may k bytes ops n text in_range found;
}
