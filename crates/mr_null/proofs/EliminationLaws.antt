-- Clearing columns by pivots is linear, and it keeps which rows were added. So nothing is left of a sum exactly
-- where it is one of the rows worked through.
use Rattle.std.proofs.Common.{◌≡◌, ℕ, suc, ◌≤◌, ◌==◌, cond, List, [], ◌∷◌, ◌++◌, All, fold, Some, None, bit_xor, ⊎_elim, refl, sym, ap, ap₂, subst, ◌∙◌, arith}
use Rattle.std.specs.Int.{bit_at}
use Rattle.std.specs.Int.Bits.{xor_self}
use Rattle.std.proofs.lemmas.Bool.{cases_eq, eq-eqb, ne_eqb}
use Rattle.std.proofs.lemmas.Nat.Bits.{bit_at-zero, bit_at_xor, bit_at-lt}
use Rattle.mr_model.specs.Code.{Code, row_sum, kept, combination}
use Rattle.mr_model.proofs.SetLaws.{has-true, has-false, bit_at_cases, Within, Within-zero, within-true, true-within}
use Rattle.mr_model.proofs.SumLaws.{xor-zero, zero-xor, xor-swap, pick, pick-xor}
use Rattle.mr_model.proofs.Kept.{row_sum-none, row_sum-xor, combination-is, combination-none}
use Rattle.mr_null.specs.declared.pivots.Pivot.{Pivot}
use Rattle.mr_null.specs.declared.pivots.Combined.{Combined}
use Rattle.mr_null.specs.Elimination.{step, remainder, IsPivot, IsElimination}

-- ---- one step

-- the sum after a step
pub stepped : ℕ → Pivot → ℕ
stepped v p = bit_xor v (pick (bit_at v p.column) p.combined.sum)

step-has : (c : Combined) (p : Pivot) → bit_at c.sum p.column ≡ 1 → step c p ≡ record { sum = bit_xor c.sum p.combined.sum; members = bit_xor c.members p.combined.members }
unfolding step
step-has c p e = ap (λ b. cond b (record { sum = bit_xor c.sum p.combined.sum; members = bit_xor c.members p.combined.members }) c) (has-true c.sum p.column e)

step-lacks : (c : Combined) (p : Pivot) → bit_at c.sum p.column ≡ 0 → step c p ≡ c
unfolding step
step-lacks c p e = ap (λ b. cond b (record { sum = bit_xor c.sum p.combined.sum; members = bit_xor c.members p.combined.members }) c) (has-false c.sum p.column e)

step-sum : (c : Combined) (p : Pivot) → (step c p).sum ≡ stepped c.sum p
unfolding stepped
step-sum c p = ⊎_elim
    (λ e. ap (λ d. d.sum) (step-has c p e) ∙ ap (λ b. bit_xor c.sum (pick b p.combined.sum)) (sym e))
    (λ e. ap (λ d. d.sum) (step-lacks c p e) ∙ sym (xor-zero c.sum) ∙ ap (λ b. bit_xor c.sum (pick b p.combined.sum)) (sym e))
    (bit_at_cases c.sum p.column)

stepped-xor : (v w : ℕ) (p : Pivot) → stepped (bit_xor v w) p ≡ bit_xor (stepped v p) (stepped w p)
unfolding stepped
stepped-xor v w p = ap (bit_xor (bit_xor v w)) (pick-xor v w p.column p.combined.sum) ∙ xor-swap v w (pick (bit_at v p.column) p.combined.sum) (pick (bit_at w p.column) p.combined.sum)

-- ---- all pivots

-- what is left does not depend on the symbols that are noted beside the sum
fold-sum : (ps : List Pivot) (c d : Combined) → c.sum ≡ d.sum → (fold step c ps).sum ≡ (fold step d ps).sum
fold-sum [] c d e = e
fold-sum (p ∷ ps) c d e = fold-sum ps (step c p) (step d p) (step-sum c p ∙ ap (λ v. stepped v p) e ∙ sym (step-sum d p))

pub fold-remainder : (ps : List Pivot) (c : Combined) → (fold step c ps).sum ≡ remainder ps c.sum
unfolding remainder
fold-remainder ps c = fold-sum ps c (record { sum = c.sum; members = 0 }) refl

remainder-cons : (p : Pivot) (ps : List Pivot) (v : ℕ) → remainder (p ∷ ps) v ≡ remainder ps (stepped v p)
unfolding remainder
remainder-cons p ps v = fold-sum ps (step (record { sum = v; members = 0 }) p) (record { sum = stepped v p; members = 0 }) (step-sum (record { sum = v; members = 0 }) p)

pub remainder-nil : (v : ℕ) → remainder [] v ≡ v
unfolding remainder
remainder-nil v = refl

-- what is left is linear in the sum
pub remainder-xor : (ps : List Pivot) (v w : ℕ) → remainder ps (bit_xor v w) ≡ bit_xor (remainder ps v) (remainder ps w)
remainder-xor [] v w = remainder-nil (bit_xor v w) ∙ ap₂ bit_xor (sym (remainder-nil v)) (sym (remainder-nil w))
remainder-xor (p ∷ ps) v w =
    remainder-cons p ps (bit_xor v w) ∙ ap (remainder ps) (stepped-xor v w p) ∙ remainder-xor ps (stepped v p) (stepped w p)
    ∙ ap₂ bit_xor (sym (remainder-cons p ps v)) (sym (remainder-cons p ps w))

-- one more pivot, at the end
pub remainder-append : (ps : List Pivot) (p : Pivot) (v : ℕ) → remainder (ps ++ p ∷ []) v ≡ stepped (remainder ps v) p
remainder-append [] p v = remainder-cons p [] v ∙ remainder-nil (stepped v p) ∙ ap (λ u. stepped u p) (sym (remainder-nil v))
remainder-append (q ∷ ps) p v = remainder-cons q (ps ++ p ∷ []) v ∙ remainder-append ps p (stepped v q) ∙ ap (λ u. stepped u p) (sym (remainder-cons q ps v))

-- a pivot clears itself, and leaves nothing of nothing
pub stepped-self : (p : Pivot) → bit_at p.combined.sum p.column ≡ 1 → stepped p.combined.sum p ≡ 0
unfolding stepped
stepped-self p e = ap (λ b. bit_xor p.combined.sum (pick b p.combined.sum)) e ∙ xor_self p.combined.sum

pub stepped-none : (p : Pivot) → stepped 0 p ≡ 0
unfolding stepped
stepped-none p = ap (λ b. bit_xor 0 (pick b p.combined.sum)) (bit_at-zero p.column) ∙ xor-zero 0

-- a sum beside which no symbol is noted
abbrev pub unmarked : ℕ → Combined
unmarked v = record { sum = v; members = 0 }

-- ---- which rows were added

module _ (m : Code) where
  abbrev Pivots : ℕ → List Pivot → Type 0
  Pivots k ps = All (IsPivot m k) ps

  first-pivot : (k : ℕ) (p : Pivot) (ps : List Pivot) → Pivots k (p ∷ ps) → IsPivot m k p
  first-pivot k p ps h = h 0 p (omega arith)

  other-pivots : (k : ℕ) (p : Pivot) (ps : List Pivot) → Pivots k (p ∷ ps) → Pivots k ps
  other-pivots k p ps h = λ i d low. h (suc i) d (omega (arith, low))

  -- a step keeps how the sum differs from the sum of the rows that are noted
  step-difference : (k : ℕ) (c : Combined) (p : Pivot) → IsPivot m k p → bit_xor (row_sum m (step c p).members) (step c p).sum ≡ bit_xor (row_sum m c.members) c.sum
  step-difference k c p h = ⊎_elim
      (λ e. ap (λ (d : Combined). bit_xor (row_sum m d.members) d.sum) (step-has c p e)
      ∙ ap (λ v. bit_xor v (bit_xor c.sum p.combined.sum)) (row_sum-xor m c.members p.combined.members ∙ ap (bit_xor (row_sum m c.members)) h.sum)
      ∙ xor-swap (row_sum m c.members) p.combined.sum c.sum p.combined.sum
      ∙ ap (bit_xor (bit_xor (row_sum m c.members) c.sum)) (xor_self p.combined.sum) ∙ xor-zero (bit_xor (row_sum m c.members) c.sum))
      (λ e. ap (λ (d : Combined). bit_xor (row_sum m d.members) d.sum) (step-lacks c p e))
      (bit_at_cases c.sum p.column)

  pub fold-difference : (k : ℕ) (ps : List Pivot) (c : Combined) → Pivots k ps → bit_xor (row_sum m (fold step c ps).members) (fold step c ps).sum ≡ bit_xor (row_sum m c.members) c.sum
  fold-difference k [] c h = refl
  fold-difference k (p ∷ ps) c h = fold-difference k ps (step c p) (other-pivots k p ps h) ∙ step-difference k c p (first-pivot k p ps h)

  -- the symbols noted differ from u by symbols of k alone
  step-within : (k u : ℕ) (c : Combined) (p : Pivot) → IsPivot m k p → Within (bit_xor c.members u) k → Within (bit_xor (step c p).members u) k
  step-within k u c p h inside = ⊎_elim
      (λ e. subst (λ (d : Combined). Within (bit_xor d.members u) k) (sym (step-has c p e)) (λ i.
      omega (arith, inside i, true-within p.combined.members k h.members i, bit_at-lt k i, bit_at_xor (bit_xor c.members p.combined.members) u i, bit_at_xor c.members p.combined.members i, bit_at_xor c.members u i)))
      (λ e. subst (λ (d : Combined). Within (bit_xor d.members u) k) (sym (step-lacks c p e)) inside)
      (bit_at_cases c.sum p.column)

  pub fold-within : (k u : ℕ) (ps : List Pivot) (c : Combined) → Pivots k ps → Within (bit_xor c.members u) k → Within (bit_xor (fold step c ps).members u) k
  fold-within k u [] c h inside = inside
  fold-within k u (p ∷ ps) c h inside = fold-within k u ps (step c p) (other-pivots k p ps h) (step-within k u c p (first-pivot k p ps h) inside)

  -- ---- combinations

  combined-none : (a k v : ℕ) (ps : List Pivot) → IsElimination m a k ps → ((fold step (unmarked v) ps).sum ≡ 0 → ⊥) → combination m a v ≡ None
  combined-none a k v ps h apart = combination-none m a v (λ x inside e.
      apart (fold-remainder ps (unmarked v) ∙ ap (remainder ps) (sym e) ∙ h.spans x (within-true x a inside)))

  combined-some : (a k v : ℕ) (ps : List Pivot) → IsElimination m a k ps → k ≡ kept m a → (fold step (unmarked v) ps).sum ≡ 0 → combination m a v ≡ Some (fold step (unmarked v) ps).members
  combined-some a k v ps h is none =
      let inside : Within (bit_xor (fold step (unmarked v) ps).members 0) k = fold-within k 0 ps (unmarked v) h.pivots_are (Within-zero k) in
      combination-is m a v (fold step (unmarked v) ps).members
      (λ i. subst (λ (y : ℕ). bit_at (fold step (unmarked v) ps).members i ≤ bit_at y i) is (subst (λ y. bit_at y i ≤ bit_at k i) (xor-zero (fold step (unmarked v) ps).members) (inside i)))
      (sym (xor-zero (row_sum m (fold step (unmarked v) ps).members)) ∙ ap (bit_xor (row_sum m (fold step (unmarked v) ps).members)) (sym none)
      ∙ fold-difference k ps (unmarked v) h.pivots_are ∙ ap (λ s. bit_xor s v) (row_sum-none m) ∙ zero-xor v)

  -- what is left of a sum, as an answer
  pub combination-reduced : (a k v : ℕ) (ps : List Pivot) (c : Combined) → IsElimination m a k ps → k ≡ kept m a → c ≡ fold step (unmarked v) ps
      → cond (c.sum == 0) (Some c.members) None ≡ combination m a v
  combination-reduced a k v ps c h is e = ap (λ (d : Combined). cond (d.sum == 0) (Some d.members) None) e ∙ ⊎_elim
      (λ none. ap (λ b. cond b (Some (fold step (unmarked v) ps).members) None) (eq-eqb _ _ none) ∙ sym (combined-some a k v ps h is none))
      (λ apart. ap (λ b. cond b (Some (fold step (unmarked v) ps).members) None) (ne_eqb _ _ apart) ∙ sym (combined-none a k v ps h apart))
      (cases_eq (fold step (unmarked v) ps).sum 0)
