-- Working through the members of a set, upwards: what the kept members and the pivots are before each turn.
use Rattle.std.proofs.Common.{◌≡◌, ℕ, zero, suc, ◌+◌, ◌%◌, ◌^◌, ◌<◌, ◌≤◌, false, List, [], ◌∷◌, ◌++◌, length, get_or, All, fold, bit_or, bit_xor, ⊎_elim, sym, ap, ap₂, subst, ◌∙◌, arith, length-append}
use Rattle.std.specs.Int.{bit_at}
use Rattle.std.specs.Int.Bits.{xor_self}
use Rattle.std.proofs.lemmas.Bool.{cases_eq, false_from_ne_true}
use Rattle.std.proofs.lemmas.Nat.Bits.{bit_at-zero, bit_at_or, bit_at_xor, bit_at-lt, bit_at-pow_same, same_from_bits}
use Rattle.mr_model.specs.Sets.{below}
use Rattle.mr_model.specs.Code.{Code, row, row_sum, has_equation, kept}
use Rattle.mr_model.proofs.SetLaws.{bit_at_cases, bit_at_below_cases, bit_at_pow_cases, below-zero, below-in, below-out, Within, Within-zero, Within-none, within-true, true-within}
use Rattle.mr_model.proofs.SumLaws.{xor-zero, zero-xor, xor-same, xor_twice}
use Rattle.mr_model.proofs.Loops.{IsRest, IsRest-all, IsRest-none, IsTurn}
use Rattle.mr_model.proofs.Kept.{row_sum-none, row_sum-xor, row_sum-single, has_equation-from, has_equation-find, kept-within, kept-in, kept-out}
use Rattle.mr_null.specs.declared.pivots.Pivot.{Pivot}
use Rattle.mr_null.specs.declared.pivots.Combined.{Combined}
use Rattle.mr_null.specs.Elimination.{step, remainder, IsPivot, IsElimination}
use Rattle.mr_null.proofs.EliminationLaws.{fold-remainder, fold-difference, fold-within, remainder-xor, remainder-nil, remainder-append, stepped, stepped-self, stepped-none}

pub none-or : (x : ℕ) → bit_or 0 x ≡ x
none-or x = same_from_bits _ _ (λ i. omega (arith, bit_at_or 0 x i, bit_at-zero i))

module _ (m : Code) where
  -- all members below n are worked through: k are the kept ones of them
  pub record IsProgress (set n rest k : ℕ) (ps : List Pivot) : Type 0 where
    pub to_come : IsRest set n rest
    pub kept_so_far : k ≡ below n (kept m set)
    pub few : length ps ≤ n
    pub elimination : IsElimination m (below n set) k ps

  remainder-none : remainder [] 0 ≡ 0
  remainder-none = remainder-nil 0

  pub IsProgress-start : (set : ℕ) → IsProgress set 0 set 0 []
  IsProgress-start set = record {
    to_come = IsRest-all set;
    kept_so_far = sym (below-zero (kept m set));
    few = omega arith;
    elimination = record {
      pivots_are = λ i d low. absurd (omega (arith, low));
      spans = λ x inside.
          let none : x ≡ 0 = Within-none x (subst (λ y. Within x y) (below-zero set) (true-within x (below 0 set) inside)) in
          ap (remainder []) (ap (row_sum m) none ∙ row_sum-none m) ∙ remainder-none;
    };
  }

  -- ---- one turn

  -- a subset of the members up to t without t is one of those before
  subset-before : (set n t s x : ℕ) → IsTurn set n t s → Within x (below (t + 1) set) → bit_at x t ≡ 0 → Within x (below n set)
  subset-before set n t s x turn inside out i =
      let same = ap (λ v. bit_at v i) turn.joined in
      ⊎_elim
      (λ e. subst (λ j. bit_at x j ≤ bit_at (below n set) j) (sym e) (omega (arith, out)))
      (λ apart. omega (arith, apart, inside i, same, bit_at_xor (below n set) (2 ^ t) i, bit_at_pow_cases t i, bit_at-lt (below n set) i))
      (cases_eq i t)

  -- a subset with t is one of those before, and t
  without : (x t i : ℕ) → bit_at (bit_xor x (2 ^ t)) i ≡ (bit_at x i + bit_at (2 ^ t) i) % 2
  without x t i = bit_at_xor x (2 ^ t) i

  subset-with : (set n t s x : ℕ) → IsTurn set n t s → Within x (below (t + 1) set) → bit_at x t ≡ 1 → Within (bit_xor x (2 ^ t)) (below n set)
  subset-with set n t s x turn inside member i =
      let same = ap (λ v. bit_at v i) turn.joined in
      ⊎_elim
      (λ e. subst (λ j. bit_at (bit_xor x (2 ^ t)) j ≤ bit_at (below n set) j) (sym e) (omega (arith, member, without x t t, bit_at-pow_same t)))
      (λ apart. omega (arith, apart, inside i, same, bit_at_xor (below n set) (2 ^ t) i, bit_at_pow_cases t i, bit_at-lt (below n set) i, bit_at-lt x i, without x t i))
      (cases_eq i t)

  sum-with : (x t : ℕ) → row_sum m x ≡ bit_xor (row_sum m (bit_xor x (2 ^ t))) (row m t)
  sum-with x t =
      let back : bit_xor (bit_xor x (2 ^ t)) (2 ^ t) ≡ x = xor_twice x (2 ^ t) in
      ap (row_sum m) (sym back) ∙ row_sum-xor m (bit_xor x (2 ^ t)) (2 ^ t) ∙ ap (bit_xor (row_sum m (bit_xor x (2 ^ t)))) (row_sum-single m t)

  -- a symbol and its row, before the pivots are used
  abbrev pub marked : ℕ → Combined
  marked t = record { sum = row m t; members = 2 ^ t }

  -- what is left is the sum of the rows that are noted
  rest-sum : (k t : ℕ) (ps : List Pivot) → All (IsPivot m k) ps → row_sum m (fold step (marked t) ps).members ≡ (fold step (marked t) ps).sum
  rest-sum k t ps h = xor-same _ _ (fold-difference m k ps (marked t) h ∙ ap (λ v. bit_xor v (row m t)) (row_sum-single m t) ∙ xor_self (row m t))

  rest-within : (k t : ℕ) (ps : List Pivot) → All (IsPivot m k) ps → Within (bit_xor (fold step (marked t) ps).members (2 ^ t)) k
  rest-within k t ps h = fold-within m k (2 ^ t) ps (marked t) h (subst (λ y. Within y k) (sym (xor_self (2 ^ t))) (Within-zero k))

  IsPivot-more : (k t : ℕ) (p : Pivot) → IsPivot m k p → IsPivot m (bit_or k (2 ^ t)) p
  IsPivot-more k t p h = record {
    sum = h.sum;
    members = within-true _ _ (λ i. omega (arith, true-within p.combined.members k h.members i, bit_at_or k (2 ^ t) i));
    column = h.column;
  }

  -- one more pivot, of one more symbol
  all-append : (k t : ℕ) (ps : List Pivot) → All (IsPivot m k) ps → (p : Pivot) → IsPivot m (bit_or k (2 ^ t)) p → All (IsPivot m (bit_or k (2 ^ t))) (ps ++ p ∷ [])
  all-append k t [] h p q = λ i d low. only i d (omega (arith, low))
    where
      only : (i : ℕ) (d : Pivot) → i < 1 → IsPivot m (bit_or k (2 ^ t)) (get_or (p ∷ []) i d)
      only zero d low = q
      only (suc i) d low = absurd (omega (arith, low))
  all-append k t (r ∷ ps) h p q = each (all-append k t ps (λ i d low. h (suc i) d (omega (arith, low))) p q)
    where
      each : All (IsPivot m (bit_or k (2 ^ t))) (ps ++ p ∷ []) → All (IsPivot m (bit_or k (2 ^ t))) (r ∷ (ps ++ p ∷ []))
      each others = λ i d low. place i d low
        where
          place : (i : ℕ) (d : Pivot) → i < length (r ∷ (ps ++ p ∷ [])) → IsPivot m (bit_or k (2 ^ t)) (get_or (r ∷ (ps ++ p ∷ [])) i d)
          place zero d low = IsPivot-more k t r (h 0 r (omega arith))
          place (suc i) d low = others i d (omega (arith, low))

  -- the kept members before t
  kept-before : (set n t s : ℕ) → IsTurn set n t s → below t (kept m set) ≡ below n (kept m set)
  kept-before set n t s turn = same_from_bits _ _ (λ i.
      let same = ap (λ v. bit_at v i) turn.nothing_between in
      omega (arith, turn.later, same, kept-within m set i, bit_at_below_cases t set i, bit_at_below_cases n set i, bit_at_below_cases t (kept m set) i, bit_at_below_cases n (kept m set) i))

  -- where nothing is left of its row, t is not kept
  pub IsProgress-dropped : (set n t s before k : ℕ) (ps : List Pivot) → IsProgress set n before k ps → IsTurn set n t s
      → (fold step (marked t) ps).sum ≡ 0 → IsProgress set (t + 1) s k ps
  IsProgress-dropped set n t s before k ps h turn none =
      let y : ℕ = bit_xor (fold step (marked t) ps).members (2 ^ t) in
      let inside : Within (bit_xor (fold step (marked t) ps).members (2 ^ t)) k = rest-within k t ps h.elimination.pivots_are in
      let lower : Within (bit_xor (fold step (marked t) ps).members (2 ^ t)) (below t set) = λ i.
      omega (arith, inside i, ap (λ v. bit_at v i) (h.kept_so_far ∙ sym (kept-before set n t s turn)), kept-within m set i, bit_at_below_cases t (kept m set) i, bit_at_below_cases t set i) in
      let sums : row_sum m (bit_xor (fold step (marked t) ps).members (2 ^ t)) ≡ row m t =
      row_sum-xor m (fold step (marked t) ps).members (2 ^ t) ∙ ap₂ bit_xor (rest-sum k t ps h.elimination.pivots_are ∙ none) (row_sum-single m t) ∙ zero-xor (row m t) in
      let out : bit_at (kept m set) t ≡ 0 = kept-out m set t (has_equation-from m (below t set) t (bit_xor (fold step (marked t) ps).members (2 ^ t)) lower sums) in
      record {
        to_come = turn.rest;
        kept_so_far = h.kept_so_far ∙ sym (kept-before set n t s turn) ∙ sym (below-out t (kept m set) out);
        few = omega (arith, h.few, turn.later);
        elimination = record {
          pivots_are = h.elimination.pivots_are;
          spans = λ x within_x. let small = true-within x (below (t + 1) set) within_x in ⊎_elim
              (λ member. ap (remainder ps) (sum-with x t) ∙ remainder-xor ps (row_sum m (bit_xor x (2 ^ t))) (row m t)
              ∙ ap₂ bit_xor (h.elimination.spans (bit_xor x (2 ^ t)) (within-true _ _ (subset-with set n t s x turn small member))) (sym (fold-remainder ps (marked t)) ∙ none)
              ∙ xor-zero 0)
              (λ out_x. h.elimination.spans x (within-true x (below n set) (subset-before set n t s x turn small out_x)))
              (bit_at_cases x t);
        };
      }

  -- where something is left of its row, t is kept, and what is left is a pivot by any of its columns
  pub IsProgress-kept : (set n t s before k column : ℕ) (ps : List Pivot) → IsProgress set n before k ps → IsTurn set n t s
      → ((fold step (marked t) ps).sum ≡ 0 → ⊥) → bit_at (fold step (marked t) ps).sum column ≡ 1
      → IsProgress set (t + 1) s (bit_or k (2 ^ t)) (ps ++ record { column = column; combined = fold step (marked t) ps } ∷ [])
  IsProgress-kept set n t s before k column ps h turn some here =
      let p : Pivot = record { column = column; combined = fold step (marked t) ps } in
      let free : has_equation m (below t set) t ≡ false = false_from_ne_true _ (λ e. let found = has_equation-find m (below t set) t e in
      some (fold-remainder ps (marked t) ∙ ap (remainder ps) (sym found.sums)
      ∙ h.elimination.spans found.set (within-true found.set (below n set) (subst (Within found.set) turn.nothing_between found.inside)))) in
      let member : bit_at (kept m set) t ≡ 1 = kept-in m set t turn.member free in
      let joined : below (t + 1) (kept m set) ≡ bit_or k (2 ^ t) = same_from_bits _ _ (λ i.
      omega (
        arith,
        ap (λ v. bit_at v i) (below-in t (kept m set) member),
        ap (λ v. bit_at v i) (h.kept_so_far ∙ sym (kept-before set n t s turn)),
        bit_at_xor (below t (kept m set)) (2 ^ t) i,
        bit_at_or k (2 ^ t) i,
        bit_at_below_cases t (kept m set) i,
        bit_at_pow_cases t i,
        bit_at-lt (kept m set) i,
      )) in
      record {
        to_come = turn.rest;
        kept_so_far = sym joined;
        few = omega (arith, h.few, turn.later, length-append ps (p ∷ []));
        elimination = record {
          pivots_are = all-append k t ps h.elimination.pivots_are (record { column = column; combined = fold step (marked t) ps }) (record {
            sum = rest-sum k t ps h.elimination.pivots_are;
            members = within-true _ _ (λ i. omega (arith, rest-within k t ps h.elimination.pivots_are i, bit_at_or k (2 ^ t) i, bit_at_xor (fold step (marked t) ps).members (2 ^ t) i, bit_at_pow_cases t i, bit_at-lt (fold step (marked t) ps).members i));
            column = here;
          });
          spans = λ x within_x. let small = true-within x (below (t + 1) set) within_x in
              remainder-append ps (record { column = column; combined = fold step (marked t) ps }) (row_sum m x) ∙ ⊎_elim
              (λ member_x. ap (λ v. stepped v (record { column = column; combined = fold step (marked t) ps }))
              (ap (remainder ps) (sum-with x t) ∙ remainder-xor ps (row_sum m (bit_xor x (2 ^ t))) (row m t)
              ∙ ap₂ bit_xor (h.elimination.spans (bit_xor x (2 ^ t)) (within-true _ _ (subset-with set n t s x turn small member_x))) (sym (fold-remainder ps (marked t)))
              ∙ zero-xor (fold step (marked t) ps).sum)
              ∙ stepped-self (record { column = column; combined = fold step (marked t) ps }) here)
              (λ out_x. ap (λ v. stepped v (record { column = column; combined = fold step (marked t) ps })) (h.elimination.spans x (within-true x (below n set) (subset-before set n t s x turn small out_x)))
              ∙ stepped-none (record { column = column; combined = fold step (marked t) ps }))
              (bit_at_cases x t);
        };
      }

  -- the same two turns, from what the code computed
  pub turn-dropped : (set n t s before k : ℕ) (ps : List Pivot) (c : Combined) → IsProgress set n before k ps → IsTurn set n t s
      → c ≡ fold step (marked t) ps → c.sum ≡ 0 → IsProgress set (t + 1) s k ps
  turn-dropped set n t s before k ps c h turn e none = IsProgress-dropped set n t s before k ps h turn (sym (ap (λ (d : Combined). d.sum) e) ∙ none)

  pub turn-kept : (set n t s before k column : ℕ) (ps : List Pivot) (c : Combined) → IsProgress set n before k ps → IsTurn set n t s
      → c ≡ fold step (marked t) ps → (c.sum ≡ 0 → ⊥) → bit_at c.sum column ≡ 1
      → IsProgress set (t + 1) s (bit_or k (2 ^ t)) (ps ++ record { column = column; combined = c } ∷ [])
  turn-kept set n t s before k column ps c h turn e =
      subst (λ (d : Combined). (d.sum ≡ 0 → ⊥) → bit_at d.sum column ≡ 1 → IsProgress set (t + 1) s (bit_or k (2 ^ t)) (ps ++ record { column = column; combined = d } ∷ []))
      (sym e) (λ some here. IsProgress-kept set n t s before k column ps h turn some here)

  -- at the end
  pub IsProgress-end : (set n rest k : ℕ) (ps : List Pivot) → IsProgress set n rest k ps → rest ≡ 0 → IsElimination m set k ps × (k ≡ kept m set)
  IsProgress-end set n rest k ps h none =
      let all : below n set ≡ set = IsRest-none set n rest h.to_come none in (
        subst (λ a. IsElimination m a k ps) all h.elimination,
        h.kept_so_far ∙ same_from_bits _ _ (λ i. omega (arith, ap (λ v. bit_at v i) all, kept-within m set i, bit_at_below_cases n set i, bit_at_below_cases n (kept m set) i)),
      )
