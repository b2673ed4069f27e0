-- The symbols of lost devices, and those that survive.
use Rattle.std.proofs.Common.{arith, ◌≡◌, ◌∙◌, ◌+◌, ◌-◌, ◌/◌, ◌<◌, ◌^◌, ℕ, Bool, true, false, length, sym, ap, subst, bit_or, ◌⊎◌, inl, inr, ⊎_elim}
use Rattle.std.specs.Int.{bit_at}
use Rattle.std.proofs.lemmas.Nat.Bits.{bit_at-lt, bit_at_or, bit_at_xor, bit_at-pow_same}
use Rattle.std.proofs.lemmas.Bool.{both_ways}
use Rattle.std.proofs.lemmas.Nat.{pow_pos}
use Rattle.mr_model.specs.Sets.{has, below, filter_members}
use Rattle.mr_model.specs.Code.{Code}
use Rattle.mr_model.specs.Members.{TakesLeast}
use Rattle.mr_model.proofs.Finding.{filter_members-in, filter_members-within, in-filter_members}
use Rattle.mr_model.proofs.Loops.{IsRest, IsRest-all, IsRest-none, IsRest-turn, IsTurn}
use Rattle.mr_model.proofs.SetLaws.{Within, Within-antisym, Within-le, bit_at_cases, bit_at_below_cases, bit_at_pow_cases, Within-none, below-zero}
use Rattle.mr_losses.specs.Losses.{symbols_of_devices}

-- a set whose members are all members of another
within-from : (x y : ℕ) → ((i : ℕ) → bit_at x i ≡ 1 → bit_at y i ≡ 1) → Within x y
within-from x y h i = ⊎_elim (λ (one : bit_at x i ≡ 1). omega (arith, one, h i one)) (λ (none : bit_at x i ≡ 0). omega (arith, none)) (bit_at_cases x i)

module _ (set n t s : ℕ) (turn : IsTurn set n t s) (p : ℕ → Bool) where
  -- what a member of the longer part is: one of the shorter, or the next
  old_or_next : (i : ℕ) → bit_at (below (t + 1) set) i ≡ 1 → (bit_at (below n set) i ≡ 1) ⊎ (i ≡ t)
  old_or_next i one = ⊎_elim
      (λ (same : (i ≡ t) × (bit_at (2 ^ t) i ≡ 1)). inr same.0)
      (λ (other : (i ≡ t → ⊥) × (bit_at (2 ^ t) i ≡ 0)). inl (omega (
        arith,
        one,
        other.1,
        ap (λ x. bit_at x i) turn.joined,
        bit_at_xor (below n set) (2 ^ t) i,
        bit_at-lt (below n set) i,
      )))
      (bit_at_pow_cases t i)

  -- a member of the shorter part is one of the longer, and so is the next
  old-in : (i : ℕ) → bit_at (below n set) i ≡ 1 → bit_at (below (t + 1) set) i ≡ 1
  old-in i one = omega (arith, one, bit_at_below_cases n set i, bit_at_below_cases (t + 1) set i, turn.later)

  next-in : bit_at (below (t + 1) set) t ≡ 1
  next-in = omega (arith, turn.member, bit_at_below_cases (t + 1) set t)

  -- the members that pass, one member on
  pub filter-joins : p t ≡ true → filter_members (below (t + 1) set) p ≡ bit_or (filter_members (below n set) p) (2 ^ t)
  filter-joins passes = Within-antisym _ _
      (within-from (filter_members (below (t + 1) set) p) (bit_or (filter_members (below n set) p) (2 ^ t)) (λ i one.
      let in_set : bit_at (below (t + 1) set) i ≡ 1 = omega (arith, one, filter_members-within (below (t + 1) set) p i, bit_at-lt (below (t + 1) set) i) in
      ⊎_elim
      (λ (old : bit_at (below n set) i ≡ 1). omega (
        arith,
        filter_members-in (below n set) p i old (in-filter_members (below (t + 1) set) p i one),
        bit_at_or (filter_members (below n set) p) (2 ^ t) i,
        bit_at-lt (2 ^ t) i,
      ))
      (λ (next : i ≡ t). subst (λ k. bit_at (bit_or (filter_members (below n set) p) (2 ^ t)) k ≡ 1) (sym next)
      (omega (arith, bit_at-pow_same t, bit_at_or (filter_members (below n set) p) (2 ^ t) t, bit_at-lt (filter_members (below n set) p) t)))
      (old_or_next i in_set)))
      (within-from (bit_or (filter_members (below n set) p) (2 ^ t)) (filter_members (below (t + 1) set) p) (λ i one. ⊎_elim
      (λ (same : (i ≡ t) × (bit_at (2 ^ t) i ≡ 1)). subst (λ k. bit_at (filter_members (below (t + 1) set) p) k ≡ 1) (sym same.0)
      (filter_members-in (below (t + 1) set) p t next-in passes))
      (λ (other : (i ≡ t → ⊥) × (bit_at (2 ^ t) i ≡ 0)).
      let old : bit_at (filter_members (below n set) p) i ≡ 1 = omega (arith, one, other.1, bit_at_or (filter_members (below n set) p) (2 ^ t) i) in
      filter_members-in (below (t + 1) set) p i (old-in i (omega (arith, old, filter_members-within (below n set) p i, bit_at-lt (below n set) i)))
      (in-filter_members (below n set) p i old))
      (bit_at_pow_cases t i)))

  pub filter-stays : p t ≡ false → filter_members (below (t + 1) set) p ≡ filter_members (below n set) p
  filter-stays fails = Within-antisym _ _
      (within-from (filter_members (below (t + 1) set) p) (filter_members (below n set) p) (λ i one.
      let passes : p i ≡ true = in-filter_members (below (t + 1) set) p i one in
      let in_set : bit_at (below (t + 1) set) i ≡ 1 = omega (arith, one, filter_members-within (below (t + 1) set) p i, bit_at-lt (below (t + 1) set) i) in
      ⊎_elim
      (λ (old : bit_at (below n set) i ≡ 1). filter_members-in (below n set) p i old passes)
      (λ (next : i ≡ t). absurd (both_ways (p t) fails (subst (λ k. p k ≡ true) next passes)))
      (old_or_next i in_set)))
      (within-from (filter_members (below n set) p) (filter_members (below (t + 1) set) p) (λ i one.
      filter_members-in (below (t + 1) set) p i (old-in i (omega (arith, one, filter_members-within (below n set) p i, bit_at-lt (below n set) i)))
      (in-filter_members (below n set) p i one)))

-- The members below n that pass are found, and the others are left.
pub record IsFiltered (set : ℕ) (p : ℕ → Bool) (n left found : ℕ) : Type 0 where
  pub rest : IsRest set n left
  pub found_is : found ≡ filter_members (below n set) p

pub filtered-start : (set : ℕ) (p : ℕ → Bool) → IsFiltered set p 0 set 0
filtered-start set p = record {
  rest = IsRest-all set;
  found_is = sym (ap (λ s. filter_members s p) (below-zero set) ∙ Within-none _ (filter_members-within 0 p));
}

pub filtered-joins : (set : ℕ) (p : ℕ → Bool) (n left found t left' found' : ℕ) → IsFiltered set p n left found → TakesLeast left t left' → p t ≡ true
    → found' ≡ bit_or found (2 ^ t) → IsFiltered set p (t + 1) left' found'
filtered-joins set p n left found t left' found' h takes passes joined = let turn = IsRest-turn set n left t left' h.rest takes in record {
  rest = turn.rest;
  found_is = joined ∙ ap (λ f. bit_or f (2 ^ t)) h.found_is ∙ sym (filter-joins set n t left' turn p passes);
}

pub filtered-stays : (set : ℕ) (p : ℕ → Bool) (n left found t left' : ℕ) → IsFiltered set p n left found → TakesLeast left t left' → p t ≡ false
    → IsFiltered set p (t + 1) left' found
filtered-stays set p n left found t left' h takes fails = let turn = IsRest-turn set n left t left' h.rest takes in record {
  rest = turn.rest;
  found_is = h.found_is ∙ sym (filter-stays set n t left' turn p fails);
}

pub filtered-end : (set : ℕ) (p : ℕ → Bool) (n left found : ℕ) → IsFiltered set p n left found → left ≡ 0 → found ≡ filter_members set p
filtered-end set p n left found h none = h.found_is ∙ ap (λ s. filter_members s p) (IsRest-none set n left h.rest none)

-- lost symbols are symbols
pub lost-below : (m : Code) (devices : ℕ) → symbols_of_devices m devices < 2 ^ length m.rows
unfolding symbols_of_devices
lost-below m devices = let le = Within-le _ _ (filter_members-within (2 ^ length m.rows - 1) (λ i. has devices (i / m.symbols_per_device))) in omega (arith, le, pow_pos (length m.rows))
