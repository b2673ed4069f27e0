-- The dual of independent rows: sets of symbols, one for each column, whose sum over the row of a member is that member alone.
use Rattle.std.proofs.Common.{◌≡◌, ℕ, zero, suc, ◌+◌, ◌/◌, ◌%◌, ◌^◌, ◌<◌, ◌==◌, Bool, true, false, cond, List, [], ◌∷◌, map, length, bit_xor, ⊎_elim, refl, sym, ap, ap₂, subst, ◌∙◌, arith}
use Rattle.std.specs.Int.{bit_at}
use Rattle.std.specs.List.{range_with_len}
use Rattle.std.proofs.lemmas.Bool.{cases_eq}
use Rattle.std.proofs.lemmas.Nat.Bits.{bit_at-zero, bit_at_xor, bit_at-lt, bit_at-pow_same, bit_at-pow_other, same_from_bits}
use Rattle.std.proofs.lemmas.List.FromFn.{length-map-range_with_len}
use Rattle.mr_model.specs.Sets.{has, below, minus, sum, filter_members}
use Rattle.mr_model.specs.Code.{Code, row, row_sum, kept}
use Rattle.mr_model.proofs.Lists.{map-map, map-range-same}
use Rattle.mr_model.proofs.SetLaws.{has-true, has-false, bit_at_cases, bit_at_minus, bit_at_pow_cases, member-lt, Within, Within-trans, Within-xor, Within-pow, Within-below, Within-minus}
use Rattle.mr_model.proofs.SumLaws.{xor-same, pick}
use Rattle.mr_model.proofs.Finding.{filter_members-in, filter_members-out, filter_members-within}
use Rattle.mr_model.proofs.Kept.{row_sum-single, row_sum-same, kept-independent}
use Rattle.mr_model.proofs.Apart.{xor-digits, pick-none, product, SumBelow, Parted, part, product-none}

-- ---- a bit of a sum is the sum of the bits

bit_at-pick : (d r i : ℕ) → bit_at (pick d r) i ≡ pick d (bit_at r i)
bit_at-pick d r i = go (d == 1)
  where
    go : (b : Bool) → bit_at (cond b r 0) i ≡ cond b (bit_at r i) 0
    go true = refl
    go false = bit_at-zero i

pub bit_at-sum : (rs : List ℕ) (x i : ℕ) → bit_at (sum rs x) i ≡ sum (map (λ r. bit_at r i) rs) x
unfolding sum
bit_at-sum [] x i = bit_at-zero i
bit_at-sum (r ∷ rs) x i =
    bit_at_xor (pick (x % 2) r) (sum rs (x / 2)) i
    ∙ xor-digits (bit_at (pick (x % 2) r) i) (bit_at (sum rs (x / 2)) i) (bit_at-lt (pick (x % 2) r) i) (bit_at-lt (sum rs (x / 2)) i)
    ∙ ap₂ bit_xor (bit_at-pick (x % 2) r i) (bit_at-sum rs (x / 2) i)

-- sums of nothing
sum-nothing : (n a x : ℕ) (f : ℕ → ℕ) → ((c : ℕ) → f c ≡ 0) → sum (map f (range_with_len a n)) x ≡ 0
unfolding sum
sum-nothing zero a x f none = refl
sum-nothing (suc n) a x f none =
    ap₂ bit_xor (ap (pick (x % 2)) (none a) ∙ pick-none (x % 2)) (sum-nothing n (a + 1) (x / 2) f none)

-- ---- the dual

-- sets of symbols, one for each column, whose sum over the row of each member of a is that member alone
pub record Dual (m : Code) (a : ℕ) : Type 0 where
  pub sets : List ℕ
  pub count : length sets ≡ m.columns
  pub tells : (j : ℕ) → bit_at a j ≡ 1 → sum sets (row m j) ≡ 2 ^ j

module _ (m : Code) (a : ℕ) (in_columns : (i : ℕ) → row m i < 2 ^ m.columns)
    (independent : (x : ℕ) → Within x a → row_sum m x ≡ 0 → x ≡ 0) where
  -- the members of a but i
  others : ℕ → ℕ
  others i = minus a (2 ^ i)

  -- columns whose product with the row of i is 1, and with the row of each other member of a is 0; none where i is no member
  record Tells (i : ℕ) : Type 0 where
    columns : ℕ
    at_others : (j : ℕ) → bit_at a j ≡ 1 → (j ≡ i → ⊥) → product m a in_columns columns (row m j) ≡ 0
    at_self : bit_at a i ≡ 1 → product m a in_columns columns (row m i) ≡ 1

  -- a row is no sum of other rows
  no-sum : (i x : ℕ) → bit_at a i ≡ 1 → Within x (minus a (2 ^ i)) → row_sum m x ≡ row m i → ⊥
  no-sum i x member inside sums =
      let within : Within (bit_xor x (2 ^ i)) a =
      Within-xor x (2 ^ i) a (Within-trans x (minus a (2 ^ i)) a inside (Within-minus a (2 ^ i))) (Within-pow i a member) in
      let nothing : bit_xor x (2 ^ i) ≡ 0 = independent (bit_xor x (2 ^ i)) within (row_sum-same m x (2 ^ i) (sums ∙ sym (row_sum-single m i))) in
      let there : bit_at x i ≡ 1 = ap (λ v. bit_at v i) (xor-same x (2 ^ i) nothing) ∙ bit_at-pow_same i in
      absurd (omega (arith, there, inside i, bit_at_minus a (2 ^ i) i, bit_at-pow_same i, bit_at-lt a i))

  tells-one : (i : ℕ) → Tells i
  unfolding product
  tells-one i = ⊎_elim
      (λ member. ⊎_elim
      (λ (h : SumBelow m (minus a (2 ^ i)) in_columns (minus a (2 ^ i)) (row m i)).
      absurd (no-sum i h.set member (Within-trans h.set (below (minus a (2 ^ i)) (minus a (2 ^ i))) (minus a (2 ^ i)) h.inside (Within-below (minus a (2 ^ i)) (minus a (2 ^ i)))) h.sums))
      (λ (h : Parted m (minus a (2 ^ i)) in_columns (minus a (2 ^ i)) (row m i)). record {
        columns = h.columns;
        at_others = λ j here apart.
            let other : bit_at (minus a (2 ^ i)) j ≡ 1 = omega (arith, here, bit_at_minus a (2 ^ i) j, bit_at-pow_other i j apart) in
            h.at_rows j (member-lt (minus a (2 ^ i)) j other) other;
        at_self = λ _. h.at_target;
      })
      (part m (minus a (2 ^ i)) in_columns (minus a (2 ^ i)) (row m i) (in_columns i)))
      (λ out. record {
        columns = 0;
        at_others = λ j here apart. product-none m a in_columns (row m j);
        at_self = λ here. absurd (omega (arith, out, here));
      })
      (bit_at_cases a i)

  -- the members of a whose columns have column c
  set_at : ℕ → ℕ
  set_at c = filter_members a (λ i. has (tells-one i).columns c)

  set_at-bit : (c i : ℕ) → bit_at a i ≡ 1 → bit_at (set_at c) i ≡ bit_at (tells-one i).columns c
  unfolding set_at
  set_at-bit c i member = ⊎_elim
      (λ one. filter_members-in a (λ k. has (tells-one k).columns c) i member (has-true (tells-one i).columns c one) ∙ sym one)
      (λ none. filter_members-out a (λ k. has (tells-one k).columns c) i (has-false (tells-one i).columns c none) ∙ sym none)
      (bit_at_cases (tells-one i).columns c)

  set_at-out : (c i : ℕ) → bit_at a i ≡ 0 → bit_at (set_at c) i ≡ 0
  unfolding set_at
  set_at-out c i out = omega (arith, out, filter_members-within a (λ k. has (tells-one k).columns c) i)

  sets_of : List ℕ
  sets_of = map set_at (range_with_len 0 m.columns)

  -- bit i of a sum of these sets is the product of the columns of i
  sum-bit : (r i : ℕ) → bit_at a i ≡ 1 → bit_at (sum sets_of r) i ≡ product m a in_columns (tells-one i).columns r
  unfolding sets_of product
  sum-bit r i member =
      bit_at-sum (map set_at (range_with_len 0 m.columns)) r i
      ∙ ap (λ xs. sum xs r) (map-map set_at (λ s. bit_at s i) (range_with_len 0 m.columns)
      ∙ map-range-same (λ c. bit_at (set_at c) i) (bit_at (tells-one i).columns) m.columns 0 0 (λ c low. set_at-bit (0 + c) i member))

  sum-out : (r i : ℕ) → bit_at a i ≡ 0 → bit_at (sum sets_of r) i ≡ 0
  unfolding sets_of
  sum-out r i out =
      bit_at-sum (map set_at (range_with_len 0 m.columns)) r i
      ∙ ap (λ xs. sum xs r) (map-map set_at (λ s. bit_at s i) (range_with_len 0 m.columns))
      ∙ sum-nothing m.columns 0 r (λ c. bit_at (set_at c) i) (λ c. set_at-out c i out)

  sets-tell : (j : ℕ) → bit_at a j ≡ 1 → sum sets_of (row m j) ≡ 2 ^ j
  sets-tell j member = same_from_bits (sum sets_of (row m j)) (2 ^ j) (λ i. ⊎_elim
      (λ here. ⊎_elim
      (λ (e : i ≡ j).
      let self : bit_at (sum sets_of (row m i)) i ≡ 1 = sum-bit (row m i) i here ∙ (tells-one i).at_self here in
      subst (λ k. bit_at (sum sets_of (row m k)) i ≡ bit_at (2 ^ k) i) e (self ∙ sym (bit_at-pow_same i)))
      (λ (apart : i ≡ j → ⊥).
      sum-bit (row m j) i here ∙ (tells-one i).at_others j member (λ e. apart (sym e)) ∙ sym (bit_at-pow_other j i apart))
      (cases_eq i j))
      (λ out. sum-out (row m j) i out ∙ sym (omega (arith, out, member, bit_at_pow_cases j i, not_here i out)))
      (bit_at_cases a i))
    where
      not_here : (i : ℕ) → bit_at a i ≡ 0 → i ≡ j → ⊥
      not_here i out e = let same = ap (bit_at a) e in omega (arith, out, member, same)

  -- independent rows have a dual
  pub dual-of : Dual m a
  unfolding sets_of
  dual-of = record { sets = sets_of; count = length-map-range_with_len set_at 0 m.columns; tells = sets-tell }

-- the rows that are kept have one
pub kept-dual : (m : Code) (a : ℕ) → ((i : ℕ) → row m i < 2 ^ m.columns) → Dual m (kept m a)
kept-dual m a in_columns = dual-of m (kept m a) in_columns (kept-independent m a)
