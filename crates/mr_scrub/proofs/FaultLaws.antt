-- The faults of a stripe: the XOR of a part of each symbol, and the first check that is broken.
use Rattle.std.proofs.Common.{◌≡◌, ℕ, zero, suc, ◌+◌, ◌-◌, ◌*◌, ◌^◌, ◌<◌, ◌≤◌, ◌==◌, Bool, true, false, not, List, [], ◌∷◌, map, take, drop, length, get_or, replicate, All, Option, Some, None, ⊎_elim, refl, sym, ap, ap₂, subst, ◌∙◌, arith, zero-add, pow_pos, cond, filter, eqb-true, eq-eqb}
use Rattle.std.specs.Prelude.{slice_index, IsNone, ◌↔◌}
use Rattle.std.specs.Int.{bit_at}
use Rattle.std.specs.List.{range_with_len, list_all}
use Rattle.std.proofs.Math.Nat.{suc-mul, mul-le-mul_right}
use Rattle.std.proofs.lemmas.Bool.{cases_lt, cases_eq, both_ways, not-false, not_from_true, true_from_ne_false}
use Rattle.std.proofs.lemmas.List.{get_or-take, get_or-drop, get_or_past, length-take, get_or-replicate, length-take-le, length-drop, get_or_default}
use Rattle.std.proofs.lemmas.List.Sums.{AllPass-from_list_all, list_all-from_AllPass}
use Rattle.std.proofs.lemmas.List.Elements.{All-map}
use Rattle.std.proofs.lemmas.List.FromFn.{get_or-map-range_with_len}
use Rattle.mr_model.specs.Sets.{has, sum, below, any_below}
use Rattle.mr_model.specs.Members.{members, TakesLeast}
use Rattle.mr_model.specs.Code.{Code, row, dropped, generator, generators}
use Rattle.mr_model.proofs.Lists.{map-map, map-range-same}
use Rattle.mr_model.proofs.SetLaws.{has-true, member-below, below-zero}
use Rattle.mr_model.proofs.Loops.{IsRest, IsRest-all, IsRest-none, IsRest-turn}
use Rattle.mr_model.proofs.Finding.{any_below-none, none-any_below, FindsBelow, find_below-finds, find_below-is}
use Rattle.mr_model.proofs.Nulls.{dropped-member, row_sum-generator}
use Rattle.mr_model.proofs.Apart.{get_or-in_columns}
use Rattle.mr_bits.specs.Matrices.{IsMatrixCode}
use Rattle.mr_kern.specs.Xor.{xor_bytes}
use Rattle.mr_image.specs.Images.{xor_symbols}
use Rattle.mr_image.proofs.SymbolLaws.{bytes_at, length-xor_symbols, xor_symbols-at}
use Rattle.mr_image.proofs.XorLaws.{xor_symbols-none, xor_symbols-turn}
use Rattle.mr_scrub.proofs.CodewordLaws.{AreSymbols, all_of, codeword-zero, zeros-codeword}
use Rattle.mr_plan.proofs.MemberLists.{members-All}
use Rattle.mr_scrub.proofs.CheckLaws.{generator-low}
use Rattle.mr_scrub.specs.Stripes.{symbols_of, parts_of, checks_of, is_broken, fault, IsCodeword}

-- ---- the XOR of a part of each symbol

-- the first n members of a check are added
pub record AddsBelow (count size : ℕ) (bytes : List ℕ) (check at len n rest : ℕ) (part : List ℕ) : Type 0 where
  pub to_come : IsRest check n rest
  pub sum_is : part ≡ xor_symbols len (parts_of count size at len bytes) (below n check)

slot_end : (i count size : ℕ) → i < count → i * size + size ≤ count * size
slot_end i count size low = let next : suc i ≤ count = omega arith in omega (arith, mul-le-mul_right size next, suc-mul i size)

module _ (count size : ℕ) (bytes : List ℕ) (whole : length bytes ≡ count * size) where
  part-fits : (i at len : ℕ) → i < count → at + len ≤ size → i * size + at + len ≤ count * size
  part-fits i at len low fits =
      let rows : i * size + size ≤ count * size = slot_end i count size low in omega (arith, rows, fits)

  pub length-part : (i at len : ℕ) → i < count → at + len ≤ size → length (take len (drop (i * size + at) bytes)) ≡ len
  length-part i at len low fits = length-take-le len (drop (i * size + at) bytes)
      (omega (arith, length-drop (i * size + at) bytes, whole, part-fits i at len low fits))

  pub part-is : (at len i : ℕ) → i < count → get_or (parts_of count size at len bytes) i [] ≡ take len (drop (i * size + at) bytes)
  unfolding parts_of
  part-is at len i low = get_or-map-range_with_len (λ k. take len (drop (k * size + at) bytes)) 0 count i i [] low (zero-add i)

  pub adds-none : (check at len rest : ℕ) (part : List ℕ) → rest ≡ check → part ≡ replicate len 0 → AddsBelow count size bytes check at len 0 rest part
  adds-none check at len rest part all zeros = record {
    to_come = subst (λ x. IsRest check 0 x) (sym all) (IsRest-all check);
    sum_is = zeros ∙ sym (xor_symbols-none len (parts_of count size at len bytes)) ∙ ap (xor_symbols len (parts_of count size at len bytes)) (sym (below-zero check));
  }

  pub adds-low : (check at len n rest t next : ℕ) (part : List ℕ) → check < 2 ^ count → AddsBelow count size bytes check at len n rest part → TakesLeast rest t next → t < count
  adds-low check at len n rest t next part few h takes =
      let turn = IsRest-turn check n rest t next h.to_come takes in member-below count check t few turn.member

  -- the bytes of the next symbol stand within the stripe
  pub adds-fits : (check at len n rest t next : ℕ) (part : List ℕ) → check < 2 ^ count → at + len ≤ size → AddsBelow count size bytes check at len n rest part → TakesLeast rest t next
      → t * size + at + len ≤ length bytes
  adds-fits check at len n rest t next part few fits h takes =
      let low = adds-low check at len n rest t next part few h takes in omega (arith, whole, part-fits t at len low fits)

  pub adds-more : (check at len n rest t next : ℕ) (part more : List ℕ) → check < 2 ^ count → at + len ≤ size → AddsBelow count size bytes check at len n rest part → TakesLeast rest t next
      → more ≡ xor_bytes part (take len (drop (t * size + at) bytes)) → AddsBelow count size bytes check at len (t + 1) next more
  adds-more check at len n rest t next part more few fits h takes added =
      let turn = IsRest-turn check n rest t next h.to_come takes in
      let low : t < count = member-below count check t few turn.member in
      let here : get_or (parts_of count size at len bytes) t [] ≡ take len (drop (t * size + at) bytes) = part-is at len t low in
      record {
        to_come = turn.rest;
        sum_is = added ∙ ap₂ xor_bytes h.sum_is (sym here)
            ∙ sym (xor_symbols-turn len (parts_of count size at len bytes) check n t next turn (ap length here ∙ length-part t at len low fits));
      }

  pub adds-all : (check at len n rest : ℕ) (part : List ℕ) → AddsBelow count size bytes check at len n rest part → rest ≡ 0 → part ≡ xor_symbols len (parts_of count size at len bytes) check
  adds-all check at len n rest part h none = h.sum_is ∙ ap (xor_symbols len (parts_of count size at len bytes)) (IsRest-none check n rest h.to_come none)

-- the part of symbol t that the slice reads
pub read_part : (r t size at len more : ℕ) (bytes : List ℕ) → r ≡ t → more ≡ len
    → take (r * size + at + more - (r * size + at)) (drop (r * size + at) bytes) ≡ take len (drop (t * size + at) bytes)
read_part r t size at len more bytes e l =
    let less : r * size + at + more - (r * size + at) ≡ more = omega arith in
    ap₂ (λ a b. take a (drop b bytes)) (less ∙ l) (ap (λ k. k * size + at) e)

-- ---- places of parts and of whole symbols

module _ (count size : ℕ) (bytes : List ℕ) where
  -- byte p of a part from `at` on is byte `at + p` of the symbol
  part-place : (at len p i : ℕ) → p < len → at + len ≤ size → get_or (take len (drop (i * size + at) bytes)) p 0 ≡ get_or (take size (drop (i * size) bytes)) (at + p) 0
  part-place at len p i low fits =
      let same : i * size + at + p ≡ i * size + (at + p) = omega arith in
      get_or-take len (drop (i * size + at) bytes) p 0 low ∙ get_or-drop (i * size + at) bytes p 0
      ∙ ap (λ k. get_or bytes k 0) same
      ∙ sym (get_or-take size (drop (i * size) bytes) (at + p) 0 (omega (arith, low, fits)) ∙ get_or-drop (i * size) bytes (at + p) 0)

  parts-bytes : (at len p : ℕ) → p < len → at + len ≤ size → bytes_at p (parts_of count size at len bytes) ≡ bytes_at (at + p) (symbols_of count size bytes)
  unfolding parts_of symbols_of
  parts-bytes at len p low fits =
      map-map (λ i. take len (drop (i * size + at) bytes)) (λ b. get_or b p 0) (range_with_len 0 count)
      ∙ map-range-same (λ i. get_or (take len (drop (i * size + at) bytes)) p 0) (λ i. get_or (take size (drop (i * size) bytes)) (at + p) 0) count 0 0
      (λ i here. part-place at len p (0 + i) low fits)
      ∙ sym (map-map (λ i. take size (drop (i * size) bytes)) (λ b. get_or b (at + p) 0) (range_with_len 0 count))

  -- byte p of the XOR of parts is byte `at + p` of the XOR of the symbols
  parts-at : (at len p x : ℕ) → p < len → at + len ≤ size
      → get_or (xor_symbols len (parts_of count size at len bytes) x) p 0 ≡ get_or (xor_symbols size (symbols_of count size bytes) x) (at + p) 0
  parts-at at len p x low fits =
      xor_symbols-at len (parts_of count size at len bytes) x p low
      ∙ ap (λ bs. sum bs x) (parts-bytes at len p low fits)
      ∙ sym (xor_symbols-at size (symbols_of count size bytes) x (at + p) (omega (arith, low, fits)))

  -- the bytes of the XOR below `at` are 0
  pub record IsZeroBelow (check at : ℕ) : Type 0 where
    pub zero_at : (p : ℕ) → p < at → get_or (xor_symbols size (symbols_of count size bytes) check) p 0 ≡ 0
    pub in_range : at ≤ size

  pub zero-start : (check : ℕ) → IsZeroBelow check 0
  zero-start check = record { zero_at = λ p low. absurd (omega arith); in_range = omega arith }

  pub zero-more : (check at len : ℕ) (part : List ℕ) → IsZeroBelow check at → at + len ≤ size
      → part ≡ xor_symbols len (parts_of count size at len bytes) check → list_all (λ b. b == 0) part ≡ true → IsZeroBelow check (at + len)
  zero-more check at len part h fits is all = record {
    zero_at = λ p low. ⊎_elim
        (λ (before : p < at). h.zero_at p before)
        (λ (behind : at ≤ p).
        let same : at + (p - at) ≡ p = omega arith in
        let here : p - at < len = omega arith in
        let long : length part ≡ len = ap length is ∙ length-xor_symbols len (parts_of count size at len bytes) check in
        let zero_here : get_or part (p - at) 0 ≡ 0 = eqb-true (get_or part (p - at) 0) 0 (AllPass-from_list_all (λ b. b == 0) part all (p - at) 0 (omega (arith, here, long))) in
        ap (λ k. get_or (xor_symbols size (symbols_of count size bytes) check) k 0) (sym same)
        ∙ sym (parts-at at len (p - at) check here fits) ∙ ap (λ l. get_or l (p - at) 0) (sym is) ∙ zero_here)
        (cases_lt p at);
    in_range = fits;
  }

  -- the part that was summed has `len` bytes
  pub part-sum : (check at len : ℕ) (tmp part : List ℕ) → len ≤ length tmp
      → part ≡ xor_symbols (length (take len tmp)) (parts_of count size at (length (take len tmp)) bytes) check → part ≡ xor_symbols len (parts_of count size at len bytes) check
  part-sum check at len tmp part le e = e ∙ ap (λ n. xor_symbols n (parts_of count size at n bytes) check) (length-take-le len tmp le)

  -- a part with a byte that is not 0
  pub broken-here : (check at len : ℕ) (part : List ℕ) → at + len ≤ size
      → part ≡ xor_symbols len (parts_of count size at len bytes) check → list_all (λ b. b == 0) part ≡ false → is_broken size (symbols_of count size bytes) check ≡ true
  unfolding is_broken
  broken-here check at len part fits is none = true_from_ne_false _ (λ e. both_ways (list_all (λ b. b == 0) part) none
      (list_all-from_AllPass (λ b. b == 0) part (λ k d low. all-zero e k d low)))
    where
      all-zero : any_below size (λ place. not (get_or (xor_symbols size (symbols_of count size bytes) check) place 0 == 0)) ≡ false → (k d : ℕ) → k < length part → (get_or part k d == 0) ≡ true
      all-zero e k d low =
          let long : length part ≡ len = ap length is ∙ length-xor_symbols len (parts_of count size at len bytes) check in
          let here : k < len = omega (arith, low, long) in
          let place : at + k < size = omega (arith, here, fits) in
          let whole = not-false (get_or (xor_symbols size (symbols_of count size bytes) check) (at + k) 0 == 0)
          (none-any_below size (λ place. not (get_or (xor_symbols size (symbols_of count size bytes) check) place 0 == 0)) e (at + k) place) in
          let zero_here : get_or part k 0 ≡ 0 = ap (λ l. get_or l k 0) is ∙ parts-at at len k check here fits ∙ eqb-true _ 0 whole in
          eq-eqb (get_or part k d) 0 (get_or_default part k d 0 low ∙ zero_here)

  -- no byte is not 0
  pub whole-here : (check : ℕ) → IsZeroBelow check size → is_broken size (symbols_of count size bytes) check ≡ false
  unfolding is_broken
  whole-here check h = any_below-none size (λ place. not (get_or (xor_symbols size (symbols_of count size bytes) check) place 0 == 0))
      (λ p low. not_from_true _ (eq-eqb _ 0 (h.zero_at p low)))

-- ---- the first check that is broken

module _ (m : Code) (size : ℕ) (symbols : List (List ℕ)) where
  -- no check below n is broken
  pub record AreWhole (n : ℕ) : Type 0 where
    pub whole : (k : ℕ) → k < n → is_broken size symbols (slice_index (checks_of m) k) ≡ false

  pub fault-some : (x : ℕ) → AreWhole x → x < length (checks_of m) → is_broken size symbols (slice_index (checks_of m) x) ≡ true → Some x ≡ fault m size symbols
  unfolding fault
  fault-some x h low broken = sym (find_below-is (length (checks_of m)) (λ k. is_broken size symbols (slice_index (checks_of m) k)) (Some x)
      (record { in_range = low; passes = broken; least = λ k less. h.whole k less }))

  pub fault-none : AreWhole (length (checks_of m)) → None ≡ fault m size symbols
  unfolding fault
  fault-none h = sym (find_below-is (length (checks_of m)) (λ k. is_broken size symbols (slice_index (checks_of m) k)) None (λ k low. h.whole k low))

  none-fault : fault m size symbols ≡ None → AreWhole (length (checks_of m))
  unfolding fault
  none-fault e =
      let found : FindsBelow (length (checks_of m)) (λ k. is_broken size symbols (slice_index (checks_of m) k)) None =
      subst (FindsBelow (length (checks_of m)) (λ k. is_broken size symbols (slice_index (checks_of m) k))) e
      (find_below-finds (length (checks_of m)) (λ k. is_broken size symbols (slice_index (checks_of m) k))) in
      record { whole = λ k low. found k low }

-- what holds of each item made of the members of a set holds of that of each member
each-ranged : (P : ℕ → Type 0) (f : ℕ → ℕ) (n a x t : ℕ) → a ≤ t → t < a + n → bit_at x t ≡ 1 → All P (map f (filter (has x) (range_with_len a n))) → P (f t)
each-ranged P f zero a x t low high member all = absurd (omega arith)
each-ranged P f (suc n) a x t low high member all = ⊎_elim
    (λ (e : a ≡ t). subst (λ k. P (f k)) e (first (has x a) (has-true x a (ap (bit_at x) e ∙ member)) all))
    (λ (apart : a ≡ t → ⊥). each-ranged P f n (a + 1) x t (omega arith) (omega arith) member (rest (has x a) all))
    (cases_eq a t)
  where
    first : (b : Bool) → b ≡ true → All P (map f (cond b (a ∷ filter (has x) (range_with_len (a + 1) n)) (filter (has x) (range_with_len (a + 1) n)))) → P (f a)
    first true e all = all 0 0 (omega arith)
    first false e all = cc

    rest : (b : Bool) → All P (map f (cond b (a ∷ filter (has x) (range_with_len (a + 1) n)) (filter (has x) (range_with_len (a + 1) n)))) → All P (map f (filter (has x) (range_with_len (a + 1) n)))
    rest true all = λ k d here. all (suc k) d (omega (arith, here))
    rest false all = all

each-member : (P : ℕ → Type 0) (f : ℕ → ℕ) (x t : ℕ) → t < 128 → bit_at x t ≡ 1 → All P (map f (members x)) → P (f t)
unfolding members
each-member P f x t low member all = each-ranged P f 128 0 x t (omega arith) (omega arith) member all

module _ (m : Code) (size : ℕ) (bytes : List ℕ) (matrix : IsMatrixCode m) (long : length bytes ≡ length m.rows * size) (small : (i : ℕ) → get_or bytes i 0 < 256) where
  rows_few : length m.rows ≤ 128
  rows_few = omega (arith, matrix.count, matrix.shape.few_symbols)

  in_columns : (i : ℕ) → row m i < 2 ^ m.columns
  in_columns i = get_or-in_columns m.columns m.rows matrix.columns i

  stripe : List (List ℕ)
  stripe = symbols_of (length m.rows) size bytes

  are-symbols : AreSymbols (length m.rows) size stripe
  unfolding stripe symbols_of
  are-symbols = record {
    sizes = λ i low. ap length (get_or-map-range_with_len (λ k. take size (drop (k * size) bytes)) 0 (length m.rows) i i [] low (zero-add i))
        ∙ length-take-le size (drop (i * size) bytes) (omega (arith, length-drop (i * size) bytes, long, slot_end i (length m.rows) size low));
    bytes = All-map (λ b. (p : ℕ) → get_or b p 0 < 256) (λ k. take size (drop (k * size) bytes)) (range_with_len 0 (length m.rows))
        (λ k d low p. each (get_or (range_with_len 0 (length m.rows)) k d) p);
  }
    where
      each : (i p : ℕ) → get_or (take size (drop (i * size) bytes)) p 0 < 256
      each i p = ⊎_elim
          (λ (low : p < size). subst (λ v. v < 256) (sym (get_or-take size (drop (i * size) bytes) p 0 low ∙ get_or-drop (i * size) bytes p 0)) (small (i * size + p)))
          (λ (high : size ≤ p). subst (λ v. v < 256) (sym (get_or_past (take size (drop (i * size) bytes)) p 0 (omega (arith, length-take size (drop (i * size) bytes), high)))) (omega arith))
          (cases_lt p size)

  unbroken : (check : ℕ) → xor_symbols size stripe check ≡ replicate size 0 → is_broken size stripe check ≡ false
  unfolding is_broken
  unbroken check e = any_below-none size (λ place. not (get_or (xor_symbols size stripe check) place 0 == 0))
      (λ p low. not_from_true _ (eq-eqb _ 0 (ap (λ l. get_or l p 0) e ∙ get_or-replicate size p 0 0 low)))

  unbroken-zero : (check p : ℕ) → p < size → is_broken size stripe check ≡ false → sum (bytes_at p stripe) check ≡ 0
  unfolding is_broken
  unbroken-zero check p low e =
      sym (xor_symbols-at size stripe check p low)
      ∙ eqb-true _ 0 (not-false _ (none-any_below size (λ place. not (get_or (xor_symbols size stripe check) place 0 == 0)) e p low))

  whole-codeword : AreWhole m size stripe (length (checks_of m)) → IsCodeword m size stripe
  unfolding checks_of generators
  whole-codeword h = zeros-codeword m size stripe in_columns are-symbols (λ f member p low.
      unbroken-zero (generator m (all_of m) f) p low (one f member))
    where
      one : (f : ℕ) → bit_at (dropped m (all_of m)) f ≡ 1 → is_broken size stripe (generator m (all_of m) f) ≡ false
      one f member =
          let there = dropped-member m (all_of m) f member in
          let low : f < length m.rows = member-below (length m.rows) (all_of m) f (omega (arith, pow_pos (length m.rows))) there.0 in
          each-member (λ check. is_broken size stripe check ≡ false) (generator m (all_of m)) (dropped m (all_of m)) f (omega (arith, low, rows_few)) member
          (λ k d here. ap (is_broken size stripe) (get_or_default (checks_of m) k d 0 here) ∙ h.whole k here)

  codeword-whole : IsCodeword m size stripe → AreWhole m size stripe (length (checks_of m))
  unfolding checks_of generators
  codeword-whole h = record {
    whole = λ k low. (All-map (λ check. is_broken size stripe check ≡ false) (generator m (all_of m)) (members (dropped m (all_of m)))
        (members-All (λ f. is_broken size stripe (generator m (all_of m) f) ≡ false) (dropped m (all_of m)) (λ f member.
        unbroken (generator m (all_of m) f) (codeword-zero m size h.columns stripe (generator m (all_of m) f) (λ i inside.
        h.same i (member-below (length m.rows) (generator m (all_of m) f) i (generator-low m f member) inside)) (row_sum-generator m (all_of m) f member))))) k 0 low;
  }

  -- a stripe has no fault exactly where it is a codeword
  pub fault-codeword : IsNone (fault m size (symbols_of (length m.rows) size bytes)) ↔ IsCodeword m size (symbols_of (length m.rows) size bytes)
  unfolding stripe
  fault-codeword = (
    (λ none. whole-codeword (none-fault m size stripe (is-none (fault m size stripe) none))),
    (λ codeword. none-is (fault m size stripe) (fault-none m size stripe (codeword-whole codeword))),
  )
    where
      is-none : (o : Option ℕ) → IsNone o → o ≡ None
      is-none None h = refl
      is-none (Some x) h = cc

      none-is : (o : Option ℕ) → None ≡ o → IsNone o
      none-is o e = subst (λ r. IsNone r) e refl

  pub fault-codeword-at : (o : Option ℕ) → o ≡ fault m size (symbols_of (length m.rows) size bytes) → IsNone o ↔ IsCodeword m size (symbols_of (length m.rows) size bytes)
  fault-codeword-at o e = subst (λ r. IsNone r ↔ IsCodeword m size (symbols_of (length m.rows) size bytes)) (sym e) fault-codeword
