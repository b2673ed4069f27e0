-- Devices that move on: where each symbol stood before, both ways, and the code that is made of it.
use Rattle.std.proofs.Common.{◌≡◌, ℕ, ◌+◌, ◌-◌, ◌*◌, ◌/◌, ◌%◌, ◌<◌, ◌≤◌, List, ◌++◌, map, length, get_or, take, drop, sym, ap, ◌∙◌, ⊎_elim, arith, zero-add, zero-mul, mod-eq_of_lt}
use Rattle.std.specs.List.{range_with_len}
use Rattle.std.proofs.Math.Nat.{add-mul, add-mod_right}
use Rattle.std.proofs.lemmas.Nat.{div-add-mod', div-mul-add, mod-mul-add, mod_below, div_below, le-div}
use Rattle.std.proofs.lemmas.Bool.{cases_lt}
use Rattle.std.proofs.lemmas.List.{length-take-le, length-drop, length-append, get_or-take, get_or-drop, get_or_append_left, get_or-append_right}
use Rattle.std.proofs.lemmas.List.FromFn.{length-map-range_with_len, get_or-map-range_with_len}
use Rattle.std.proofs.lemmas.Grind.{same_number_lists}
use Rattle.mr_model.specs.Sets.{sum}
use Rattle.mr_model.specs.Code.{Code, row}
use Rattle.mr_model.specs.Codewords.{codeword}
use Rattle.mr_model.specs.Rotations.{moved, rotated}

-- k devices are j of them and the others
pub devices-split : (w k j : ℕ) → j ≤ k → (k - j) * w + j * w ≡ k * w
devices-split w k j few = sym (add-mul (k - j) j w) ∙ ap (λ x. x * w) (omega arith)

module _ (n w r : ℕ) (some : 1 ≤ w) (within : r ≤ n) where
  -- the symbols of the first r devices stood behind the others
  pub moved-low : (i : ℕ) → i < r * w → moved n w r i ≡ i + (n - r) * w
  unfolding moved
  moved-low i low =
      let q : ℕ = i / w in
      let before : q < r = div_below i w r some low in
      let sum : q + n - r ≡ q + (n - r) = omega arith in
      let inside : q + n - r < n = omega arith in
      ap (λ x. x * w + i % w) (mod-eq_of_lt inside ∙ sum) ∙ omega (arith, add-mul q (n - r) w, div-add-mod' i w)

  -- the others stood r devices before
  pub moved-high : (i : ℕ) → r * w ≤ i → i < n * w → moved n w r i ≡ i - r * w
  unfolding moved
  moved-high i high low =
      let q : ℕ = i / w in
      let behind : r ≤ q = le-div r i w some high in
      let before : q < n = div_below i w n some low in
      let sum : q + n - r ≡ (q - r) + n = omega arith in
      let inside : q - r < n = omega arith in
      ap (λ x. x % n * w + i % w) sum ∙ ap (λ x. x * w + i % w) (add-mod_right (q - r) n ∙ mod-eq_of_lt inside)
      ∙ omega (arith, devices-split w q r behind, div-add-mod' i w)

  -- no symbol stood outside
  pub moved-lt : (i : ℕ) → i < n * w → moved n w r i < n * w
  moved-lt i low = ⊎_elim
      (λ (less : i < r * w). omega (arith, moved-low i less, less, devices-split w n r within))
      (λ (more : r * w ≤ i). omega (arith, moved-high i more low, low))
      (cases_lt i (r * w))

-- ---- both ways

module _ (n w r : ℕ) (some : 1 ≤ w) (within : r ≤ n) where
  -- moving on by the rest of the devices moves back
  pub moved-back : (i : ℕ) → i < n * w → moved n w (n - r) (moved n w r i) ≡ i
  moved-back i low = ⊎_elim
      (λ (less : i < r * w).
      let there : moved n w r i ≡ i + (n - r) * w = moved-low n w r some within i less in
      let back : moved n w (n - r) (moved n w r i) ≡ moved n w r i - (n - r) * w =
      moved-high n w (n - r) some (omega arith) (moved n w r i) (omega arith) (moved-lt n w r some within i low) in
      omega arith)
      (λ (more : r * w ≤ i).
      let there : moved n w r i ≡ i - r * w = moved-high n w r some within i more low in
      let rest : n - (n - r) ≡ r = omega arith in
      let back : moved n w (n - r) (moved n w r i) ≡ moved n w r i + (n - (n - r)) * w =
      moved-low n w (n - r) some (omega arith) (moved n w r i) (omega (arith, devices-split w n r within)) in
      omega (arith, ap (λ x. x * w) rest))
      (cases_lt i (r * w))

  -- and the other way round
  pub moved-forth : (i : ℕ) → i < n * w → moved n w r (moved n w (n - r) i) ≡ i
  moved-forth i low = ⊎_elim
      (λ (less : i < (n - r) * w).
      let rest : n - (n - r) ≡ r = omega arith in
      let there : moved n w (n - r) i ≡ i + (n - (n - r)) * w = moved-low n w (n - r) some (omega arith) i less in
      let at : moved n w (n - r) i ≡ i + r * w = there ∙ ap (λ x. i + x * w) rest in
      let back : moved n w r (moved n w (n - r) i) ≡ moved n w (n - r) i - r * w =
      moved-high n w r some within (moved n w (n - r) i) (omega arith) (moved-lt n w (n - r) some (omega arith) i low) in
      omega arith)
      (λ (more : (n - r) * w ≤ i).
      let there : moved n w (n - r) i ≡ i - (n - r) * w = moved-high n w (n - r) some (omega arith) i more low in
      let back : moved n w r (moved n w (n - r) i) ≡ moved n w (n - r) i + (n - r) * w =
      moved-low n w r some within (moved n w (n - r) i) (omega (arith, devices-split w n r within)) in
      omega arith)
      (cases_lt i ((n - r) * w))

-- devices that did not move
pub moved-zero : (n w i : ℕ) → 1 ≤ w → i < n * w → moved n w 0 i ≡ i
moved-zero n w i some low = moved-high n w 0 some (omega arith) i (omega (arith, zero-mul w)) low ∙ omega (arith, zero-mul w)

-- the device of a symbol, and its place there
pub moved-device : (n w r i : ℕ) → 1 ≤ w → moved n w r i / w ≡ (i / w + n - r) % n
unfolding moved
moved-device n w r i some = div-mul-add ((i / w + n - r) % n) w (i % w) (mod_below i w some)

pub moved-within : (n w r i : ℕ) → 1 ≤ w → moved n w r i % w ≡ i % w
unfolding moved
moved-within n w r i some = mod-mul-add ((i / w + n - r) % n) w (i % w) (mod_below i w some)

-- ---- codes

module _ (m : Code) (r : ℕ) where
  pub count-rotated : length (rotated m r).rows ≡ length m.rows
  unfolding rotated
  count-rotated = length-map-range_with_len (λ i. get_or m.rows (moved m.devices m.symbols_per_device r i) 0) 0 (length m.rows)

  -- the row of a symbol is that of the symbol where it stood before
  pub row-rotated : (i : ℕ) → i < length m.rows → row (rotated m r) i ≡ row m (moved m.devices m.symbols_per_device r i)
  unfolding rotated
  row-rotated i low = get_or-map-range_with_len (λ i. get_or m.rows (moved m.devices m.symbols_per_device r i) 0) 0 (length m.rows) i i 0 low (zero-add i)

  -- and so is its symbol of each codeword
  pub codeword-rotated : (size : ℕ) (columns : List (List ℕ)) (i : ℕ) → i < length m.rows
      → codeword (rotated m r) size columns i ≡ codeword m size columns (moved m.devices m.symbols_per_device r i)
  unfolding codeword
  codeword-rotated size columns i low = ap (λ x. map (λ place. sum (map (λ bytes. get_or bytes place 0) columns) x) (range_with_len 0 size)) (row-rotated i low)

  -- the rows of the last r devices, and then those of the others
  pub rows-rotated : 1 ≤ m.symbols_per_device → r ≤ m.devices → length m.rows ≡ m.devices * m.symbols_per_device
      → (rotated m r).rows ≡ drop (length m.rows - r * m.symbols_per_device) m.rows ++ take (length m.rows - r * m.symbols_per_device) m.rows
  rows-rotated some within count =
      let n : ℕ = m.devices in
      let w : ℕ = m.symbols_per_device in
      let k : ℕ = length m.rows - r * w in
      let split : (n - r) * w + r * w ≡ n * w = devices-split w n r within in
      let at : k ≡ (n - r) * w = omega arith in
      let back : length (drop k m.rows) ≡ r * w = omega (arith, length-drop k m.rows) in
      let front : length (take k m.rows) ≡ k = length-take-le k m.rows (omega arith) in
      same_number_lists (rotated m r).rows (drop k m.rows ++ take k m.rows)
      (count-rotated ∙ omega (arith, length-append (drop k m.rows) (take k m.rows)))
      (λ i low.
      let inside : i < length m.rows = omega (arith, low, count-rotated) in
      row-rotated i inside ∙ ⊎_elim
      (λ (less : i < r * w).
      let stood : moved n w r i ≡ k + i = moved-low n w r some within i less ∙ omega arith in
      ap (row m) stood ∙ sym (get_or-drop k m.rows i 0) ∙ sym (get_or_append_left (drop k m.rows) (take k m.rows) 0 i (omega arith)))
      (λ (more : r * w ≤ i).
      let stood : moved n w r i ≡ i - r * w = moved-high n w r some within i more (omega arith) in
      ap (row m) stood ∙ sym (get_or-take k m.rows (i - r * w) 0 (omega arith)) ∙ sym (get_or-append_right (drop k m.rows) (take k m.rows) (r * w) i 0 back more))
      (cases_lt i (r * w)))

-- a code whose devices did not move
pub rotated-zero : (m : Code) → 1 ≤ m.symbols_per_device → length m.rows ≡ m.devices * m.symbols_per_device → rotated m 0 ≡ m
unfolding rotated
rotated-zero m some count = ap (λ rows. record m { rows = rows }) (same_number_lists _ _ (count-rotated m 0) (λ i low.
    let inside : i < length m.rows = omega (arith, low, count-rotated m 0) in
    row-rotated m 0 i inside ∙ ap (row m) (moved-zero m.devices m.symbols_per_device i some (omega arith))))
