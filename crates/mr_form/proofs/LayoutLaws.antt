-- The layouts, computed at the sizes that the makers take.
use Rattle.std.proofs.Common.{◌≡◌, ◌≢◌, ℕ, ◌+◌, ◌-◌, ◌*◌, ◌/◌, ◌%◌, ◌^◌, ◌<◌, ◌≤◌, Bool, true, false, cond, not, ◌==◌, ◌||◌, nat_lt, List, [], ◌∷◌, ◌++◌, map, length, get_or, take, set, All, Result, Ok, bit_or, bit_xor, refl, sym, ap, ap₂, subst, ◌∙◌, arith, ⊎_elim, lit≤}
use mathlib.Core.Bool.{beq}
use Rattle.std.specs.List.{range_with_len}
use Rattle.std.proofs.lemmas.Bool.{eqb-true, eq-eqb, ne_eqb, or_cases, lt-ltb, le-ltb}
use Rattle.std.proofs.lemmas.List.{take_more, take_more_set, take_all}
use Rattle.std.proofs.lemmas.List.Elements.{All-from_get_or}
use Rattle.std.proofs.lemmas.Nat.Bits.{bit_at_or, bit_at_xor, bit_at-lt, same_from_bits}
use Rattle.std.proofs.lemmas.List.FromFn.{get_or-map-range_with_len, length-map-range_with_len}
use Rattle.mr_bits.specs.Matrices.{symbol_count}
use Rattle.mr_model.proofs.Finding.{bit_at_set_below, set_below-lt}
use Rattle.mr_model.specs.Sets.{has, below, set_below, sum}
use Rattle.mr_model.proofs.SetLaws.{true-has, false-has, below-zero, below-in, below-out, below-all, bit_at_below_cases, bit_at_pow_cases}
use Rattle.mr_model.specs.Code.{Dimensions}
use Rattle.mr_bits.specs.declared.errors.Large.{Large}
use Rattle.mr_bits.specs.Shapes.{shape_of}
use Rattle.mr_form.specs.declared.makers.Layout.{Layout}
use Rattle.mr_form.specs.declared.makers.Layout.TheVariants.{Rdp, EvenOdd}
use Rattle.mr_form.specs.Layouts.{cells, data_rows, with_parity, rdp_rows, evenodd_rows, is_rdp_size, is_evenodd_size, is_size, data_devices, layout_rows, layout_shape}

-- the test by which the code finds whether a data cell is in the parity of a diagonal
abbrev pub diagonal_test : Layout → ℕ → ℕ → ℕ → ℕ → Bool
diagonal_test Rdp p l i j = not (beq ((i + j) % p == l) ((i + p - 1) % p == l))
diagonal_test EvenOdd p l i j = ((i + j) % p == l) || ((i + j) % p == p - 1)

-- and whether a column is in the row of a symbol
abbrev pub column_test : Layout → ℕ → ℕ → ℕ → Bool
column_test layout p s c =
    cond (nat_lt (s / (p - 1)) (data_devices layout p)) (c == s)
    (cond (s / (p - 1) == data_devices layout p) (c % (p - 1) == s % (p - 1)) (diagonal_test layout p (s % (p - 1)) (c % (p - 1)) (c / (p - 1))))

-- the rows by these tests
abbrev pub tested_rows : Layout → ℕ → List ℕ
tested_rows layout p = map (λ s. set_below ((layout_shape layout p).columns) (column_test layout p s)) (range_with_len 0 ((layout_shape layout p).devices * (p - 1)))

rdp_3 : tested_rows Rdp 3 ≡ rdp_rows 3
unfolding set_below rdp_rows with_parity data_rows cells sum
rdp_3 = refl

rdp_5 : tested_rows Rdp 5 ≡ rdp_rows 5
unfolding set_below rdp_rows with_parity data_rows cells sum
rdp_5 = refl

rdp_7 : tested_rows Rdp 7 ≡ rdp_rows 7
unfolding set_below rdp_rows with_parity data_rows cells sum
rdp_7 = refl

rdp_11 : tested_rows Rdp 11 ≡ rdp_rows 11
unfolding set_below rdp_rows with_parity data_rows cells sum
rdp_11 = refl

evenodd_3 : tested_rows EvenOdd 3 ≡ evenodd_rows 3
unfolding set_below evenodd_rows with_parity data_rows cells sum
evenodd_3 = refl

evenodd_5 : tested_rows EvenOdd 5 ≡ evenodd_rows 5
unfolding set_below evenodd_rows with_parity data_rows cells sum
evenodd_5 = refl

evenodd_7 : tested_rows EvenOdd 7 ≡ evenodd_rows 7
unfolding set_below evenodd_rows with_parity data_rows cells sum
evenodd_7 = refl

-- ---- at any size that the makers take

module _ (P : ℕ → Type 0) (three : P 3) (five : P 5) (seven : P 7) where
  pub at_evenodd_sizes : (p : ℕ) → is_evenodd_size p ≡ true → P p
  at_evenodd_sizes p h = ⊎_elim
      (λ e. ⊎_elim (λ f. subst P (sym (eqb-true p 3 f)) three) (λ f. subst P (sym (eqb-true p 5 f)) five) (or_cases (p == 3) (p == 5) e))
      (λ e. subst P (sym (eqb-true p 7 e)) seven)
      (or_cases ((p == 3) || (p == 5)) (p == 7) h)

  pub at_rdp_sizes : P 11 → (p : ℕ) → is_rdp_size p ≡ true → P p
  at_rdp_sizes eleven p h = ⊎_elim (at_evenodd_sizes p) (λ e. subst P (sym (eqb-true p 11 e)) eleven) (or_cases ((p == 3) || (p == 5) || (p == 7)) (p == 11) h)

pub rows-tested : (layout : Layout) (p : ℕ) → is_size layout p ≡ true → tested_rows layout p ≡ layout_rows layout p
rows-tested Rdp p h = at_rdp_sizes (λ q. tested_rows Rdp q ≡ rdp_rows q) rdp_3 rdp_5 rdp_7 rdp_11 p h
rows-tested EvenOdd p h = at_evenodd_sizes (λ q. tested_rows EvenOdd q ≡ evenodd_rows q) evenodd_3 evenodd_5 evenodd_7 p h

-- the numbers of a layout are small
pub record IsSmall (layout : Layout) (p : ℕ) : Type 0 where
  pub least : 3 ≤ p
  pub most : p ≤ 11
  pub held : data_devices layout p ≤ 10
  pub columns : (layout_shape layout p).columns ≤ 100
  pub symbols : (layout_shape layout p).devices * (p - 1) ≤ 128

pub small : (layout : Layout) (p : ℕ) → is_size layout p ≡ true → IsSmall layout p
small Rdp p h = at_rdp_sizes (IsSmall Rdp) (record { least = lit≤ tt; most = lit≤ tt; held = lit≤ tt; columns = lit≤ tt; symbols = lit≤ tt }) (record { least = lit≤ tt; most = lit≤ tt; held = lit≤ tt; columns = lit≤ tt; symbols = lit≤ tt }) (record { least = lit≤ tt; most = lit≤ tt; held = lit≤ tt; columns = lit≤ tt; symbols = lit≤ tt }) (record { least = lit≤ tt; most = lit≤ tt; held = lit≤ tt; columns = lit≤ tt; symbols = lit≤ tt }) p h
small EvenOdd p h = at_evenodd_sizes (IsSmall EvenOdd) (record { least = lit≤ tt; most = lit≤ tt; held = lit≤ tt; columns = lit≤ tt; symbols = lit≤ tt }) (record { least = lit≤ tt; most = lit≤ tt; held = lit≤ tt; columns = lit≤ tt; symbols = lit≤ tt }) (record { least = lit≤ tt; most = lit≤ tt; held = lit≤ tt; columns = lit≤ tt; symbols = lit≤ tt }) p h

-- ---- the column test, and the rows

has-below : (n : ℕ) (t : ℕ → Bool) (c : ℕ) → c < n → has (set_below n t) c ≡ t c
unfolding has
has-below n t c low = ap (λ b. b == 1) (bit_at_set_below n t c low) ∙ bit (t c)
  where
    bit : (b : Bool) → (cond b 1 0 == 1) ≡ b
    bit true = refl
    bit false = refl

module _ (layout : Layout) (p s : ℕ) (size : is_size layout p ≡ true) (symbol : s < symbol_count (layout_shape layout p)) where
  -- the row of a symbol by the tests
  pub row-tested : get_or (layout_rows layout p) s 0 ≡ set_below (layout_shape layout p).columns (column_test layout p s)
  row-tested = ap (λ rows. get_or rows s 0) (sym (rows-tested layout p size))
      ∙ get_or-map-range_with_len (λ i. set_below (layout_shape layout p).columns (column_test layout p i)) 0 (symbol_count (layout_shape layout p)) s s 0 symbol (omega arith)

  pub row-small : get_or (layout_rows layout p) s 0 < 2 ^ (layout_shape layout p).columns
  row-small = subst (λ r. r < 2 ^ (layout_shape layout p).columns) (sym row-tested) (set_below-lt (layout_shape layout p).columns (column_test layout p s))

  module _ (c : ℕ) (column : c < (layout_shape layout p).columns) where
    column-tested : has (get_or (layout_rows layout p) s 0) c ≡ column_test layout p s c
    column-tested = ap (λ r. has r c) row-tested ∙ has-below (layout_shape layout p).columns (column_test layout p s) c column

    -- on a data device
    pub data-column : s / (p - 1) < data_devices layout p → (c == s) ≡ has (get_or (layout_rows layout p) s 0) c
    data-column h = sym (column-tested ∙ ap (λ t. cond t (c == s) (cond (s / (p - 1) == data_devices layout p) (c % (p - 1) == s % (p - 1)) (diagonal_test layout p (s % (p - 1)) (c % (p - 1)) (c / (p - 1))))) (lt-ltb _ _ h))

    -- on the device of row parity
    pub row-column : s / (p - 1) ≡ data_devices layout p → (c % (p - 1) == s % (p - 1)) ≡ has (get_or (layout_rows layout p) s 0) c
    row-column h = sym (column-tested
        ∙ ap (λ t. cond t (c == s) (cond (s / (p - 1) == data_devices layout p) (c % (p - 1) == s % (p - 1)) (diagonal_test layout p (s % (p - 1)) (c % (p - 1)) (c / (p - 1))))) (le-ltb (s / (p - 1)) (data_devices layout p) (omega arith))
        ∙ ap (λ t. cond t (c % (p - 1) == s % (p - 1)) (diagonal_test layout p (s % (p - 1)) (c % (p - 1)) (c / (p - 1)))) (eq-eqb _ _ h))

    -- on the device of diagonal parity
    pub diagonal-column : data_devices layout p ≤ s / (p - 1) → s / (p - 1) ≢ data_devices layout p
        → diagonal_test layout p (s % (p - 1)) (c % (p - 1)) (c / (p - 1)) ≡ has (get_or (layout_rows layout p) s 0) c
    diagonal-column h apart = sym (column-tested
        ∙ ap (λ t. cond t (c == s) (cond (s / (p - 1) == data_devices layout p) (c % (p - 1) == s % (p - 1)) (diagonal_test layout p (s % (p - 1)) (c % (p - 1)) (c / (p - 1))))) (le-ltb (s / (p - 1)) (data_devices layout p) h)
        ∙ ap (λ t. cond t (c % (p - 1) == s % (p - 1)) (diagonal_test layout p (s % (p - 1)) (c % (p - 1)) (c / (p - 1)))) (ne_eqb _ _ apart))

-- ---- a row, column by column

pub row-start : (r : ℕ) → 0 ≡ below 0 r
row-start r = sym (below-zero r)

pub row-in : (r c : ℕ) → has r c ≡ true → bit_or (below c r) (2 ^ c) ≡ below (c + 1) r
row-in r c h = ap (λ v. bit_or v (2 ^ c)) refl ∙ apart_or ∙ sym (below-in c r (true-has r c h))
  where
    apart_or : bit_or (below c r) (2 ^ c) ≡ bit_xor (below c r) (2 ^ c)
    apart_or = same_from_bits _ _ (λ i. omega (arith, bit_at_or (below c r) (2 ^ c) i, bit_at_xor (below c r) (2 ^ c) i, bit_at_below_cases c r i, bit_at_pow_cases c i, bit_at-lt r i))

pub row-out : (r c : ℕ) → has r c ≡ false → below c r ≡ below (c + 1) r
row-out r c h = sym (below-out c r (false-has r c h))

pub row-end : (r n : ℕ) → r < 2 ^ n → below n r ≡ r
row-end r n low = below-all n r low

-- ---- the whole matrix

pub layout-length : (layout : Layout) (p : ℕ) → is_size layout p ≡ true → length (layout_rows layout p) ≡ symbol_count (layout_shape layout p)
layout-length layout p size = ap length (sym (rows-tested layout p size)) ∙ length-map-range_with_len (λ s. set_below (layout_shape layout p).columns (column_test layout p s)) 0 (symbol_count (layout_shape layout p))

pub layout-columns : (layout : Layout) (p : ℕ) → is_size layout p ≡ true → All (λ r. r < 2 ^ (layout_shape layout p).columns) (layout_rows layout p)
layout-columns layout p size = All-from_get_or (λ r. r < 2 ^ (layout_shape layout p).columns) (layout_rows layout p) 0
    (λ s low. row-small layout p s size (omega (arith, layout-length layout p size)))

pub layout-shaped : (layout : Layout) (p : ℕ) → is_size layout p ≡ true
    → shape_of (data_devices layout p + 2) (p - 1) (data_devices layout p * (p - 1)) ≡ Ok (layout_shape layout p)
layout-shaped Rdp p h = at_rdp_sizes (λ q. shape_of (data_devices Rdp q + 2) (q - 1) (data_devices Rdp q * (q - 1)) ≡ Ok (layout_shape Rdp q)) refl refl refl refl p h
layout-shaped EvenOdd p h = at_evenodd_sizes (λ q. shape_of (data_devices EvenOdd q + 2) (q - 1) (data_devices EvenOdd q * (q - 1)) ≡ Ok (layout_shape EvenOdd q)) refl refl refl p h

-- the rows of symbols up to the next
pub rows-more : (layout : Layout) (p s row : ℕ) (rows : List ℕ) → is_size layout p ≡ true → s < symbol_count (layout_shape layout p) → length rows ≡ 128
    → take s rows ≡ take s (layout_rows layout p) → row ≡ get_or (layout_rows layout p) s 0 → take (s + 1) (set rows s row) ≡ take (s + 1) (layout_rows layout p)
rows-more layout p s row rows size symbol room so_far e =
    let within = (small layout p size).symbols in
    take_more_set rows s row (omega arith) ∙ ap₂ (λ l r. l ++ r ∷ []) so_far e ∙ sym (take_more (layout_rows layout p) s 0 (omega (arith, layout-length layout p size)))

pub rows-end : (layout : Layout) (p : ℕ) → is_size layout p ≡ true → take (symbol_count (layout_shape layout p)) (layout_rows layout p) ≡ layout_rows layout p
rows-end layout p size = take_all (symbol_count (layout_shape layout p)) (layout_rows layout p) (omega (arith, layout-length layout p size))

-- two answers that are one
pub ok-same : {T E : Type 0} (a b : T) → ◌≡◌ {A = Result T E} (Ok a) (Ok b) → a ≡ b
ok-same a b e = cc

-- the shape that is made
pub shape-made : (layout : Layout) (p held : ℕ) (answer : Result Dimensions Large) (shape : Dimensions) → is_size layout p ≡ true
    → answer ≡ Ok shape → answer ≡ shape_of (held + 2) (p - 1) (held * (p - 1)) → held ≡ data_devices layout p → shape ≡ layout_shape layout p
shape-made layout p held answer shape size was new is =
    ok-same _ _ (sym was ∙ new ∙ ap (λ d. shape_of (d + 2) (p - 1) (d * (p - 1))) is ∙ layout-shaped layout p size)

-- the rows that are made
pub rows-made : (layout : Layout) (p s n : ℕ) (shape : Dimensions) (rows : List ℕ) → is_size layout p ≡ true → shape ≡ layout_shape layout p → n ≡ symbol_count shape
    → s ≡ n → take s rows ≡ take s (layout_rows layout p) → take n rows ≡ layout_rows layout p
rows-made layout p s n shape rows size is count done so_far =
    subst (λ m. take m rows ≡ take m (layout_rows layout p)) done so_far
    ∙ ap (λ m. take m (layout_rows layout p)) (count ∙ ap symbol_count is) ∙ rows-end layout p size

-- each row has columns of the matrix alone
pub columns-made : (layout : Layout) (p : ℕ) (shape : Dimensions) (rows : List ℕ) → is_size layout p ≡ true → shape ≡ layout_shape layout p → rows ≡ layout_rows layout p
    → All (λ r. r < 2 ^ shape.columns) rows
columns-made layout p shape rows size is same =
    subst (λ (d : Dimensions). All (λ r. r < 2 ^ d.columns) rows) (sym is) (subst (All (λ r. r < 2 ^ (layout_shape layout p).columns)) (sym same) (layout-columns layout p size))
