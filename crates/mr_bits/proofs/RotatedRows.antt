-- The rows of a matrix whose devices have moved on.
use Rattle.std.proofs.Common.{◌≡◌, ℕ, ◌-◌, ◌*◌, ◌^◌, ◌<◌, ◌≤◌, List, ◌++◌, length, take, drop, replicate, All, ap, subst, ◌∙◌, sym, arith}
use Rattle.std.proofs.lemmas.List.{get_or_default, take_at, drop_at, length-append, length-drop}
use Rattle.mr_model.specs.Code.{Code, Dimensions, priced_code}
use Rattle.mr_model.specs.Rotations.{moved, rotated}
use Rattle.mr_model.proofs.RotationLaws.{count-rotated, row-rotated, rows-rotated, moved-lt}
use Rattle.mr_bits.specs.Matrices.{symbol_count, padded, IsMatrix, IsMatrixCode}
use Rattle.mr_bits.proofs.RowLaws.{row_count, matrix-code}

-- a code that a matrix can be stays one
pub matrix-rotated : (m : Code) (r : ℕ) → IsMatrixCode m → r ≤ m.devices → IsMatrixCode (rotated m r)
unfolding rotated
matrix-rotated m r is within = record {
  shape = is.shape;
  count = count-rotated m r ∙ is.count;
  columns = λ k d low.
      let inside : k < length m.rows = omega (arith, low, count-rotated m r) in
      let stood : ℕ = moved m.devices m.symbols_per_device r k in
      let there : stood < length m.rows = omega (arith, moved-lt m.devices m.symbols_per_device r is.shape.some_symbols within k (omega (arith, inside, is.count)), is.count) in
      omega (arith, is.columns stood 0 there, row-rotated m r k inside, get_or_default (rotated m r).rows k 0 d low);
  price_count = is.price_count;
  priced = is.priced;
}

-- the rows that are turned round, in their room
module _ (d : Dimensions) (rows prices now : List ℕ) (count r by : ℕ) (is : IsMatrix d rows prices) (within : r < d.devices) (all : count ≡ symbol_count d) (far : by ≡ r * d.symbols_per_device)
    (turn : now ≡ drop (length (take count rows) - by) (take count rows) ++ take (length (take count rows) - by) (take count rows)) where
  abbrev before : Code
  before = priced_code d (take (symbol_count d) rows) (take d.devices prices)

  rows_are : now ≡ (rotated before r).rows
  rows_are =
      turn ∙ (λ j. drop (length (take (all j) rows) - far j) (take (all j) rows) ++ take (length (take (all j) rows) - far j) (take (all j) rows))
      ∙ sym (rows-rotated before r is.shape.some_symbols (omega arith) (row_count d rows prices is))

  size : length now ≡ symbol_count d
  size = ap length rows_are ∙ count-rotated before r ∙ row_count d rows prices is

  front : take (symbol_count d) (now ++ drop count rows) ≡ now
  front = take_at now (drop count rows) (symbol_count d) size

  -- they are the rows of the code whose devices have moved on
  pub turned : priced_code d (take (symbol_count d) (now ++ drop count rows)) (take d.devices prices) ≡ rotated before r
  unfolding rotated
  turned = ap (λ (own : List ℕ). priced_code d own (take d.devices prices)) (front ∙ rows_are)

  -- behind them there are zeros, as before
  zeros : drop count rows ≡ replicate (128 - length now) 0
  zeros =
      ap (drop count) (sym is.unused)
      ∙ drop_at (take (symbol_count d) rows) (replicate (128 - length (take (symbol_count d) rows)) 0) count (row_count d rows prices is ∙ sym all)
      ∙ ap (λ n. replicate (128 - n) 0) (row_count d rows prices is ∙ sym size)

  -- what is kept is a matrix
  pub turned-matrix : IsMatrix d (now ++ drop count rows) prices
  unfolding rotated
  turned-matrix = record {
    shape = is.shape;
    room = omega (arith, length-append now (drop count rows), length-drop count rows, is.room, size, all, is.shape.few_symbols);
    columns = subst (All (λ x. x < 2 ^ d.columns)) (sym (front ∙ rows_are)) (matrix-rotated before r (matrix-code d rows prices is) (omega arith)).columns;
    unused = ap padded front ∙ ap (λ rest. now ++ rest) (sym zeros);
    price_room = is.price_room;
    priced = is.priced;
    unused_prices = is.unused_prices;
  }
