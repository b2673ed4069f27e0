-- Two published codes, as sets of cells. A device is a column of w cells: cell (i, j)
-- is row i of device j, which is symbol j * w + i. Corbett and others, Row-Diagonal
-- Parity for Double Disk Failure Correction, FAST 2004; Blaum and others, EVENODD,
-- IEEE Transactions on Computers 44(2), 1995.
use Rattle.std.specs.Prelude.{ℕ, ◌+◌, ◌-◌, ◌*◌, ◌/◌, ◌%◌, ◌^◌, ◌==◌, Bool, ◌||◌, List, ◌++◌, map, Option, Some, None, if◌then◌else◌}
use Rattle.std.specs.List.{range_with_len}
use Rattle.mr_model.specs.Sets.{set_below, sum}
use Rattle.mr_model.specs.Code.{Code, Dimensions, code_of}
use Rattle.mr_form.specs.declared.makers.Layout.{Layout}
use Rattle.mr_form.specs.declared.makers.Layout.TheVariants.{Rdp, EvenOdd}

-- the set of the cells of the first devices that pass
unfoldable pub cells : ℕ → ℕ → (ℕ → ℕ → Bool) → ℕ
cells w devices passes = set_below (devices * w) (λ s. passes (s % w) (s / w))

-- the rows of data symbols: the data symbol of column c is symbol c
unfoldable pub data_rows : ℕ → List ℕ
data_rows columns = map (λ c. 2 ^ c) (range_with_len 0 columns)

-- the rows, and behind them a device of parities: row l of it
-- is the XOR of the cells that pass for l
unfoldable pub with_parity : List ℕ → ℕ → ℕ → (ℕ → ℕ → ℕ → Bool) → List ℕ
with_parity rows w devices passes =
    rows ++ map (λ l. sum rows (cells w devices (passes l))) (range_with_len 0 w)

-- the cells of one row
abbrev pub in_row : ℕ → ℕ → ℕ → Bool
in_row l i j = i == l

-- the cells of one diagonal
abbrev pub on_diagonal : ℕ → ℕ → ℕ → ℕ → Bool
on_diagonal p l i j = (i + j) % p == l

-- the cells of one diagonal, and those of diagonal p - 1, which adjusts all
abbrev pub on_adjusted : ℕ → ℕ → ℕ → ℕ → Bool
on_adjusted p l i j = ((i + j) % p == l) || ((i + j) % p == p - 1)

-- Row-diagonal parity: data on devices 0 to p - 2, row parity of these on
-- device p - 1, and on device p the parity of each diagonal but the last over
-- devices 0 to p - 1, the row parity among them.
unfoldable pub rdp_rows : ℕ → List ℕ
rdp_rows p =
    with_parity (with_parity (data_rows ((p - 1) * (p - 1))) (p - 1) (p - 1) in_row) (p - 1) p
    (on_diagonal p)

-- EVENODD: data on devices 0 to p - 1, row parity of these on device p, and on device p + 1 the
-- parity of each diagonal but the last over devices 0 to p - 1, with the last diagonal added to
-- each.
unfoldable pub evenodd_rows : ℕ → List ℕ
evenodd_rows p =
    with_parity (with_parity (data_rows (p * (p - 1))) (p - 1) p in_row) (p - 1) p (on_adjusted p)

-- the primes that the makers take
abbrev pub is_rdp_size : ℕ → Bool
is_rdp_size p = (p == 3) || (p == 5) || (p == 7) || (p == 11)

abbrev pub is_evenodd_size : ℕ → Bool
is_evenodd_size p = (p == 3) || (p == 5) || (p == 7)

abbrev pub rdp_code : ℕ → Code
rdp_code p = code_of (record {
  devices = p + 1;
  symbols_per_device = p - 1;
  columns = (p - 1) * (p - 1);
}) (rdp_rows p)

abbrev pub evenodd_code : ℕ → Code
evenodd_code p = code_of (record {
  devices = p + 2;
  symbols_per_device = p - 1;
  columns = p * (p - 1);
}) (evenodd_rows p)

-- what the makers give
unfoldable pub rdp_of : ℕ → Option Code
rdp_of p = if is_rdp_size p then Some (rdp_code p) else None

unfoldable pub evenodd_of : ℕ → Option Code
evenodd_of p = if is_evenodd_size p then Some (evenodd_code p) else None

-- ---- both codes, by their names

abbrev pub is_size : Layout → ℕ → Bool
is_size Rdp p = is_rdp_size p
is_size EvenOdd p = is_evenodd_size p

abbrev pub data_devices : Layout → ℕ → ℕ
data_devices Rdp p = p - 1
data_devices EvenOdd p = p

abbrev pub layout_rows : Layout → ℕ → List ℕ
layout_rows Rdp p = rdp_rows p
layout_rows EvenOdd p = evenodd_rows p

abbrev pub layout_shape : Layout → ℕ → Dimensions
layout_shape layout p = record {
  devices = data_devices layout p + 2;
  symbols_per_device = p - 1;
  columns = data_devices layout p * (p - 1);
}
