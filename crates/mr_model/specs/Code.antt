-- Codes by XOR: the rows of the symbols, equations of a symbol,
-- kept and plain sets, sets of sum zero.
use Rattle.std.specs.Prelude.{ℕ, ◌-◌, ◌*◌, ◌/◌, ◌^◌, ◌≤◌, ◌==◌, Bool, not, List, map, length, replicate, Option, unwrap_or, slice_index, bit_xor}
use Rattle.std.specs.List.{range_with_len}
use Rattle.mr_model.specs.Sets.{has, below, minus, any_subset, find_subset, any_member, all_members, find_member, filter_members, sum, total}
use Rattle.mr_model.specs.Members.{members}

-- A code: its devices, the symbols of each, the columns of data, the row of each symbol as a set of
-- columns, and the price of a symbol of each device. Symbol i stands on device i /
-- symbols_per_device.
pub record Code : Type 0 where
  pub devices : ℕ
  pub symbols_per_device : ℕ
  pub columns : ℕ
  pub rows : List ℕ
  pub prices : List ℕ

-- the numbers that fix the form of a code
pub record Dimensions : Type 0 where
  pub devices : ℕ
  pub symbols_per_device : ℕ
  pub columns : ℕ

-- the most symbols that a code may have in this program, the most
-- columns, and the greatest price of a device
abbrev pub most_symbols : ℕ
most_symbols = 128

abbrev pub most_columns : ℕ
most_columns = 128

abbrev pub greatest_price : ℕ
greatest_price = 1000

-- dimensions within the limits of this program
pub record IsDimensions (d : Dimensions) : Type 0 where
  pub some_devices : 1 ≤ d.devices
  pub some_symbols : 1 ≤ d.symbols_per_device
  pub some_columns : 1 ≤ d.columns
  pub few_symbols : d.devices * d.symbols_per_device ≤ most_symbols
  pub few_columns : d.columns ≤ most_columns

abbrev pub dimensions : Code → Dimensions
dimensions m = record {
  devices = m.devices;
  symbols_per_device = m.symbols_per_device;
  columns = m.columns;
}

-- the code of these dimensions, rows and prices
abbrev pub priced_code : Dimensions → List ℕ → List ℕ → Code
priced_code d rows prices = record {
  devices = d.devices;
  symbols_per_device = d.symbols_per_device;
  columns = d.columns;
  rows = rows;
  prices = prices;
}

-- the code of these dimensions and rows in which each device has the price 1
abbrev pub code_of : Dimensions → List ℕ → Code
code_of d rows = priced_code d rows (replicate d.devices 1)

-- the set of the symbols of device i
abbrev pub device_symbols : Code → ℕ → ℕ
device_symbols m i = (2 ^ m.symbols_per_device - 1) * 2 ^ (i * m.symbols_per_device)

-- the symbols that are not lost
abbrev pub survivors : Code → ℕ → ℕ
survivors m lost = minus (2 ^ length m.rows - 1) lost

-- ---- sums and equations

-- the columns of symbol i
abbrev pub row : Code → ℕ → ℕ
row m i = slice_index m.rows i

-- the XOR of the rows of the symbols in x
abbrev pub row_sum : Code → ℕ → ℕ
row_sum m x = sum m.rows x

-- x is an equation of symbol t: its rows add up to that of t
abbrev pub is_equation : Code → ℕ → ℕ → Bool
is_equation m t x = row_sum m x == row m t

-- t has an equation within a
abbrev pub has_equation : Code → ℕ → ℕ → Bool
has_equation m a t = any_subset a (is_equation m t)

-- each target has an equation within a
abbrev pub is_determined : Code → ℕ → ℕ → Bool
is_determined m a targets = all_members targets (has_equation m a)

-- the least target that has no equation within a
abbrev pub undetermined : Code → ℕ → ℕ → Option ℕ
undetermined m a targets = find_member targets (λ t. not (has_equation m a t))

-- ---- prices

-- the price of each symbol, which is that of its device
unfoldable pub symbol_prices : Code → List ℕ
symbol_prices m =
    map (λ i. slice_index m.prices (i / m.symbols_per_device)) (range_with_len 0 (length m.rows))

-- what it costs to read the symbols of s
unfoldable pub cost : Code → ℕ → ℕ
cost m s = total (symbol_prices m) s

-- ---- kept sets, and the plain plan

-- the members of a that have no equation within the members of a below them
unfoldable pub kept : Code → ℕ → ℕ
kept m a = filter_members a (λ i. not (has_equation m (below i a) i))

-- the set of kept members of a whose rows add up to a target
unfoldable pub combination : Code → ℕ → ℕ → Option ℕ
combination m a target = find_subset (kept m a) (λ x. row_sum m x == target)

-- the equation of t within the kept members of a
unfoldable pub kept_equation : Code → ℕ → ℕ → ℕ
kept_equation m a t = unwrap_or (combination m a (row m t)) 0

-- the union of the equations of the targets within the kept members of a
unfoldable pub plain : Code → ℕ → ℕ → ℕ
plain m a targets =
    filter_members (kept m a) (λ i. any_member targets (λ t. has (kept_equation m a t) i))

-- ---- sets of sum zero

-- the rows of x add up to nothing
abbrev pub is_null : Code → ℕ → Bool
is_null m x = row_sum m x == 0

-- the members of a that are not kept
abbrev pub dropped : Code → ℕ → ℕ
dropped m a = minus a (kept m a)

-- a member f that is not kept, together with its equation: a set of sum zero
abbrev pub generator : Code → ℕ → ℕ → ℕ
generator m a f = bit_xor (kept_equation m a f) (2 ^ f)

-- the generators of the members that are not kept, upwards
unfoldable pub generators : Code → ℕ → List ℕ
generators m a = map (generator m a) (members (dropped m a))

-- all XORs of items of a list: item x is the XOR of the items at the members of x
unfoldable pub all_sums : List ℕ → List ℕ
all_sums gs = map (sum gs) (range_with_len 0 (2 ^ length gs))

-- the subsets of a whose rows add up to nothing
abbrev pub nulls : Code → ℕ → List ℕ
nulls m a = all_sums (generators m a)

-- a code and a set of its symbols
pub record Spanned : Type 0 where
  pub code : Code
  pub set : ℕ
