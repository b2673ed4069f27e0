-- Data files: the symbols of data of each stripe, one after another.
use Rattle.std.specs.Prelude.{◌≡◌, ℕ, ◌+◌, ◌*◌, ◌^◌, ◌<◌, ◌≤◌, List, length, map, take, drop}
use Rattle.std.specs.List.{range_with_len}
use Rattle.mr_model.specs.Code.{Code, row}
use Rattle.mr_image.specs.Images.{Layout}

-- the length of a data file: in each stripe a symbol for each column
abbrev pub data_bytes : Layout → Code → ℕ
data_bytes l m = l.stripes * m.columns * l.symbol_bytes

-- the first k symbols of `size` bytes
abbrev pub symbols_in : ℕ → ℕ → List ℕ → List (List ℕ)
symbols_in size k bytes = map (λ c. take size (drop (c * size) bytes)) (range_with_len 0 k)

-- the symbols of data of stripe s, one for each of k columns
abbrev pub columns_of : Layout → ℕ → List ℕ → ℕ → List (List ℕ)
columns_of l k bytes s =
    map (λ c. take l.symbol_bytes (drop ((s * k + c) * l.symbol_bytes) bytes)) (range_with_len 0 k)

-- the symbols of data stand first among the symbols of the code, in order: symbol c is column c alone
pub record IsSystematic (m : Code) : Type 0 where
  pub few : m.columns ≤ length m.rows
  pub rows : (c : ℕ) → c < m.columns → row m c ≡ 2 ^ c
