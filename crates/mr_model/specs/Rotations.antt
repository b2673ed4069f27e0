-- Codes whose devices have moved on.
use Rattle.std.specs.Prelude.{ℕ, ◌+◌, ◌-◌, ◌*◌, ◌/◌, ◌%◌, map, length, slice_index}
use Rattle.std.specs.List.{range_with_len}
use Rattle.mr_model.specs.Code.{Code}

-- where symbol i of n devices, of w symbols each, stood before the devices moved on by r
unfoldable pub moved : ℕ → ℕ → ℕ → ℕ → ℕ
moved n w r i = (i / w + n - r) % n * w + i % w

-- the code whose devices have moved on by r, with the prices where they were
unfoldable pub rotated : Code → ℕ → Code
rotated m r = record m {
  rows = map (λ i. slice_index m.rows (moved m.devices m.symbols_per_device r i))
      (range_with_len 0 (length m.rows));
}
