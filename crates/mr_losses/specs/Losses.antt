-- The symbols of devices.
use Rattle.std.specs.Prelude.{length, ℕ, ◌-◌, ◌/◌, ◌^◌}
use Rattle.mr_model.specs.Code.{Code}
use Rattle.mr_model.specs.Sets.{filter_members, has}

-- the symbols of a set of devices
unfoldable pub symbols_of_devices : Code → ℕ → ℕ
symbols_of_devices m devices =
    filter_members (2 ^ length m.rows - 1) (λ i. has devices (i / m.symbols_per_device))
