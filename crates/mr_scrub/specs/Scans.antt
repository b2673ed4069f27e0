-- Scans: the first fault of each of several stripes, which stand one after another.
use Rattle.std.specs.Prelude.{◌≡◌, ℕ, ◌+◌, ◌*◌, ◌/◌, ◌%◌, ◌<◌, List, [], map, take, drop, length, slice_index_or, All, Option}
use Rattle.std.specs.List.{range_with_len}
use Rattle.mr_model.specs.Code.{Code}
use Rattle.mr_image.specs.Images.{Layout, stripe_symbols}
use Rattle.mr_scrub.specs.Stripes.{symbols_of, fault}

-- the bytes of a stripe
abbrev pub stripe_bytes : Layout → ℕ
stripe_bytes l = stripe_symbols l * l.symbol_bytes

-- the symbols of stripe k of several
unfoldable pub stripe_at : Layout → List ℕ → ℕ → List (List ℕ)
stripe_at l bytes k =
    symbols_of (stripe_symbols l) l.symbol_bytes
    (take (stripe_bytes l) (drop (k * stripe_bytes l) bytes))

-- a code of nothing, for places where there is none
abbrev pub no_code : Code
no_code = record { devices = 0; symbols_per_device = 0; columns = 0; rows = []; prices = [] }

-- the code of the stripe with number s: codes take turns
abbrev pub code_at : List Code → ℕ → Code
code_at codes s = slice_index_or codes (s % length codes) no_code

-- the first fault of stripe k of several, of which the first has number `first`
unfoldable pub fault_of : List Code → Layout → ℕ → List ℕ → ℕ → Option ℕ
fault_of codes l first bytes k =
    fault (code_at codes (first + k)) l.symbol_bytes (stripe_at l bytes k)

-- the first fault of each of several stripes, of which the first has number `first`
abbrev pub faults_in : List Code → Layout → ℕ → List ℕ → List (Option ℕ)
faults_in codes l first bytes =
    map (fault_of codes l first bytes) (range_with_len 0 (length bytes / stripe_bytes l))

-- stripe k is there, and each of the codes, of which there is one, has the symbols of a stripe
pub record ScansStripes (codes : List Code) (l : Layout) (bytes : List ℕ) (k : ℕ) : Type 0 where
  pub some : 0 < length codes
  pub shape : All (λ m. length m.rows ≡ stripe_symbols l) codes
  pub here : k < length bytes / stripe_bytes l
