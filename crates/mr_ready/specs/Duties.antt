-- What the eyes of a rebuild are for.
use Rattle.std.specs.Prelude.{ℕ, Bool, List, [], ◌∷◌, ◌++◌, if◌then◌else◌, map, replicate}
use Rattle.mr_io.specs.declared.asked.Asked.{Asked}
use Rattle.mr_io.specs.declared.duty.Duty.{Duty}
use Rattle.mr_io.specs.declared.duty.Duty.TheVariants.{Copy, Live, Mend}

-- how many eyes serve the reads: with `live` as many as mend, and else one
abbrev pub readers_of : ℕ → Bool → ℕ
readers_of workers live = if live then workers else 1

-- the duties of the eyes, in the order in which they are asked for
abbrev pub duties_of : ℕ → Bool → List Duty
duties_of workers live =
    replicate workers Mend ++ replicate (readers_of workers live) Live ++ Copy ∷ []

-- eyes of these duties on the file of a name
abbrev pub eyes_on : List ℕ → List Duty → List Asked
eyes_on name duties = map (λ duty. record { name = name; duty = duty }) duties
