-- What waits in rows, one for each level.
use Rattle.std.specs.Prelude.{ℕ, zero, suc, List, [], ◌∷◌, vec_len}
use Rattle.mr_eq.specs.Problems.{Loss}
use Rattle.mr_front.specs.declared.row.Row.{Row}
use Rattle.mr_front.specs.declared.rows.Rows.{Rows}
use Rattle.mr_front.specs.PutOff.{Has, IsPutOff, Holds}

-- the row at i has this property
unfoldable pub AtRow : (Row → Type 0) → List Row → ℕ → Type 0
AtRow Q [] i = ⊥
AtRow Q (r ∷ rs) zero = Q r
AtRow Q (r ∷ rs) (suc i) = AtRow Q rs i

-- u waits in the row of the level above this one
abbrev pub InNext : Loss → ℕ → Row → ℕ → Type 0
InNext p level r u = Holds p level r.lists.map r.late.map u

-- u waits in the row of level i
abbrev pub InRow : Loss → ℕ → Row → ℕ → Type 0
InRow p zero r u = Has p r.lists.map u
InRow p (suc k) r u = InNext p k r u

-- u waits at level i
abbrev pub InList : Loss → List Row → ℕ → ℕ → Type 0
InList p rs i u = AtRow (λ r. InRow p i r u) rs i

-- u stands in a list of level i
abbrev pub StandsAt : Loss → List Row → ℕ → ℕ → Type 0
StandsAt p rs i u = AtRow (λ r. Has p r.lists.map u) rs i

-- the mask v of level k is put off to the cost c
abbrev pub LateAt : List Row → ℕ → ℕ → ℕ → Type 0
LateAt rs k c v = AtRow (λ r. IsPutOff r.late.map c v) rs (suc k)

-- how many rows there are
abbrev pub row_count : Rows → ℕ
row_count r = vec_len r.rows

-- u waits at level i of the rows: it stands in a list, or is still to be made of a mask that is put off
abbrev pub InRows : Loss → Rows → ℕ → ℕ → Type 0
InRows p r i u = InList p r.rows.items i u

-- the mask v of level k is put off to the cost c by the rows
abbrev pub LateIn : Rows → ℕ → ℕ → ℕ → Type 0
LateIn r k c v = LateAt r.rows.items k c v
