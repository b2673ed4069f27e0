-- Passes that are joined to one.
use Rattle.std.specs.Prelude.{◌≡◌, ◌+◌, ◌++◌, List, flat_map, length, sum_by}
use Rattle.mr_board.specs.declared.view.PassView.{PassView}
use Rattle.mr_counts.specs.Numbers.{AreEachBelow}
use Rattle.mr_counts.specs.Shares.{whole_share}

-- where it has all parts, its draws are the numbers below their count, each once
abbrev pub IsWhole : PassView → Type 0
IsWhole v = v.parts + v.left ≡ whole_share → AreEachBelow v.draws (length v.draws)

-- from v to w a pass took in what these know
pub record HasJoined (v : PassView) (others : List PassView) (w : PassView) : Type 0 where
  pub terms : w.terms ≡ v.terms
  pub draws : w.draws ≡ v.draws ++ flat_map (λ (u : PassView). u.draws) others
  pub seen : w.seen ≡ v.seen ++ flat_map (λ (u : PassView). u.seen) others
  pub share : w.parts + w.left
      ≡ v.parts + v.left + sum_by (λ (u : PassView). u.parts + u.left) others
