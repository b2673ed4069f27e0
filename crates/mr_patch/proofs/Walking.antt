-- The sectors that are still to come in a walk through the stripes.
use Rattle.std.proofs.Common.{◌≡◌, ℕ, ◌+◌, ◌<◌, ◌≤◌, List, All, refl, ◌∙◌, arith}
use Rattle.mr_image.specs.Images.{Layout, stripe_symbols}
use Rattle.mr_mend.specs.declared.asks.Ask.{Ask}
use Rattle.mr_sector.specs.Patterns.{AreFrom, failed}
use Rattle.mr_sector.specs.Sectors.{AreSectors}
use Rattle.mr_sector.proofs.SectorLaws.{sectors-from}

-- of these sectors those are left that are of stripe s or of later ones
pub record IsWalking (sectors left : List Ask) (s : ℕ) : Type 0 where
  pub symbols : All (λ (sector : Ask). sector.symbol < 128) left
  pub upwards : AreFrom s left
  pub same : (v t : ℕ) → s ≤ t → failed v sectors t ≡ failed v left t

pub walking-start : (l : Layout) (lost : ℕ) (sectors : List Ask) → stripe_symbols l ≤ 128 → AreSectors l lost sectors → IsWalking sectors sectors 0
walking-start l lost sectors few are = record {
  symbols = λ k d low. omega (arith, (are.in_range k d low).symbol, few);
  upwards = sectors-from l lost sectors are;
  same = λ v t from. refl;
}

pub walking-turn : (sectors left rest : List Ask) (s : ℕ) → IsWalking sectors left s → All (λ (sector : Ask). sector.symbol < 128) rest → AreFrom (s + 1) rest
    → ((v t : ℕ) → s < t → failed v left t ≡ failed v rest t) → IsWalking sectors rest (s + 1)
walking-turn sectors left rest s h symbols upwards later =
    record { symbols = symbols; upwards = upwards; same = λ v t from. h.same v t (omega (arith, from)) ∙ later v t (omega (arith, from)) }
