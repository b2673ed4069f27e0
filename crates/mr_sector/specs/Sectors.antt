-- Lists of unreadable symbols: what a text of them is, and its first line that is not of its form.
use Rattle.std.specs.Prelude.{◌≡◌, ◌≢◌, ℕ, ◌+◌, ◌<◌, ◌≤◌, ◌==◌, ◌&&◌, ◌||◌, nat_lt, Bool, true, List, [], ◌∷◌, ◌++◌, length, slice_index_or, All, Option, Some, None, Result, Ok, Err, if◌then◌else◌}
use Rattle.std.specs.Int.{bit_at}
use Rattle.mr_text.specs.Lines.{pieces}
use Rattle.mr_image.specs.Images.{Layout}
use Rattle.mr_mend.specs.declared.asks.Ask.{Ask}
use Rattle.mr_mend.specs.Scripts.{IsInRange, ask_of, ask_line, script_text}

-- a stands before b: by stripe, and in one stripe by symbol
pub record ComesBefore (a b : Ask) : Type 0 where
  pub stripe : a.stripe ≤ b.stripe
  pub symbol : a.stripe ≡ b.stripe → a.symbol < b.symbol

-- symbols that the image has, none of them lost, strictly upwards by stripe and then by symbol
pub record AreSectors (l : Layout) (lost : ℕ) (sectors : List Ask) : Type 0 where
  pub in_range : All (IsInRange l) sectors
  pub not_lost : All (λ sector. bit_at lost sector.symbol ≡ 0) sectors
  pub upwards : (k : ℕ) (d : Ask) → k + 1 < length sectors
      → ComesBefore (slice_index_or sectors k d) (slice_index_or sectors (k + 1) d)

-- Line n is the first that is not of its form: the n - 1 lines before it are those of sectors. What
-- stands behind them is not empty, and does not begin with the line of a sector that may follow them.
pub record HasFirstBadSector (l : Layout) (lost : ℕ) (bytes : List ℕ) (n : ℕ) : Type 0 where
  pub before : List Ask
  pub rest : List ℕ
  pub number : n ≡ length before + 1
  pub sectors : AreSectors l lost before
  pub parts : bytes ≡ script_text before ++ rest
  pub some : 0 < length rest
  pub bad : (next : Ask) (more : List ℕ) → AreSectors l lost (before ++ next ∷ [])
      → rest ≢ ask_line next ++ more

-- ---- what is read

-- whether a sector stands behind the one before, if there is one
abbrev pub is_behind : Option Ask → Ask → Bool
is_behind None sector = true
is_behind (Some before) sector =
    nat_lt before.stripe sector.stripe
    || (before.stripe == sector.stripe && nat_lt before.symbol sector.symbol)

-- what a line spells, where its symbol is not lost and it stands behind the one before
abbrev pub unless_bad : ℕ → Option Ask → Option Ask → Option Ask
unless_bad lost before None = None
unless_bad lost before (Some sector) =
    if bit_at lost sector.symbol == 0 && is_behind before sector then Some sector else None

-- the sector of a line behind the one before
abbrev pub sector_of : Layout → ℕ → Option Ask → List ℕ → Option Ask
sector_of l lost before line = unless_bad lost before (ask_of l line)

-- the sector of line n before those of the lines behind it
abbrev pub sector_before : ℕ → Option Ask → Result (List Ask) ℕ → Result (List Ask) ℕ
sector_before n None later = Err n
sector_before n (Some sector) (Ok sectors) = Ok (sector ∷ sectors)
sector_before n (Some sector) (Err line) = Err line

-- The sectors of the lines from number n on, behind the one before them, or the first line that has
-- none; behind the last line feed (10) nothing stands.
unfoldable pub sectors_from : Layout → ℕ → Option Ask → ℕ → List (List ℕ) → Result (List Ask) ℕ
sectors_from l lost before n [] = Ok []
sectors_from l lost before n (last ∷ []) = if length last == 0 then Ok [] else Err n
sectors_from l lost before n (line ∷ next ∷ more) =
    sector_before n (sector_of l lost before line)
    (sectors_from l lost (sector_of l lost before line) (n + 1) (next ∷ more))

-- the sectors that a text lists, or the number, from 1, of its first bad line
unfoldable pub sectors_of : Layout → ℕ → List ℕ → Result (List Ask) ℕ
sectors_of l lost bytes = sectors_from l lost None 1 (pieces 10 bytes)

-- ---- never both

-- No text is both the lines of sectors and one with a first line that is not of its form.
pub record IsOneOf (l : Layout) (lost : ℕ) : Type 0 where
  pub not_both : (bytes : List ℕ) (sectors : List Ask) (n : ℕ) → bytes ≡ script_text sectors
      → AreSectors l lost sectors → HasFirstBadSector l lost bytes n → ⊥
