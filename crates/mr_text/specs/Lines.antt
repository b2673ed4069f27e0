-- Texts cut at a byte, and the first bad line of a text.
use Rattle.std.specs.Prelude.{◌≡◌, ℕ, ◌-◌, ◌<◌, ◌==◌, List, length, take}
use Rattle.std.specs.List.{slice_split}

-- What stands between the bytes `at`: the words of a line, or the lines of a text, behind the last
-- line feed of which a last piece stands, empty where nothing does.
abbrev pub pieces : ℕ → List ℕ → List (List ℕ)
pieces at bytes = slice_split (λ b. b == at) bytes

-- ---- the first bad line

-- The first n lines of the bytes have their line feeds, and are the first n of some text.
pub record BeginsText (IsText : List ℕ → Type 0) (n : ℕ) (bytes : List ℕ) : Type 0 where
  pub text : List ℕ
  pub is_text : IsText text
  pub ended : n < length (pieces 10 bytes)
  pub whole : n < length (pieces 10 text)
  pub same : take n (pieces 10 bytes) ≡ take n (pieces 10 text)

-- Line n, from 1, is the first bad line of the bytes: the lines before it
-- begin a text, and with it they begin none.
pub record IsFirstBadLine (IsText : List ℕ → Type 0) (n : ℕ) (bytes : List ℕ) : Type 0 where
  pub before : BeginsText IsText (n - 1) bytes
  pub bad : ¬ BeginsText IsText n bytes
