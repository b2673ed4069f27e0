-- Scripts: what each line asks for, and the first line that is not of its form.
use Rattle.std.specs.Prelude.{◌≡◌, ◌≢◌, ℕ, ◌+◌, ◌*◌, ◌<◌, ◌≤◌, ◌==◌, ◌&&◌, nat_lt, List, [], ◌∷◌, ◌++◌, flat_map, length, All, codes, decimal, Option, Some, None, Result, Ok, Err, if◌then◌else◌}
use Rattle.std.specs.List.{before_first, after_first}
use Rattle.mr_text.specs.Lines.{pieces}
use Rattle.mr_text.specs.Numbers.{number_of}
use Rattle.mr_bits.specs.declared.errors.Large.{Large}
use Rattle.mr_bits.specs.declared.errors.What.TheVariants.{ReplyBytes}
use Rattle.mr_image.specs.Images.{Layout, stripe_symbols}
use Rattle.mr_mend.specs.declared.asks.Ask.{Ask}
use Rattle.mr_mend.specs.declared.limits.TheConstants.{REPLY_LIMIT, SCRIPT_LIMIT}
use Rattle.mr_mend.specs.declared.asks.ScriptFault.{ScriptFault}
use Rattle.mr_mend.specs.declared.asks.ScriptFault.TheVariants.{Line, Large as TooLarge}

-- the most bytes of a script
abbrev pub script_limit : ℕ
script_limit = SCRIPT_LIMIT

-- ---- one line

-- a symbol of a stripe that the image has
pub record IsInRange (l : Layout) (ask : Ask) : Type 0 where
  pub stripe : ask.stripe < l.stripes
  pub symbol : ask.symbol < stripe_symbols l

-- the ask of a stripe and a symbol, where the image has them
abbrev pub ask_at : Layout → Option ℕ → Option ℕ → Option Ask
ask_at l (Some s) (Some i) =
    if nat_lt s l.stripes && nat_lt i (stripe_symbols l)
    then Some (record { stripe = s; symbol = i }) else None
ask_at l _ _ = None

-- the ask that a line spells: the number of a stripe, one space (32), and the number of a symbol
unfoldable pub ask_of : Layout → List ℕ → Option Ask
ask_of l line = ask_at l
    (number_of (before_first (λ b. b == 32) line)) (number_of (after_first (λ b. b == 32) line))

-- ---- all lines

-- the ask of line n before those of the lines behind it
abbrev pub ask_before : ℕ → Option Ask → Result (List Ask) ScriptFault → Result (List Ask) ScriptFault
ask_before n None later = Err (Line n)
ask_before n (Some ask) (Ok asks) = Ok (ask ∷ asks)
ask_before n (Some ask) (Err fault) = Err fault

-- the asks of the lines from number n on, or the first line that spells none; behind the last line feed (10) nothing stands
unfoldable pub asks_from : Layout → ℕ → List (List ℕ) → Result (List Ask) ScriptFault
asks_from l n [] = Ok []
asks_from l n (last ∷ []) = if length last == 0 then Ok [] else Err (Line n)
asks_from l n (line ∷ next ∷ more) = ask_before n (ask_of l line) (asks_from l (n + 1) (next ∷ more))

-- asks whose replies have in all no more bytes than the limit
abbrev pub unless_large : Layout → Result (List Ask) ScriptFault → Result (List Ask) ScriptFault
unless_large l (Ok asks) =
    if nat_lt REPLY_LIMIT (length asks * l.symbol_bytes)
    then Err (TooLarge (record { what = ReplyBytes; number = length asks * l.symbol_bytes }))
    else Ok asks
unless_large l (Err fault) = Err fault

-- what a script asks for, or its first fault
unfoldable pub asks_of : Layout → List ℕ → Result (List Ask) ScriptFault
asks_of l bytes = unless_large l (asks_from l 1 (pieces 10 bytes))

-- ---- printing

-- the line of an ask
abbrev pub ask_text : Ask → List ℕ
ask_text ask = decimal ask.stripe ++ codes " " ++ decimal ask.symbol

-- its line, with the line feed
abbrev pub ask_line : Ask → List ℕ
ask_line ask = ask_text ask ++ codes "\n"

-- the text of a script
abbrev pub script_text : List Ask → List ℕ
script_text asks = flat_map (λ ask. ask_line ask) asks

-- ---- why a script is refused

-- Line n is the first that is not of its form: the n - 1 lines before it are those of asks that the image has. What stands
-- behind them is not empty, and does not begin with the line of such an ask.
pub record HasFirstBadLine (l : Layout) (bytes : List ℕ) (n : ℕ) : Type 0 where
  pub asks : List Ask
  pub rest : List ℕ
  pub number : n ≡ length asks + 1
  pub in_range : All (IsInRange l) asks
  pub parts : bytes ≡ script_text asks ++ rest
  pub some : 0 < length rest
  pub bad : (ask : Ask) (more : List ℕ) → IsInRange l ask → rest ≢ ask_line ask ++ more

-- It is the text of asks that the image has, and their replies have this number of bytes, above the limit.
pub record HasLargeReplies (l : Layout) (bytes : List ℕ) (large : Large) : Type 0 where
  pub asks : List Ask
  pub in_range : All (IsInRange l) asks
  pub text : bytes ≡ script_text asks
  pub what : large.what ≡ ReplyBytes
  pub number : large.number ≡ length asks * l.symbol_bytes
  pub above : REPLY_LIMIT < large.number

-- Printing and reading are inverse: the text of asks that the image has is read as these asks, where their replies are
-- not too large, and what is read as asks is the text of them.
pub record ReadsScripts (l : Layout) : Type 0 where
  pub printed : (asks : List Ask) → All (IsInRange l) asks
      → length asks * l.symbol_bytes ≤ REPLY_LIMIT → asks_of l (script_text asks) ≡ Ok asks
  pub spelled : (bytes : List ℕ) (asks : List Ask)
      → asks_of l bytes ≡ Ok asks → bytes ≡ script_text asks
