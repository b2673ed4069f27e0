-- Scripts line by line: what the line at the front asks for, and the asks so far.
use Rattle.std.proofs.Common.{◌≡◌, ℕ, ◌+◌, ◌*◌, ◌<◌, ◌≤◌, ◌==◌, ◌&&◌, ◌⊎◌, inl, inr, ⊎_elim, Bool, true, false, cond, nat_lt, List, [], ◌∷◌, ◌++◌, length, All, Option, Some, None, Ok, Err, refl, sym, ap, ap₂, subst, ◌∙◌, arith}
use Rattle.std.specs.Prelude.{Result}
use Rattle.std.specs.List.{position_or_len, before_first, after_first}
use Rattle.std.proofs.lemmas.Bool.{ltb-true, ltb-false, ne_eqb}
use Rattle.std.proofs.lemmas.List.{append_assoc, length-append, append-nil, drop_all}
use Rattle.std.proofs.lemmas.List.Elements.{All-append, All-cons}
use Rattle.mr_text.specs.Numbers.{number_of, is_number}
use Rattle.mr_text.proofs.LineLaws.{pieces-some}
use Rattle.mr_image.specs.Images.{Layout, stripe_symbols}
use Rattle.mr_mend.specs.declared.asks.Ask.{Ask}
use Rattle.mr_mend.specs.declared.asks.ScriptFault.{ScriptFault}
use Rattle.mr_mend.specs.declared.asks.ScriptFault.TheVariants.{Line, Memory, Large as TooLarge}
use Rattle.mr_text.specs.Lines.{pieces}
use Rattle.mr_mend.specs.declared.limits.TheConstants.{REPLY_LIMIT}
use Rattle.mr_mend.specs.Scripts.{IsInRange, ask_at, ask_of, ask_before, asks_from, unless_large, asks_of}
use Rattle.mr_bits.specs.declared.errors.What.TheVariants.{ReplyBytes}

-- ---- one line

pub no_number : number_of [] ≡ None
unfolding number_of is_number
no_number = refl

module _ (l : Layout) (line : List ℕ) where
  -- a line with no space
  pub ask-no_space : position_or_len (λ b. b == 32) line ≡ length line → ask_of l line ≡ None
  unfolding ask_of
  ask-no_space h =
      let nothing : number_of (after_first (λ b. b == 32) line) ≡ None = ap number_of (drop_all (position_or_len (λ b. b == 32) line + 1) line (omega arith)) ∙ no_number in
      go (number_of (before_first (λ b. b == 32) line)) (number_of (after_first (λ b. b == 32) line)) nothing
    where
      go : (s i : Option ℕ) → i ≡ None → ask_at l s i ≡ None
      go None i e = refl
      go (Some s) None e = refl
      go (Some s) (Some i) e = cc

  -- a line that has one, where the words before and behind it are read as these
  pub ask-words : (s i : Option ℕ) → s ≡ number_of (before_first (λ b. b == 32) line) → i ≡ number_of (after_first (λ b. b == 32) line) → ask_of l line ≡ ask_at l s i
  unfolding ask_of
  ask-words s i is_s is_i = ap₂ (ask_at l) (sym is_s) (sym is_i)

-- the tests of the code, one after the other
pub ask_at-in : (l : Layout) (s i : ℕ) → s < l.stripes → i < stripe_symbols l → ask_at l (Some s) (Some i) ≡ Some (record { stripe = s; symbol = i })
ask_at-in l s i low_s low_i = go (nat_lt s l.stripes) (nat_lt i (stripe_symbols l)) refl refl
  where
    ask : Ask
    ask = record { stripe = s; symbol = i }

    go : (a b : Bool) → nat_lt s l.stripes ≡ a → nat_lt i (stripe_symbols l) ≡ b → cond (a && b) (Some ask) None ≡ Some ask
    go false b is_a is_b = absurd (omega (arith, low_s, ltb-false _ _ is_a))
    go true false is_a is_b = absurd (omega (arith, low_i, ltb-false _ _ is_b))
    go true true is_a is_b = refl

pub ask_at-out : (l : Layout) (s i : ℕ) → (s < l.stripes → i < stripe_symbols l → ⊥) → ask_at l (Some s) (Some i) ≡ None
ask_at-out l s i out = go (nat_lt s l.stripes) (nat_lt i (stripe_symbols l)) refl refl
  where
    ask : Ask
    ask = record { stripe = s; symbol = i }

    go : (a b : Bool) → nat_lt s l.stripes ≡ a → nat_lt i (stripe_symbols l) ≡ b → cond (a && b) (Some ask) None ≡ None
    go false b is_a is_b = refl
    go true false is_a is_b = refl
    go true true is_a is_b = absurd (out (ltb-true _ _ is_a) (ltb-true _ _ is_b))

-- ---- the line at the front

module _ (l : Layout) (n : ℕ) where
  -- a line with its line feed
  pub from-ended : (line bytes : List ℕ) (text : List (List ℕ)) → text ≡ line ∷ pieces 10 bytes → asks_from l n text ≡ ask_before n (ask_of l line) (asks_from l (n + 1) (pieces 10 bytes))
  unfolding asks_from
  from-ended line bytes text e = ap (asks_from l n) e ∙ go (pieces 10 bytes) (pieces-some 10 bytes)
    where
      go : (rest : List (List ℕ)) → 0 < length rest → asks_from l n (line ∷ rest) ≡ ask_before n (ask_of l line) (asks_from l (n + 1) rest)
      go [] some = absurd (omega arith)
      go (next ∷ more) some = refl

  -- bytes without a line feed
  pub from-unended : (bytes : List ℕ) → 0 < length bytes → pieces 10 bytes ≡ bytes ∷ [] → asks_from l n (pieces 10 bytes) ≡ Err (Line n)
  unfolding asks_from
  from-unended bytes some alone =
      ap (asks_from l n) alone
      ∙ (λ j. cond (ne_eqb (length bytes) 0 (λ e. omega (arith, e, some)) j) (Ok []) (Err (Line n)))

  pub from-nothing : (bytes : List ℕ) → length bytes ≡ 0 → asks_from l n (pieces 10 bytes) ≡ Ok []
  unfolding asks_from
  from-nothing [] e = refl
  from-nothing (b ∷ bytes) e = absurd (omega arith)

-- ---- the lines so far

-- asks before those of later lines
abbrev pub behind : List Ask → Result (List Ask) ScriptFault → Result (List Ask) ScriptFault
behind asks (Ok later) = Ok (asks ++ later)
behind asks (Err fault) = Err fault

-- these asks are read, and these bytes are left
pub record IsReading (l : Layout) (bytes : List ℕ) (asks : List Ask) (left : List ℕ) : Type 0 where
  pub all : asks_from l 1 (pieces 10 bytes) ≡ behind asks (asks_from l (length asks + 1) (pieces 10 left))
  pub in_range : All (IsInRange l) asks
  pub few : length asks + length left ≤ length bytes

module _ (l : Layout) (bytes : List ℕ) where
  pub reading-start : IsReading l bytes [] bytes
  reading-start = record { all = go (asks_from l 1 (pieces 10 bytes)); in_range = λ k d low. absurd (omega arith); few = omega arith }
    where
      go : (r : Result (List Ask) ScriptFault) → r ≡ behind [] r
      go (Ok asks) = refl
      go (Err fault) = refl

  module _ (asks : List Ask) (left : List ℕ) (h : IsReading l bytes asks left) where
    pub reading-turn : (ask : Ask) (rest : List ℕ) (asks_next : List Ask)
        → asks_from l (length asks + 1) (pieces 10 left) ≡ ask_before (length asks + 1) (Some ask) (asks_from l (length asks + 1 + 1) (pieces 10 rest))
        → IsInRange l ask → length rest < length left → asks_next ≡ asks ++ ask ∷ [] → IsReading l bytes asks_next rest
    reading-turn ask rest asks_next step in_range shorter is = subst (λ xs. IsReading l bytes xs rest) (sym is) (record {
      all = h.all ∙ ap (behind asks) step ∙ go (asks_from l (length asks + 1 + 1) (pieces 10 rest))
          ∙ ap (λ n. behind (asks ++ ask ∷ []) (asks_from l n (pieces 10 rest))) (omega (arith, longer));
      in_range = All-append (IsInRange l) asks (ask ∷ []) h.in_range (All-cons (IsInRange l) ask [] in_range (λ k d low. absurd (omega arith)));
      few = omega (arith, longer, h.few);
    })
      where
        longer : length (asks ++ ask ∷ []) ≡ length asks + 1
        longer = length-append asks (ask ∷ [])

        go : (r : Result (List Ask) ScriptFault) → behind asks (ask_before (length asks + 1) (Some ask) r) ≡ behind (asks ++ ask ∷ []) r
        go (Ok later) = ap Ok (sym (append_assoc asks (ask ∷ []) later))
        go (Err fault) = refl

    pub reading-bad : (fault : ScriptFault) → asks_from l (length asks + 1) (pieces 10 left) ≡ Err fault → asks_from l 1 (pieces 10 bytes) ≡ Err fault
    reading-bad fault e = h.all ∙ ap (behind asks) e

    pub reading-end : length left ≡ 0 → asks_from l 1 (pieces 10 bytes) ≡ Ok asks
    reading-end none = h.all ∙ ap (behind asks) (from-nothing l (length asks + 1) left none) ∙ ap Ok (append-nil asks)

-- ---- the whole script

module _ (l : Layout) (bytes : List ℕ) where
  pub script-fault : (fault : ScriptFault) → (fault ≡ Memory) ⊎ (asks_from l 1 (pieces 10 bytes) ≡ Err fault) → (fault ≡ Memory) ⊎ (asks_of l bytes ≡ Err fault)
  unfolding asks_of
  script-fault fault h = ⊎_elim (λ none. inl none) (λ bad. inr (ap (unless_large l) bad)) h

  module _ (asks : List Ask) (read : asks_from l 1 (pieces 10 bytes) ≡ Ok asks) where
    pub script-large : (number : ℕ) → number ≡ length asks * l.symbol_bytes → REPLY_LIMIT < number → asks_of l bytes ≡ Err (TooLarge (record { what = ReplyBytes; number = number }))
    unfolding asks_of
    script-large number is large = ap (unless_large l) read ∙ go (nat_lt REPLY_LIMIT (length asks * l.symbol_bytes)) refl
      where
        fault : ℕ → ScriptFault
        fault n = TooLarge (record { what = ReplyBytes; number = n })

        go : (t : Bool) → nat_lt REPLY_LIMIT (length asks * l.symbol_bytes) ≡ t → cond t (Err (fault (length asks * l.symbol_bytes))) (Ok asks) ≡ Err (fault number)
        go true e = ap (λ n. Err (fault n)) (sym is)
        go false e = absurd (omega (arith, is, large, ltb-false _ _ e))

    pub script-asks : (number : ℕ) → number ≡ length asks * l.symbol_bytes → number ≤ REPLY_LIMIT → asks_of l bytes ≡ Ok asks
    unfolding asks_of
    script-asks number is few = ap (unless_large l) read ∙ go (nat_lt REPLY_LIMIT (length asks * l.symbol_bytes)) refl
      where
        fault : ScriptFault
        fault = TooLarge (record { what = ReplyBytes; number = length asks * l.symbol_bytes })

        go : (t : Bool) → nat_lt REPLY_LIMIT (length asks * l.symbol_bytes) ≡ t → cond t (Err fault) (Ok asks) ≡ Ok asks
        go true e = absurd (omega (arith, is, few, ltb-true _ _ e))
        go false e = refl
