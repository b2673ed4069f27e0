-- The text of a script: it is read as the asks that it is made of, and what is read as asks is the text of them.
use Rattle.std.proofs.Common.{◌≡◌, ℕ, ◌+◌, ◌*◌, ◌^◌, ◌<◌, ◌≤◌, ◌==◌, ◌&&◌, ⊎_elim, Bool, true, false, cond, nat_lt, List, [], ◌∷◌, ◌++◌, drop, length, get_or, All, Option, Some, None, Ok, Err, codes, refl, sym, ap, ◌∙◌, arith, eqb-true}
use Rattle.std.specs.Prelude.{Result}
use Rattle.std.specs.Fmt.{decimal}
use Rattle.std.specs.List.{position_or_len, before_first, after_first, join_with_byte}
use Rattle.std.proofs.Math.Nat.{mul-le-mul}
use Rattle.std.proofs.Math.ListN.{get_or-append}
use Rattle.std.proofs.Math.Seq.{get_or-append_seam}
use Rattle.std.proofs.lemmas.Bool.{ne_eqb, cases_lt}
use Rattle.std.proofs.lemmas.Fmt.{digits_decimal}
use Rattle.std.proofs.lemmas.List.{append_assoc, length-append, take_at, drop_at, drop_all}
use Rattle.std.proofs.lemmas.List.Elements.{All-nil, All-cons, All-head, All-tail, All-append, All-from_get_or}
use Rattle.std.proofs.lemmas.List.Splits.{slice_split_at, join_with_byte-slice_split}
use Rattle.std.proofs.lemmas.List.Sums.{position_or_len_is, split_at_first, passes_at_first}
use Rattle.std.proofs.lemmas.Str.Parse.{not_in_digits}
use Rattle.mr_text.specs.Numbers.{number_of}
use Rattle.mr_text.proofs.LineLaws.{pieces-some}
use Rattle.mr_text.proofs.NumberLaws.{digits_model, number_of-decimal, decimal-number_of}
use Rattle.mr_image.specs.Images.{Layout, IsLayout, stripe_symbols}
use Rattle.mr_mend.specs.declared.asks.Ask.{Ask}
use Rattle.mr_mend.specs.declared.asks.ScriptFault.{ScriptFault}
use Rattle.mr_mend.specs.declared.asks.ScriptFault.TheVariants.{Line, Large as TooLarge}
use Rattle.mr_bits.specs.declared.errors.What.TheVariants.{ReplyBytes}
use Rattle.mr_text.specs.Lines.{pieces}
use Rattle.mr_mend.specs.declared.limits.TheConstants.{REPLY_LIMIT}
use Rattle.mr_mend.specs.Scripts.{IsInRange, ask_at, ask_of, ask_before, asks_from, unless_large, asks_of, ask_text, script_text, ReadsScripts}
use Rattle.mr_mend.proofs.ScriptLines.{no_number, ask-words, ask_at-in, from-ended, from-nothing, script-asks}

-- no digit is a byte below the digits
decimal-without : (c n : ℕ) → c < 48 → n < 2 ^ 64 → All (λ b. (b == c) ≡ false) (decimal n)
decimal-without c n low small = All-from_get_or (λ b. (b == c) ≡ false) (decimal n) 0
    (λ i lt. ne_eqb _ _ (not_in_digits digits_model (decimal n) c (digits_decimal digits_model n small) (λ h. omega (arith, h)) i lt))

-- ---- printed, and then read

module _ (l : Layout) (may : IsLayout l) where
  few_stripes : l.stripes ≤ 2 ^ 28
  few_stripes =
      let some : 1 * 1 ≤ stripe_symbols l = mul-le-mul {n₁ = 1} {m₁ = 1} may.some_devices may.some_symbols in
      let once : l.stripes * 1 ≤ l.stripes * stripe_symbols l = mul-le-mul {n₁ = l.stripes} {m₁ = 1} {n₂ = l.stripes} (omega arith) (omega (arith, some)) in
      let twice : l.stripes * stripe_symbols l * 1 ≤ l.stripes * stripe_symbols l * l.symbol_bytes =
      mul-le-mul {n₁ = l.stripes * stripe_symbols l} {m₁ = 1} {n₂ = l.stripes * stripe_symbols l} (omega arith) may.some_bytes in
      omega (arith, once, twice, may.few_in_all)

  module _ (ask : Ask) (in_range : IsInRange l ask) where
    stripe_text : List ℕ
    stripe_text = decimal ask.stripe

    symbol_text : List ℕ
    symbol_text = decimal ask.symbol

    text_is : ask_text ask ≡ decimal ask.stripe ++ (32 ∷ decimal ask.symbol)
    text_is = append_assoc (decimal ask.stripe) (32 ∷ []) (decimal ask.symbol)

    small_stripe : ask.stripe < 1000000000
    small_stripe = omega (arith, in_range.stripe, few_stripes)

    small_symbol : ask.symbol < 1000000000
    small_symbol = omega (arith, in_range.symbol, may.few_symbols)

    space_at : position_or_len (λ b. b == 32) (decimal ask.stripe ++ (32 ∷ decimal ask.symbol)) ≡ length (decimal ask.stripe)
    space_at = position_or_len_is (λ b. b == 32) (decimal ask.stripe ++ (32 ∷ decimal ask.symbol)) (length (decimal ask.stripe)) 0
        (omega (arith, length-append (decimal ask.stripe) (32 ∷ decimal ask.symbol)))
        (λ k lt. ap (λ b. b == 32) (get_or-append (decimal ask.stripe) (32 ∷ decimal ask.symbol) 0 k lt) ∙ decimal-without 32 ask.stripe (omega arith) (omega (arith, small_stripe)) k 0 lt)
        (λ here. ap (λ b. b == 32) (get_or-append_seam (decimal ask.stripe) 32 (decimal ask.symbol) 0))

    before : before_first (λ b. b == 32) (ask_text ask) ≡ decimal ask.stripe
    before = ap (before_first (λ b. b == 32)) text_is ∙ take_at (decimal ask.stripe) (32 ∷ decimal ask.symbol) _ (sym space_at)

    after : after_first (λ b. b == 32) (ask_text ask) ≡ decimal ask.symbol
    after =
        ap (after_first (λ b. b == 32)) text_is
        ∙ ap (λ n. drop (n + 1) (decimal ask.stripe ++ (32 ∷ decimal ask.symbol))) space_at
        ∙ ap (drop (length (decimal ask.stripe) + 1)) (sym (append_assoc (decimal ask.stripe) (32 ∷ []) (decimal ask.symbol)))
        ∙ drop_at (decimal ask.stripe ++ 32 ∷ []) (decimal ask.symbol) (length (decimal ask.stripe) + 1) (length-append (decimal ask.stripe) (32 ∷ []))

    pub ask-printed : ask_of l (ask_text ask) ≡ Some ask
    ask-printed =
        ask-words l (ask_text ask) (Some ask.stripe) (Some ask.symbol)
        (sym (ap number_of before ∙ number_of-decimal ask.stripe small_stripe)) (sym (ap number_of after ∙ number_of-decimal ask.symbol small_symbol))
        ∙ ask_at-in l ask.stripe ask.symbol in_range.stripe in_range.symbol

    no_line_feed : All (λ b. (b == 10) ≡ false) (ask_text ask)
    no_line_feed =
        All-append (λ b. (b == 10) ≡ false) (decimal ask.stripe ++ 32 ∷ []) (decimal ask.symbol)
        (All-append (λ b. (b == 10) ≡ false) (decimal ask.stripe) (32 ∷ []) (decimal-without 10 ask.stripe (omega arith) (omega (arith, small_stripe)))
        (All-cons (λ b. (b == 10) ≡ false) 32 [] refl (All-nil (λ b. (b == 10) ≡ false))))
        (decimal-without 10 ask.symbol (omega arith) (omega (arith, small_symbol)))

    pub pieces-printed : (rest : List ℕ) → pieces 10 (ask_text ask ++ codes "\n" ++ rest) ≡ ask_text ask ∷ pieces 10 rest
    pieces-printed rest = ap (pieces 10) (append_assoc (ask_text ask) (10 ∷ []) rest) ∙ slice_split_at (λ b. b == 10) (ask_text ask) 10 rest no_line_feed refl

  asks-printed : (asks : List Ask) (n : ℕ) → All (IsInRange l) asks → asks_from l n (pieces 10 (script_text asks)) ≡ Ok asks
  asks-printed [] n in_range = from-nothing l n [] refl
  asks-printed (ask ∷ asks) n in_range =
      let first : IsInRange l ask = All-head (IsInRange l) ask asks in_range in
      from-ended l n (ask_text ask) (script_text asks) _ (pieces-printed ask first (script_text asks))
      ∙ (λ j. ask_before n (ask-printed ask first j) (asks-printed asks (n + 1) (All-tail (IsInRange l) ask asks in_range) j))

-- ---- read, and then printed

module _ (l : Layout) where
  ask_at-is : (s i : ℕ) (ask : Ask) → ask_at l (Some s) (Some i) ≡ Some ask → (s ≡ ask.stripe) × (i ≡ ask.symbol)
  ask_at-is s i ask h = go (nat_lt s l.stripes && nat_lt i (stripe_symbols l)) h
    where
      made : Ask
      made = record { stripe = s; symbol = i }

      go : (t : Bool) → cond t (Some made) None ≡ Some ask → (s ≡ ask.stripe) × (i ≡ ask.symbol)
      go true e = let same : made ≡ ask = cc in (ap (λ (a : Ask). a.stripe) same, ap (λ (a : Ask). a.symbol) same)
      go false e = cc

  module _ (line : List ℕ) where
    has_space : (i : ℕ) → number_of (after_first (λ b. b == 32) line) ≡ Some i → position_or_len (λ b. b == 32) line < length line
    has_space i e = ⊎_elim
        (λ here. here)
        (λ (none : length line ≤ position_or_len (λ b. b == 32) line).
        let nothing : number_of (after_first (λ b. b == 32) line) ≡ None = ap number_of (drop_all (position_or_len (λ b. b == 32) line + 1) line (omega arith)) ∙ no_number in
        let both : ◌≡◌ {A = Option ℕ} None (Some i) = sym nothing ∙ e in
        cc)
        (cases_lt (position_or_len (λ b. b == 32) line) (length line))

    pub line-spelled : (ask : Ask) → ask_of l line ≡ Some ask → line ≡ ask_text ask
    unfolding ask_of
    line-spelled ask h = go (number_of (before_first (λ b. b == 32) line)) (number_of (after_first (λ b. b == 32) line)) refl refl h
      where
        go : (s i : Option ℕ) → number_of (before_first (λ b. b == 32) line) ≡ s → number_of (after_first (λ b. b == 32) line) ≡ i → ask_at l s i ≡ Some ask → line ≡ ask_text ask
        go None i is_s is_i e = cc
        go (Some s) None is_s is_i e = cc
        go (Some s) (Some i) is_s is_i e =
            let same = ask_at-is s i ask e in
            let here : position_or_len (λ b. b == 32) line < length line = has_space i is_i in
            let space : get_or line (position_or_len (λ b. b == 32) line) 0 ≡ 32 = eqb-true _ _ (passes_at_first (λ b. b == 32) line 0 here) in
            let stripe : before_first (λ b. b == 32) line ≡ decimal ask.stripe = sym (decimal-number_of _ s is_s).0 ∙ ap decimal same.0 in
            let symbol : after_first (λ b. b == 32) line ≡ decimal ask.symbol = sym (decimal-number_of _ i is_i).0 ∙ ap decimal same.1 in
            split_at_first (λ b. b == 32) line 0 here
            ∙ (λ j. stripe j ++ (space j ∷ symbol j))
            ∙ sym (append_assoc (decimal ask.stripe) (32 ∷ []) (decimal ask.symbol))

  nothing_left : (last : List ℕ) → length last ≡ 0 → last ≡ []
  nothing_left [] e = refl
  nothing_left (b ∷ last) e = absurd (omega arith)

  asks-spelled : (ps : List (List ℕ)) (n : ℕ) (asks : List Ask) → 0 < length ps → asks_from l n ps ≡ Ok asks → join_with_byte 10 ps ≡ script_text asks
  unfolding asks_from
  asks-spelled [] n asks some h = absurd (omega arith)
  asks-spelled (last ∷ []) n asks some h = go (length last == 0) refl h
    where
      go : (t : Bool) → (length last == 0) ≡ t → cond t (Ok []) (Err (Line n)) ≡ Ok asks → last ≡ script_text asks
      go true e is = let none : [] ≡ asks = cc in nothing_left last (eqb-true _ _ e) ∙ ap script_text none
      go false e is = cc
  asks-spelled (line ∷ next ∷ more) n asks some h = go (ask_of l line) (asks_from l (n + 1) (next ∷ more)) (λ rest is. asks-spelled (next ∷ more) (n + 1) rest (omega arith) is) refl refl h
    where
      go : (o : Option Ask) (later : Result (List Ask) ScriptFault) → ((rest : List Ask) → asks_from l (n + 1) (next ∷ more) ≡ Ok rest → join_with_byte 10 (next ∷ more) ≡ script_text rest)
          → ask_of l line ≡ o → asks_from l (n + 1) (next ∷ more) ≡ later → ask_before n o later ≡ Ok asks
          → line ++ (10 ∷ join_with_byte 10 (next ∷ more)) ≡ script_text asks
      go None later behind is_o is_later e = cc
      go (Some ask) (Err fault) behind is_o is_later e = cc
      go (Some ask) (Ok rest) behind is_o is_later e =
          let all : ask ∷ rest ≡ asks = cc in
          (λ j. line-spelled line ask is_o j ++ (10 ∷ behind rest is_later j))
          ∙ sym (append_assoc (ask_text ask) (10 ∷ []) (script_text rest))
          ∙ ap script_text all

  pub asks-text : (bytes : List ℕ) (asks : List Ask) → asks_from l 1 (pieces 10 bytes) ≡ Ok asks → bytes ≡ script_text asks
  asks-text bytes asks h =
      sym (join_with_byte-slice_split 10 bytes)
      ∙ asks-spelled (pieces 10 bytes) 1 asks (pieces-some 10 bytes) h

  abbrev Answer : Type 0
  Answer = Result (List Ask) ScriptFault

  pub unless_large-ok : (asks : List Ask) (r : Result (List Ask) ScriptFault) → unless_large l r ≡ Ok asks → r ≡ Ok asks
  unless_large-ok asks (Err fault) h = cc
  unless_large-ok asks (Ok read) h = go (nat_lt REPLY_LIMIT (length read * l.symbol_bytes)) h
    where
      go : (t : Bool) → cond t (Err (TooLarge (record { what = ReplyBytes; number = length read * l.symbol_bytes }))) (Ok read) ≡ Ok asks → ◌≡◌ {A = Answer} (Ok read) (Ok asks)
      go true e = cc
      go false e = e

pub reads-scripts : (l : Layout) → IsLayout l → ReadsScripts l
unfolding asks_of
reads-scripts l may = record {
  printed = λ asks in_range few. script-asks l (script_text asks) asks (asks-printed l may asks 1 in_range) (length asks * l.symbol_bytes) refl few;
  spelled = λ bytes asks h. asks-text l bytes asks (unless_large-ok l asks (asks_from l 1 (pieces 10 bytes)) h);
}
