-- Why a script is refused: the first line that is not of its form, or replies that are too large.
use Rattle.std.proofs.Common.{◌≡◌, ℕ, zero, suc, ◌+◌, ◌-◌, ◌*◌, ◌<◌, ◌≤◌, ◌==◌, ◌&&◌, ◌⊎◌, ⊎_elim, Bool, true, false, cond, nat_lt, List, [], ◌∷◌, ◌++◌, length, get_or, All, Option, Some, None, Ok, Err, refl, sym, ap, subst, ◌∙◌, arith, eqb-true}
use Rattle.std.specs.Prelude.{Result, not}
use Rattle.std.specs.List.{position_or_len, before_first, after_first}
use Rattle.std.proofs.lemmas.Bool.{cases_lt, ltb-true}
use Rattle.std.proofs.lemmas.List.{append_assoc, length-drop}
use Rattle.std.proofs.lemmas.List.Elements.{All-nil, All-cons}
use Rattle.std.proofs.lemmas.List.Sums.{split_at_first, passes_at_first, prefix_len-le-length}
use Rattle.mr_bits.specs.declared.errors.Large.{Large}
use Rattle.mr_bits.specs.declared.errors.What.TheVariants.{ReplyBytes}
use Rattle.mr_image.specs.Images.{Layout, IsLayout, stripe_symbols}
use Rattle.mr_mend.specs.declared.asks.Ask.{Ask}
use Rattle.mr_mend.specs.declared.asks.ScriptFault.{ScriptFault}
use Rattle.mr_mend.specs.declared.asks.ScriptFault.TheVariants.{Line, Memory, Large as TooLarge}
use Rattle.mr_text.specs.Lines.{pieces}
use Rattle.mr_mend.specs.declared.limits.TheConstants.{REPLY_LIMIT}
use Rattle.mr_mend.specs.Scripts.{IsInRange, HasFirstBadLine, HasLargeReplies, ask_at, ask_of, ask_before, asks_from, asks_of, ask_text, ask_line, script_text}
use Rattle.mr_text.proofs.LineLaws.{pieces-first, pieces-one}
use Rattle.mr_mend.proofs.ScriptLines.{from-ended, from-nothing, from-unended}
use Rattle.mr_mend.proofs.ScriptTexts.{ask-printed, asks-text, line-spelled, pieces-printed, unless_large-ok}

abbrev Answer : Type 0
Answer = Result (List Ask) ScriptFault

same-line : (n k : ℕ) → ◌≡◌ {A = Answer} (Err (Line n)) (Err (Line k)) → n ≡ k
same-line n k e = cc

module _ (l : Layout) where
  -- what a line spells is in range
  ask_at-range : (o p : Option ℕ) (ask : Ask) → ask_at l o p ≡ Some ask → IsInRange l ask
  ask_at-range None p ask e = cc
  ask_at-range (Some s) None ask e = cc
  ask_at-range (Some s) (Some i) ask e = go (nat_lt s l.stripes) (nat_lt i (stripe_symbols l)) refl refl e
    where
      made : Ask
      made = record { stripe = s; symbol = i }

      go : (t u : Bool) → nat_lt s l.stripes ≡ t → nat_lt i (stripe_symbols l) ≡ u → cond (t && u) (Some made) None ≡ Some ask → IsInRange l ask
      go false u is_t is_u h = cc
      go true false is_t is_u h = cc
      go true true is_t is_u h =
          let same : made ≡ ask = cc in
          subst (IsInRange l) same (record { stripe = ltb-true _ _ is_t; symbol = ltb-true _ _ is_u })

  ask-range : (line : List ℕ) (ask : Ask) → ask_of l line ≡ Some ask → IsInRange l ask
  unfolding ask_of
  ask-range line ask h = ask_at-range _ _ ask h

  -- what lines ask for is in range
  from-range : (ps : List (List ℕ)) (n : ℕ) (asks : List Ask) → asks_from l n ps ≡ Ok asks → All (IsInRange l) asks
  unfolding asks_from
  from-range [] n asks h = let none : [] ≡ asks = cc in subst (All (IsInRange l)) none (All-nil (IsInRange l))
  from-range (last ∷ []) n asks h = go (length last == 0) h
    where
      go : (t : Bool) → cond t (Ok []) (Err (Line n)) ≡ Ok asks → All (IsInRange l) asks
      go true is = let none : [] ≡ asks = cc in subst (All (IsInRange l)) none (All-nil (IsInRange l))
      go false is = cc
  from-range (line ∷ next ∷ more) n asks h = go (ask_of l line) (asks_from l (n + 1) (next ∷ more)) (λ rest is. from-range (next ∷ more) (n + 1) rest is) refl refl h
    where
      go : (o : Option Ask) (later : Answer) → ((rest : List Ask) → asks_from l (n + 1) (next ∷ more) ≡ Ok rest → All (IsInRange l) rest)
          → ask_of l line ≡ o → asks_from l (n + 1) (next ∷ more) ≡ later → ask_before n o later ≡ Ok asks → All (IsInRange l) asks
      go None later behind is_o is_later e = cc
      go (Some ask) (Err fault) behind is_o is_later e = cc
      go (Some ask) (Ok rest) behind is_o is_later e =
          let all : ask ∷ rest ≡ asks = cc in
          subst (All (IsInRange l)) all (All-cons (IsInRange l) ask rest (ask-range line ask is_o) (behind rest is_later))

  pub asks-in_range : (bytes : List ℕ) (asks : List Ask) → asks_of l bytes ≡ Ok asks → All (IsInRange l) asks
  unfolding asks_of
  asks-in_range bytes asks h = from-range (pieces 10 bytes) 1 asks (unless_large-ok l asks (asks_from l 1 (pieces 10 bytes)) h)

  -- a fault names a line from n on
  fault-later : (ps : List (List ℕ)) (n : ℕ) (fault : ScriptFault) → asks_from l n ps ≡ Err fault → (k : ℕ) × (n ≤ k) × (fault ≡ Line k)
  unfolding asks_from
  fault-later [] n fault h = cc
  fault-later (last ∷ []) n fault h = go (length last == 0) h
    where
      go : (t : Bool) → ◌≡◌ {A = Answer} (cond {A = Answer} t (Ok []) (Err (Line n))) (Err fault) → (k : ℕ) × (n ≤ k) × (fault ≡ Line k)
      go true e = cc
      go false e = (n, omega arith, cc)
  fault-later (line ∷ next ∷ more) n fault h = go (ask_of l line) (asks_from l (n + 1) (next ∷ more)) (λ is. fault-later (next ∷ more) (n + 1) fault is) h
    where
      go : (o : Option Ask) (later : Answer) → (later ≡ Err fault → (k : ℕ) × (n + 1 ≤ k) × (fault ≡ Line k)) → ask_before n o later ≡ Err fault
          → (k : ℕ) × (n ≤ k) × (fault ≡ Line k)
      go None later further e = (n, omega arith, cc)
      go (Some ask) (Ok asks) further e = cc
      go (Some ask) (Err other) further e = let found = further e in (found.0, omega (arith, found.1), found.2)

module _ (l : Layout) (may : IsLayout l) where
  -- where the line at the front is bad, it is that of no ask
  bad-front : (bytes : List ℕ) (n : ℕ) → asks_from l n (pieces 10 bytes) ≡ Err (Line n) → (ask : Ask) (more : List ℕ) → IsInRange l ask → bytes ≡ ask_line ask ++ more → ⊥
  bad-front bytes n h ask more in_range e = go (asks_from l (n + 1) (pieces 10 more)) (λ fault is. fault-later l (pieces 10 more) (n + 1) fault is) all
    where
      text : pieces 10 bytes ≡ ask_text ask ∷ pieces 10 more
      text = ap (pieces 10) e ∙ pieces-printed l may ask in_range more

      all : ask_before n (Some ask) (asks_from l (n + 1) (pieces 10 more)) ≡ Err (Line n)
      all =
          ap (λ o. ask_before n o (asks_from l (n + 1) (pieces 10 more))) (sym (ask-printed l may ask in_range))
          ∙ sym (from-ended l n (ask_text ask) more (pieces 10 bytes) text) ∙ h

      go : (later : Answer) → ((fault : ScriptFault) → later ≡ Err fault → (k : ℕ) × (n + 1 ≤ k) × (fault ≡ Line k)) → ask_before n (Some ask) later ≡ Err (Line n) → ⊥
      go (Ok asks) further is = cc
      go (Err fault) further is =
          let found = further (Line n) is in
          let same : n ≡ found.0 = same-line n found.0 (ap Err found.2) in
          omega (arith, found.1, same)

  -- it is line 1
  bad-here : (bytes : List ℕ) (n j : ℕ) → asks_from l n (pieces 10 bytes) ≡ Err (Line n) → 0 < length bytes → j ≡ 1 → HasFirstBadLine l bytes j
  bad-here bytes n j h some first = record {
    asks = [];
    rest = bytes;
    number = first;
    in_range = All-nil (IsInRange l);
    parts = refl;
    some = some;
    bad = bad-front bytes n h;
  }

  -- behind the line of an ask
  bad-after : (bytes rest : List ℕ) (ask : Ask) (i j : ℕ) → IsInRange l ask → bytes ≡ ask_line ask ++ rest → j ≡ i + 1 → HasFirstBadLine l rest i → HasFirstBadLine l bytes j
  bad-after bytes rest ask i j in_range e next h = record {
    asks = ask ∷ h.asks;
    rest = h.rest;
    number = omega (arith, next, h.number);
    in_range = All-cons (IsInRange l) ask h.asks in_range h.in_range;
    parts = e ∙ ap (λ xs. ask_line ask ++ xs) h.parts ∙ sym (append_assoc (ask_line ask) (script_text h.asks) h.rest);
    some = h.some;
    bad = h.bad;
  }

  module _ (bytes : List ℕ) (n k j : ℕ) (h : asks_from l n (pieces 10 bytes) ≡ Err (Line k)) (number : k + 1 ≡ n + j)
      (again : (rest : List ℕ) (i : ℕ) → length rest < length bytes → asks_from l (n + 1) (pieces 10 rest) ≡ Err (Line k) → k + 1 ≡ n + 1 + i → HasFirstBadLine l rest i) where
    at-front : asks_from l n (pieces 10 bytes) ≡ Err (Line n) → 0 < length bytes → HasFirstBadLine l bytes j
    at-front first some = bad-here bytes n j first some (omega (arith, number, same-line n k (sym first ∙ h)))

    not-empty : (length bytes ≡ 0 → HasFirstBadLine l bytes j)
    not-empty none = let both : ◌≡◌ {A = Answer} (Ok []) (Err (Line k)) = sym (from-nothing l n bytes none) ∙ h in cc

    module _ (here : position_or_len (λ b. b == 10) bytes < length bytes) where
      abbrev line : List ℕ
      line = before_first (λ b. b == 10) bytes

      abbrev rest : List ℕ
      rest = after_first (λ b. b == 10) bytes

      all : asks_from l n (pieces 10 bytes) ≡ ask_before n (ask_of l line) (asks_from l (n + 1) (pieces 10 rest))
      all = from-ended l n line rest (pieces 10 bytes) (pieces-first 10 bytes line rest here refl refl)

      shorter : length rest < length bytes
      shorter = omega (arith, here, length-drop (position_or_len (λ b. b == 10) bytes + 1) bytes)

      after-line : (ask : Ask) → ask_of l line ≡ Some ask → (later : Answer) → asks_from l (n + 1) (pieces 10 rest) ≡ later → ask_before n (Some ask) later ≡ Err (Line k) → HasFirstBadLine l bytes j
      after-line ask is (Ok asks) is_later e = cc
      after-line ask is (Err fault) is_later e =
          let found : asks_from l (n + 1) (pieces 10 rest) ≡ Err (Line k) = is_later ∙ e in
          let further = fault-later l (pieces 10 rest) (n + 1) (Line k) found in
          let same : k ≡ further.0 = same-line k further.0 (ap Err further.2) in
          let feed : get_or bytes (position_or_len (λ b. b == 10) bytes) 0 ≡ 10 = eqb-true _ _ (passes_at_first (λ b. b == 10) bytes 0 here) in
          let text : bytes ≡ ask_line ask ++ rest =
          split_at_first (λ b. b == 10) bytes 0 here
          ∙ (λ i. line-spelled l line ask is i ++ (feed i ∷ rest))
          ∙ sym (append_assoc (ask_text ask) (10 ∷ []) rest) in
          bad-after bytes rest ask (j - 1) j (ask-range l line ask is) text (omega (arith, number, further.1, same))
          (again rest (j - 1) shorter found (omega (arith, number, further.1, same)))

      has-feed : (o : Option Ask) → ask_of l line ≡ o → HasFirstBadLine l bytes j
      has-feed None is = at-front (all ∙ ap (λ o. ask_before n o (asks_from l (n + 1) (pieces 10 rest))) is) (omega (arith, here))
      has-feed (Some ask) is =
          after-line ask is (asks_from l (n + 1) (pieces 10 rest)) refl (ap (λ o. ask_before n o (asks_from l (n + 1) (pieces 10 rest))) (sym is) ∙ sym all ∙ h)

    bad-turn : HasFirstBadLine l bytes j
    bad-turn = ⊎_elim
        (λ here. has-feed here (ask_of l (before_first (λ b. b == 10) bytes)) refl)
        (λ missing. ⊎_elim
        (λ some. at-front (from-unended l n bytes some (pieces-one 10 bytes (omega (arith, missing, prefix_len-le-length (λ b. not (b == 10)) bytes)))) some)
        (λ none. not-empty (omega (arith, none)))
        (cases_lt 0 (length bytes)))
        (cases_lt (position_or_len (λ b. b == 10) bytes) (length bytes))

  bad-line-from : (most : ℕ) (bytes : List ℕ) (n k j : ℕ) → length bytes ≤ most → asks_from l n (pieces 10 bytes) ≡ Err (Line k) → k + 1 ≡ n + j → HasFirstBadLine l bytes j
  bad-line-from zero bytes n k j few h number = bad-turn bytes n k j h number (λ rest i shorter found next. absurd (omega (arith, shorter, few)))
  bad-line-from (suc most) bytes n k j few h number =
      bad-turn bytes n k j h number (λ rest i shorter found next. bad-line-from most rest (n + 1) k i (omega (arith, shorter, few)) found next)

  module _ (bytes : List ℕ) (fault : ScriptFault) (h : (fault ≡ Memory) ⊎ (asks_from l 1 (pieces 10 bytes) ≡ Err fault)) where
    -- a fault of a line
    pub script-bad_line : (k : ℕ) → fault ≡ Line k → HasFirstBadLine l bytes k
    script-bad_line k is = ⊎_elim other (λ bad. bad-line-from (length bytes) bytes 1 k k (omega arith) (bad ∙ ap Err is) (omega arith)) h
      where
        other : fault ≡ Memory → HasFirstBadLine l bytes k
        other none = let both : ◌≡◌ {A = ScriptFault} (Line k) Memory = sym is ∙ none in cc

    -- it is none of size
    pub script-not_large : (large : Large) → fault ≡ TooLarge large → HasLargeReplies l bytes large
    script-not_large large is = ⊎_elim other named h
      where
        other : fault ≡ Memory → HasLargeReplies l bytes large
        other none = let both : ◌≡◌ {A = ScriptFault} (TooLarge large) Memory = sym is ∙ none in cc

        named : asks_from l 1 (pieces 10 bytes) ≡ Err fault → HasLargeReplies l bytes large
        named bad =
            let found = fault-later l (pieces 10 bytes) 1 fault bad in
            let both : ◌≡◌ {A = ScriptFault} (TooLarge large) (Line found.0) = sym is ∙ found.2 in
            cc

-- the replies of the asks of a script are too large
pub script-large_replies : (l : Layout) (bytes : List ℕ) (asks : List Ask) (number : ℕ) → asks_from l 1 (pieces 10 bytes) ≡ Ok asks → All (IsInRange l) asks
    → number ≡ length asks * l.symbol_bytes → REPLY_LIMIT < number → (large : Large) → ◌≡◌ {A = ScriptFault} (TooLarge (record { what = ReplyBytes; number = number })) (TooLarge large)
    → HasLargeReplies l bytes large
script-large_replies l bytes asks number read in_range is above large e = subst (HasLargeReplies l bytes) same (record {
  asks = asks;
  in_range = in_range;
  text = asks-text l bytes asks read;
  what = refl;
  number = is;
  above = above;
})
  where
    made : Large
    made = record { what = ReplyBytes; number = number }

    same : made ≡ large
    same = cc

pub same-fault : {T : Type 0} (fault other : ScriptFault) → ◌≡◌ {A = Result T ScriptFault} (Err fault) (Err other) → fault ≡ other
same-fault fault other e = cc
