-- The text of sectors is read as these sectors, and a text with a first line that is not of its form as that line.
use Rattle.std.proofs.Common.{◌≡◌, ℕ, ◌+◌, ◌-◌, ◌<◌, ◌==◌, ◌&&◌, ◌||◌, ⊎_elim, Bool, true, false, cond, nat_lt, List, [], ◌∷◌, ◌++◌, length, get_or, Option, Some, None, Ok, Err, refl, sym, ap, subst, ◌∙◌, arith, eqb-true, eq-eqb}
use Rattle.std.specs.Prelude.{Result, not}
use Rattle.std.specs.Int.{bit_at}
use Rattle.std.specs.List.{position_or_len, before_first, after_first}
use Rattle.std.proofs.Math.Seq.{get_or-append_seam}
use Rattle.std.proofs.lemmas.Bool.{cases_lt, ltb-true, ltb-false, lt-ltb, ne_eqb}
use Rattle.std.proofs.lemmas.List.{append_assoc, append-nil, length-append}
use Rattle.std.proofs.lemmas.List.Sums.{prefix_len-le-length}
use Rattle.mr_text.specs.Lines.{pieces}
use Rattle.mr_text.proofs.LineLaws.{pieces-first, pieces-one, pieces-some}
use Rattle.mr_image.specs.Images.{Layout, IsLayout, stripe_symbols}
use Rattle.mr_mend.specs.declared.asks.Ask.{Ask}
use Rattle.mr_mend.specs.Scripts.{IsInRange, ask_at, ask_of, ask_text, ask_line, script_text}
use Rattle.mr_mend.proofs.ScriptTexts.{ask-printed, pieces-printed}
use Rattle.mr_mend.proofs.NextLines.{next-text}
use Rattle.mr_sector.specs.Sectors.{ComesBefore, AreSectors, HasFirstBadSector, is_behind, unless_bad, sector_of, sector_before, sectors_from, sectors_of}
use Rattle.mr_sector.proofs.SectorLaws.{StandsBehind, sectors-more, sectors-in_range, sectors-not_lost, sectors-behind}
use Rattle.mr_sector.proofs.OnlyLaws.{sectors-front}

abbrev Answer : Type 0
Answer = Result (List Ask) ℕ

-- ---- one sector behind the one before

comes-before : (a b : Ask) → ComesBefore a b → is_behind (Some a) b ≡ true
comes-before a b h = go (nat_lt a.stripe b.stripe) refl
  where
    go : (t : Bool) → nat_lt a.stripe b.stripe ≡ t → (t || (a.stripe == b.stripe && nat_lt a.symbol b.symbol)) ≡ true
    go true is = refl
    go false is =
        let same : a.stripe ≡ b.stripe = omega (arith, ltb-false _ _ is, h.stripe) in
        λ j. eq-eqb a.stripe b.stripe same j && lt-ltb a.symbol b.symbol (h.symbol same) j

before-comes : (a b : Ask) → is_behind (Some a) b ≡ true → ComesBefore a b
before-comes a b h = go (nat_lt a.stripe b.stripe) (a.stripe == b.stripe) (nat_lt a.symbol b.symbol) refl refl refl h
  where
    go : (t u v : Bool) → nat_lt a.stripe b.stripe ≡ t → (a.stripe == b.stripe) ≡ u → nat_lt a.symbol b.symbol ≡ v → (t || (u && v)) ≡ true → ComesBefore a b
    go true u v is_t is_u is_v e =
        let less = ltb-true _ _ is_t in
        record { stripe = omega (arith, less); symbol = λ same. absurd (omega (arith, less, same)) }
    go false true true is_t is_u is_v e =
        let same = eqb-true _ _ is_u in
        record { stripe = omega (arith, same); symbol = λ h. ltb-true _ _ is_v }
    go false true false is_t is_u is_v e = cc
    go false false v is_t is_u is_v e = cc

-- the last of some sectors, if there is one
abbrev EndsWith : List Ask → Option Ask → Type 0
EndsWith sectors None = sectors ≡ []
EndsWith sectors (Some last) = (front : List Ask) × (sectors ≡ front ++ last ∷ [])

last-is : (sectors front : List Ask) (last d : Ask) → sectors ≡ front ++ last ∷ [] → get_or sectors (length sectors - 1) d ≡ last
last-is sectors front last d e =
    let place : length sectors - 1 ≡ length front = omega (arith, ap length e, length-append front (last ∷ [])) in
    (λ j. get_or (e j) (place j) d) ∙ get_or-append_seam front last [] d

behind-tests : (sectors : List Ask) (last : Option Ask) (next : Ask) → EndsWith sectors last → StandsBehind sectors next → is_behind last next ≡ true
behind-tests sectors None next ends h = refl
behind-tests sectors (Some last) next ends h =
    comes-before last next (subst (λ a. ComesBefore a next) (last-is sectors ends.0 last next ends.1)
    (h next (omega (arith, ap length ends.1, length-append ends.0 (last ∷ [])))))

tests-behind : (sectors : List Ask) (last : Option Ask) (next : Ask) → EndsWith sectors last → is_behind last next ≡ true → StandsBehind sectors next
tests-behind sectors None next ends h = λ d some. absurd (omega (arith, some, ap length ends))
tests-behind sectors (Some last) next ends h = λ d some.
    subst (λ a. ComesBefore a next) (sym (last-is sectors ends.0 last d ends.1)) (before-comes last next h)

module _ (l : Layout) where
  -- what a line spells is in range
  spelled-range : (o p : Option ℕ) (ask : Ask) → ask_at l o p ≡ Some ask → IsInRange l ask
  spelled-range None p ask e = cc
  spelled-range (Some s) None ask e = cc
  spelled-range (Some s) (Some i) ask e = go (nat_lt s l.stripes) (nat_lt i (stripe_symbols l)) refl refl e
    where
      made : Ask
      made = record { stripe = s; symbol = i }

      go : (t u : Bool) → nat_lt s l.stripes ≡ t → nat_lt i (stripe_symbols l) ≡ u → cond (t && u) (Some made) None ≡ Some ask → IsInRange l ask
      go false u is_t is_u h = cc
      go true false is_t is_u h = cc
      go true true is_t is_u h =
          let same : made ≡ ask = cc in
          subst (IsInRange l) same (record { stripe = ltb-true _ _ is_t; symbol = ltb-true _ _ is_u })

  line-range : (line : List ℕ) (ask : Ask) → ask_of l line ≡ Some ask → IsInRange l ask
  unfolding ask_of
  line-range line ask h = spelled-range _ _ ask h

module _ (l : Layout) (lost : ℕ) where
  -- a sector that may follow is taken
  taken : (sectors : List Ask) (last : Option Ask) (next : Ask) → EndsWith sectors last → AreSectors l lost (sectors ++ next ∷ []) → unless_bad lost last (Some next) ≡ Some next
  taken sectors last next ends h = λ j. cond
      (eq-eqb (bit_at lost next.symbol) 0 (sectors-not_lost l lost sectors next h) j
      && behind-tests sectors last next ends (sectors-behind l lost sectors next h) j)
      (Some next) None

  -- and no other
  may-follow : (sectors : List Ask) (last : Option Ask) (next : Ask) → EndsWith sectors last → AreSectors l lost sectors → IsInRange l next
      → (t u : Bool) → (bit_at lost next.symbol == 0) ≡ t → is_behind last next ≡ u → (AreSectors l lost (sectors ++ next ∷ []) → ⊥) → cond (t && u) (Some next) None ≡ None
  may-follow sectors last next ends are in_range false u is_t is_u out = refl
  may-follow sectors last next ends are in_range true false is_t is_u out = refl
  may-follow sectors last next ends are in_range true true is_t is_u out =
      absurd (out (sectors-more l lost sectors next are in_range (eqb-true _ _ is_t) (tests-behind sectors last next ends is_u)))

  -- ---- the line at the front

  from-ended : (last : Option Ask) (n : ℕ) (line bytes : List ℕ) (text : List (List ℕ)) → text ≡ line ∷ pieces 10 bytes
      → sectors_from l lost last n text ≡ sector_before n (sector_of l lost last line) (sectors_from l lost (sector_of l lost last line) (n + 1) (pieces 10 bytes))
  unfolding sectors_from
  from-ended last n line bytes text e = ap (sectors_from l lost last n) e ∙ go (pieces 10 bytes) (pieces-some 10 bytes)
    where
      go : (rest : List (List ℕ)) → 0 < length rest
          → sectors_from l lost last n (line ∷ rest) ≡ sector_before n (sector_of l lost last line) (sectors_from l lost (sector_of l lost last line) (n + 1) rest)
      go [] some = absurd (omega arith)
      go (next ∷ more) some = refl

  from-unended : (last : Option Ask) (n : ℕ) (bytes : List ℕ) → 0 < length bytes → pieces 10 bytes ≡ bytes ∷ [] → sectors_from l lost last n (pieces 10 bytes) ≡ Err n
  unfolding sectors_from
  from-unended last n bytes some alone =
      ap (sectors_from l lost last n) alone
      ∙ (λ j. cond (ne_eqb (length bytes) 0 (λ e. omega (arith, e, some)) j) (Ok []) (Err n))

  from-nothing : (last : Option Ask) (n : ℕ) → sectors_from l lost last n (pieces 10 []) ≡ Ok []
  unfolding sectors_from
  from-nothing last n = refl

  -- bytes that begin with the line of no sector that may follow
  from-bad : (sectors : List Ask) (last : Option Ask) (n : ℕ) (rest : List ℕ) → EndsWith sectors last → AreSectors l lost sectors → 0 < length rest
      → ((next : Ask) (more : List ℕ) → AreSectors l lost (sectors ++ next ∷ []) → rest ≡ ask_line next ++ more → ⊥) → sectors_from l lost last n (pieces 10 rest) ≡ Err n
  from-bad sectors last n rest ends are some bad = ⊎_elim
      (λ here. let line = before_first (λ b. b == 10) rest in let more = after_first (λ b. b == 10) rest in
      from-ended last n line more (pieces 10 rest) (pieces-first 10 rest line more here refl refl)
      ∙ ap (λ o. sector_before n o (sectors_from l lost o (n + 1) (pieces 10 more))) (none here (ask_of l line) refl))
      (λ missing. from-unended last n rest some (pieces-one 10 rest (omega (arith, missing, prefix_len-le-length (λ b. not (b == 10)) rest))))
      (cases_lt (position_or_len (λ b. b == 10) rest) (length rest))
    where
      none : position_or_len (λ b. b == 10) rest < length rest → (o : Option Ask) → ask_of l (before_first (λ b. b == 10) rest) ≡ o → unless_bad lost last o ≡ None
      none here None is = refl
      none here (Some next) is = may-follow sectors last next ends are (line-range l (before_first (λ b. b == 10) rest) next is) _ _ refl refl
          (λ h. bad next (after_first (λ b. b == 10) rest) h (next-text l rest (before_first (λ b. b == 10) rest) (after_first (λ b. b == 10) rest) next here refl refl is))

  -- ---- the lines of sectors

  -- sectors before those of later lines
  abbrev behind : List Ask → Answer → Answer
  behind sectors (Ok later) = Ok (sectors ++ later)
  behind sectors (Err line) = Err line

  behind-none : (later : Answer) → later ≡ behind [] later
  behind-none (Ok sectors) = refl
  behind-none (Err line) = refl

  behind-more : (n : ℕ) (next : Ask) (sectors : List Ask) (later : Answer) → sector_before n (Some next) (behind sectors later) ≡ behind (next ∷ sectors) later
  behind-more n next sectors (Ok later) = refl
  behind-more n next sectors (Err line) = refl

  module _ (may : IsLayout l) (rest : List ℕ) (m : ℕ) (later : Answer) where
    lines-of : (done xs : List Ask) (last : Option Ask) (n : ℕ) → EndsWith done last → AreSectors l lost (done ++ xs) → m ≡ n + length xs
        → ((end : Option Ask) → EndsWith (done ++ xs) end → sectors_from l lost end m (pieces 10 rest) ≡ later)
        → sectors_from l lost last n (pieces 10 (script_text xs ++ rest)) ≡ behind xs later
    lines-of done [] last n ends are number then =
        let same : n ≡ m = omega (arith, number) in
        ap (λ k. sectors_from l lost last k (pieces 10 rest)) same
        ∙ then last (subst (λ s. EndsWith s last) (sym (append-nil done)) ends)
        ∙ behind-none later
    lines-of done (next ∷ xs) last n ends are number then =
        let split : done ++ next ∷ xs ≡ (done ++ next ∷ []) ++ xs = sym (append_assoc done (next ∷ []) xs) in
        let whole : AreSectors l lost ((done ++ next ∷ []) ++ xs) = subst (AreSectors l lost) split are in
        let front : AreSectors l lost (done ++ next ∷ []) = sectors-front l may lost (done ++ next ∷ []) xs whole in
        let in_range : IsInRange l next = sectors-in_range l lost done next front in
        let text : pieces 10 (script_text (next ∷ xs) ++ rest) ≡ ask_text next ∷ pieces 10 (script_text xs ++ rest) =
        ap (pieces 10) (append_assoc (ask_line next) (script_text xs) rest) ∙ pieces-printed l may next in_range (script_text xs ++ rest) in
        let takes : sector_of l lost last (ask_text next) ≡ Some next = ap (unless_bad lost last) (ask-printed l may next in_range) ∙ taken done last next ends front in
        from-ended last n (ask_text next) (script_text xs ++ rest) (pieces 10 (script_text (next ∷ xs) ++ rest)) text
        ∙ ap (λ o. sector_before n o (sectors_from l lost o (n + 1) (pieces 10 (script_text xs ++ rest)))) takes
        ∙ ap (sector_before n (Some next)) (lines-of (done ++ next ∷ []) xs (Some next) (n + 1) (done, refl) whole (omega (arith, number))
        (λ end is. then end (subst (λ s. EndsWith s end) (sym split) is)))
        ∙ behind-more n next xs later

  module _ (may : IsLayout l) where
    pub text-read : (bytes : List ℕ) (sectors : List Ask) → bytes ≡ script_text sectors → AreSectors l lost sectors → sectors_of l lost bytes ≡ Ok sectors
    unfolding sectors_of
    text-read bytes sectors text are =
        ap (λ b. sectors_from l lost None 1 (pieces 10 b)) (text ∙ sym (append-nil (script_text sectors)))
        ∙ lines-of may [] (1 + length sectors) (Ok []) [] sectors None 1 refl are refl (λ end is. from-nothing end (1 + length sectors))
        ∙ ap Ok (append-nil sectors)

    pub bad-read : (bytes : List ℕ) (n : ℕ) → HasFirstBadSector l lost bytes n → sectors_of l lost bytes ≡ Err n
    unfolding sectors_of
    bad-read bytes n h =
        ap (λ b. sectors_from l lost None 1 (pieces 10 b)) h.parts
        ∙ lines-of may h.rest n (Err n) [] h.before None 1 refl h.sectors (omega (arith, h.number)) (λ end is. from-bad h.before end n h.rest is h.sectors h.some h.bad)
