-- The steps of reading, against what is read in all.
use Rattle.std.proofs.Common.{◌≡◌, ℕ, ◌+◌, ◌^◌, ◌<◌, ◌≤◌, ◌==◌, Bool, true, false, cond, Bor, List, [], ◌∷◌, ◌++◌, length, Option, Some, None, Ok, Err, codes, bit_or, refl, sym, ap, ap₂, ◌∙◌, arith}
use Rattle.std.specs.Prelude.{Result, option_copied, option_and_then, IfOk, IfSome, MatchOption, MatchResult}
use Rattle.std.specs.Option.{option_map, ok_or}
use Rattle.std.specs.Str.{bytes_eq}
use Rattle.std.proofs.lemmas.Bool.{and_parts, eqb-true, ne_eqb}
use Rattle.std.proofs.lemmas.Nat.Bits.{bit_at-zero, bit_at_or, same_from_bits}
use Rattle.std.proofs.lemmas.List.{append_assoc, length-append}
use Rattle.mr_model.specs.Plans.{Recipe}
use Rattle.mr_plan.specs.declared.errors.PlanLine.{PlanLine}
use Rattle.mr_text.specs.Lines.{pieces}
use Rattle.mr_plan.specs.Readings.{words_of, symbol_of, set_of_words, set_after, recipe_of_words, recipe_of, ◌>>=◌, bad_line, next_line, is_over, read_recipes, kind_of, set_of, read_plan}
use Rattle.mr_plan.specs.declared.kinds.Kind.{Kind}
use Rattle.mr_plan.specs.Plans.{PlanParts}
use Rattle.mr_text.proofs.LineLaws.{pieces-same, pieces-some}
use Rattle.mr_io.proofs.Returns.{none-left}

-- ---- the words of a set

or_assoc : (a b c : ℕ) → bit_or (bit_or a b) c ≡ bit_or a (bit_or b c)
or_assoc a b c = same_from_bits _ _ (λ i. omega (arith, bit_at_or (bit_or a b) c i, bit_at_or a b i, bit_at_or a (bit_or b c) i, bit_at_or b c i))

or_nothing : (a : ℕ) → bit_or a 0 ≡ a
or_nothing a = same_from_bits _ _ (λ i. omega (arith, bit_at_or a 0 i, bit_at-zero i))

nothing_or : (a : ℕ) → bit_or 0 a ≡ a
nothing_or a = same_from_bits _ _ (λ i. omega (arith, bit_at_or 0 a i, bit_at-zero i))

-- how many bytes are left, with one for the byte before them
abbrev pub left_length : Option (Bor (List ℕ)) → ℕ
left_length None = 0
left_length (Some bytes) = length bytes.now + 1

pub left_shorter : (text : List ℕ) (rest : Option (Bor (List ℕ))) → IfSome rest (λ bytes. length bytes.now < length text) → left_length rest < length text + 1
left_shorter text None h = omega arith
left_shorter text (Some bytes) h = omega (arith, h)

-- the set in all is what is read so far with that of the words left
abbrev pub IsSoFar : Option ℕ → ℕ → ℕ → Option (Bor (List ℕ)) → Type 0
IsSoFar all set least left = all ≡ option_map (bit_or set) (set_of_words least (words_of (option_copied left)))

pub so_far-start : (left : Option (Bor (List ℕ))) → IsSoFar (set_of_words 0 (words_of (option_copied left))) 0 0 left
so_far-start left = go (set_of_words 0 (words_of (option_copied left)))
  where
    go : (o : Option ℕ) → o ≡ option_map (bit_or 0) o
    go None = refl
    go (Some s) = ap Some (sym (nothing_or s))

pub so_far-end : (all : Option ℕ) (set least : ℕ) (left : Option (Bor (List ℕ))) → IsSoFar all set least left → left ≡ None → Some set ≡ all
unfolding set_of_words
so_far-end all set least left h e = sym (h ∙ ap (λ l. option_map (bit_or set) (set_of_words least (words_of (option_copied l)))) e ∙ ap Some (or_nothing set))

-- the words left begin with a word
words_left : (set least : ℕ) (left : Option (Bor (List ℕ))) (text : Bor (List ℕ)) (word : List ℕ) (words : List (List ℕ)) (o : Option ℕ)
    → left ≡ Some text → pieces 32 text.now ≡ word ∷ words → o ≡ symbol_of least word
    → set_of_words least (words_of (option_copied left)) ≡ option_and_then (λ n. option_map (bit_or (2 ^ n)) (set_of_words (n + 1) words)) o
unfolding set_of_words
words_left set least left text word words o e cut is =
    ap (λ l. set_of_words least (words_of (option_copied l))) e ∙ ap (set_of_words least) cut
    ∙ ap (option_and_then (λ n. option_map (bit_or (2 ^ n)) (set_of_words (n + 1) words))) (sym is)

-- a word that is no symbol
pub so_far-bad : (all : Option ℕ) (set least : ℕ) (left : Option (Bor (List ℕ))) (text : Bor (List ℕ)) (word : List ℕ) (words : List (List ℕ))
    → IsSoFar all set least left → left ≡ Some text → pieces 32 text.now ≡ word ∷ words → None ≡ symbol_of least word → None ≡ all
so_far-bad all set least left text word words h e cut is =
    sym (h ∙ ap (option_map (bit_or set)) (words_left set least left text word words None e cut is))

-- a word that is a symbol
pub so_far-turn : (all : Option ℕ) (set least : ℕ) (left : Option (Bor (List ℕ))) (text : Bor (List ℕ)) (word : List ℕ) (rest : Option (Bor (List ℕ))) (n : ℕ)
    → IsSoFar all set least left → left ≡ Some text → pieces 32 text.now ≡ word ∷ words_of (option_copied rest) → Some n ≡ symbol_of least word
    → IsSoFar all (bit_or set (2 ^ n)) (n + 1) rest
so_far-turn all set least left text word rest n h e cut is =
    h ∙ ap (option_map (bit_or set)) (words_left set least left text word (words_of (option_copied rest)) (Some n) e cut is)
    ∙ joined (set_of_words (n + 1) (words_of (option_copied rest)))
  where
    joined : (o : Option ℕ) → option_map (bit_or set) (option_map (bit_or (2 ^ n)) o) ≡ option_map (bit_or (bit_or set (2 ^ n))) o
    joined None = refl
    joined (Some s) = ap Some (sym (or_assoc set (2 ^ n) s))

-- ---- the next line

pub next-some : (line : ℕ) (bytes text rest : List ℕ) → pieces 10 bytes ≡ text ∷ pieces 10 rest → next_line line (pieces 10 bytes) ≡ Ok (text, pieces 10 rest)
unfolding next_line
next-some line bytes text rest e =
    ap (next_line line) e ∙ ap (λ b. cond {A = Result (List ℕ × List (List ℕ)) PlanLine} b (Err (bad_line line)) (Ok (text, pieces 10 rest))) (ne_eqb (length (pieces 10 rest)) 0 (λ none. absurd (omega (arith, none, pieces-some 10 rest))))

pub next-none : (line : ℕ) (bytes text : List ℕ) → pieces 10 bytes ≡ text ∷ [] → next_line line (pieces 10 bytes) ≡ Err (bad_line line)
unfolding next_line
next-none line bytes text e = ap (next_line line) e

-- a text that is split at its first line feed, or that has none
pub next-split : (line : ℕ) (bytes : List ℕ) (split : Option (Bor (List ℕ) × Bor (List ℕ))) (answer : Result (Bor (List ℕ) × Bor (List ℕ)) PlanLine)
    → MatchOption split (pieces 10 bytes ≡ bytes ∷ []) (λ parts. pieces 10 bytes ≡ parts.0.now ∷ pieces 10 parts.1.now) → answer ≡ ok_or split (bad_line line)
    → MatchResult answer (λ parts. next_line line (pieces 10 bytes) ≡ Ok (parts.0.now, pieces 10 parts.1.now)) (λ e. next_line line (pieces 10 bytes) ≡ Err e)
next-split line bytes None answer h is = rw is (next-none line bytes bytes h)
next-split line bytes (Some parts) answer h is = rw is (next-some line bytes parts.0.now parts.1.now h)

pub shorter-split : (line : ℕ) (bytes : List ℕ) (split : Option (Bor (List ℕ) × Bor (List ℕ))) (answer : Result (Bor (List ℕ) × Bor (List ℕ)) PlanLine)
    → IfSome split (λ parts. length parts.1.now < length bytes) → answer ≡ ok_or split (bad_line line) → IfOk answer (λ parts. length parts.1.now < length bytes)
shorter-split line bytes None answer h is = rw is tt
shorter-split line bytes (Some parts) answer h is = rw is h

-- what the next line says of the lines
pub record IsNextLine (first : List ℕ) (left lines : List (List ℕ)) : Type 0 where
  pub same : lines ≡ first ∷ left
  pub more : (length left == 0) ≡ false

pub next-is : (line : ℕ) (lines : List (List ℕ)) (first : List ℕ) (left : List (List ℕ)) → next_line line lines ≡ Ok (first, left) → IsNextLine first left lines
unfolding next_line
next-is line [] first left e = cc
next-is line (f ∷ l) first left e = go (length l == 0) refl e
  where
    go : (b : Bool) → (length l == 0) ≡ b → cond {A = Result (List ℕ × List (List ℕ)) PlanLine} b (Err (bad_line line)) (Ok (f, l)) ≡ Ok (first, left) → IsNextLine first left (f ∷ l)
    go true is e = cc
    go false is e =
        let pair : ◌≡◌ {A = List ℕ × List (List ℕ)} (f, l) (first, left) = cc in
        let same_first : f ≡ first = ap (λ (p : List ℕ × List (List ℕ)). p.0) pair in
        let same_left : l ≡ left = ap (λ (p : List ℕ × List (List ℕ)). p.1) pair in
        record { same = ap₂ (λ x xs. x ∷ xs) same_first same_left; more = ap (λ xs. length xs == 0) (sym same_left) ∙ is }

-- a recipe, and then those of the lines left
abbrev with_rest : ℕ → List (List ℕ) → Recipe → Result (List Recipe) PlanLine
with_rest line left recipe = read_recipes (line + 1) (recipe.symbol + 1) left >>= λ recipes. Ok (recipe ∷ recipes)

abbrev recipe_step : ℕ → ℕ → List ℕ → List (List ℕ) → Result (List Recipe) PlanLine
recipe_step line least first left = ok_or (recipe_of least first) (bad_line line) >>= with_rest line left

-- where the line is not the last, it is `end` or a recipe
abbrev rest_of : ℕ → ℕ → List ℕ → List (List ℕ) → Result (List Recipe) PlanLine
rest_of line least first left =
    cond (bytes_eq first (codes "end")) (cond (is_over left) (Ok []) (Err (bad_line (line + 1))))
    (recipe_step line least first left)

-- a line with no line feed is bad where recipes are read, too
pub next-bad : (line least : ℕ) (lines : List (List ℕ)) (e : PlanLine) → next_line line lines ≡ Err e → read_recipes line least lines ≡ Err e
unfolding next_line read_recipes
next-bad line least [] e h = let same : bad_line line ≡ e = cc in ap Err same
next-bad line least (first ∷ left) e h = go (length left == 0) refl h
  where
    go : (b : Bool) → (length left == 0) ≡ b → cond {A = Result (List ℕ × List (List ℕ)) PlanLine} b (Err (bad_line line)) (Ok (first, left)) ≡ Err e → read_recipes line least (first ∷ left) ≡ Err e
    go true is h = let same : bad_line line ≡ e = cc in ap (λ b. cond b (Err (bad_line line)) (rest_of line least first left)) is ∙ ap Err same
    go false is h = cc

-- ---- line by line

-- the recipes before those of an answer
abbrev pub prepended : List Recipe → Result (List Recipe) PlanLine → Result (List Recipe) PlanLine
prepended rs (Ok qs) = Ok (rs ++ qs)
prepended rs (Err e) = Err e

regrouped : (rs : List Recipe) (r : Recipe) (answer : Result (List Recipe) PlanLine) → prepended rs (answer >>= λ qs. Ok (r ∷ qs)) ≡ prepended (rs ++ r ∷ []) answer
regrouped rs r (Ok qs) = ap Ok (sym (append_assoc rs (r ∷ []) qs))
regrouped rs r (Err e) = refl

-- the answer in all is what is read so far before that of the lines left
pub record IsReading (all : Result (List Recipe) PlanLine) (recipes : List Recipe) (line least : ℕ) (lines : List (List ℕ)) : Type 0 where
  pub answer : all ≡ prepended recipes (read_recipes line least lines)
  pub few : length recipes ≤ least
  pub in_range : least ≤ 128
  pub counted : line ≤ 3 + least

pub IsReading-start : (lines : List (List ℕ)) (recipes : List Recipe) → recipes ≡ [] → IsReading (read_recipes 3 0 lines) recipes 3 0 lines
IsReading-start lines recipes none = record {
  answer = go (read_recipes 3 0 lines) ∙ ap (λ rs. prepended rs (read_recipes 3 0 lines)) (sym none);
  few = omega (arith, ap length none);
  in_range = omega arith;
  counted = omega arith;
}
  where
    go : (r : Result (List Recipe) PlanLine) → r ≡ prepended [] r
    go (Ok qs) = refl
    go (Err e) = refl

module _ (all : Result (List Recipe) PlanLine) (recipes : List Recipe) (line least : ℕ) (lines : List (List ℕ)) (reading : IsReading all recipes line least lines) where
  -- a line with no line feed
  pub reading-cut : (e : PlanLine) → next_line line lines ≡ Err e → all ≡ Err e
  reading-cut e h = reading.answer ∙ ap (prepended recipes) (next-bad line least lines e h)

  -- the line that is next
  at_line : (first : List ℕ) (left : List (List ℕ)) → next_line line lines ≡ Ok (first, left) → all ≡ prepended recipes (rest_of line least first left)
  unfolding read_recipes
  at_line first left h =
      let next = next-is line lines first left h in
      reading.answer ∙ ap (λ ls. prepended recipes (read_recipes line least ls)) next.same
      ∙ ap (λ b. prepended recipes (cond b (Err (bad_line line)) (rest_of line least first left))) next.more

  -- the line `end`
  pub reading-end : (first : List ℕ) (left : List (List ℕ)) (over : Bool) → next_line line lines ≡ Ok (first, left) → bytes_eq first (codes "end") ≡ true → is_over left ≡ over
      → all ≡ prepended recipes (cond over (Ok []) (Err (bad_line (line + 1))))
  reading-end first left over h is e = at_line first left h
      ∙ ap (λ b. prepended recipes (cond b (cond (is_over left) (Ok []) (Err (bad_line (line + 1)))) (recipe_step line least first left))) is
      ∙ ap (λ b. prepended recipes (cond b (Ok []) (Err (bad_line (line + 1))))) e

  -- a line that is no recipe
  pub reading-bad : (first : List ℕ) (left : List (List ℕ)) → next_line line lines ≡ Ok (first, left) → bytes_eq first (codes "end") ≡ false → None ≡ recipe_of least first
      → all ≡ Err (bad_line line)
  reading-bad first left h not none = at_line first left h
      ∙ ap (λ b. prepended recipes (cond b (cond (is_over left) (Ok []) (Err (bad_line (line + 1)))) (recipe_step line least first left))) not
      ∙ ap (λ o. prepended recipes (ok_or o (bad_line line) >>= with_rest line left)) (sym none)

  -- a recipe
  pub reading-turn : (first : List ℕ) (left : List (List ℕ)) (r : Recipe) (grown : List Recipe) (later : ℕ) → next_line line lines ≡ Ok (first, left) → bytes_eq first (codes "end") ≡ false → Some r ≡ recipe_of least first
      → (least ≤ r.symbol) × (r.symbol < 128) → grown ≡ recipes ++ r ∷ [] → later ≡ r.symbol + 1 → IsReading all grown (line + 1) later left
  reading-turn first left r grown later h not is range e next = record {
    answer = at_line first left h
        ∙ ap (λ b. prepended recipes (cond b (cond (is_over left) (Ok []) (Err (bad_line (line + 1)))) (recipe_step line least first left))) not
        ∙ ap (λ o. prepended recipes (ok_or o (bad_line line) >>= with_rest line left)) (sym is)
        ∙ regrouped recipes r (read_recipes (line + 1) (r.symbol + 1) left)
        ∙ ap₂ (λ rs k. prepended rs (read_recipes (line + 1) k left)) (sym e) (sym next);
    few = omega (arith, ap length e, length-append recipes (r ∷ []), reading.few, range.0, next);
    in_range = omega (arith, range.1, next);
    counted = omega (arith, reading.counted, range.0, next);
  }

-- ---- the words of a recipe

-- the recipe of n by the set s
abbrev pub recipe_by : ℕ → ℕ → Recipe
recipe_by n s = record { symbol = n; equation = s }

abbrev with_sources : List (List ℕ) → ℕ → Option Recipe
with_sources words n = option_map (recipe_by n) (set_after (codes "=") words)

module _ (least : ℕ) (line first : List ℕ) (words : List (List ℕ)) where
  pub recipe-no_symbol : pieces 32 line ≡ first ∷ words → None ≡ symbol_of least first → None ≡ recipe_of least line
  unfolding recipe_of
  recipe-no_symbol cut none = sym (ap (recipe_of_words least) cut ∙ ap (option_and_then (with_sources words)) (sym none))

  pub recipe-no_sources : (n : ℕ) → pieces 32 line ≡ first ∷ words → Some n ≡ symbol_of least first → None ≡ set_after (codes "=") words → None ≡ recipe_of least line
  unfolding recipe_of
  recipe-no_sources n cut is none = sym (ap (recipe_of_words least) cut ∙ ap (option_and_then (with_sources words)) (sym is) ∙ ap (option_map (recipe_by n)) (sym none))

  pub recipe-some : (n s : ℕ) → pieces 32 line ≡ first ∷ words → Some n ≡ symbol_of least first → Some s ≡ set_after (codes "=") words → Some (recipe_by n s) ≡ recipe_of least line
  unfolding recipe_of
  recipe-some n s cut is has = sym (ap (recipe_of_words least) cut ∙ ap (option_and_then (with_sources words)) (sym is) ∙ ap (option_map (recipe_by n)) (sym has))

-- what it is that nothing follows
pub over-is : (ps : List (List ℕ)) → is_over ps ≡ true → ps ≡ [] ∷ []
over-is [] e = cc
over-is (p ∷ ps) e =
    let parts = and_parts (length p == 0) (length ps == 0) e in
    ap₂ (λ x xs. x ∷ xs) (none-left p (eqb-true _ _ parts.0)) (none-left ps (eqb-true _ _ parts.1))

-- nothing follows exactly where no byte does
pub is_over-pieces : (bytes : List ℕ) → is_over (pieces 10 bytes) ≡ (length bytes == 0)
is_over-pieces [] = refl
is_over-pieces (b ∷ bytes) = not_over (is_over (pieces 10 (b ∷ bytes))) refl
  where
    not_over : (t : Bool) → is_over (pieces 10 (b ∷ bytes)) ≡ t → is_over (pieces 10 (b ∷ bytes)) ≡ (length (b ∷ bytes) == 0)
    not_over false e = e ∙ sym (ne_eqb (length (b ∷ bytes)) 0 (λ z. absurd (omega arith)))
    not_over true e = let same : b ∷ bytes ≡ [] = pieces-same 10 (b ∷ bytes) [] (over-is (pieces 10 (b ∷ bytes)) e) in cc

-- ---- the whole text, step by step

bind-ok : {A B : Type 0} (r : Result A PlanLine) (next : A → Result B PlanLine) (a : A) → r ≡ Ok a → (r >>= next) ≡ next a
bind-ok r next a e = ap (λ o. o >>= next) e

bind-err : {A B : Type 0} (r : Result A PlanLine) (next : A → Result B PlanLine) (e : PlanLine) → r ≡ Err e → (r >>= next) ≡ Err e
bind-err r next e h = ap (λ o. o >>= next) h

-- what is read from each step on
abbrev pub from_recipes : Kind → ℕ → List (List ℕ) → Result PlanParts PlanLine
from_recipes kind set lines = read_recipes 3 0 lines >>= λ recipes. Ok (record { kind = kind; set = set; recipes = recipes })

abbrev pub from_set : Kind → List ℕ × List (List ℕ) → Result PlanParts PlanLine
from_set kind second = ok_or (set_of second.0) (bad_line 2) >>= λ set. from_recipes kind set second.1

abbrev pub from_second : List (List ℕ) → Kind → Result PlanParts PlanLine
from_second lines kind = next_line 2 lines >>= from_set kind

abbrev pub from_head : List ℕ × List (List ℕ) → Result PlanParts PlanLine
from_head first = ok_or (kind_of first.0) (bad_line 1) >>= from_second first.1

module _ (bytes : List ℕ) where
  pub no_head : (e : PlanLine) → next_line 1 (pieces 10 bytes) ≡ Err e → read_plan bytes ≡ Err e
  unfolding read_plan
  no_head e h = bind-err (next_line 1 (pieces 10 bytes)) from_head e h

  module _ (head : List ℕ) (left : List (List ℕ)) (first : next_line 1 (pieces 10 bytes) ≡ Ok (head, left)) where
    after_head : read_plan bytes ≡ from_head (head, left)
    unfolding read_plan
    after_head = bind-ok (next_line 1 (pieces 10 bytes)) from_head (head, left) first

    pub no_kind : (e : PlanLine) → ok_or (kind_of head) (bad_line 1) ≡ Err e → read_plan bytes ≡ Err e
    no_kind e h = after_head ∙ bind-err (ok_or (kind_of head) (bad_line 1)) (from_second left) e h

    module _ (kind : Kind) (is_kind : ok_or (kind_of head) (bad_line 1) ≡ Ok kind) where
      after_kind : read_plan bytes ≡ from_second left kind
      after_kind = after_head ∙ bind-ok (ok_or (kind_of head) (bad_line 1)) (from_second left) kind is_kind

      pub no_second : (e : PlanLine) → next_line 2 left ≡ Err e → read_plan bytes ≡ Err e
      no_second e h = after_kind ∙ bind-err (next_line 2 left) (from_set kind) e h

      module _ (text : List ℕ) (rest : List (List ℕ)) (second : next_line 2 left ≡ Ok (text, rest)) where
        after_second : read_plan bytes ≡ from_set kind (text, rest)
        after_second = after_kind ∙ bind-ok (next_line 2 left) (from_set kind) (text, rest) second

        pub no_set : (e : PlanLine) → ok_or (set_of text) (bad_line 2) ≡ Err e → read_plan bytes ≡ Err e
        no_set e h = after_second ∙ bind-err (ok_or (set_of text) (bad_line 2)) (λ set. from_recipes kind set rest) e h

        module _ (set : ℕ) (is_set : ok_or (set_of text) (bad_line 2) ≡ Ok set) where
          after_set : read_plan bytes ≡ from_recipes kind set rest
          after_set = after_second ∙ bind-ok (ok_or (set_of text) (bad_line 2)) (λ s. from_recipes kind s rest) set is_set

          pub no_recipes : (e : PlanLine) → read_recipes 3 0 rest ≡ Err e → read_plan bytes ≡ Err e
          no_recipes e h = after_set ∙ bind-err (read_recipes 3 0 rest) (λ recipes. Ok (record { kind = kind; set = set; recipes = recipes })) e h

          pub all_read : (recipes : List Recipe) → read_recipes 3 0 rest ≡ Ok recipes → read_plan bytes ≡ Ok (record { kind = kind; set = set; recipes = recipes })
          all_read recipes h = after_set ∙ bind-ok (read_recipes 3 0 rest) (λ rs. Ok (record { kind = kind; set = set; recipes = rs })) recipes h

-- ---- what an answer with a line says of the option that it was made of

pub bad_answer : {X : Type 0} (o : Option X) (e f : PlanLine) (all : Result (List Recipe) PlanLine) → Err e ≡ ok_or o f → (None ≡ o → all ≡ Err f) → all ≡ Err e
bad_answer None e f all h next = let same : f ≡ e = cc in next refl ∙ ap Err same
bad_answer (Some x) e f all h next = cc

pub some_answer : {X : Type 0} (o : Option X) (f : PlanLine) (x : X) → Ok x ≡ ok_or o f → Some x ≡ o
some_answer None f x h = cc
some_answer (Some y) f x h = let same : x ≡ y = cc in ap Some same
