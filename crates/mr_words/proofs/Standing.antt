-- Where the walk of clap stands between two words, and the walks that are lost.
use Rattle.std.proofs.Common.{◌≡◌, ◌∙◌, ◌+◌, ◌<◌, ◌&&◌, ◌||◌, ℕ, Bool, true, false, cond, not, List, [], ◌∷◌, ◌++◌, length, min, Option, Some, None, refl, sym, ap, subst, arith, append-nil, append_assoc, inl, inr}
use Rattle.std.proofs.lemmas.List.{length-append}
use Rattle.std.specs.List.{fold, list_any}
use Rattle.std.specs.Option.{option_map_or}
use Rattle.std.specs.Prelude.{⊤}
use Rattle.std.specs.Str.{IsUtf8, bytes_eq}
use Rattle.std.proofs.lemmas.Bool.{both_ways, or_cases, or_parts, or_right}
use Rattle.std.proofs.lemmas.Slice.Eq.{bytes_eq-Decides}
use Rattle.clap.specs.Lexer.{usize_max}
use Rattle.clap.specs.Kinds.{Kinds, or_else}
use Rattle.clap.specs.Faults.{defaults_fault, long_fault, positional_fault, repeat_fault, settle_fault, step_fault, stray_fault, use_fault}
use Rattle.clap.specs.Takes.{is_given}
use Rattle.clap.specs.Walk.{Held, Row, Rule, Waiting, arg_by_id, arg_by_index, arg_by_long, arg_by_short, idle, is_pending, takes_values, used_by_id, value, with_default, with_values, without}
use Rattle.clap.specs.declared.builder.value_parser.Reading.TheVariants.{AsWritten}
use Rattle.clap.specs.declared.parser.matches.ValueSource.TheVariants.{CommandLine}
use Rattle.clap.specs.declared.error.kind.ErrorKind.TheVariants.{ArgumentConflict, InvalidValue, TooManyValues, UnknownArgument}
use Rattle.mr_words.specs.Grammar.{Given, Syntax, Text, has_name, is_among}
use Rattle.mr_words.proofs.ClapWalk.{dashes_walked, end_fails, first_fails, bundle_fails, later_fails, no_kinds, option_fails, plain_fault, plain_met, shape_for, tail_fault, turn_by, unknown_flag, walk_of, word_fails}
use Rattle.mr_words.proofs.Looks.{is_dashes, is_option, is_plain, is_strange, view}
use Rattle.mr_words.proofs.Uses.{Holds, Pending, Single, first_use, flag_rule, held, place_rule, rows, rows_more, second_use, valued_rule}

-- ---- tests

pub same_true : (n : Text) → bytes_eq n n ≡ true
same_true n = (bytes_eq-Decides n n).1 refl

pub true_same : (m n : Text) → bytes_eq m n ≡ true → m ≡ n
true_same m n e = (bytes_eq-Decides m n).0 e

pub if_false : {X : Type 0} (b : Bool) (x y : X) → cond (b && false) x y ≡ y
if_false true x y = refl
if_false false x y = refl

pub or_false : (b : Bool) → (b || false) ≡ b
or_false true = refl
or_false false = refl

pub cond_fails : (b : Bool) (x y : Kinds) → (x ≡ [] → ⊥) → (y ≡ [] → ⊥) → cond b x y ≡ [] → ⊥
cond_fails true x y fx fy e = fx e
cond_fails false x y fx fy e = fy e

pub is_among-append : (n : Text) (xs ys : List Text) → is_among n (xs ++ ys) ≡ (is_among n xs || is_among n ys)
is_among-append n [] ys = refl
is_among-append n (x ∷ xs) ys = go (bytes_eq x n) (is_among-append n xs ys)
  where
    go : (b : Bool) → is_among n (xs ++ ys) ≡ (is_among n xs || is_among n ys) → (b || is_among n (xs ++ ys)) ≡ ((b || is_among n xs) || is_among n ys)
    go true e = refl
    go false e = e

pub has_name-more : (n : Text) (given : Given) (name text : Text) → has_name n (given ++ (name, text) ∷ []) ≡ (has_name n given || bytes_eq name n)
has_name-more n [] name text = or_false (bytes_eq name n)
has_name-more n (g ∷ gs) name text = go (bytes_eq g.0 n) (has_name-more n gs name text)
  where
    go : (b : Bool) → has_name n (gs ++ (name, text) ∷ []) ≡ (has_name n gs || bytes_eq name n)
        → (b || has_name n (gs ++ (name, text) ∷ [])) ≡ ((b || has_name n gs) || bytes_eq name n)
    go true e = refl
    go false e = e

pub is_among-first : (n : Text) (left : List Text) → is_among n (n ∷ left) ≡ true
is_among-first n left = ap (λ b. b || is_among n left) (same_true n)

pub is_among-after : (n : Text) (before left : List Text) → is_among n (before ++ n ∷ left) ≡ true
is_among-after n before left = is_among-append n before (n ∷ left) ∙ or_right (is_among n before) _ (is_among-first n left)

-- ---- what the rules of a syntax answer

pub record Speaks (s : Syntax) (c : List Rule) : Type 0 where
  pub few : length s.places < 1000
  pub long_valued : (name : Text) → is_among name s.valued ≡ true → arg_by_long c name ≡ Some (valued_rule name)
  pub long_flag : (name : Text) → is_among name s.valued ≡ false → is_among name s.flags ≡ true → arg_by_long c name ≡ Some (flag_rule name)
  pub long_none : (name : Text) → is_among name s.valued ≡ false → is_among name s.flags ≡ false → arg_by_long c name ≡ None
  pub no_short : (x : ℕ) → arg_by_short c x ≡ None
  pub id_valued : (name : Text) → is_among name s.valued ≡ true → arg_by_id c name ≡ Some (valued_rule name)
  pub id_place : (before : List Text) (n : Text) (left : List Text) → s.places ≡ before ++ n ∷ left
      → arg_by_id c n ≡ Some (place_rule (length before + 1) n)
  pub index_place : (before : List Text) (n : Text) (left : List Text) → s.places ≡ before ++ n ∷ left
      → arg_by_index c (length before + 1) ≡ Some (place_rule (length before + 1) n)
  pub index_none : arg_by_index c (length s.places + 1) ≡ None
  pub defaults_pass : (R : List Row) → defaults_fault R c ≡ []
  pub all_there : (given : Given) → ((n : Text) → is_among n s.places ≡ true → has_name n given ≡ true)
      → list_any (λ a. a.required && not (is_given a.id (fold with_default (rows given) c))) c ≡ false
  pub one_missing : (given : Given) (n : Text) → is_among n s.places ≡ true → has_name n given ≡ false
      → list_any (λ a. a.required && not (is_given a.id (fold with_default (rows given) c))) c ≡ true
  pub valued_apart : (name : Text) → is_among name s.valued ≡ true → is_among name s.places ≡ false
  pub flags_apart : (name : Text) → is_among name s.flags ≡ true → is_among name s.places ≡ false
  pub place_once : (before : List Text) (n : Text) (left : List Text) → s.places ≡ before ++ n ∷ left → is_among n left ≡ false

-- the places before this position are given, and those from it on are not
pub record Placed (s : Syntax) (given : Given) (left : List Text) (position : ℕ) : Type 0 where
  pub before : List Text
  pub whole : s.places ≡ before ++ left
  pub stands : position ≡ length before + 1
  pub done : (n : Text) → is_among n before ≡ true → has_name n given ≡ true
  pub to_come : (n : Text) → is_among n left ≡ true → has_name n given ≡ false

-- each word is a text
abbrev pub AreTexts : List Text → Type 0
AreTexts [] = ⊤
AreTexts (word ∷ words) = IsUtf8 word × AreTexts words

module _ (title : Text) (s : Syntax) (c : List Rule) (speaks : Speaks s c) where
  -- ---- the places

  -- a name that is not to come leaves those that are
  still_to_come : (given : Given) (left : List Text) (name text : Text) → is_among name left ≡ false
      → ((n : Text) → is_among n left ≡ true → has_name n given ≡ false)
      → (n : Text) → is_among n left ≡ true → has_name n (given ++ (name, text) ∷ []) ≡ false
  still_to_come given left name text apart to_come n among = has_name-more n given name text ∙ go (bytes_eq name n) refl
    where
      go : (b : Bool) → bytes_eq name n ≡ b → (has_name n given || b) ≡ false
      go true e = absurd (both_ways _ apart (subst (λ m. is_among m left ≡ true) (sym (true_same name n e)) among))
      go false e = or_false (has_name n given) ∙ to_come n among

  still_done : (given : Given) (name text n : Text) → has_name n given ≡ true → has_name n (given ++ (name, text) ∷ []) ≡ true
  still_done given name text n e = has_name-more n given name text ∙ ap (λ b. b || bytes_eq name n) e

  pub placed_option : (given : Given) (left : List Text) (position : ℕ) (name text : Text) → Placed s given left position
      → is_among name s.places ≡ false → Placed s (given ++ (name, text) ∷ []) left position
  placed_option given left position name text p apart = record {
    before = p.before;
    whole = p.whole;
    stands = p.stands;
    done = λ n e. still_done given name text n (p.done n e);
    to_come = still_to_come given left name text
        (or_parts (is_among name p.before) _ (sym (is_among-append name p.before left) ∙ ap (is_among name) (sym p.whole) ∙ apart)).1 p.to_come;
  }

  pub placed_next : (given : Given) (n : Text) (left : List Text) (position : ℕ) (text : Text) → Placed s given (n ∷ left) position
      → Placed s (given ++ (n, text) ∷ []) left (min (position + 1) usize_max)
  placed_next given n left position text p = record {
    before = p.before ++ n ∷ [];
    whole = p.whole ∙ sym (append_assoc p.before (n ∷ []) left);
    stands = omega (arith, p.stands, speaks.few, ap length p.whole, length-append p.before (n ∷ left), length-append p.before (n ∷ []));
    done = λ m e. elim (or_cases _ _ (sym (is_among-append m p.before (n ∷ [])) ∙ e)) [
      | inl early ↦ still_done given n text m (p.done m early)
      | inr last ↦ has_name-more m given n text ∙ or_last (has_name m given) (bytes_eq n m) last
    ];
    to_come = still_to_come given left n text (speaks.place_once p.before n left p.whole)
        (λ m e. p.to_come m (go (bytes_eq n m) e));
  }
    where
      or_last : (a b : Bool) → (b || false) ≡ true → (a || b) ≡ true
      or_last true b e = refl
      or_last false b e = sym (or_false b) ∙ e

      go : (b : Bool) {x : Bool} → x ≡ true → (b || x) ≡ true
      go true e = refl
      go false e = e

  -- ---- what is pending

  -- a value that is pending for a name that has none yet
  pub pends_holds : (given : Given) (R : List Row) (a : Rule) (n v : Text) → Single a n → arg_by_id c n ≡ Some a → has_name n given ≡ false → R ≡ rows given
      → Holds c (given ++ (n, v) ∷ []) R (Some (n, v ∷ []))
  pends_holds given R a n v one found none same = record {
    sound = ap (λ o. option_map_or (λ b. use_fault false b (v ∷ []) R) o []) found ∙ one.fault v R
        ∙ ap (λ S. or_else (repeat_fault false n S) []) same ∙ first_use n given none;
    shows = ap (λ o. used_by_id o (v ∷ []) R) found ∙ one.shows v R
        ∙ ap (λ S. with_values n AsWritten CommandLine (v ∷ []) (without n S)) same ∙ rows_more n v given none;
  }

  -- for one that has, and an option with no value
  pub pends_twice : (given : Given) (R : List Row) (a : Rule) (n v : Text) → Single a n → arg_by_id c n ≡ Some a → has_name n given ≡ true → R ≡ rows given
      → settle_fault c false (held R (Some (n, v ∷ []))) ≡ [] → ⊥
  pends_twice given R a n v one found some same e = no_kinds ArgumentConflict [] (
      sym (ap (λ o. option_map_or (λ b. use_fault false b (v ∷ []) R) o []) found ∙ one.fault v R
      ∙ ap (λ S. or_else (repeat_fault false n S) []) same ∙ second_use n given some) ∙ e)

  pub pends_empty : (R : List Row) (a : Rule) (n : Text) → Single a n → arg_by_id c n ≡ Some a
      → settle_fault c false (held R (Some (n, []))) ≡ [] → ⊥
  pends_empty R a n one found e = no_kinds InvalidValue [] (
      sym (ap (λ o. option_map_or (λ b. use_fault false b [] R) o []) found ∙ one.none R) ∙ e)

  -- ---- walks that are lost: what is pending fails once it is settled

  -- the rule of the next place
  pub next_rule : (given : Given) (n : Text) (left : List Text) (position : ℕ) → (p : Placed s given (n ∷ left) position)
      → arg_by_index c position ≡ Some (place_rule (length p.before + 1) n)
  next_rule given n left position p = ap (arg_by_index c) p.stands ∙ speaks.index_place p.before n left p.whole

  no_rule : (given : Given) (position : ℕ) → Placed s given [] position → arg_by_index c position ≡ None
  no_rule given position p = ap (arg_by_index c) (p.stands ∙ ap (λ xs. length xs + 1) (sym (append-nil p.before) ∙ sym p.whole)) ∙ speaks.index_none

  -- a word that goes to a place settles what is pending; where no place is left, it fails
  pub place_settles : (given : Given) (n : Text) (left : List Text) (position : ℕ) → Placed s given (n ∷ left) position → (h : Held)
      → step_fault (shape_for title c) position h value ≡ settle_fault c false h
  place_settles given n left position p h =
      ap (λ o. option_map_or (λ a. positional_fault c false a h) o (stray_fault (shape_for title c))) (next_rule given n left position p)
      ∙ if_false (is_pending (place_rule (length p.before + 1) n) h.pending) [] (settle_fault c false h)

  pub place_is_stray : (given : Given) (position : ℕ) → Placed s given [] position → (h : Held)
      → step_fault (shape_for title c) position h value ≡ UnknownArgument ∷ []
  place_is_stray given position p h =
      ap (λ o. option_map_or (λ a. positional_fault c false a h) o (stray_fault (shape_for title c))) (no_rule given position p)

  value_fails : (given : Given) (left : List Text) (position : ℕ) → Placed s given left position → (h : Held) → (settle_fault c false h ≡ [] → ⊥)
      → step_fault (shape_for title c) position h value ≡ [] → ⊥
  value_fails given [] position p h fails e = no_kinds UnknownArgument [] (sym (place_is_stray given position p h) ∙ e)
  value_fails given (n ∷ left) position p h fails e = fails (sym (place_settles given n left position p h) ∙ e)

  pub past_fails : (given : Given) (left : List Text) (position : ℕ) → Placed s given left position → (h : Held) → (settle_fault c false h ≡ [] → ⊥)
      → (waiting : Waiting) (words : List Text) → tail_fault title c (walk_of h waiting position true) words ≡ [] → ⊥
  past_fails given left position p h fails waiting [] = end_fails title c (walk_of h waiting position true) fails
  past_fails given left position p h fails waiting (word ∷ rest) =
      word_fails title c (walk_of h waiting position true) word rest (value_fails given left position p h fails)

  pub long_fails : (o : Option Rule) (v : Option Text) (h : Held) → (settle_fault c false h ≡ [] → ⊥) → long_fault c false o v h ≡ [] → ⊥
  long_fails None v h fails e = no_kinds UnknownArgument [] e
  long_fails (Some a) None h fails e = cond_fails (takes_values a) _ _ fails (first_fails _ _ fails) e
  long_fails (Some a) (Some v) h fails e = cond_fails (takes_values a) _ _ (first_fails _ _ fails) (no_kinds TooManyValues []) e

  pub idle_fails : (given : Given) (left : List Text) (position : ℕ) → Placed s given left position → (R : List Row) (P : Pending)
      → (settle_fault c false (held R P) ≡ [] → ⊥) → (words : List Text) → AreTexts words
      → tail_fault title c (walk_of (held R P) idle position false) words ≡ [] → ⊥
  idle_fails given left position p R P fails [] t = end_fails title c (walk_of (held R P) idle position false) fails
  idle_fails given left position p R P fails (word ∷ rest) t = elim (view word t.0) [
    | is_dashes w d ↦ later_fails title c (walk_of (held R P) idle position false) (walk_of (held R P) idle position true) word rest
        (dashes_walked title c (held R P) idle position word d) (past_fails given left position p (held R P) fails idle rest)
    | is_option name v w d l ↦ word_fails title c (walk_of (held R P) idle position false) word rest
        (option_fails title c (held R P) idle position word d name v l (long_fails (arg_by_long c name) v (held R P) fails))
    | is_strange flags first w d l sh ch ↦ word_fails title c (walk_of (held R P) idle position false) word rest
        (bundle_fails title c (held R P) idle position word d l flags sh
        (λ e. no_kinds UnknownArgument [] (sym (unknown_flag title c flags first ch speaks.no_short R P) ∙ e)))
    | is_plain w d l sh ↦ word_fails title c (walk_of (held R P) idle position false) word rest
        (λ e. value_fails given left position p (held R P) fails (sym (turn_by title c (held R P) idle position word [] (held R P, value)
        (plain_fault title c (held R P) idle position word d l sh) (plain_met title c (held R P) idle position word d l sh)) ∙ e))
  ]
