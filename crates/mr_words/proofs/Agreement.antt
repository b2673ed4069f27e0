-- The walk of clap over the words comes to what the grammar gives.
use Rattle.std.proofs.Common.{◌≡◌, ◌∙◌, ◌+◌, ◌&&◌, ℕ, Bool, true, false, cond, not, List, [], ◌∷◌, ◌++◌, length, min, nat_lt, Option, Some, None, refl, sym, ap, subst, codes, append-nil}
use Rattle.std.specs.List.{fold, list_any}
use Rattle.std.specs.Str.{IsUtf8, bytes_eq}
use Rattle.clap.specs.Lexer.{long_of, short_of, usize_max}
use Rattle.clap.specs.Kinds.{check_kinds, or_else}
use Rattle.clap.specs.Faults.{check_fault, defaults_fault, long_fault, repeat_fault, settle_fault, step_fault, word_fault}
use Rattle.clap.specs.Takes.{is_given}
use Rattle.clap.specs.Walk.{Held, Row, Rule, Waiting, Walk, after_flag, arg_by_index, arg_by_long, finished, idle, is_pending, long_met, next, option_word, plain_word, pushed, settled_rows, to_positional, value, walked, with_default, with_values, without}
use Rattle.clap.specs.Walk.{option as waits_for}
use Rattle.clap.specs.declared.builder.value_parser.Reading.TheVariants.{AsWritten}
use Rattle.clap.specs.declared.parser.matches.ValueSource.TheVariants.{CommandLine}
use Rattle.clap.specs.declared.error.kind.ErrorKind.TheVariants.{ArgumentConflict, MissingRequiredArgument, TooManyValues, UnknownArgument}
use Rattle.mr_words.specs.Grammar.{Given, Reading, Syntax, Text, Word, dashes, option, strange, plain, ◌>>=◌, give, give_option, give_place, given_at_end, given_of, has_name, is_among, read_free, read_from, read_next, read_value, word_of}
use Rattle.mr_words.proofs.ClapWalk.{Agrees, refuses, agrees_end, agrees_end_refused, agrees_next, bundle_fails, dashes_turn, dashes_walked, end_fault, first_fails, later_fails, met, no_kinds, option_fails, option_fault_by, option_met_by, plain_fault, plain_met, shape_for, tail_fault, turn, turn_by, unknown_flag, walk_of, walked_by, word_fails}
use Rattle.mr_words.proofs.Looks.{is_dashes, is_option, is_plain, is_strange, two_dashes, view}
use Rattle.mr_words.proofs.Uses.{Holds, Pending, first_use, flag_rule, held, place_rule, rows, rows_more, second_use, single_place, single_valued, valued_rule}
use Rattle.mr_words.proofs.Standing.{AreTexts, Placed, Speaks, idle_fails, if_false, is_among-after, is_among-first, next_rule, place_is_stray, place_settles, long_fails, or_false, past_fails, pends_empty, pends_holds, pends_twice, placed_next, placed_option, same_true}

module _ (title : Text) (s : Syntax) (c : List Rule) (speaks : Speaks s c) where
  -- what the grammar gives from this point of the reading on
  abbrev pub answer_from : Reading → List Text → Option Given
  answer_from r words = read_from s words r >>= given_at_end

  abbrev pub reading : Given → List Text → Option Text → Bool → Reading
  reading given left wants past = record { given = given; left = left; wants = wants; is_past = past }

  -- from here on the grammar and clap agree: where no option wants its value, and where one does
  pub record On (words : List Text) : Type 0 where
    pub free : (given : Given) (left : List Text) (past : Bool) (R : List Row) (P : Pending) (position : ℕ) → Placed s given left position → Holds c given R P
        → Agrees title c (answer_from (reading given left None past) words) (walk_of (held R P) idle position past) words
    pub wanting : (given : Given) (left : List Text) (name : Text) (R : List Row) (position : ℕ) → Placed s given left position
        → is_among name s.valued ≡ true → R ≡ rows given
        → Agrees title c (answer_from (reading given left (Some name) false) words) (walk_of (held R (Some (name, []))) (waits_for name) position false) words

  -- ---- one more word

  goes : (r onto : Reading) (w after : Walk) (word : Text) (rest : List Text) → read_next s r word ≡ Some onto → turn title c w word ≡ []
      → walked c [] w word ≡ after → Agrees title c (answer_from onto rest) after rest → Agrees title c (answer_from r (word ∷ rest)) w (word ∷ rest)
  unfolding read_from
  goes r onto w after word rest reads passes leads agrees =
      subst (λ o. Agrees title c ((o >>= read_from s rest) >>= given_at_end) w (word ∷ rest)) (sym reads)
      (agrees_next title c (answer_from onto rest) w after word rest passes leads agrees)

  stops : (r : Reading) (w : Walk) (word : Text) (rest : List Text) → read_next s r word ≡ None → (tail_fault title c w (word ∷ rest) ≡ [] → ⊥)
      → Agrees title c (answer_from r (word ∷ rest)) w (word ∷ rest)
  unfolding read_from
  stops r w word rest reads fails = refuses (ap (λ o. (o >>= read_from s rest) >>= given_at_end) reads) fails

  -- ---- the end of the words

  -- the last checks, where what is held shows what was given
  end_by : (given : Given) (R : List Row) (P : Pending) → Holds c given R P → (missing : Bool)
      → list_any (λ a. a.required && not (is_given a.id (fold with_default (rows given) c))) c ≡ missing
      → end_fault title c (held R P) ≡ check_kinds false false missing
  end_by given R P h missing is = ap (λ k. or_else k (or_else (defaults_fault (settled_rows c P R) c) (check_fault (shape_for title c) (finished c (held R P)) false))) h.sound
      ∙ ap (λ k. or_else k (check_fault (shape_for title c) (finished c (held R P)) false)) (speaks.defaults_pass (settled_rows c P R))
      ∙ ap (λ S. check_kinds false false (list_any (λ a. a.required && not (is_given a.id (fold with_default S c))) c)) h.shows
      ∙ ap (check_kinds false false) is

  free_end : (given : Given) (left : List Text) (past : Bool) (R : List Row) (P : Pending) (position : ℕ) → Placed s given left position → Holds c given R P
      → Agrees title c (answer_from (reading given left None past) []) (walk_of (held R P) idle position past) []
  unfolding read_from
  free_end given [] past R P position p h = agrees_end title c _ (walk_of (held R P) idle position past) given refl
      (end_by given R P h false (speaks.all_there given (λ n e. p.done n (subst (λ xs. is_among n xs ≡ true) (p.whole ∙ append-nil p.before) e))))
      (ap (λ S. fold with_default S c) h.shows)
  free_end given (n ∷ left) past R P position p h = agrees_end_refused title c _ (walk_of (held R P) idle position past) refl
      (λ e. no_kinds MissingRequiredArgument [] (sym (end_by given R P h true (speaks.one_missing given n
      (subst (λ xs. is_among n xs ≡ true) (sym p.whole) (is_among-after n p.before left)) (p.to_come n (is_among-first n left)))) ∙ e))

  wanting_end : (given : Given) (left : List Text) (name : Text) (R : List Row) (position : ℕ) → is_among name s.valued ≡ true
      → Agrees title c (answer_from (reading given left (Some name) false) []) (walk_of (held R (Some (name, []))) (waits_for name) position false) []
  unfolding read_from
  wanting_end given left name R position among = agrees_end_refused title c _ (walk_of (held R (Some (name, []))) (waits_for name) position false) refl
      (first_fails _ _ (pends_empty title s c speaks R (valued_rule name) name (single_valued name) (speaks.id_valued name among)))

  -- ---- a word that goes to a place

  module _ (given : Given) (past : Bool) (R : List Row) (P : Pending) (position : ℕ) (h : Holds c given R P) (word : Text) (rest : List Text) (on : On rest) where
    abbrev now : Walk
    now = walk_of (held R P) idle position past

    to_place : (left : List Text) → Placed s given left position
        → read_next s (reading given left None past) word ≡ give_place word (reading given left None past)
        → turn title c now word ≡ step_fault (shape_for title c) position (held R P) value
        → walked c [] now word ≡ to_positional c (arg_by_index c position) word now (held R P)
        → Agrees title c (answer_from (reading given left None past) (word ∷ rest)) now (word ∷ rest)
    to_place [] p reads turns leads = stops (reading given [] None past) now word rest reads (word_fails title c now word rest
        (λ e. no_kinds UnknownArgument [] (sym (turns ∙ place_is_stray title s c speaks given position p (held R P)) ∙ e)))
    to_place (n ∷ left) p reads turns leads = goes (reading given (n ∷ left) None past) (reading (given ++ (n, word) ∷ []) left None past) now after word rest
        (reads ∙ ap (λ b. cond b None (Some (reading (given ++ (n, word) ∷ []) left None past))) fresh)
        (turns ∙ place_settles title s c speaks given n left position p (held R P) ∙ h.sound)
        (leads ∙ ap (λ o. to_positional c o word now (held R P)) (next_rule title s c speaks given n left position p) ∙ moves)
        (on.free (given ++ (n, word) ∷ []) left past (settled_rows c P R) (Some (n, word ∷ [])) (min (position + 1) usize_max)
        (placed_next title s c speaks given n left position word p)
        (pends_holds title s c speaks given (settled_rows c P R) (place_rule (length p.before + 1) n) n word (single_place (length p.before + 1) n)
        (speaks.id_place p.before n left p.whole) fresh h.shows))
      where
        after : Walk
        after = walk_of (held (settled_rows c P R) (Some (n, word ∷ []))) idle (min (position + 1) usize_max) past

        fresh : has_name n given ≡ false
        fresh = p.to_come n (is_among-first n left)

        moves : to_positional c (Some (place_rule (length p.before + 1) n)) word now (held R P) ≡ after
        moves = (λ i. walk_of (pushed n word (if_false (is_pending (place_rule (length p.before + 1) n) P) (held R P) (held (settled_rows c P R) None) i))
            idle (min (position + 1) usize_max) (or_false past i))

  -- ---- an option where no value is wanted

  module _ (given : Given) (left : List Text) (R : List Row) (P : Pending) (position : ℕ) (p : Placed s given left position) (h : Holds c given R P)
      (word : Text) (rest : List Text) (on : On rest) (name : Text) (no_dashes : bytes_eq word two_dashes ≡ false) where
    abbrev here : Reading
    here = reading given left None false

    abbrev there : Walk
    there = walk_of (held R P) idle position false

    -- the text joins what was given
    abbrev more : Text → Reading
    more text = reading (given ++ (name, text) ∷ []) left None false

    -- where the option is refused by itself
    option_stops : (v : Option Text) → word_of word ≡ option name v → long_of word ≡ Some (name, v) → give_option s name v here ≡ None
        → (long_fault c false (arg_by_long c name) v (held R P) ≡ [] → ⊥)
        → Agrees title c (answer_from here (word ∷ rest)) there (word ∷ rest)
    option_stops v is long refused fails = stops here there word rest (ap (λ x. read_free s word x here) is ∙ refused)
        (word_fails title c there word rest (option_fails title c (held R P) idle position word no_dashes name v long fails))

    -- where the option is taken, by the rule a
    option_goes : (v : Option Text) (a : Rule) (onto : Reading) (k : Held) (waiting : Waiting) → word_of word ≡ option name v → long_of word ≡ Some (name, v)
        → arg_by_long c name ≡ Some a → give_option s name v here ≡ Some onto
        → long_fault c false (Some a) v (held R P) ≡ []
        → after_flag c idle word (long_met c (Some a) v (held R P)).0 (long_met c (Some a) v (held R P)).1 ≡ (k, next waiting)
        → Agrees title c (answer_from onto rest) (walk_of k waiting position false) rest
        → Agrees title c (answer_from here (word ∷ rest)) there (word ∷ rest)
    option_goes v a onto k waiting is long found given_to passes leads agrees = goes here onto there (walk_of k waiting position false) word rest
        (ap (λ x. read_free s word x here) is ∙ given_to)
        (turn_by title c (held R P) idle position word [] (k, next waiting) fault met_is)
        (walked_by title c (held R P) idle position word (k, next waiting) met_is) agrees
      where
        fault : word_fault (shape_for title c) [] false idle word (held R P) ≡ []
        fault = option_fault_by title c (held R P) idle position word no_dashes name v long ∙ ap (λ o. long_fault c false o v (held R P)) found ∙ passes

        met_is : met title c (held R P) idle position word ≡ (k, next waiting)
        met_is = option_met_by title c (held R P) idle position word no_dashes name v long
            ∙ ap (λ o. after_flag c idle word (long_met c o v (held R P)).0 (long_met c o v (held R P)).1) found ∙ leads

    -- a use that gives the text, where what was pending is settled
    use_is : settle_fault c false (held R P) ≡ [] → or_else (settle_fault c false (held R P)) (or_else (repeat_fault false name (settled_rows c P R)) [])
        ≡ or_else (repeat_fault false name (rows given)) []
    use_is sound = ap (λ k. or_else k (or_else (repeat_fault false name (settled_rows c P R)) [])) sound ∙ ap (λ S. or_else (repeat_fault false name S) []) h.shows

    abbrev shown : Text → List Row
    shown text = with_values name AsWritten CommandLine (text ∷ []) (without name (settled_rows c P R))

    shows_more : (text : Text) → has_name name given ≡ false → shown text ≡ rows (given ++ (name, text) ∷ [])
    shows_more text none = ap (λ S. with_values name AsWritten CommandLine (text ∷ []) (without name S)) h.shows ∙ rows_more name text given none

    -- `--name=text`, where the name takes a value
    valued_text : (text : Text) → is_among name s.valued ≡ true → word_of word ≡ option name (Some text) → long_of word ≡ Some (name, Some text)
        → (b : Bool) → has_name name given ≡ b → Agrees title c (answer_from here (word ∷ rest)) there (word ∷ rest)
    valued_text text among is long true twice = option_stops (Some text) is long
        (ap (λ b. cond b (give name text here) None) among ∙ ap (λ b. cond b None (Some (more text))) twice)
        (λ e. no_kinds ArgumentConflict [] (sym (ap (λ o. long_fault c false o (Some text) (held R P)) (speaks.long_valued name among)
        ∙ use_is h.sound ∙ second_use name given twice) ∙ e))
    valued_text text among is long false once = option_goes (Some text) (valued_rule name) (more text) (held (shown text) None) idle is long (speaks.long_valued name among)
        (ap (λ b. cond b (give name text here) None) among ∙ ap (λ b. cond b None (Some (more text))) once)
        (use_is h.sound ∙ first_use name given once) refl
        (on.free (given ++ (name, text) ∷ []) left false (shown text) None position
        (placed_option title s c speaks given left position name text p (speaks.valued_apart name among))
        (record { sound = refl; shows = shows_more text once }))

    -- `--name`, where the next word is its value
    valued_bare : is_among name s.valued ≡ true → word_of word ≡ option name None → long_of word ≡ Some (name, None)
        → Agrees title c (answer_from here (word ∷ rest)) there (word ∷ rest)
    valued_bare among is long = option_goes None (valued_rule name) (reading given left (Some name) false) (held (settled_rows c P R) (Some (name, []))) (waits_for name)
        is long (speaks.long_valued name among)
        (ap (λ b. cond b (Some (reading given left (Some name) false)) (cond (is_among name s.flags) (give name (codes "true") here) None)) among)
        h.sound refl
        (on.wanting given left name (settled_rows c P R) position p among h.shows)

    -- a flag
    flag_bare : is_among name s.valued ≡ false → is_among name s.flags ≡ true → word_of word ≡ option name None → long_of word ≡ Some (name, None)
        → (b : Bool) → has_name name given ≡ b → Agrees title c (answer_from here (word ∷ rest)) there (word ∷ rest)
    flag_bare other among is long true twice = option_stops None is long
        (gives_flag ∙ ap (λ b. cond b None (Some (more (codes "true")))) twice)
        (λ e. no_kinds ArgumentConflict [] (sym (ap (λ o. long_fault c false o None (held R P)) (speaks.long_flag name other among)
        ∙ use_is h.sound ∙ second_use name given twice) ∙ e))
      where
        gives_flag : give_option s name None here ≡ give name (codes "true") here
        gives_flag = ap (λ b. cond b (Some (reading given left (Some name) false)) (cond (is_among name s.flags) (give name (codes "true") here) None)) other
            ∙ ap (λ b. cond b (give name (codes "true") here) None) among
    flag_bare other among is long false once = option_goes None (flag_rule name) (more (codes "true")) (held (shown (codes "true")) None) idle is long
        (speaks.long_flag name other among)
        (ap (λ b. cond b (Some (reading given left (Some name) false)) (cond (is_among name s.flags) (give name (codes "true") here) None)) other
        ∙ ap (λ b. cond b (give name (codes "true") here) None) among ∙ ap (λ b. cond b None (Some (more (codes "true")))) once)
        (use_is h.sound ∙ first_use name given once) refl
        (on.free (given ++ (name, codes "true") ∷ []) left false (shown (codes "true")) None position
        (placed_option title s c speaks given left position name (codes "true") p (speaks.flags_apart name among))
        (record { sound = refl; shows = shows_more (codes "true") once }))

    -- a flag with a text, and an option that there is not
    other_text : (text : Text) → is_among name s.valued ≡ false → word_of word ≡ option name (Some text) → long_of word ≡ Some (name, Some text)
        → (b : Bool) → is_among name s.flags ≡ b → Agrees title c (answer_from here (word ∷ rest)) there (word ∷ rest)
    other_text text other is long true flag = option_stops (Some text) is long (ap (λ b. cond b (give name text here) None) other)
        (λ e. no_kinds TooManyValues [] (sym (ap (λ o. long_fault c false o (Some text) (held R P)) (speaks.long_flag name other flag)) ∙ e))
    other_text text other is long false unknown = option_stops (Some text) is long (ap (λ b. cond b (give name text here) None) other)
        (λ e. no_kinds UnknownArgument [] (sym (ap (λ o. long_fault c false o (Some text) (held R P)) (speaks.long_none name other unknown)) ∙ e))

    unknown_bare : is_among name s.valued ≡ false → is_among name s.flags ≡ false → word_of word ≡ option name None → long_of word ≡ Some (name, None)
        → Agrees title c (answer_from here (word ∷ rest)) there (word ∷ rest)
    unknown_bare other unknown is long = option_stops None is long
        (ap (λ b. cond b (Some (reading given left (Some name) false)) (cond (is_among name s.flags) (give name (codes "true") here) None)) other
        ∙ ap (λ b. cond b (give name (codes "true") here) None) unknown)
        (λ e. no_kinds UnknownArgument [] (sym (ap (λ o. long_fault c false o None (held R P)) (speaks.long_none name other unknown)) ∙ e))

    -- `--name=text` and `--name`
    option_free : (v : Option Text) → word_of word ≡ option name v → long_of word ≡ Some (name, v)
        → (valued flag : Bool) → is_among name s.valued ≡ valued → is_among name s.flags ≡ flag
        → Agrees title c (answer_from here (word ∷ rest)) there (word ∷ rest)
    option_free (Some text) is long true flag among flags = valued_text text among is long (has_name name given) refl
    option_free (Some text) is long false flag other flags = other_text text other is long flag flags
    option_free None is long true flag among flags = valued_bare among is long
    option_free None is long false true other among = flag_bare other among is long (has_name name given) refl
    option_free None is long false false other unknown = unknown_bare other unknown is long

  -- ---- a word where no value is wanted

  free_word : (word : Text) (rest : List Text) → IsUtf8 word → On rest
      → (given : Given) (left : List Text) (past : Bool) (R : List Row) (P : Pending) (position : ℕ) → Placed s given left position → Holds c given R P
      → Agrees title c (answer_from (reading given left None past) (word ∷ rest)) (walk_of (held R P) idle position past) (word ∷ rest)
  unfolding walked
  free_word word rest u on given left true R P position p h = to_place given true R P position h word rest on left p refl refl refl
  free_word word rest u on given left false R P position p h = elim (view word u) [
    | is_dashes w d ↦ goes (reading given left None false) (reading given left None true) (walk_of (held R P) idle position false) (walk_of (held R P) idle position true)
        word rest (ap (λ x. read_free s word x (reading given left None false)) w) (dashes_turn title c (held R P) idle position word d)
        (dashes_walked title c (held R P) idle position word d) (on.free given left true R P position p h)
    | is_option name v w d l ↦ option_free given left R P position p h word rest on name d v w l (is_among name s.valued) (is_among name s.flags) refl refl
    | is_strange flags first w d l sh ch ↦ stops (reading given left None false) (walk_of (held R P) idle position false) word rest
        (ap (λ x. read_free s word x (reading given left None false)) w)
        (word_fails title c (walk_of (held R P) idle position false) word rest (bundle_fails title c (held R P) idle position word d l flags sh
        (λ e. no_kinds UnknownArgument [] (sym (unknown_flag title c flags first ch speaks.no_short R P) ∙ e))))
    | is_plain w d l sh ↦ to_place given false R P position h word rest on left p (ap (λ x. read_free s word x (reading given left None false)) w)
        (turn_by title c (held R P) idle position word [] (held R P, value) (plain_fault title c (held R P) idle position word d l sh)
        (plain_met title c (held R P) idle position word d l sh))
        (walked_by title c (held R P) idle position word (held R P, value) (plain_met title c (held R P) idle position word d l sh))
  ]

  -- ---- a word that is to be an option's value

  module _ (given : Given) (left : List Text) (name : Text) (R : List Row) (position : ℕ) (p : Placed s given left position)
      (among : is_among name s.valued ≡ true) (same : R ≡ rows given) (word : Text) (rest : List Text) (texts : AreTexts rest) (on : On rest) where
    abbrev wants : Reading
    wants = reading given left (Some name) false

    abbrev waits : Walk
    waits = walk_of (held R (Some (name, []))) (waits_for name) position false

    empty_fails : settle_fault c false (held R (Some (name, []))) ≡ [] → ⊥
    empty_fails = pends_empty title s c speaks R (valued_rule name) name (single_valued name) (speaks.id_valued name among)

    wanting_stops : (x : Word) → word_of word ≡ x → read_value name word x wants ≡ None → (tail_fault title c waits (word ∷ rest) ≡ [] → ⊥)
        → Agrees title c (answer_from wants (word ∷ rest)) waits (word ∷ rest)
    wanting_stops x is refused fails = stops wants waits word rest (ap (λ y. read_value name word y wants) is ∙ refused) fails

    module _ (is : word_of word ≡ plain) (d : bytes_eq word two_dashes ≡ false) (l : long_of word ≡ None) (sh : short_of word ≡ None) where
      abbrev took : Walk
      took = walk_of (held R (Some (name, word ∷ []))) idle position false

      value_turn : turn title c waits word ≡ []
      value_turn = turn_by title c (held R (Some (name, []))) (waits_for name) position word [] (plain_word c (waits_for name) word (held R (Some (name, []))))
          (plain_fault title c (held R (Some (name, []))) (waits_for name) position word d l sh)
          (plain_met title c (held R (Some (name, []))) (waits_for name) position word d l sh)

      value_walked : walked c [] waits word ≡ took
      value_walked = walked_by title c (held R (Some (name, []))) (waits_for name) position word (plain_word c (waits_for name) word (held R (Some (name, []))))
          (plain_met title c (held R (Some (name, []))) (waits_for name) position word d l sh)
          ∙ ap (λ o. walk_of (option_word o name word (held R (Some (name, [])))).0 (option_word o name word (held R (Some (name, [])))).1 position false)
          (speaks.id_valued name among)
          ∙ ap (λ b. walk_of (held R (Some (name, word ∷ []))) (cond (nat_lt (cond b 1 0) 1) (waits_for name) idle) position false) (same_true name)

      value_reads : read_next s wants word ≡ give name word wants
      value_reads = ap (λ y. read_value name word y wants) is

      value_taken : (b : Bool) → has_name name given ≡ b → Agrees title c (answer_from wants (word ∷ rest)) waits (word ∷ rest)
      value_taken true twice = stops wants waits word rest
          (value_reads ∙ ap (λ b. cond b None (Some (reading (given ++ (name, word) ∷ []) left None false))) twice)
          (later_fails title c waits took word rest value_walked (idle_fails title s c speaks given left position p R (Some (name, word ∷ []))
          (pends_twice title s c speaks given R (valued_rule name) name word (single_valued name) (speaks.id_valued name among) twice same) rest texts))
      value_taken false once = goes wants (reading (given ++ (name, word) ∷ []) left None false) waits took word rest
          (value_reads ∙ ap (λ b. cond b None (Some (reading (given ++ (name, word) ∷ []) left None false))) once)
          value_turn value_walked
          (on.free (given ++ (name, word) ∷ []) left false R (Some (name, word ∷ [])) position
          (placed_option title s c speaks given left position name word p (speaks.valued_apart name among))
          (pends_holds title s c speaks given R (valued_rule name) name word (single_valued name) (speaks.id_valued name among) once same))

    wanting_word : IsUtf8 word → Agrees title c (answer_from wants (word ∷ rest)) waits (word ∷ rest)
    wanting_word u = elim (view word u) [
      | is_dashes w d ↦ wanting_stops dashes w refl (later_fails title c waits (walk_of (held R (Some (name, []))) (waits_for name) position true) word rest
          (dashes_walked title c (held R (Some (name, []))) (waits_for name) position word d)
          (past_fails title s c speaks given left position p (held R (Some (name, []))) empty_fails (waits_for name) rest))
      | is_option other v w d l ↦ wanting_stops (option other v) w refl (word_fails title c waits word rest
          (option_fails title c (held R (Some (name, []))) (waits_for name) position word d other v l
          (long_fails title s c speaks (arg_by_long c other) v (held R (Some (name, []))) empty_fails)))
      | is_strange flags first w d l sh ch ↦ wanting_stops strange w refl (word_fails title c waits word rest
          (bundle_fails title c (held R (Some (name, []))) (waits_for name) position word d l flags sh
          (λ e. no_kinds UnknownArgument [] (sym (unknown_flag title c flags first ch speaks.no_short R (Some (name, []))) ∙ e))))
      | is_plain w d l sh ↦ value_taken w d l sh (has_name name given) refl
    ]

  -- ---- all the words

  all_words : (words : List Text) → AreTexts words → On words
  all_words [] t = record { free = free_end; wanting = λ given left name R position p among same. wanting_end given left name R position among }
  all_words (word ∷ rest) t =
      let on : On rest = all_words rest t.1 in
      record {
        free = free_word word rest t.0 on;
        wanting = λ given left name R position p among same. wanting_word given left name R position p among same word rest t.1 on t.0;
      }

  pub agreed : (words : List Text) → AreTexts words → Agrees title c (given_of s words) (walk_of (held [] None) idle 1 false) words
  agreed words t = (all_words words t).free [] s.places false [] None 1
      (record { before = []; whole = refl; stands = refl; done = λ n e. cc; to_come = λ n e. refl })
      (record { sound = refl; shows = refl })
