-- The walk of clap over the words, a word at a time, for a command with no subcommand.
use Rattle.std.proofs.Common.{◌≡◌, ◌∙◌, ℕ, Bool, true, false, cond, List, [], ◌∷◌, Option, Some, None, refl, sym, ap, length}
use Rattle.std.specs.List.{fold}
use Rattle.std.specs.Option.{option_map_or}
use Rattle.std.specs.Prelude.{drop, encode_utf8, slice_get}
use Rattle.std.specs.Str.{bytes_eq, chars}
use Rattle.clap.specs.Lexer.{long_of, short_of}
use Rattle.clap.specs.Kinds.{Kinds, or_else}
use Rattle.clap.specs.Faults.{bundle_fault, bundle_step_fault, check_fault, defaults_fault, flag_word_fault, flags_fault, long_fault, other_fault, settle_fault, short_fault, step_fault, turn_fault, walk_fault, word_fault}
use Rattle.clap.specs.Simple.{Shape, new_shape}
use Rattle.clap.specs.Walk.{Held, Row, Rule, Step, Waiting, Walk, after_step, arg_by_long, arg_by_short, finished, idle, long_or_other, long_word, option, plain_word, positional, settled, short_or_plain, subcommand_met, subcommand_or_other, trailing, walked, with_default, word_met}
use Rattle.clap.specs.declared.error.kind.ErrorKind.TheVariants.{UnknownArgument}
use Rattle.mr_words.specs.Grammar.{Given, Text}
use Rattle.mr_words.proofs.Looks.{two_dashes}
use Rattle.mr_words.proofs.Uses.{Pending, held, rows}

-- the command as clap builds it
abbrev pub shape_for : Text → List Rule → Shape
shape_for title c = record (new_shape title) { rules = c; disable_help_flag = true; disable_help_subcommand = true; is_built = true }

-- where the walk stands, where no subcommand was met
abbrev pub walk_of : Held → Waiting → ℕ → Bool → Walk
walk_of h waiting position is_trailing = record { held = h; waiting = waiting; position = position; is_trailing = is_trailing; stopped = None }

pub or_else-empty : (a : Kinds) → or_else a [] ≡ a
or_else-empty [] = refl
or_else-empty (k ∷ ks) = refl

pub or_else-assoc : (a b d : Kinds) → or_else (or_else a b) d ≡ or_else a (or_else b d)
or_else-assoc [] b d = refl
or_else-assoc (k ∷ ks) b d = refl

-- a first step that fails makes the whole fail
pub first_fails : (a b : Kinds) → (a ≡ [] → ⊥) → or_else a b ≡ [] → ⊥
first_fails [] b fails e = fails refl
first_fails (k ∷ ks) b fails e = fails e

pub second_fails : (a b : Kinds) → (b ≡ [] → ⊥) → or_else a b ≡ [] → ⊥
second_fails [] b fails e = fails e
second_fails (k ∷ ks) b fails e = cc

pub no_kinds : (k : _) (ks : Kinds) → k ∷ ks ≡ [] → ⊥
no_kinds k ks e = cc

module _ (title : Text) (c : List Rule) where
  -- what fails after the walk
  abbrev pub end_fault : Held → Kinds
  end_fault h = or_else (settle_fault c false h) (or_else (defaults_fault (settled c h).rows c) (check_fault (shape_for title c) (finished c h) false))

  -- what fails from this point of the walk on
  abbrev pub tail_fault : Walk → List Text → Kinds
  tail_fault w words = or_else (walk_fault (shape_for title c) [] w words) (end_fault (fold (walked c []) w words).held)

  abbrev pub turn : Walk → Text → Kinds
  turn w word = turn_fault (shape_for title c) [] w word

  tail_next : (w : Walk) (word : Text) (rest : List Text) → tail_fault w (word ∷ rest) ≡ or_else (turn w word) (tail_fault (walked c [] w word) rest)
  unfolding walk_fault
  tail_next w word rest = or_else-assoc (turn w word) _ _

  tail_none : (w : Walk) → tail_fault w [] ≡ end_fault w.held
  unfolding walk_fault
  tail_none w = refl

  -- from here on the definition's answer is clap's
  pub data Agrees (answer : Option Given) (w : Walk) (words : List Text) : Type 0 where
    refuses : answer ≡ None → (tail_fault w words ≡ [] → ⊥) → Agrees answer w words
    takes : (given : Given) → answer ≡ Some given → tail_fault w words ≡ []
        → finished c (fold (walked c []) w words).held ≡ fold with_default (rows given) c → Agrees answer w words

  pub agrees_end_refused : (answer : Option Given) (w : Walk) → answer ≡ None → (end_fault w.held ≡ [] → ⊥) → Agrees answer w []
  agrees_end_refused answer w none fails = refuses none (λ e. fails (sym (tail_none w) ∙ e))

  pub agrees_end : (answer : Option Given) (w : Walk) (given : Given) → answer ≡ Some given → end_fault w.held ≡ []
      → finished c w.held ≡ fold with_default (rows given) c → Agrees answer w []
  agrees_end answer w given some fault same = takes given some (tail_none w ∙ fault) same

  -- a word that passes leads to the walk after it
  pub agrees_next : (answer : Option Given) (w next : Walk) (word : Text) (rest : List Text) → turn w word ≡ [] → walked c [] w word ≡ next
      → Agrees answer next rest → Agrees answer w (word ∷ rest)
  agrees_next answer w next word rest passes leads (refuses none fails) = refuses none (λ e. fails (sym (tail_by w next word rest passes leads) ∙ e))
    where
      tail_by : (w next : Walk) (word : Text) (rest : List Text) → turn w word ≡ [] → walked c [] w word ≡ next
          → tail_fault w (word ∷ rest) ≡ tail_fault next rest
      tail_by w next word rest passes leads = tail_next w word rest ∙ ap (λ k. or_else k (tail_fault (walked c [] w word) rest)) passes
          ∙ ap (λ v. tail_fault v rest) leads
  agrees_next answer w next word rest passes leads (takes given some fault same) = takes given some
      (tail_next w word rest ∙ ap (λ k. or_else k (tail_fault (walked c [] w word) rest)) passes ∙ ap (λ v. tail_fault v rest) leads ∙ fault)
      (ap (λ v. finished c (fold (walked c []) v rest).held) leads ∙ same)

  -- a word that fails, or after which the walk fails
  pub word_fails : (w : Walk) (word : Text) (rest : List Text) → (turn w word ≡ [] → ⊥) → tail_fault w (word ∷ rest) ≡ [] → ⊥
  word_fails w word rest fails e = first_fails _ _ fails (sym (tail_next w word rest) ∙ e)

  pub later_fails : (w next : Walk) (word : Text) (rest : List Text) → walked c [] w word ≡ next → (tail_fault next rest ≡ [] → ⊥)
      → tail_fault w (word ∷ rest) ≡ [] → ⊥
  later_fails w next word rest leads fails e =
      second_fails (turn w word) _ (λ f. fails (ap (λ v. tail_fault v rest) (sym leads) ∙ f)) (sym (tail_next w word rest) ∙ e)

  pub end_fails : (w : Walk) → (settle_fault c false w.held ≡ [] → ⊥) → tail_fault w [] ≡ [] → ⊥
  end_fails w fails e = first_fails _ _ fails (sym (tail_none w) ∙ e)

  -- ---- what a word comes to

  none_met : (waiting : Waiting) (word : Text) → subcommand_met [] waiting word ≡ None
  none_met idle word = refl
  none_met (option n) word = refl
  none_met positional word = refl

  module _ (h : Held) (waiting : Waiting) (position : ℕ) (word : Text) where
    abbrev pub met : Held × Step
    met = word_met c [] false waiting position word h

    met_other : met ≡ subcommand_or_other c None waiting position word h
    met_other = ap (λ o. subcommand_or_other c o waiting position word h) (none_met waiting word)

    fault_other : word_fault (shape_for title c) [] false waiting word h ≡ other_fault (shape_for title c) None word h
    fault_other = ap (λ o. other_fault (shape_for title c) o word h) (none_met waiting word)

    -- the turn of a word and the walk after it, by what the word comes to
    pub turn_by : (fault : Kinds) (after : Held × Step) → word_fault (shape_for title c) [] false waiting word h ≡ fault → met ≡ after
        → turn (walk_of h waiting position false) word ≡ or_else fault (step_fault (shape_for title c) position after.0 after.1)
    turn_by fault after f m = ap (λ k. or_else k (step_fault (shape_for title c) position met.0 met.1)) f
        ∙ ap (λ (p : Held × Step). or_else fault (step_fault (shape_for title c) position p.0 p.1)) m

    pub walked_by : (after : Held × Step) → met ≡ after
        → walked c [] (walk_of h waiting position false) word ≡ after_step c word (walk_of h waiting position false) after.0 after.1
    unfolding walked
    walked_by after m = ap (λ (p : Held × Step). after_step c word (walk_of h waiting position false) p.0 p.1) m

    module _ (is : bytes_eq word two_dashes ≡ true) where
      dashes_met : met ≡ (h, trailing position)
      dashes_met = met_other ∙ ap (λ b. cond b (h, trailing position) (long_or_other c waiting word (long_of word) h)) is

      pub dashes_turn : turn (walk_of h waiting position false) word ≡ []
      dashes_turn = turn_by [] (h, trailing position)
          (fault_other ∙ ap (λ b. cond b [] (flag_word_fault c false (long_of word) word h)) is) dashes_met

      pub dashes_walked : walked c [] (walk_of h waiting position false) word ≡ walk_of h waiting position true
      dashes_walked = walked_by (h, trailing position) dashes_met

    module _ (other : bytes_eq word two_dashes ≡ false) where
      long_or : met ≡ long_or_other c waiting word (long_of word) h
      long_or = met_other ∙ ap (λ b. cond b (h, trailing position) (long_or_other c waiting word (long_of word) h)) other

      flag_or : word_fault (shape_for title c) [] false waiting word h ≡ flag_word_fault c false (long_of word) word h
      flag_or = fault_other ∙ ap (λ b. cond b [] (flag_word_fault c false (long_of word) word h)) other

      module _ (name : Text) (v : Option Text) (is : long_of word ≡ Some (name, v)) where
        pub option_met_by : met ≡ long_word c waiting word name v h
        option_met_by = long_or ∙ ap (λ o. long_or_other c waiting word o h) is

        pub option_fault_by : word_fault (shape_for title c) [] false waiting word h ≡ long_fault c false (arg_by_long c name) v h
        option_fault_by = flag_or ∙ ap (λ o. flag_word_fault c false o word h) is

        -- the option fails
        pub option_fails : (long_fault c false (arg_by_long c name) v h ≡ [] → ⊥) → turn (walk_of h waiting position false) word ≡ [] → ⊥
        option_fails fails e = first_fails _ (step_fault (shape_for title c) position met.0 met.1) fails
            (sym (turn_by _ met option_fault_by refl) ∙ e)

      module _ (no_long : long_of word ≡ None) where
        short_or : met ≡ short_or_plain c waiting word (short_of word) h
        short_or = long_or ∙ ap (λ o. long_or_other c waiting word o h) no_long

        bundle_or : word_fault (shape_for title c) [] false waiting word h ≡ option_map_or (λ flags. bundle_fault c false flags h) (short_of word) []
        bundle_or = flag_or ∙ ap (λ o. flag_word_fault c false o word h) no_long

        -- a plain word
        module _ (no_short : short_of word ≡ None) where
          pub plain_met : met ≡ plain_word c waiting word h
          plain_met = short_or ∙ ap (λ o. short_or_plain c waiting word o h) no_short

          pub plain_fault : word_fault (shape_for title c) [] false waiting word h ≡ []
          plain_fault = bundle_or ∙ ap (λ o. option_map_or (λ flags. bundle_fault c false flags h) o []) no_short

        -- a bundle of flags that fails
        pub bundle_fails : (flags : Text) → short_of word ≡ Some flags → (bundle_fault c false flags h ≡ [] → ⊥)
            → turn (walk_of h waiting position false) word ≡ [] → ⊥
        bundle_fails flags is fails e = first_fails _ (step_fault (shape_for title c) position met.0 met.1) fails
            (sym (turn_by _ met (bundle_or ∙ ap (λ o. option_map_or (λ fs. bundle_fault c false fs h) o []) is) refl) ∙ e)

  -- a flag that no rule has
  pub unknown_flag : (flags : Text) (first : ℕ) → slice_get (chars flags) 0 ≡ Some first → ((x : ℕ) → arg_by_short c x ≡ None)
      → (R : List Row) (P : Pending) → bundle_fault c false flags (held R P) ≡ UnknownArgument ∷ []
  unfolding chars flags_fault
  unknown_flag [] first is none R P = cc
  unknown_flag (y ∷ ys) first is none R P =
      ap (λ o. bundle_step_fault c false o (y ∷ ys) 0 (held R P) (flags_fault c false (length ys))) is
      ∙ ap (λ r. short_fault c false r (drop (length (encode_utf8 first)) (y ∷ ys)) (held R P)
      (flags_fault c false (length ys) (drop (length (encode_utf8 first)) (y ∷ ys)) 0)) (none first)
