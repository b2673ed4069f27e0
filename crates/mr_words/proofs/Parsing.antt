-- A parse by the command of a syntax answers what the grammar gives.
use Rattle.std.proofs.Common.{◌≡◌, ◌≢◌, ◌∙◌, inl, inr, true, false, List, [], ◌∷◌, map, drop, Option, Some, None, Ok, refl, sym, ap, subst}
use Rattle.std.specs.List.{fold}
use Rattle.std.specs.Option.{is_some}
use Rattle.std.specs.Prelude.{string_bytes, String}
use Rattle.std.proofs.lemmas.Str.{IsUtf8-string_bytes}
use Rattle.clap.specs.Kinds.{HasKind, IsAmong}
use Rattle.clap.specs.Faults.{built_fault, entered_fault, fault_of, is_simple_and_free, level_fault}
use Rattle.clap.specs.Matches.{first_value, found_of}
use Rattle.clap.specs.Simple.{App, HasMatchesOf, entered, matches_of, names_of}
use Rattle.clap.specs.Values.{kind_of}
use Rattle.clap.specs.Walk.{Walk, finished, first_of, idle, nothing_held, rows_of, walk, walked, with_default}
use Rattle.clap.specs.declared.error.Error.{Error}
use Rattle.clap.specs.declared.error.kind.ErrorKind.TheVariants.{OutOfMemory}
use Rattle.clap.specs.declared.parser.matches.ArgMatches.{ArgMatches}
use Rattle.clap.proofs.WalkLemmas.{first_value-rows}
use Rattle.mr_words.specs.Clap.{IsCommandOf, app_for, is_fit}
use Rattle.mr_words.specs.Grammar.{Syntax, Text, given_of}
use Rattle.mr_words.specs.Reads.{ParsesBy, is_set}
use Rattle.mr_words.proofs.Agreement.{agreed}
use Rattle.mr_words.proofs.Building.{built_for, builds, simple, simple_and_free}
use Rattle.mr_words.proofs.ClapWalk.{Agrees, refuses, takes, shape_for, tail_fault, walk_of}
use Rattle.mr_words.proofs.Defaults.{set_of, value_of}
use Rattle.mr_words.proofs.Speaking.{speaks}
use Rattle.mr_words.proofs.Standing.{AreTexts}
use Rattle.mr_words.proofs.Uses.{held, rows, rules}

-- the words of a program are texts
pub are_texts : {Z : Type 0} (words : List (String Z)) → AreTexts (map string_bytes words)
are_texts [] = tt
are_texts (word ∷ words) = (IsUtf8-string_bytes word, are_texts words)

pub texts_after : (words : List Text) → AreTexts words → AreTexts (drop 1 words)
texts_after [] t = t
texts_after (word ∷ words) t = t.1

-- the start of the walk
abbrev start : Walk
start = walk_of (held [] None) idle 1 false

module _ (title : Text) (s : Syntax) (fit : is_fit s ≡ true) (words : List Text) where
  -- no subcommand is entered
  none_entered : (stop : Option (Text × List Text)) → is_some (entered (built_for title s) stop) ≡ false
  none_entered None = refl
  none_entered (Some p) = refl

  none_below : (stop : Option (Text × List Text)) → entered_fault (built_for title s) stop ≡ []
  none_below None = refl
  none_below (Some p) = refl

  fault_is : fault_of (app_for title s) words ≡ tail_fault title (rules s) start (drop 1 words)
  fault_is = ap (λ (a : App). built_fault a nothing_held (drop 1 words)) (builds title s fit)
      ∙ ap (λ b. level_fault (shape_for title (rules s)) [] nothing_held (drop 1 words) b (entered_fault (built_for title s) stop)) (none_entered stop)
      ∙ ap (λ k. level_fault (shape_for title (rules s)) [] nothing_held (drop 1 words) false k) (none_below stop)
    where
      stop : Option (Text × List Text)
      stop = (walk (rules s) [] nothing_held (drop 1 words)).stopped

  matches_are : matches_of (app_for title s) words ≡ finished (rules s) (fold (walked (rules s) []) start (drop 1 words)).held
  matches_are = ap (λ (a : App). finished a.top.rules (walk a.top.rules (names_of a) nothing_held (drop 1 words)).held) (builds title s fit)

  agrees : AreTexts words → Agrees title (rules s) (given_of s (drop 1 words)) start (drop 1 words)
  agrees t = agreed title s (rules s) (speaks s fit) (drop 1 words) (texts_after words t)

  ok_of : (m : ArgMatches) → fault_of (app_for title s) words ≡ [] → rows_of (found_of m) ≡ matches_of (app_for title s) words
      → Agrees title (rules s) (given_of s (drop 1 words)) start (drop 1 words) → ParsesBy s words (Ok m)
  ok_of m passes same (refuses none fails) = absurd (fails (sym fault_is ∙ passes))
  ok_of m passes same (takes given some fault rows_are) = (
    given,
    some,
    (
      λ name none. first_is name ∙ value_of s given name none,
      λ name. ap is_set (first_is name) ∙ set_of s given name,
    ),
  )
    where
      first_is : (name : Text) → first_value (found_of m) name ≡ first_of name (fold with_default (rows given) (rules s))
      first_is name = first_value-rows (found_of m) name ∙ ap (first_of name) (same ∙ matches_are ∙ rows_are)

  none_of : (e : Error) → HasKind (fault_of (app_for title s) words) e → kind_of e ≢ OutOfMemory
      → Agrees title (rules s) (given_of s (drop 1 words)) start (drop 1 words) → given_of s (drop 1 words) ≡ None
  none_of e (inl memory) other a = absurd (other memory)
  none_of e (inr among) other (refuses none fails) = none
  none_of e (inr among) other (takes given some fault rows_are) = absurd (subst (IsAmong (kind_of e)) (fault_is ∙ fault) among)

-- the two answers of a parse
module _ (title : Text) (s : Syntax) (app : App) (of : IsCommandOf title s app) (words : List Text) (texts : AreTexts words) where
  simple_app : is_simple_and_free app ≡ true
  simple_app = ap is_simple_and_free of.is ∙ simple_and_free title s of.fit

  pub parsed_ok : (m : ArgMatches) → (is_simple_and_free app ≡ true → fault_of app words ≡ []) → HasMatchesOf app words m → ParsesBy s words (Ok m)
  parsed_ok m passes has = ok_of title s of.fit words m (ap (λ a. fault_of a words) (sym of.is) ∙ passes simple_app)
      ((subst (λ a. HasMatchesOf a words m) of.is has (simple title s of.fit)).0) (agrees title s of.fit words texts)

  pub parsed_err : (e : Error) → (is_simple_and_free app ≡ true → HasKind (fault_of app words) e) → kind_of e ≢ OutOfMemory → given_of s (drop 1 words) ≡ None
  parsed_err e has other = none_of title s of.fit words e (subst (λ a. HasKind (fault_of a words) e) of.is (has simple_app)) other (agrees title s of.fit words texts)
