-- What clap builds of the command of a syntax.
use Rattle.std.proofs.Common.{◌≡◌, ◌∙◌, ◌+◌, ◌<◌, ℕ, Bool, true, false, not, List, [], ◌∷◌, ◌++◌, length, map, min, refl, sym, ap, arith, append_assoc}
use Rattle.std.specs.List.{list_all, list_any, count_by}
use Rattle.std.specs.Option.{is_some}
use Rattle.std.proofs.lemmas.Bool.{and_from, and_parts, ltb-true}
use Rattle.clap.specs.Lexer.{usize_max}
use Rattle.clap.specs.Faults.{is_free_app, is_simple_and_free}
use Rattle.clap.specs.Simple.{App, built, filled_from, has_simple_rules, is_ready, is_ready_leaf, is_simple}
use Rattle.clap.specs.Walk.{Rule, is_early_multiple}
use Rattle.mr_words.specs.Clap.{app_for, is_fit, new_flag, new_place, new_valued}
use Rattle.mr_words.specs.Grammar.{Syntax, Text}
use Rattle.mr_words.proofs.ClapWalk.{shape_for}
use Rattle.mr_words.proofs.Defaults.{Each, each_append, each_map, each_rule}
use Rattle.mr_words.proofs.Speaking.{any_none}
use Rattle.mr_words.proofs.Uses.{flag_rule, place_rule, place_rules, rules, valued_rule}

fill_places : (i : ℕ) (names : List Text) (rest : List Rule) → i + length names < 2000
    → filled_from i (map new_place names ++ rest) ≡ place_rules i names ++ filled_from (i + length names) rest
fill_places i [] rest lt = let none : i ≡ i + 0 = omega arith in ap (λ k. filled_from k rest) none
fill_places i (n ∷ ns) rest lt =
    let next : min (i + 1) usize_max ≡ i + 1 = omega arith in
    let after : (i + 1) + length ns ≡ i + length (n ∷ ns) = omega arith in
    ap (λ k. place_rule i n ∷ filled_from k (map new_place ns ++ rest)) next
    ∙ ap (λ c. place_rule i n ∷ c) (fill_places (i + 1) ns rest (omega arith) ∙ ap (λ k. place_rules (i + 1) ns ++ filled_from k rest) after)

fill_valued : (i : ℕ) (names : List Text) (rest : List Rule) → filled_from i (map new_valued names ++ rest) ≡ map valued_rule names ++ filled_from i rest
fill_valued i [] rest = refl
fill_valued i (n ∷ ns) rest = ap (λ c. valued_rule n ∷ c) (fill_valued i ns rest)

fill_flags : (i : ℕ) (names : List Text) → filled_from i (map new_flag names) ≡ map flag_rule names
fill_flags i [] = refl
fill_flags i (n ∷ ns) = ap (λ c. flag_rule n ∷ c) (fill_flags i ns)

all_each : (p : Rule → Bool) (c : List Rule) → Each (λ a. p a ≡ true) c → list_all p c ≡ true
all_each p [] h = refl
all_each p (a ∷ c) h = and_from (p a) _ h.0 (all_each p c h.1)

-- the command as it is built
abbrev pub built_for : Text → Syntax → App
built_for title s = record { top = shape_for title (rules s); subs = [] }

module _ (title : Text) (s : Syntax) (fit : is_fit s ≡ true) where
  few : length s.places < 1000
  few = ltb-true _ _ (and_parts _ _ fit).0

  filled_rules : filled_from 1 (app_for title s).top.rules ≡ rules s
  filled_rules = ap (filled_from 1) (append_assoc (map new_place s.places) (map new_valued s.valued) (map new_flag s.flags))
      ∙ fill_places 1 s.places (map new_valued s.valued ++ map new_flag s.flags) (omega (arith, few))
      ∙ ap (λ c. place_rules 1 s.places ++ c) (fill_valued (1 + length s.places) s.valued (map new_flag s.flags)
      ∙ ap (λ c. map valued_rule s.valued ++ c) (fill_flags (1 + length s.places) s.flags))
      ∙ sym (append_assoc (place_rules 1 s.places) (map valued_rule s.valued) (map flag_rule s.flags))

  pub builds : built (app_for title s) ≡ built_for title s
  builds = ap (λ c. record { top = shape_for title c; subs = [] }) filled_rules

  -- none of the settings by which clap reads words in another way
  before_simple : has_simple_rules (app_for title s).top ≡ true
  before_simple = all_each (λ a. a.is_simple) (app_for title s).top.rules
      (each_append _ (map new_place s.places ++ map new_valued s.valued) (map new_flag s.flags)
      (each_append _ (map new_place s.places) (map new_valued s.valued) (each_map _ new_place s.places (λ n e. refl)) (each_map _ new_valued s.valued (λ n e. refl)))
      (each_map _ new_flag s.flags (λ n e. refl)))

  after_simple : has_simple_rules (shape_for title (rules s)) ≡ true
  after_simple = all_each (λ a. a.is_simple) (rules s) (each_rule _ s (λ k n e. refl) (λ n e. refl) (λ n e. refl))

  in_order : (n : ℕ) → list_any (is_early_multiple n) (rules s) ≡ false
  in_order n = any_none (is_early_multiple n) (rules s) (each_rule _ s (λ k m e. refl) (λ m e. refl) (λ m e. refl))

  free : is_free_app (built_for title s) ≡ true
  free = and_from _ _ (all_each (λ a. a.is_free) (rules s) (each_rule _ s (λ k n e. refl) (λ n e. refl) (λ n e. refl))) refl

  pub simple : is_simple (app_for title s) ≡ true
  simple = and_from _ _ (and_from _ _ before_simple refl) (and_from _ _ ready leaves)
    where
      ready : is_ready (built (app_for title s)).top ≡ true
      ready = ap (λ (a : App). is_ready a.top) builds
          ∙ and_from _ _ after_simple (ap not (in_order (count_by (λ (a : Rule). is_some a.index) (rules s))))

      leaves : list_all is_ready_leaf (built (app_for title s)).subs ≡ true
      leaves = refl

  pub simple_and_free : is_simple_and_free (app_for title s) ≡ true
  simple_and_free = and_from _ _ simple (ap is_free_app builds ∙ free)
