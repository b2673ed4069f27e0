-- Rules that are added to a command one by one.
use Rattle.std.proofs.Common.{◌≡◌, ◌∙◌, ◌+◌, ◌<◌, ◌≤◌, ℕ, List, [], ◌∷◌, length, map, drop, refl, sym, ap, append-nil, append_assoc, true}
use Rattle.std.specs.Borrow.{Bor}
use Rattle.std.specs.List.{slice_index_or}
use Rattle.std.proofs.lemmas.List.{at_drop_all, at_drop_more}
use Rattle.clap.specs.Simple.{App, new_shape, with_rule}
use Rattle.clap.specs.Walk.{Rule}
use Rattle.mr_words.specs.Clap.{app_for, new_flag, new_place, new_valued, with_rules}
use Rattle.mr_words.specs.Grammar.{Text}

with_none : (app : App) → with_rules app [] ≡ app
with_none app = ap (λ rs. record app { top = record app.top { rules = rs } }) (append-nil app.top.rules)

with_first : (app : App) (r : Rule) (rs : List Rule) → with_rules (with_rule app r) rs ≡ with_rules app (r ∷ rs)
with_first app r rs = ap (λ all. record app { top = record app.top { rules = all } }) (append_assoc app.top.rules (r ∷ []) rs)

module _ (rule : Text → Rule) (names : List (Bor Text)) where
  -- the command when the names from place i on are added too
  abbrev pub when_added : App → ℕ → App
  when_added app i = with_rules app (map (λ name. rule name.now) (drop i names))

  pub one_added : (app after : App) (i : ℕ) (d : Bor Text) → i < length names → after ≡ with_rule app (rule (slice_index_or names i d).now)
      → when_added after (i + 1) ≡ when_added app i
  one_added app after i d lt is = ap (λ a. when_added a (i + 1)) is
      ∙ with_first app (rule (slice_index_or names i d).now) (map (λ n. rule n.now) (drop (i + 1) names))
      ∙ sym (at_drop_more (λ ns. with_rules app (map (λ n. rule n.now) ns)) names i d lt)

  pub all_added : (app : App) (i : ℕ) → length names ≤ i → when_added app i ≡ app
  all_added app i past = at_drop_all (λ ns. with_rules app (map (λ n. rule n.now) ns)) names i past ∙ with_none app

-- ---- the command of a syntax, from its names

-- the command before its rules are added
abbrev pub bare_app : Text → App
bare_app title = record { top = record (new_shape title) { disable_help_flag = true }; subs = [] }

map_now : (rule : Text → Rule) (names : List (Bor Text)) → map (λ name. rule name.now) names ≡ map rule (map (λ name. name.now) names)
map_now rule [] = refl
map_now rule (n ∷ ns) = ap (λ rs. rule n.now ∷ rs) (map_now rule ns)

pub command_is : (title : Text) (bare : App) (places valued flags : List (Bor Text)) → bare ≡ bare_app title
    → with_rules (with_rules (with_rules bare (map (λ name. new_place name.now) places)) (map (λ name. new_valued name.now) valued)) (map (λ name. new_flag name.now) flags)
    ≡ app_for title (record { places = map (λ name. name.now) places; valued = map (λ name. name.now) valued; flags = map (λ name. name.now) flags })
command_is title bare places valued flags is =
    (λ i. with_rules (with_rules (with_rules (is i) (map_now new_place places i)) (map_now new_valued valued i)) (map_now new_flag flags i))
