-- The command of the crate `clap` that reads a syntax.
use Rattle.std.specs.Prelude.{◌≡◌, Bool, true, not, ◌&&◌, List, [], ◌∷◌, ◌++◌, map, length, Some, nat_lt}
use Rattle.clap.specs.Walk.{Rule}
use Rattle.clap.specs.Simple.{App, new_rule, new_shape}
use Rattle.clap.specs.declared.builder.action.ArgAction.TheVariants.{Set, SetTrue}
use Rattle.mr_words.specs.Grammar.{Syntax, Text, is_among}

-- a wanted place, an option with a value, and a flag, as the command is given them
abbrev pub new_place : Text → Rule
new_place name = record (new_rule name) { required = true; action = Some Set }

abbrev pub new_valued : Text → Rule
new_valued name = record (new_rule name) { long = Some name; action = Some Set }

abbrev pub new_flag : Text → Rule
new_flag name = record (new_rule name) { long = Some name; action = Some SetTrue }

-- the command of the syntax: its places, options and flags in this order, and no help flag
abbrev pub app_for : Text → Syntax → App
app_for title s = record {
  top = record (new_shape title) {
    rules = (map new_place s.places ++ map new_valued s.valued) ++ map new_flag s.flags;
    disable_help_flag = true;
  };
  subs = [];
}

-- no name stands twice
abbrev pub are_distinct : List Text → Bool
are_distinct [] = true
are_distinct (name ∷ names) = not (is_among name names) && are_distinct names

abbrev pub names_in : Syntax → List Text
names_in s = (s.places ++ s.valued) ++ s.flags

-- there are fewer than a thousand places, and each name stands once
abbrev pub is_fit : Syntax → Bool
is_fit s = nat_lt (length s.places) 1000 && are_distinct (names_in s)

-- the command is the one of the syntax, which is fit
pub record IsCommandOf (title : Text) (s : Syntax) (app : App) : Type 0 where
  pub is : app ≡ app_for title s
  pub fit : is_fit s ≡ true

-- the command with these rules besides
abbrev pub with_rules : App → List Rule → App
with_rules app rules = record app { top = record app.top { rules = app.top.rules ++ rules } }
