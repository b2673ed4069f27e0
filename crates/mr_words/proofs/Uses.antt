-- One use of an argument of the command, and what is held between two words.
use Rattle.std.proofs.Common.{◌≡◌, ◌∙◌, ◌+◌, ◌||◌, ℕ, true, false, List, [], ◌∷◌, ◌++◌, map, Option, Some, None, refl, sym, ap, append-nil, codes}
use Rattle.std.specs.Str.{bytes_eq}
use Rattle.std.proofs.lemmas.Bool.{or_parts}
use Rattle.clap.specs.Kinds.{or_else}
use Rattle.clap.specs.Faults.{repeat_fault, settle_fault, use_fault}
use Rattle.clap.specs.Simple.{filled}
use Rattle.clap.specs.Walk.{Held, Row, Rule, at_row, has_row, more_values, settled_rows, used, with_values, without}
use Rattle.clap.specs.declared.builder.value_parser.Reading.TheVariants.{AsWritten}
use Rattle.clap.specs.declared.parser.matches.ValueSource.TheVariants.{CommandLine}
use Rattle.clap.specs.declared.error.kind.ErrorKind.TheVariants.{ArgumentConflict, InvalidValue}
use Rattle.mr_words.specs.Grammar.{Given, Syntax, Text, has_name}
use Rattle.mr_words.specs.Clap.{new_place, new_valued, new_flag}

-- the rules as clap builds them, the places numbered
abbrev pub place_rule : ℕ → Text → Rule
place_rule i n = record (filled (new_place n)) { index = Some i }

abbrev pub valued_rule : Text → Rule
valued_rule n = filled (new_valued n)

abbrev pub flag_rule : Text → Rule
flag_rule n = filled (new_flag n)

abbrev pub place_rules : ℕ → List Text → List Rule
place_rules i [] = []
place_rules i (n ∷ ns) = place_rule i n ∷ place_rules (i + 1) ns

abbrev pub rules : Syntax → List Rule
rules s = (place_rules 1 s.places ++ map valued_rule s.valued) ++ map flag_rule s.flags

-- what was given, as rows of clap
abbrev pub row : Text × Text → Row
row g = record { id = g.0; values = g.1 ∷ []; count = None; source = Some CommandLine; reading = AsWritten }

abbrev pub rows : Given → List Row
rows given = map row given

abbrev pub Pending : Type 0
Pending = Option (Text × List Text)

abbrev pub held : List Row → Pending → Held
held R P = record { rows = R; pending = P; skip = 0 }

-- what is held shows just what was given, once it is settled
pub record Holds (c : List Rule) (given : Given) (R : List Row) (P : Pending) : Type 0 where
  pub sound : settle_fault c false (held R P) ≡ []
  pub shows : settled_rows c P R ≡ rows given

-- the rule is one that takes one value at a use
pub record Single (a : Rule) (n : Text) : Type 0 where
  pub id : a.id ≡ n
  pub fault : (v : Text) (R : List Row) → use_fault false a (v ∷ []) R ≡ or_else (repeat_fault false n R) []
  pub shows : (v : Text) (R : List Row) → used a (v ∷ []) R ≡ with_values n AsWritten CommandLine (v ∷ []) (without n R)
  pub none : (R : List Row) → use_fault false a [] R ≡ InvalidValue ∷ []

pub single_place : (i : ℕ) (n : Text) → Single (place_rule i n) n
single_place i n = record { id = refl; fault = λ v R. refl; shows = λ v R. refl; none = λ R. refl }

pub single_valued : (n : Text) → Single (valued_rule n) n
single_valued n = record { id = refl; fault = λ v R. refl; shows = λ v R. refl; none = λ R. refl }

-- a use of a flag
pub flag_fault : (n : Text) (R : List Row) → use_fault false (flag_rule n) [] R ≡ or_else (repeat_fault false n R) []
flag_fault n R = refl

pub flag_shows : (n : Text) (R : List Row) → used (flag_rule n) [] R ≡ with_values n AsWritten CommandLine (codes "true" ∷ []) (without n R)
flag_shows n R = refl

-- ---- rows

pub has_row-rows : (n : Text) (given : Given) → has_row n (rows given) ≡ has_name n given
has_row-rows n [] = refl
has_row-rows n (g ∷ gs) = ap (λ b. bytes_eq g.0 n || b) (has_row-rows n gs)

-- the first use, and a second
pub first_use : (n : Text) (given : Given) → has_name n given ≡ false → or_else (repeat_fault false n (rows given)) [] ≡ []
first_use n given none = rw (has_row-rows n given, none) refl

pub second_use : (n : Text) (given : Given) → has_name n given ≡ true → or_else (repeat_fault false n (rows given)) [] ≡ ArgumentConflict ∷ []
second_use n given some = rw (has_row-rows n given, some) refl

-- where the name has no row, what is missing joins at the end
pub at_row-absent : (n : Text) (change : Row → List Row) (missing : List Row) (R : List Row) → has_row n R ≡ false → at_row n change missing R ≡ R ++ missing
at_row-absent n change missing [] none = refl
at_row-absent n change missing (r ∷ rs) none = let p = or_parts _ _ none in
    let e : bytes_eq r.id n ≡ false = p.0 in
    rw e (ap (λ xs. r ∷ xs) (at_row-absent n change missing rs p.1))

map_more : (given : Given) (g : Text × Text) → rows (given ++ g ∷ []) ≡ rows given ++ row g ∷ []
map_more [] g = refl
map_more (x ∷ xs) g = ap (λ R. row x ∷ R) (map_more xs g)

-- a first use adds its row
pub rows_more : (n v : Text) (given : Given) → has_name n given ≡ false
    → with_values n AsWritten CommandLine (v ∷ []) (without n (rows given)) ≡ rows (given ++ (n, v) ∷ [])
rows_more n v given none =
    let no_row : has_row n (rows given) ≡ false = has_row-rows n given ∙ none in
    let same : without n (rows given) ≡ rows given = at_row-absent n (λ _. []) [] (rows given) no_row ∙ append-nil (rows given) in
    ap (λ R. with_values n AsWritten CommandLine (v ∷ []) R) same
    ∙ at_row-absent n (more_values CommandLine (v ∷ [])) (row (n, v) ∷ []) (rows given) no_row ∙ sym (map_more given (n, v))
