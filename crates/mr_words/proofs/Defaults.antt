-- What the defaults change of the rows, at the end of a walk: only flags that were not given get a text, and it is no `true`.
use Rattle.std.proofs.Common.{◌≡◌, ◌∙◌, ◌+◌, ◌||◌, ℕ, Bool, true, false, cond, List, [], ◌∷◌, ◌++◌, map, Option, Some, None, refl, sym, ap, subst, codes, option_map}
use Rattle.std.proofs.lemmas.Bool.{both_ways, or_right}
use Rattle.std.specs.List.{find, fold}
use Rattle.std.specs.Option.{option_map_or}
use Rattle.std.specs.Prelude.{⊤, option_and_then, slice_get}
use Rattle.std.specs.Str.{bytes_eq}
use Rattle.clap.specs.Facts.{explicit_source}
use Rattle.clap.specs.Takes.{is_given}
use Rattle.clap.specs.Walk.{Row, Rule, default_rows, first_of, has_row, more_values, reading_by, with_default}
use Rattle.clap.specs.declared.parser.matches.ValueSource.TheVariants.{DefaultValue}
use Rattle.mr_words.specs.Grammar.{Given, Syntax, Text, has_name, is_among, text_in}
use Rattle.mr_words.specs.Reads.{is_set}
use Rattle.mr_words.proofs.Uses.{at_row-absent, flag_rule, place_rule, place_rules, row, rows, rules, valued_rule}
use Rattle.mr_words.proofs.Standing.{is_among-first, true_same}

-- ---- facts of each rule

abbrev pub Each : (Rule → Type 0) → List Rule → Type 0
Each P [] = ⊤
Each P (a ∷ c) = P a × Each P c

pub each_append : (P : Rule → Type 0) (xs ys : List Rule) → Each P xs → Each P ys → Each P (xs ++ ys)
each_append P [] ys h k = k
each_append P (x ∷ xs) ys h k = (h.0, each_append P xs ys h.1 k)

pub each_map : (P : Rule → Type 0) (f : Text → Rule) (names : List Text) → ((n : Text) → is_among n names ≡ true → P (f n)) → Each P (map f names)
each_map P f [] h = tt
each_map P f (n ∷ ns) h = (h n (is_among-first n ns), each_map P f ns (λ m e. h m (or_right (bytes_eq n m) _ e)))

pub each_place : (P : Rule → Type 0) (i : ℕ) (names : List Text) → ((k : ℕ) (n : Text) → is_among n names ≡ true → P (place_rule k n))
    → Each P (place_rules i names)
each_place P i [] h = tt
each_place P i (n ∷ ns) h = (h i n (is_among-first n ns), each_place P (i + 1) ns (λ k m e. h k m (or_right (bytes_eq n m) _ e)))

pub each_rule : (P : Rule → Type 0) (s : Syntax) → ((k : ℕ) (n : Text) → is_among n s.places ≡ true → P (place_rule k n))
    → ((n : Text) → is_among n s.valued ≡ true → P (valued_rule n)) → ((n : Text) → is_among n s.flags ≡ true → P (flag_rule n)) → Each P (rules s)
each_rule P s places valued flags = each_append P (place_rules 1 s.places ++ map valued_rule s.valued) (map flag_rule s.flags)
    (each_append P (place_rules 1 s.places) (map valued_rule s.valued) (each_place P 1 s.places places) (each_map P valued_rule s.valued valued))
    (each_map P flag_rule s.flags flags)

-- ---- what a default adds

-- the row of a default
abbrev pub default_row : Rule → Text → List Text → Row
default_row a v vs = record { id = a.id; values = v ∷ vs; count = None; source = Some DefaultValue; reading = reading_by a }

abbrev row_in : Text → List Row → Option Row
row_in n R = find (λ r. bytes_eq r.id n) R

module _ {X : Type 0} (F : Option Row → X) (n : Text) where
  -- what F reads of the name's row stays, where it reads the same of the default as of no row
  abbrev pub Unread : Rule → Type 0
  Unread a = (v : Text) (vs : List Text) → a.defaults ≡ v ∷ vs → bytes_eq a.id n ≡ true → F (Some (default_row a v vs)) ≡ F None

  added : (R : List Row) (d : Row) → (bytes_eq d.id n ≡ true → F (Some d) ≡ F None) → F (row_in n (R ++ d ∷ [])) ≡ F (row_in n R)
  added [] d h = go (bytes_eq d.id n) h
    where
      go : (b : Bool) → (b ≡ true → F (Some d) ≡ F None) → F (cond b (Some d) None) ≡ F None
      go true h = h refl
      go false h = refl
  added (r ∷ R) d h = go (bytes_eq r.id n) (added R d h)
    where
      go : (b : Bool) → F (row_in n (R ++ d ∷ [])) ≡ F (row_in n R) → F (cond b (Some r) (row_in n (R ++ d ∷ []))) ≡ F (cond b (Some r) (row_in n R))
      go true e = refl
      go false e = e

  one_default : (R : List Row) (a : Rule) → Unread a → F (row_in n (with_default R a)) ≡ F (row_in n R)
  one_default R a h = by_row (has_row a.id R) refl
    where
      by_values : (vs : List Text) → a.defaults ≡ vs → has_row a.id R ≡ false → F (row_in n (default_rows a.id (reading_by a) vs R)) ≡ F (row_in n R)
      by_values [] e none = refl
      by_values (v ∷ vs) e none = ap (λ S. F (row_in n S)) (at_row-absent a.id (more_values DefaultValue (v ∷ vs)) (default_row a v vs ∷ []) R none)
          ∙ added R (default_row a v vs) (h v vs e)

      by_row : (b : Bool) → has_row a.id R ≡ b → F (row_in n (cond b R (default_rows a.id (reading_by a) a.defaults R))) ≡ F (row_in n R)
      by_row true e = refl
      by_row false e = by_values a.defaults refl e

  pub all_defaults : (c : List Rule) (R : List Row) → Each Unread c → F (row_in n (fold with_default R c)) ≡ F (row_in n R)
  all_defaults [] R h = refl
  all_defaults (a ∷ c) R h = all_defaults c (with_default R a) h.1 ∙ one_default R a h.0

-- ---- what is read

-- the name was given by the words
pub given_kept : (n : Text) (c : List Rule) (R : List Row) → is_given n (fold with_default R c) ≡ is_given n R
given_kept n c R = all_defaults (λ o. option_map_or (λ r. explicit_source r.source) o false) n c R (each c)
  where
    each : (c : List Rule) → Each (Unread (λ o. option_map_or (λ r. explicit_source r.source) o false) n) c
    each [] = tt
    each (a ∷ c) = (λ v vs e t. refl, each c)

pub is_given-rows : (n : Text) (given : Given) → is_given n (rows given) ≡ has_name n given
is_given-rows n [] = refl
is_given-rows n (g ∷ gs) = go (bytes_eq g.0 n) (is_given-rows n gs)
  where
    go : (b : Bool) → is_given n (rows gs) ≡ has_name n gs
        → option_map_or (λ r. explicit_source r.source) (cond b (Some (row g)) (row_in n (rows gs))) false ≡ (b || has_name n gs)
    go true e = refl
    go false e = e

abbrev first_in : Option Row → Option Text
first_in = option_and_then (λ r. slice_get r.values 0)

first_of-rows : (n : Text) (given : Given) → first_of n (rows given) ≡ text_in given n
first_of-rows n [] = refl
first_of-rows n (g ∷ gs) = go (bytes_eq g.0 n) (first_of-rows n gs)
  where
    go : (b : Bool) → first_of n (rows gs) ≡ text_in gs n
        → first_in (cond b (Some (row g)) (row_in n (rows gs))) ≡ option_map (λ (x : Text × Text). x.1) (cond b (Some g) (find (λ x. bytes_eq x.0 n) gs))
    go true e = refl
    go false e = e

-- the text of a name that is no flag
pub value_of : (s : Syntax) (given : Given) (n : Text) → is_among n s.flags ≡ false → first_of n (fold with_default (rows given) (rules s)) ≡ text_in given n
value_of s given n none = all_defaults first_in n (rules s) (rows given) (each_rule (Unread first_in n) s (λ k m e v vs d t. cc) (λ m e v vs d t. cc)
    (λ m e v vs d t. absurd (both_ways _ none (subst (λ x. is_among x s.flags ≡ true) (true_same m n t) e))))
    ∙ first_of-rows n given

-- the flag that a name is
pub set_of : (s : Syntax) (given : Given) (n : Text) → is_set (first_of n (fold with_default (rows given) (rules s))) ≡ is_set (text_in given n)
set_of s given n = all_defaults (λ o. is_set (first_in o)) n (rules s) (rows given)
    (each_rule (Unread (λ o. is_set (first_in o)) n) s (λ k m e v vs d t. cc) (λ m e v vs d t. cc) (λ m e v vs d t. of_false v vs d))
    ∙ ap is_set (first_of-rows n given)
  where
    of_false : (v : Text) (vs : List Text) → codes "false" ∷ [] ≡ v ∷ vs → is_set (Some v) ≡ false
    of_false v vs e = let same : codes "false" ≡ v = cc in ap (λ t. is_set (Some t)) (sym same)
