-- What the rules of a fit syntax answer.
use Rattle.std.proofs.Common.{◌≡◌, ◌∙◌, ◌+◌, ◌==◌, ◌&&◌, ◌||◌, ℕ, Bool, true, false, cond, not, List, [], ◌∷◌, ◌++◌, length, map, Some, None, refl, sym, ap, subst, arith}
use Rattle.std.specs.List.{find, fold, list_any}
use Rattle.std.specs.Option.{option_map_or}
use Rattle.std.specs.Str.{bytes_eq}
use Rattle.std.proofs.lemmas.Bool.{and_parts, both_ways, eq-eqb, ltb-true, ne_eqb, not-true, or_left, or_parts, or_right}
use Rattle.clap.specs.Faults.{default_fault, defaults_fault}
use Rattle.clap.specs.Kinds.{or_else}
use Rattle.clap.specs.Takes.{is_given}
use Rattle.clap.specs.Walk.{Row, Rule, has_row, with_default}
use Rattle.mr_words.specs.Clap.{are_distinct, is_fit, names_in}
use Rattle.mr_words.specs.Grammar.{Given, Syntax, Text, has_name, is_among}
use Rattle.mr_words.proofs.Defaults.{Each, each_map, each_rule, given_kept, is_given-rows}
use Rattle.mr_words.proofs.Standing.{Speaks, is_among-append, is_among-first, same_true, true_same}
use Rattle.mr_words.proofs.Uses.{flag_rule, place_rule, place_rules, rows, rules, valued_rule}

-- ---- names that stand once

distinct_left : (xs ys : List Text) → are_distinct (xs ++ ys) ≡ true → are_distinct xs ≡ true
distinct_left [] ys h = refl
distinct_left (x ∷ xs) ys h = let p = and_parts _ _ h in
    rw ((or_parts (is_among x xs) _ (sym (is_among-append x xs ys) ∙ not-true _ p.0)).0, distinct_left xs ys p.1) refl

distinct_right : (xs ys : List Text) → are_distinct (xs ++ ys) ≡ true → are_distinct ys ≡ true
distinct_right [] ys h = h
distinct_right (x ∷ xs) ys h = distinct_right xs ys (and_parts _ _ h).1

distinct_apart : (xs ys : List Text) (n : Text) → are_distinct (xs ++ ys) ≡ true → is_among n ys ≡ true → is_among n xs ≡ false
distinct_apart [] ys n h e = refl
distinct_apart (x ∷ xs) ys n h e = go (bytes_eq x n) refl (distinct_apart xs ys n (and_parts _ _ h).1 e)
  where
    go : (b : Bool) → bytes_eq x n ≡ b → is_among n xs ≡ false → (b || is_among n xs) ≡ false
    go true t none = absurd (both_ways _ (or_parts (is_among x xs) _ (sym (is_among-append x xs ys) ∙ not-true _ (and_parts _ _ h).0)).1
        (subst (λ m. is_among m ys ≡ true) (sym (true_same x n t)) e))
    go false t none = none

-- ---- searches

find_left : (p : Rule → Bool) (xs ys : List Rule) (a : Rule) → find p xs ≡ Some a → find p (xs ++ ys) ≡ Some a
find_left p [] ys a e = cc
find_left p (x ∷ xs) ys a e = go (p x) (find_left p xs ys a) e
  where
    go : (b : Bool) → (find p xs ≡ Some a → find p (xs ++ ys) ≡ Some a) → cond b (Some x) (find p xs) ≡ Some a → cond b (Some x) (find p (xs ++ ys)) ≡ Some a
    go true h e = e
    go false h e = h e

find_right : (p : Rule → Bool) (xs ys : List Rule) → find p xs ≡ None → find p (xs ++ ys) ≡ find p ys
find_right p [] ys e = refl
find_right p (x ∷ xs) ys e = go (p x) (find_right p xs ys) e
  where
    go : (b : Bool) → (find p xs ≡ None → find p (xs ++ ys) ≡ find p ys) → cond b (Some x) (find p xs) ≡ None → cond b (Some x) (find p (xs ++ ys)) ≡ find p ys
    go true h e = cc
    go false h e = h e

-- no rule passes the test
find_none : (p : Rule → Bool) (c : List Rule) → Each (λ a. p a ≡ false) c → find p c ≡ None
find_none p [] h = refl
find_none p (a ∷ c) h = ap (λ b. cond b (Some a) (find p c)) h.0 ∙ find_none p c h.1

pub any_none : (p : Rule → Bool) (c : List Rule) → Each (λ a. p a ≡ false) c → list_any p c ≡ false
any_none p [] h = refl
any_none p (a ∷ c) h = ap (λ b. b || list_any p c) h.0 ∙ any_none p c h.1

any_left : (p : Rule → Bool) (xs ys : List Rule) → list_any p xs ≡ true → list_any p (xs ++ ys) ≡ true
any_left p [] ys e = cc
any_left p (x ∷ xs) ys e = go (p x) (any_left p xs ys) e
  where
    go : (b : Bool) → (list_any p xs ≡ true → list_any p (xs ++ ys) ≡ true) → (b || list_any p xs) ≡ true → (b || list_any p (xs ++ ys)) ≡ true
    go true h e = refl
    go false h e = h e

-- among rules that are made of names, the one of this name
find_named : (p : Rule → Bool) (f : Text → Rule) (name : Text) → ((n : Text) → p (f n) ≡ bytes_eq n name) → (names : List Text)
    → is_among name names ≡ true → find p (map f names) ≡ Some (f name)
find_named p f name h [] e = cc
find_named p f name h (n ∷ ns) e = ap (λ b. cond b (Some (f n)) (find p (map f ns))) (h n) ∙ go (bytes_eq n name) refl (find_named p f name h ns) e
  where
    go : (b : Bool) → bytes_eq n name ≡ b → (is_among name ns ≡ true → find p (map f ns) ≡ Some (f name)) → (b || is_among name ns) ≡ true
        → cond b (Some (f n)) (find p (map f ns)) ≡ Some (f name)
    go true t k e = ap (λ m. Some (f m)) (true_same n name t)
    go false t k e = k e

find_unnamed : (p : Rule → Bool) (f : Text → Rule) (name : Text) → ((n : Text) → p (f n) ≡ bytes_eq n name) → (names : List Text)
    → is_among name names ≡ false → find p (map f names) ≡ None
find_unnamed p f name h [] e = refl
find_unnamed p f name h (n ∷ ns) e = let q = or_parts (bytes_eq n name) _ e in
    ap (λ b. cond b (Some (f n)) (find p (map f ns))) (h n ∙ q.0) ∙ find_unnamed p f name h ns q.1

-- ---- places

place_none : (p : Rule → Bool) (i : ℕ) (names : List Text) → ((k : ℕ) (n : Text) → p (place_rule k n) ≡ false) → find p (place_rules i names) ≡ None
place_none p i [] h = refl
place_none p i (n ∷ ns) h = ap (λ b. cond b (Some (place_rule i n)) (find p (place_rules (i + 1) ns))) (h i n) ∙ place_none p (i + 1) ns h

abbrev has_id : Text → Rule → Bool
has_id name a = bytes_eq a.id name

abbrev has_index : ℕ → Rule → Bool
has_index k a = option_map_or (λ j. j == k) a.index false

place_by_id : (i k : ℕ) (before : List Text) (n : Text) (left : List Text) → k ≡ i + length before → is_among n before ≡ false
    → find (has_id n) (place_rules i (before ++ n ∷ left)) ≡ Some (place_rule k n)
place_by_id i k [] n left e none = let same : i ≡ k = omega arith in
    ap (λ b. cond b (Some (place_rule i n)) (find (has_id n) (place_rules (i + 1) left))) (same_true n) ∙ ap (λ j. Some (place_rule j n)) same
place_by_id i k (b ∷ bs) n left e none = let q = or_parts (bytes_eq b n) _ none in
    ap (λ t. cond t (Some (place_rule i b)) (find (has_id n) (place_rules (i + 1) (bs ++ n ∷ left)))) q.0
    ∙ place_by_id (i + 1) k bs n left (omega arith) q.1

no_id : (i : ℕ) (names : List Text) (n : Text) → is_among n names ≡ false → find (has_id n) (place_rules i names) ≡ None
no_id i [] n e = refl
no_id i (x ∷ xs) n e = let q = or_parts (bytes_eq x n) _ e in
    ap (λ t. cond t (Some (place_rule i x)) (find (has_id n) (place_rules (i + 1) xs))) q.0 ∙ no_id (i + 1) xs n q.1

place_by_index : (i k : ℕ) (before : List Text) (n : Text) (left : List Text) → k ≡ i + length before
    → find (has_index k) (place_rules i (before ++ n ∷ left)) ≡ Some (place_rule k n)
place_by_index i k [] n left e = let same : i ≡ k = omega arith in
    ap (λ b. cond b (Some (place_rule i n)) (find (has_index k) (place_rules (i + 1) left))) (eq-eqb i k same) ∙ ap (λ j. Some (place_rule j n)) same
place_by_index i k (b ∷ bs) n left e =
    ap (λ t. cond t (Some (place_rule i b)) (find (has_index k) (place_rules (i + 1) (bs ++ n ∷ left)))) (ne_eqb i k (λ s. omega arith))
    ∙ place_by_index (i + 1) k bs n left (omega arith)

no_index : (i k : ℕ) (names : List Text) → k ≡ i + length names → find (has_index k) (place_rules i names) ≡ None
no_index i k [] e = refl
no_index i k (n ∷ ns) e = ap (λ t. cond t (Some (place_rule i n)) (find (has_index k) (place_rules (i + 1) ns))) (ne_eqb i k (λ s. omega arith))
    ∙ no_index (i + 1) k ns (omega arith)

-- ---- the end of a walk

same_branch : {X : Type 0} (b : Bool) (x : X) → cond b x x ≡ x
same_branch true x = refl
same_branch false x = refl

or_true : {X : Type 0} (b : Bool) (x y : X) → cond (b || true) x y ≡ x
or_true true x y = refl
or_true false x y = refl

pass : (c : List Rule) → Each (λ a. (R : List Row) → default_fault R a ≡ []) c → (R : List Row) → defaults_fault R c ≡ []
unfolding defaults_fault
pass [] h R = refl
pass (a ∷ c) h R = ap (λ k. or_else k (defaults_fault (with_default R a) c)) (h.0 R) ∙ pass c h.1 (with_default R a)

any_place : (p : Rule → Bool) (i : ℕ) (names : List Text) (n : Text) → ((k : ℕ) → p (place_rule k n) ≡ true) → is_among n names ≡ true
    → list_any p (place_rules i names) ≡ true
any_place p i [] n h e = cc
any_place p i (x ∷ xs) n h e = go (bytes_eq x n) refl (any_place p (i + 1) xs n h) e
  where
    go : (b : Bool) → bytes_eq x n ≡ b → (is_among n xs ≡ true → list_any p (place_rules (i + 1) xs) ≡ true) → (b || is_among n xs) ≡ true
        → (p (place_rule i x) || list_any p (place_rules (i + 1) xs)) ≡ true
    go true t k e = or_left (p (place_rule i x)) _ (subst (λ m. p (place_rule i m) ≡ true) (sym (true_same x n t)) (h i))
    go false t k e = or_right (p (place_rule i x)) _ (k e)

module _ (s : Syntax) (fit : is_fit s ≡ true) where
  abbrev places : List Rule
  places = place_rules 1 s.places

  distinct : are_distinct (names_in s) ≡ true
  distinct = (and_parts _ _ fit).1

  once : are_distinct s.places ≡ true
  once = distinct_left s.places s.valued (distinct_left (s.places ++ s.valued) s.flags distinct)

  apart_valued : (name : Text) → is_among name s.valued ≡ true → is_among name s.places ≡ false
  apart_valued name e = distinct_apart s.places s.valued name (distinct_left (s.places ++ s.valued) s.flags distinct) e

  abbrev missing : Given → Rule → Bool
  missing given a = a.required && not (is_given a.id (fold with_default (rows given) (rules s)))

  is_there : (given : Given) (n : Text) (b : Bool) → has_name n given ≡ b → not (is_given n (fold with_default (rows given) (rules s))) ≡ not b
  is_there given n b e = ap not (given_kept n (rules s) (rows given) ∙ is_given-rows n given ∙ e)

  or_no : (b : Bool) → (b || false) ≡ b
  or_no true = refl
  or_no false = refl

  pub speaks : Speaks s (rules s)
  speaks = record {
    few = ltb-true _ _ (and_parts _ _ fit).0;
    long_valued = λ name e. find_left _ (places ++ map valued_rule s.valued) (map flag_rule s.flags) (valued_rule name)
        (find_right _ places (map valued_rule s.valued) (place_none _ 1 s.places (λ k n. refl))
        ∙ find_named _ valued_rule name (λ n. or_no (bytes_eq n name)) s.valued e);
    long_flag = λ name other e. find_right _ (places ++ map valued_rule s.valued) (map flag_rule s.flags)
        (find_right _ places (map valued_rule s.valued) (place_none _ 1 s.places (λ k n. refl))
        ∙ find_unnamed _ valued_rule name (λ n. or_no (bytes_eq n name)) s.valued other)
        ∙ find_named _ flag_rule name (λ n. or_no (bytes_eq n name)) s.flags e;
    long_none = λ name other e. find_right _ (places ++ map valued_rule s.valued) (map flag_rule s.flags)
        (find_right _ places (map valued_rule s.valued) (place_none _ 1 s.places (λ k n. refl))
        ∙ find_unnamed _ valued_rule name (λ n. or_no (bytes_eq n name)) s.valued other)
        ∙ find_unnamed _ flag_rule name (λ n. or_no (bytes_eq n name)) s.flags e;
    no_short = λ x. find_none _ (rules s) (each_rule _ s (λ k n e. refl) (λ n e. refl) (λ n e. refl));
    id_valued = λ name e. find_left (has_id name) (places ++ map valued_rule s.valued) (map flag_rule s.flags) (valued_rule name)
        (find_right (has_id name) places (map valued_rule s.valued) (no_id 1 s.places name (apart_valued name e))
        ∙ find_named (has_id name) valued_rule name (λ n. refl) s.valued e);
    id_place = λ before n left whole. find_left (has_id n) (places ++ map valued_rule s.valued) (map flag_rule s.flags) (place_rule (length before + 1) n)
        (find_left (has_id n) places (map valued_rule s.valued) (place_rule (length before + 1) n)
        (ap (λ ns. find (has_id n) (place_rules 1 ns)) whole ∙ place_by_id 1 (length before + 1) before n left (omega arith)
        (distinct_apart before (n ∷ left) n (subst (λ ns. are_distinct ns ≡ true) whole once) (is_among-first n left))));
    index_place = λ before n left whole. find_left (has_index (length before + 1)) (places ++ map valued_rule s.valued) (map flag_rule s.flags)
        (place_rule (length before + 1) n)
        (find_left (has_index (length before + 1)) places (map valued_rule s.valued) (place_rule (length before + 1) n)
        (ap (λ ns. find (has_index (length before + 1)) (place_rules 1 ns)) whole ∙ place_by_index 1 (length before + 1) before n left (omega arith)));
    index_none = find_right (has_index (length s.places + 1)) (places ++ map valued_rule s.valued) (map flag_rule s.flags)
        (find_right (has_index (length s.places + 1)) places (map valued_rule s.valued) (no_index 1 (length s.places + 1) s.places (omega arith))
        ∙ find_none (has_index (length s.places + 1)) (map valued_rule s.valued) (each_map _ valued_rule s.valued (λ n e. refl)))
        ∙ find_none (has_index (length s.places + 1)) (map flag_rule s.flags) (each_map _ flag_rule s.flags (λ n e. refl));
    defaults_pass = pass (rules s) (each_rule (λ a. (R : List Row) → default_fault R a ≡ []) s
        (λ k n e R. or_true (has_row n R) [] _) (λ n e R. or_true (has_row n R) [] _) (λ n e R. same_branch (has_row n R || false) []));
    all_there = λ given h. any_none (missing given) (rules s) (each_rule (λ a. missing given a ≡ false) s
        (λ k n e. is_there given n true (h n e)) (λ n e. refl) (λ n e. refl));
    one_missing = λ given n e none. any_left (missing given) (places ++ map valued_rule s.valued) (map flag_rule s.flags)
        (any_left (missing given) places (map valued_rule s.valued) (any_place (missing given) 1 s.places n (λ k. is_there given n false none) e));
    valued_apart = apart_valued;
    flags_apart = λ name e. (or_parts (is_among name s.places) _ (sym (is_among-append name s.places s.valued)
        ∙ distinct_apart (s.places ++ s.valued) s.flags name distinct e)).0;
    place_once = λ before n left whole. not-true _ (and_parts _ _ (distinct_right before (n ∷ left) (subst (λ ns. are_distinct ns ≡ true) whole once))).0;
  }
