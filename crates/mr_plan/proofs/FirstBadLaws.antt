-- The line at which a plan's text is refused is its first bad line.
use Rattle.std.proofs.Common.{◌≡◌, ℕ, suc, ◌+◌, ◌-◌, ◌^◌, ◌<◌, ◌≤◌, ◌==◌, Bool, true, false, cond, List, [], ◌∷◌, length, take, Option, Some, None, Ok, Err, codes, refl, sym, ap, ap₂, subst, ◌∙◌, arith}
use Rattle.std.specs.Prelude.{Result, IfErr}
use Rattle.std.specs.Option.{ok_or}
use Rattle.std.specs.Str.{bytes_eq}
use Rattle.std.proofs.lemmas.Bool.{eqb-true, eqb-false, both_ways}
use Rattle.mr_model.specs.Plans.{Recipe}
use Rattle.mr_text.specs.Lines.{pieces, BeginsText, IsFirstBadLine}
use Rattle.mr_text.proofs.LineLaws.{pieces-some}
use Rattle.mr_plan.specs.declared.errors.PlanLine.{PlanLine}
use Rattle.mr_plan.specs.declared.kinds.Kind.{Kind}
use Rattle.mr_plan.specs.declared.kinds.Kind.TheVariants.{Least}
use Rattle.mr_plan.specs.Plans.{PlanParts, IsNext, AreUpward, IsPlan}
use Rattle.mr_plan.specs.PlanText.{head_text, set_text, recipe_text, plan_text, IsPlanText}
use Rattle.mr_plan.specs.Readings.{recipe_of, kind_of, set_of, ◌>>=◌, bad_line, next_line, is_over, read_recipes, read_plan}
use Rattle.mr_plan.proofs.ReadLaws.{next-is, from_recipes, from_set, from_second, from_head}
use Rattle.mr_text.proofs.NumberLaws.{bytes_eq_true}
use Rattle.mr_plan.proofs.LineLaws.{same_bytes, set_of-read, set_of-printed, recipe_of-read, recipe_of-printed, kind_of-read, kind_of-printed}
use Rattle.mr_plan.proofs.PlanReadLaws.{last_lines, plan-lines, not_end, some_of}

-- ---- lists

first_same : {X : Type 0} {x y : X} {xs ys : List X} → x ∷ xs ≡ y ∷ ys → x ≡ y
first_same e = cc

rest_same : {X : Type 0} {x y : X} {xs ys : List X} → x ∷ xs ≡ y ∷ ys → xs ≡ ys
rest_same e = cc

some_behind : (left : List (List ℕ)) → (length left == 0) ≡ false → 0 < length left
some_behind left more = omega (arith, eqb-false _ _ more)

-- an answer of a step and what follows it is refused by one of them
data Refused {A B : Type 0} (r : Result A PlanLine) (next : A → Result B PlanLine) (e : PlanLine) : Type 0 where
  at_once : r ≡ Err e → Refused r next e
  later : (a : A) → r ≡ Ok a → next a ≡ Err e → Refused r next e

refused : {A B : Type 0} (r : Result A PlanLine) (next : A → Result B PlanLine) (e : PlanLine) → (r >>= next) ≡ Err e → Refused r next e
refused (Ok a) next e h = later a refl h
refused (Err f) next e h = at_once (let same : f ≡ e = cc in ap Err same)

-- ---- the lines of the recipes

-- the first k of these lines are ended, and are the first k lines of some recipes and the end
record BeginRecipes (least : ℕ) (lines : List (List ℕ)) (k : ℕ) : Type 0 where
  recipes : List Recipe
  upward : AreUpward least recipes
  ended : k < length lines
  whole : k < length (last_lines recipes)
  same : take k lines ≡ take k (last_lines recipes)

-- line k of these, from 0, is the first that is bad
record IsBadRecipe (least : ℕ) (lines : List (List ℕ)) (k : ℕ) : Type 0 where
  before : BeginRecipes least lines k
  bad : ¬ BeginRecipes least lines (suc k)

none_yet : (least : ℕ) (lines : List (List ℕ)) → 0 < length lines → BeginRecipes least lines 0
none_yet least lines some = record { recipes = []; upward = tt; ended = some; whole = omega arith; same = refl }

-- a first line that is neither the end nor a recipe
no_line : (least k : ℕ) (first : List ℕ) (left : List (List ℕ)) → bytes_eq first (codes "end") ≡ false → recipe_of least first ≡ None
    → ¬ BeginRecipes least (first ∷ left) (suc k)
no_line least k first left not none b = go b.recipes b.upward b.same
  where
    go : (rs : List Recipe) → AreUpward least rs → take (suc k) (first ∷ left) ≡ take (suc k) (last_lines rs) → ⊥
    go [] up e = let is : first ≡ codes "end" = first_same e in
        both_ways _ not (ap (λ l. bytes_eq l (codes "end")) is ∙ same_bytes (codes "end"))
    go (r ∷ rs) up e = let is : first ≡ recipe_text r = first_same e in
        let some : None ≡ Some r = sym none ∙ ap (recipe_of least) is ∙ recipe_of-printed least r up.0 in cc

-- more behind the end
no_more : (least : ℕ) (first : List ℕ) (left : List (List ℕ)) → bytes_eq first (codes "end") ≡ true → ¬ BeginRecipes least (first ∷ left) 2
no_more least first left is b = go b.recipes b.upward b.whole b.same
  where
    go : (rs : List Recipe) → AreUpward least rs → 2 < length (last_lines rs) → take 2 (first ∷ left) ≡ take 2 (last_lines rs) → ⊥
    go [] up whole e = omega (arith, whole)
    go (r ∷ rs) up whole e = let same : first ≡ recipe_text r = first_same e in
        both_ways _ (not_end least r up.0) (ap (λ l. bytes_eq l (codes "end")) (sym same) ∙ is)

-- a recipe, and then the lines behind it
recipe_before : (least k : ℕ) (r : Recipe) (first : List ℕ) (left : List (List ℕ)) → IsNext least r → first ≡ recipe_text r
    → BeginRecipes (r.symbol + 1) left k → BeginRecipes least (first ∷ left) (suc k)
recipe_before least k r first left next is b = record {
  recipes = r ∷ b.recipes;
  upward = (next, b.upward);
  ended = omega (arith, b.ended);
  whole = omega (arith, b.whole);
  same = ap₂ (λ l ls. l ∷ ls) is b.same;
}

recipe_bad : (least k : ℕ) (r : Recipe) (first : List ℕ) (left : List (List ℕ)) → bytes_eq first (codes "end") ≡ false → recipe_of least first ≡ Some r
    → ¬ BeginRecipes (r.symbol + 1) left k → ¬ BeginRecipes least (first ∷ left) (suc k)
recipe_bad least k r first left not is bad b = go b.recipes b.upward b.whole b.same
  where
    go : (rs : List Recipe) → AreUpward least rs → suc k < length (last_lines rs) → take (suc k) (first ∷ left) ≡ take (suc k) (last_lines rs) → ⊥
    go [] up whole e = let end : first ≡ codes "end" = first_same e in
        both_ways _ not (ap (λ l. bytes_eq l (codes "end")) end ∙ same_bytes (codes "end"))
    go (q ∷ rs) up whole e =
        let spelled : first ≡ recipe_text q = first_same e in
        let some : Some r ≡ Some q = sym is ∙ ap (recipe_of least) spelled ∙ recipe_of-printed least q up.0 in
        let same : r ≡ q = cc in
        bad (record {
          recipes = rs;
          upward = subst (λ (x : Recipe). AreUpward (x.symbol + 1) rs) (sym same) up.1;
          ended = omega (arith, b.ended);
          whole = omega (arith, whole);
          same = rest_same e;
        })

-- the line of this number is the first that is bad
record IsBadFrom (line least : ℕ) (lines : List (List ℕ)) (e : PlanLine) : Type 0 where
  place : ℕ
  number : e.line ≡ line + place
  first : IsBadRecipe least lines place

bad_here : (line least : ℕ) (lines : List (List ℕ)) (e : PlanLine) → bad_line line ≡ e → 0 < length lines → ¬ BeginRecipes least lines 1 → IsBadFrom line least lines e
bad_here line least lines e is some bad = record {
  place = 0;
  number = omega (arith, ap (λ (l : PlanLine). l.line) is);
  first = record { before = none_yet least lines some; bad = bad };
}

err_same : {A : Type 0} {e f : PlanLine} → ◌≡◌ {A = Result A PlanLine} (Err e) (Err f) → e ≡ f
err_same h = cc

module _ (line least : ℕ) (first : List ℕ) (left : List (List ℕ)) (e : PlanLine) where
  abbrev rest_of : Recipe → Result (List Recipe) PlanLine
  rest_of r = read_recipes (line + 1) (r.symbol + 1) left >>= λ qs. Ok (r ∷ qs)

  bad_end : (over : Bool) → bytes_eq first (codes "end") ≡ true → 0 < length left
      → cond {A = Result (List Recipe) PlanLine} over (Ok []) (Err (bad_line (line + 1))) ≡ Err e → IsBadFrom line least (first ∷ left) e
  bad_end true is some h = cc
  bad_end false is some h = record {
    place = 1;
    number = ap (λ (l : PlanLine). l.line) (sym (err_same h));
    first = record {
      before = record { recipes = []; upward = tt; ended = omega (arith, some); whole = omega arith; same = ap (λ l. l ∷ []) (bytes_eq_true first (codes "end") is) };
      bad = no_more least first left is;
    };
  }

  bad_rest : (r : Recipe) (answer : Result (List Recipe) PlanLine) → bytes_eq first (codes "end") ≡ false → recipe_of least first ≡ Some r
      → ((f : PlanLine) → answer ≡ Err f → IsBadFrom (line + 1) (r.symbol + 1) left f) → (answer >>= λ qs. Ok (r ∷ qs)) ≡ Err e → IsBadFrom line least (first ∷ left) e
  bad_rest r (Ok qs) not is ih h = cc
  bad_rest r (Err f) not is ih h =
      let spelled = recipe_of-read least first r is in
      let rest = ih f refl in
      record {
        place = suc rest.place;
        number = omega (arith, rest.number, ap (λ (l : PlanLine). l.line) (err_same h));
        first = record {
          before = recipe_before least rest.place r first left spelled.next spelled.spelled rest.first.before;
          bad = recipe_bad least (suc rest.place) r first left not is rest.first.bad;
        };
      }

  bad_recipe : (o : Option Recipe) → recipe_of least first ≡ o → bytes_eq first (codes "end") ≡ false
      → ((r : Recipe) (f : PlanLine) → read_recipes (line + 1) (r.symbol + 1) left ≡ Err f → IsBadFrom (line + 1) (r.symbol + 1) left f)
      → (ok_or o (bad_line line) >>= rest_of) ≡ Err e → IsBadFrom line least (first ∷ left) e
  bad_recipe None none not ih h = bad_here line least (first ∷ left) e (err_same h) (omega arith) (no_line least 0 first left not none)
  bad_recipe (Some r) is not ih h = bad_rest r (read_recipes (line + 1) (r.symbol + 1) left) not is (ih r) h

  bad_line_of : (end : Bool) → bytes_eq first (codes "end") ≡ end → 0 < length left
      → ((r : Recipe) (f : PlanLine) → read_recipes (line + 1) (r.symbol + 1) left ≡ Err f → IsBadFrom (line + 1) (r.symbol + 1) left f)
      → cond end (cond (is_over left) (Ok []) (Err (bad_line (line + 1)))) (ok_or (recipe_of least first) (bad_line line) >>= rest_of) ≡ Err e
      → IsBadFrom line least (first ∷ left) e
  bad_line_of true is some ih h = bad_end (is_over left) is some h
  bad_line_of false is some ih h = bad_recipe (recipe_of least first) refl is ih h

  bad_ended : (last : Bool) → (length left == 0) ≡ last
      → (0 < length left → (r : Recipe) (f : PlanLine) → read_recipes (line + 1) (r.symbol + 1) left ≡ Err f → IsBadFrom (line + 1) (r.symbol + 1) left f)
      → cond last (Err (bad_line line)) (cond (bytes_eq first (codes "end")) (cond (is_over left) (Ok []) (Err (bad_line (line + 1))))
      (ok_or (recipe_of least first) (bad_line line) >>= rest_of)) ≡ Err e → IsBadFrom line least (first ∷ left) e
  bad_ended true is ih h = bad_here line least (first ∷ left) e (err_same h) (omega arith) (λ b. omega (arith, b.ended, eqb-true _ _ is))
  bad_ended false is ih h =
      let some : 0 < length left = some_behind left is in
      bad_line_of (bytes_eq first (codes "end")) refl some (ih some) h

recipes-bad : (line least : ℕ) (lines : List (List ℕ)) (e : PlanLine) → 0 < length lines → read_recipes line least lines ≡ Err e → IsBadFrom line least lines e
unfolding read_recipes
recipes-bad line least [] e some h = absurd (omega (arith, some))
recipes-bad line least (first ∷ left) e some h =
    bad_ended line least first left e (length left == 0) refl (λ more r f q. recipes-bad (line + 1) (r.symbol + 1) left f more q) h

-- ---- the lines of the whole text

abbrev plan_lines : PlanParts → List (List ℕ)
plan_lines p = head_text p.kind ∷ set_text p.set ∷ last_lines p.recipes

-- the first n of these lines are ended, and are the first n lines of some plan
record BeginPlan (lines : List (List ℕ)) (n : ℕ) : Type 0 where
  plan : PlanParts
  is_plan : IsPlan plan
  ended : n < length lines
  whole : n < length (plan_lines plan)
  same : take n lines ≡ take n (plan_lines plan)

-- line k of these, from 0, is the first that is bad, and has this number
record IsBadLine (lines : List (List ℕ)) (e : PlanLine) : Type 0 where
  place : ℕ
  number : e.line ≡ suc place
  before : BeginPlan lines place
  bad : ¬ BeginPlan lines (suc place)

abbrev nothing_read : Kind → ℕ → PlanParts
nothing_read kind set = record { kind = kind; set = set; recipes = [] }

begin_none : (lines : List (List ℕ)) → 0 < length lines → BeginPlan lines 0
begin_none lines some = record { plan = nothing_read Least 0; is_plan = record { set = omega arith; recipes = tt }; ended = some; whole = omega arith; same = refl }

begin_head : (kind : Kind) (first : List ℕ) (left : List (List ℕ)) → first ≡ head_text kind → 0 < length left → BeginPlan (first ∷ left) 1
begin_head kind first left is some = record {
  plan = nothing_read kind 0;
  is_plan = record { set = omega arith; recipes = tt };
  ended = omega (arith, some);
  whole = omega arith;
  same = ap (λ l. l ∷ []) is;
}

begin_recipes : (kind : Kind) (set k : ℕ) (first second : List ℕ) (left : List (List ℕ)) → first ≡ head_text kind → second ≡ set_text set → set < 2 ^ 128
    → BeginRecipes 0 left k → BeginPlan (first ∷ second ∷ left) (suc (suc k))
begin_recipes kind set k first second left is_head is_set low b = record {
  plan = record { kind = kind; set = set; recipes = b.recipes };
  is_plan = record { set = low; recipes = b.upward };
  ended = omega (arith, b.ended);
  whole = omega (arith, b.whole);
  same = ap₂ (λ l ls. l ∷ ls) is_head (ap₂ (λ l ls. l ∷ ls) is_set b.same);
}

no_head_line : (first : List ℕ) (left : List (List ℕ)) → kind_of first ≡ None → ¬ BeginPlan (first ∷ left) 1
no_head_line first left none b =
    let is : first ≡ head_text b.plan.kind = first_same b.same in
    let some : None ≡ Some b.plan.kind = sym none ∙ ap kind_of is ∙ kind_of-printed b.plan.kind in
    cc

no_set_line : (first second : List ℕ) (left : List (List ℕ)) → set_of second ≡ None → ¬ BeginPlan (first ∷ second ∷ left) 2
no_set_line first second left none b =
    let is : second ≡ set_text b.plan.set = first_same (rest_same b.same) in
    let some : None ≡ Some b.plan.set = sym none ∙ ap set_of is ∙ set_of-printed b.plan.set b.is_plan.set in
    cc

no_recipe_line : (k : ℕ) (first second : List ℕ) (left : List (List ℕ)) → ¬ BeginRecipes 0 left (suc k) → ¬ BeginPlan (first ∷ second ∷ left) (suc (suc (suc k)))
no_recipe_line k first second left bad b = bad (record {
  recipes = b.plan.recipes;
  upward = b.is_plan.recipes;
  ended = omega (arith, b.ended);
  whole = omega (arith, b.whole);
  same = rest_same (rest_same b.same);
})

-- what is left where a line has no line feed
next-short : (line : ℕ) (lines : List (List ℕ)) (e : PlanLine) → next_line line lines ≡ Err e → (bad_line line ≡ e) × (length lines ≤ 1)
unfolding next_line
next-short line [] e h = (err_same h, omega arith)
next-short line (first ∷ left) e h = go (length left == 0) refl h
  where
    go : (last : Bool) → (length left == 0) ≡ last → cond {A = Result (List ℕ × List (List ℕ)) PlanLine} last (Err (bad_line line)) (Ok (first, left)) ≡ Err e
        → (bad_line line ≡ e) × (length (first ∷ left) ≤ 1)
    go true is h = (err_same h, omega (arith, eqb-true _ _ is))
    go false is h = cc

none_of : {X : Type 0} (o : Option X) (f e : PlanLine) → ok_or o f ≡ Err e → (o ≡ None) × (f ≡ e)
none_of None f e h = (refl, err_same h)
none_of (Some x) f e h = cc

line_number : (n : ℕ) (e : PlanLine) → bad_line n ≡ e → e.line ≡ n
line_number n e is = ap (λ (l : PlanLine). l.line) (sym is)

abbrev plan_with : Kind → ℕ → List Recipe → Result PlanParts PlanLine
plan_with kind set recipes = Ok (record { kind = kind; set = set; recipes = recipes })

module _ (e : PlanLine) where
  bad_recipes : (kind : Kind) (set : ℕ) (first second : List ℕ) (left : List (List ℕ)) → first ≡ head_text kind → second ≡ set_text set → set < 2 ^ 128
      → 0 < length left → read_recipes 3 0 left ≡ Err e → IsBadLine (first ∷ second ∷ left) e
  bad_recipes kind set first second left is_head is_set low some h =
      let found = recipes-bad 3 0 left e some h in
      record {
        place = suc (suc found.place);
        number = omega (arith, found.number);
        before = begin_recipes kind set found.place first second left is_head is_set low found.first.before;
        bad = no_recipe_line found.place first second left found.first.bad;
      }

  bad_set : (kind : Kind) (first second : List ℕ) (left : List (List ℕ)) → first ≡ head_text kind → 0 < length left
      → Refused (ok_or (set_of second) (bad_line 2)) (λ set. from_recipes kind set left) e → IsBadLine (first ∷ second ∷ left) e
  bad_set kind first second left is_head some (at_once h) =
      let none = none_of (set_of second) (bad_line 2) e h in
      record { place = 1; number = line_number 2 e none.1; before = begin_head kind first (second ∷ left) is_head (omega arith); bad = no_set_line first second left none.0 }
  bad_set kind first second left is_head some (later set is h) =
      let line = set_of-read second set (some_of (set_of second) (bad_line 2) set is) in
      go (refused (read_recipes 3 0 left) (plan_with kind set) e h)
    where
      go : Refused (read_recipes 3 0 left) (plan_with kind set) e → IsBadLine (first ∷ second ∷ left) e
      go (at_once refusal) =
          let line = set_of-read second set (some_of (set_of second) (bad_line 2) set is) in
          bad_recipes kind set first second left is_head line.spelled line.low some refusal
      go (later recipes read refusal) = cc

  bad_second : (kind : Kind) (first : List ℕ) (left : List (List ℕ)) → first ≡ head_text kind → 0 < length left
      → Refused (next_line 2 left) (from_set kind) e → IsBadLine (first ∷ left) e
  bad_second kind first left is_head some (at_once h) =
      let short = next-short 2 left e h in
      record { place = 1; number = line_number 2 e short.0; before = begin_head kind first left is_head some; bad = λ b. omega (arith, b.ended, short.1) }
  bad_second kind first left is_head some (later second is h) =
      let next = next-is 2 left second.0 second.1 is in
      subst (λ ls. IsBadLine (first ∷ ls) e) (sym next.same)
      (bad_set kind first second.0 second.1 is_head (some_behind second.1 next.more) (refused (ok_or (set_of second.0) (bad_line 2)) (λ set. from_recipes kind set second.1) e h))

  bad_kind : (first : List ℕ) (left : List (List ℕ)) → 0 < length left
      → Refused (ok_or (kind_of first) (bad_line 1)) (from_second left) e → IsBadLine (first ∷ left) e
  bad_kind first left some (at_once h) =
      let none = none_of (kind_of first) (bad_line 1) e h in
      record { place = 0; number = line_number 1 e none.1; before = begin_none (first ∷ left) (omega arith); bad = no_head_line first left none.0 }
  bad_kind first left some (later kind is h) =
      bad_second kind first left (kind_of-read first kind (some_of (kind_of first) (bad_line 1) kind is)) some (refused (next_line 2 left) (from_set kind) e h)

  bad_first : (lines : List (List ℕ)) → 0 < length lines → Refused (next_line 1 lines) from_head e → IsBadLine lines e
  bad_first lines some (at_once h) =
      let short = next-short 1 lines e h in
      record { place = 0; number = line_number 1 e short.0; before = begin_none lines some; bad = λ b. omega (arith, b.ended, short.1) }
  bad_first lines some (later first is h) =
      let next = next-is 1 lines first.0 first.1 is in
      subst (λ ls. IsBadLine ls e) (sym next.same)
      (bad_kind first.0 first.1 (some_behind first.1 next.more) (refused (ok_or (kind_of first.0) (bad_line 1)) (from_second first.1) e h))

-- ---- the bytes

begins : (n : ℕ) (bytes : List ℕ) → BeginPlan (pieces 10 bytes) n → BeginsText IsPlanText n bytes
begins n bytes b = record {
  text = plan_text b.plan;
  is_text = record { plan = b.plan; is_plan = b.is_plan; spelled = refl };
  ended = b.ended;
  whole = subst (λ ls. n < length ls) (sym (plan-lines b.plan b.is_plan)) b.whole;
  same = b.same ∙ ap (take n) (sym (plan-lines b.plan b.is_plan));
}

begun : (n : ℕ) (bytes : List ℕ) → BeginsText IsPlanText n bytes → BeginPlan (pieces 10 bytes) n
begun n bytes t =
    let lines : pieces 10 t.text ≡ plan_lines t.is_text.plan = ap (pieces 10) t.is_text.spelled ∙ plan-lines t.is_text.plan t.is_text.is_plan in
    record {
      plan = t.is_text.plan;
      is_plan = t.is_text.is_plan;
      ended = t.ended;
      whole = subst (λ ls. n < length ls) lines t.whole;
      same = t.same ∙ ap (take n) lines;
    }

first_bad : (bytes : List ℕ) (e : PlanLine) → IsBadLine (pieces 10 bytes) e → IsFirstBadLine IsPlanText e.line bytes
first_bad bytes e h = record {
  before = begins (e.line - 1) bytes (subst (λ n. BeginPlan (pieces 10 bytes) n) (omega (arith, h.number)) h.before);
  bad = λ t. h.bad (subst (λ n. BeginPlan (pieces 10 bytes) n) h.number (begun e.line bytes t));
}

-- the line at which a text is refused is its first bad line
pub plan-bad : (bytes : List ℕ) (e : PlanLine) → read_plan bytes ≡ Err e → IsFirstBadLine IsPlanText e.line bytes
unfolding read_plan
plan-bad bytes e h = first_bad bytes e (bad_first e (pieces 10 bytes) (pieces-some 10 bytes) (refused (next_line 1 (pieces 10 bytes)) from_head e h))

pub if_refused : (bytes : List ℕ) (answer : Result PlanParts PlanLine) → answer ≡ read_plan bytes → IfErr answer (λ e. IsFirstBadLine IsPlanText e.line bytes)
if_refused bytes (Ok p) is = tt
if_refused bytes (Err e) is = plan-bad bytes e (sym is)
