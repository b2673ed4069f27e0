-- The lines of a plan's text, and that the text is read as the plan that it spells.
use Rattle.std.proofs.Common.{◌≡◌, ℕ, ◌+◌, ◌^◌, ◌<◌, ◌==◌, Bool, true, false, cond, List, [], ◌∷◌, ◌++◌, length, map, flat_map, Option, Some, None, Ok, Err, codes, refl, sym, ap, ap₂, subst, ◌∙◌, arith}
use Rattle.std.specs.Prelude.{Result, IfOk}
use Rattle.std.specs.Option.{ok_or}
use Rattle.std.specs.Fmt.{decimal}
use Rattle.std.specs.Str.{bytes_eq}
use Rattle.std.proofs.lemmas.Bool.{ne_eqb, false_from_ne_true}
use Rattle.std.proofs.lemmas.List.{append_assoc, length-append}
use Rattle.std.proofs.lemmas.List.Elements.{All-append, All-from_recursion}
use Rattle.std.proofs.lemmas.List.Splits.{slice_split_at}
use Rattle.mr_model.specs.Members.{members}
use Rattle.mr_model.specs.Plans.{Recipe}
use Rattle.mr_text.specs.Numbers.{number_of, is_number}
use Rattle.mr_plan.specs.declared.errors.PlanLine.{PlanLine}
use Rattle.mr_plan.specs.declared.kinds.Kind.{Kind}
use Rattle.mr_plan.specs.declared.kinds.Kind.TheVariants.{Least, Spent, Given}
use Rattle.mr_plan.specs.Plans.{PlanParts, IsNext, AreUpward, IsPlan}
use Rattle.mr_plan.specs.PlanText.{members_text, head_text, set_text, recipe_text, line_of, plan_text}
use Rattle.mr_text.specs.Lines.{pieces}
use Rattle.mr_plan.specs.Readings.{symbol_of, recipe_of, kind_of, set_of, ◌>>=◌, bad_line, next_line, is_over, read_recipes, read_plan}
use Rattle.mr_text.proofs.LineLaws.{pieces-same}
use Rattle.mr_plan.proofs.ReadLaws.{next-is, over-is, from_recipes, from_set, from_second, from_head, all_read}
use Rattle.mr_text.proofs.NumberLaws.{bytes_eq_true}
use Rattle.mr_plan.proofs.LineLaws.{Without, IsRecipeLine, decimal-without, members-without, members-low, set_of-read, set_of-printed, recipe_of-read, recipe_of-printed, kind_of-read, kind_of-printed}

-- ---- no line feed stands within a line

pub head-without : (kind : Kind) → Without 10 (head_text kind)
head-without Least = All-from_recursion (λ b. (b == 10) ≡ false) (head_text Least) (refl, (refl, (refl, (refl, (refl, (refl, (refl, (refl, (refl, (refl, (refl, (refl, tt))))))))))))
head-without Spent = All-from_recursion (λ b. (b == 10) ≡ false) (head_text Spent) (refl, (refl, (refl, (refl, (refl, (refl, (refl, (refl, (refl, (refl, (refl, (refl, tt))))))))))))
head-without Given = All-from_recursion (λ b. (b == 10) ≡ false) (head_text Given) (refl, (refl, (refl, (refl, (refl, (refl, (refl, (refl, (refl, (refl, (refl, (refl, tt))))))))))))

pub set-without : (set : ℕ) → set < 2 ^ 128 → Without 10 (set_text set)
set-without set low = All-append (λ b. (b == 10) ≡ false) (codes "set") (members_text set)
    (All-from_recursion (λ b. (b == 10) ≡ false) (codes "set") (refl, (refl, (refl, tt)))) (members-without 10 (members set) (omega arith) (members-low set low))

pub recipe-without : (r : Recipe) → r.symbol < 128 → r.equation < 2 ^ 128 → Without 10 (recipe_text r)
recipe-without r small low = All-append (λ b. (b == 10) ≡ false) (decimal r.symbol ++ codes " =") (members_text r.equation)
    (All-append (λ b. (b == 10) ≡ false) (decimal r.symbol) (codes " =") (decimal-without 10 r.symbol (omega arith) small) (All-from_recursion (λ b. (b == 10) ≡ false) (codes " =") (refl, (refl, tt))))
    (members-without 10 (members r.equation) (omega arith) (members-low r.equation low))

-- ---- the lines of a text

pub line-first : (text more : List ℕ) → Without 10 text → pieces 10 (line_of text ++ more) ≡ text ∷ pieces 10 more
line-first text more plain = ap (pieces 10) (append_assoc text (10 ∷ []) more) ∙ slice_split_at (λ b. b == 10) text 10 more plain refl

abbrev pub line_of_recipe : Recipe → List ℕ
line_of_recipe r = line_of (recipe_text r)

-- the lines of the recipes, and the last
abbrev pub last_lines : List Recipe → List (List ℕ)
last_lines rs = map recipe_text rs ++ codes "end" ∷ [] ∷ []

recipes-lines : (least : ℕ) (rs : List Recipe) → AreUpward least rs → pieces 10 (flat_map line_of_recipe rs ++ line_of (codes "end")) ≡ last_lines rs
recipes-lines least [] h = refl
recipes-lines least (r ∷ rs) h =
    ap (pieces 10) (append_assoc (line_of_recipe r) (flat_map line_of_recipe rs) (line_of (codes "end")))
    ∙ line-first (recipe_text r) (flat_map line_of_recipe rs ++ line_of (codes "end")) (recipe-without r h.0.symbol h.0.sources)
    ∙ ap (λ ls. recipe_text r ∷ ls) (recipes-lines (r.symbol + 1) rs h.1)

pub plan-lines : (p : PlanParts) → IsPlan p → pieces 10 (plan_text p) ≡ head_text p.kind ∷ set_text p.set ∷ last_lines p.recipes
unfolding plan_text
plan-lines p h =
    let rest = flat_map line_of_recipe p.recipes in
    let last = line_of (codes "end") in
    ap (pieces 10) (append_assoc (line_of (head_text p.kind) ++ line_of (set_text p.set)) rest last
    ∙ append_assoc (line_of (head_text p.kind)) (line_of (set_text p.set)) (rest ++ last))
    ∙ line-first (head_text p.kind) (line_of (set_text p.set) ++ (rest ++ last)) (head-without p.kind)
    ∙ ap (λ ls. head_text p.kind ∷ ls) (line-first (set_text p.set) (rest ++ last) (set-without p.set h.set)
    ∙ ap (λ ls. set_text p.set ∷ ls) (recipes-lines 0 p.recipes h.recipes))

-- ---- the recipes

-- the line `end` is no recipe
end_none : (least : ℕ) → recipe_of least (codes "end") ≡ None
unfolding recipe_of symbol_of number_of is_number
end_none least = refl

pub not_end : (least : ℕ) (r : Recipe) → IsNext least r → bytes_eq (recipe_text r) (codes "end") ≡ false
not_end least r next = false_from_ne_true _ (λ e.
    let wrong : Some r ≡ None = sym (recipe_of-printed least r next) ∙ ap (recipe_of least) (bytes_eq_true (recipe_text r) (codes "end") e) ∙ end_none least in
    absurd cc)

-- something follows
last_more : (rs : List Recipe) → (length (last_lines rs) == 0) ≡ false
last_more rs = ne_eqb _ 0 (λ e. absurd (omega (arith, e, length-append (map recipe_text rs) (codes "end" ∷ [] ∷ []))))

pub read_recipes-printed : (line least : ℕ) (rs : List Recipe) → AreUpward least rs → read_recipes line least (last_lines rs) ≡ Ok rs
unfolding read_recipes
read_recipes-printed line least [] h = refl
read_recipes-printed line least (r ∷ rs) h =
    ap₂ (λ a b. cond a (Err (bad_line line)) (cond b (cond (is_over (last_lines rs)) (Ok []) (Err (bad_line (line + 1)))) (ok_or (recipe_of least (recipe_text r)) (bad_line line) >>= with_rest)))
    (last_more rs) (not_end least r h.0)
    ∙ ap (λ o. ok_or o (bad_line line) >>= with_rest) (recipe_of-printed least r h.0)
    ∙ ap (λ o. o >>= λ qs. Ok (r ∷ qs)) (read_recipes-printed (line + 1) (r.symbol + 1) rs h.1)
  where
    with_rest : Recipe → Result (List Recipe) PlanLine
    with_rest q = read_recipes (line + 1) (q.symbol + 1) (last_lines rs) >>= λ qs. Ok (q ∷ qs)

-- what the lines say of the recipes
pub record AreRecipeLines (least : ℕ) (lines : List (List ℕ)) (rs : List Recipe) : Type 0 where
  pub spelled : lines ≡ last_lines rs
  pub upward : AreUpward least rs

then_rest : (least : ℕ) (first : List ℕ) (left : List (List ℕ)) (rs : List Recipe) (r : Recipe) (rest : Result (List Recipe) PlanLine) → IsRecipeLine least first r
    → ((qs : List Recipe) → rest ≡ Ok qs → AreRecipeLines (r.symbol + 1) left qs) → (rest >>= λ qs. Ok (r ∷ qs)) ≡ Ok rs → AreRecipeLines least (first ∷ left) rs
then_rest least first left rs r (Err f) line ih e = cc
then_rest least first left rs r (Ok qs) line ih e =
    let same : r ∷ qs ≡ rs = cc in
    let more = ih qs refl in
    subst (AreRecipeLines least (first ∷ left)) same (record {
      spelled = ap₂ (λ l ls. l ∷ ls) line.spelled more.spelled;
      upward = (line.next, more.upward);
    })

then_recipe : (line least : ℕ) (first : List ℕ) (left : List (List ℕ)) (rs : List Recipe) (rest : Recipe → Result (List Recipe) PlanLine) (o : Option Recipe) → recipe_of least first ≡ o
    → ((r : Recipe) (qs : List Recipe) → rest r ≡ Ok qs → AreRecipeLines (r.symbol + 1) left qs)
    → (ok_or o (bad_line line) >>= λ r. rest r >>= λ qs. Ok (r ∷ qs)) ≡ Ok rs → AreRecipeLines least (first ∷ left) rs
then_recipe line least first left rs rest None is ih e = cc
then_recipe line least first left rs rest (Some r) is ih e = then_rest least first left rs r (rest r) (recipe_of-read least first r is) (ih r) e

then_end : (line least : ℕ) (first : List ℕ) (left : List (List ℕ)) (rs : List Recipe) (over : Bool) → bytes_eq first (codes "end") ≡ true → is_over left ≡ over
    → cond over (Ok []) (Err (bad_line (line + 1))) ≡ Ok rs → AreRecipeLines least (first ∷ left) rs
then_end line least first left rs true is over e =
    let same : [] ≡ rs = cc in
    subst (AreRecipeLines least (first ∷ left)) same (record { spelled = ap₂ (λ l ls. l ∷ ls) (bytes_eq_true first (codes "end") is) (over-is left over); upward = tt })
then_end line least first left rs false is over e = cc

then_line : (line least : ℕ) (first : List ℕ) (left : List (List ℕ)) (rs : List Recipe) (rest : Recipe → Result (List Recipe) PlanLine) (end : Bool) → bytes_eq first (codes "end") ≡ end
    → ((r : Recipe) (qs : List Recipe) → rest r ≡ Ok qs → AreRecipeLines (r.symbol + 1) left qs)
    → cond end (cond (is_over left) (Ok []) (Err (bad_line (line + 1)))) (ok_or (recipe_of least first) (bad_line line) >>= λ r. rest r >>= λ qs. Ok (r ∷ qs)) ≡ Ok rs
    → AreRecipeLines least (first ∷ left) rs
then_line line least first left rs rest true is ih e = then_end line least first left rs (is_over left) is refl e
then_line line least first left rs rest false is ih e = then_recipe line least first left rs rest (recipe_of least first) refl ih e

ended : (line least : ℕ) (first : List ℕ) (left : List (List ℕ)) (rs : List Recipe) (rest : Recipe → Result (List Recipe) PlanLine) (last : Bool)
    → ((r : Recipe) (qs : List Recipe) → rest r ≡ Ok qs → AreRecipeLines (r.symbol + 1) left qs)
    → cond last (Err (bad_line line)) (cond (bytes_eq first (codes "end")) (cond (is_over left) (Ok []) (Err (bad_line (line + 1))))
    (ok_or (recipe_of least first) (bad_line line) >>= λ r. rest r >>= λ qs. Ok (r ∷ qs))) ≡ Ok rs → AreRecipeLines least (first ∷ left) rs
ended line least first left rs rest true ih e = cc
ended line least first left rs rest false ih e = then_line line least first left rs rest (bytes_eq first (codes "end")) refl ih e

pub read_recipes-read : (line least : ℕ) (lines : List (List ℕ)) (rs : List Recipe) → read_recipes line least lines ≡ Ok rs → AreRecipeLines least lines rs
unfolding read_recipes
read_recipes-read line least [] rs e = cc
read_recipes-read line least (first ∷ left) rs e =
    ended line least first left rs (λ r. read_recipes (line + 1) (r.symbol + 1) left) (length left == 0) (λ r qs h. read_recipes-read (line + 1) (r.symbol + 1) left qs h) e

-- ---- the whole text

record Bound {A B : Type 0} (r : Result A PlanLine) (next : A → Result B PlanLine) (b : B) : Type 0 where
  value : A
  was : r ≡ Ok value
  later : next value ≡ Ok b

bound : {A B : Type 0} (r : Result A PlanLine) (next : A → Result B PlanLine) (b : B) → (r >>= next) ≡ Ok b → Bound r next b
bound (Ok a) next b e = record { value = a; was = refl; later = e }
bound (Err f) next b e = cc

pub some_of : {X : Type 0} (o : Option X) (f : PlanLine) (x : X) → ok_or o f ≡ Ok x → o ≡ Some x
some_of None f x e = cc
some_of (Some y) f x e = let same : y ≡ x = cc in ap Some same

-- the bytes are the text of the plan
pub record IsRead (bytes : List ℕ) (p : PlanParts) : Type 0 where
  pub plan : IsPlan p
  pub spelled : bytes ≡ plan_text p

-- the lines of the bytes are those of the plan
spelled_lines : (bytes head text : List ℕ) (left rest : List (List ℕ)) (q p : PlanParts) → IsPlan q → pieces 10 bytes ≡ head ∷ left → head ≡ head_text q.kind
    → left ≡ text ∷ rest → text ≡ set_text q.set → rest ≡ last_lines q.recipes → ◌≡◌ {A = Result PlanParts PlanLine} (Ok q) (Ok p) → IsRead bytes p
spelled_lines bytes head text left rest q p h first kind second set recipes e =
    let same : q ≡ p = cc in
    subst (IsRead bytes) same (record {
      plan = h;
      spelled = pieces-same 10 bytes (plan_text q) (first ∙ ap₂ (λ l ls. l ∷ ls) kind (second ∙ ap₂ (λ l ls. l ∷ ls) set recipes) ∙ sym (plan-lines q h));
    })

pub plan-read : (bytes : List ℕ) (p : PlanParts) → read_plan bytes ≡ Ok p → IsRead bytes p
unfolding read_plan
plan-read bytes p e =
    let first = bound (next_line 1 (pieces 10 bytes)) from_head p e in
    let kind = bound (ok_or (kind_of first.value.0) (bad_line 1)) (from_second first.value.1) p first.later in
    let second = bound (next_line 2 first.value.1) (from_set kind.value) p kind.later in
    let set = bound (ok_or (set_of second.value.0) (bad_line 2)) (λ s. from_recipes kind.value s second.value.1) p second.later in
    let recipes = bound (read_recipes 3 0 second.value.1) (λ rs. Ok (record { kind = kind.value; set = set.value; recipes = rs })) p set.later in
    let lines = read_recipes-read 3 0 second.value.1 recipes.value recipes.was in
    let set_line = set_of-read second.value.0 set.value (some_of (set_of second.value.0) (bad_line 2) set.value set.was) in
    spelled_lines bytes first.value.0 second.value.0 first.value.1 second.value.1 (record { kind = kind.value; set = set.value; recipes = recipes.value }) p
    (record { set = set_line.low; recipes = lines.upward })
    (next-is 1 (pieces 10 bytes) first.value.0 first.value.1 first.was).same
    (kind_of-read first.value.0 kind.value (some_of (kind_of first.value.0) (bad_line 1) kind.value kind.was))
    (next-is 2 first.value.1 second.value.0 second.value.1 second.was).same
    set_line.spelled lines.spelled recipes.later

pub next_more : (line : ℕ) (first : List ℕ) (left : List (List ℕ)) → (length left == 0) ≡ false → next_line line (first ∷ left) ≡ Ok (first, left)
unfolding next_line
next_more line first left more = ap (λ b. cond {A = Result (List ℕ × List (List ℕ)) PlanLine} b (Err (bad_line line)) (Ok (first, left))) more

pub plan-printed : (p : PlanParts) → IsPlan p → read_plan (plan_text p) ≡ Ok p
plan-printed p h =
    all_read (plan_text p) (head_text p.kind) (set_text p.set ∷ last_lines p.recipes)
    (ap (next_line 1) (plan-lines p h) ∙ next_more 1 (head_text p.kind) (set_text p.set ∷ last_lines p.recipes) (ne_eqb _ 0 (λ e. absurd (omega (arith, e)))))
    p.kind (ap (λ o. ok_or o (bad_line 1)) (kind_of-printed p.kind))
    (set_text p.set) (last_lines p.recipes) (next_more 2 (set_text p.set) (last_lines p.recipes) (last_more p.recipes))
    p.set (ap (λ o. ok_or o (bad_line 2)) (set_of-printed p.set h.set))
    p.recipes (read_recipes-printed 3 0 p.recipes h.recipes)

-- an answer with a plan has its text
pub if_read : (bytes : List ℕ) (answer : Result PlanParts PlanLine) → answer ≡ read_plan bytes → IfOk answer (λ p. bytes ≡ plan_text p)
if_read bytes (Ok p) e = (plan-read bytes p (sym e)).spelled
if_read bytes (Err f) e = tt

-- two plans of one text are one
pub text-same : (p q : PlanParts) → IsPlan p → IsPlan q → plan_text p ≡ plan_text q → p ≡ q
text-same p q h k e =
    let same : ◌≡◌ {A = Result PlanParts PlanLine} (Ok p) (Ok q) = sym (plan-printed p h) ∙ ap read_plan e ∙ plan-printed q k in
    cc
