-- The text of a plan.
use Rattle.std.specs.Prelude.{◌≡◌, ℕ, List, [], ◌∷◌, ◌++◌, flat_map, codes, decimal}
use Rattle.mr_model.specs.Members.{members}
use Rattle.mr_model.specs.Plans.{Recipe}
use Rattle.mr_plan.specs.declared.kinds.Kind.{Kind}
use Rattle.mr_plan.specs.declared.kinds.Kind.TheVariants.{Least, Spent, Given}
use Rattle.mr_plan.specs.Plans.{PlanParts, IsPlan}

-- the word of a kind
abbrev pub kind_text : Kind → List ℕ
kind_text Least = codes "least"
kind_text Spent = codes "spent"
kind_text Given = codes "given"

-- a space and a number
abbrev pub member_text : ℕ → List ℕ
member_text i = 32 ∷ decimal i

-- for each member of a set upwards, a space and its number
abbrev pub members_text : ℕ → List ℕ
members_text set = flat_map member_text (members set)

-- the lines without their line feeds: the first, that of the set, and that of a recipe
abbrev pub head_text : Kind → List ℕ
head_text kind = codes "plan 1 " ++ kind_text kind

abbrev pub set_text : ℕ → List ℕ
set_text set = codes "set" ++ members_text set

abbrev pub recipe_text : Recipe → List ℕ
recipe_text r = decimal r.symbol ++ codes " =" ++ members_text r.equation

-- a line with its line feed
abbrev pub line_of : List ℕ → List ℕ
line_of text = text ++ 10 ∷ []

-- the text of a plan
unfoldable pub plan_text : PlanParts → List ℕ
plan_text p = line_of (head_text p.kind) ++ line_of (set_text p.set)
    ++ flat_map (λ r. line_of (recipe_text r)) p.recipes ++ line_of (codes "end")

-- the text is that of a plan
pub record IsPlanText (text : List ℕ) : Type 0 where
  pub plan : PlanParts
  pub is_plan : IsPlan plan
  pub spelled : text ≡ plan_text plan
