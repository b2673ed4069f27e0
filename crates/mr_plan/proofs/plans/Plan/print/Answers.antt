use Rattle.std.proofs.Common.{ℕ, List, ap, ◌∙◌, flat_map, codes}
use Rattle.mr_model.specs.Plans.{Recipe}
use Rattle.mr_plan.specs.PlanText.{plan_text, head_text, set_text, recipe_text, line_of}
use Rattle.mr_plan.proofs.FourParts.{cut_in_first, cut_in_second, cut_in_third, puts_last}
use Rattle.mr_plan.proofs.plans.Plan.print.Goals as goal

-- the lines of the recipes
abbrev recipe_lines : List Recipe → List ℕ
recipe_lines rs = flat_map (λ (r : Recipe). line_of (recipe_text r)) rs

pub returns-in_err-put_all-clause-puts : goal.returns-in_err-put_all-clause-puts
unfolding plan_text
returns-in_err-put_all-clause-puts g c =
    cut_in_first (line_of (head_text c.args.self.now.kind)) (line_of (set_text c.args.self.now.set)) (recipe_lines c.args.self.now.recipes) (line_of (codes "end")) _ _ _
    _ (c.head_line.ensures ∙ ap (λ k. line_of (head_text k)) c.kind.ensures)
    c.from_residual.ensures.0 c.in_err-put_all.ensures.puts.err

pub returns-in_err-put_all-2-clause-puts : goal.returns-in_err-put_all-2-clause-puts
unfolding plan_text
returns-in_err-put_all-2-clause-puts g c =
    cut_in_second (line_of (head_text c.args.self.now.kind)) (line_of (set_text c.args.self.now.set)) (recipe_lines c.args.self.now.recipes) (line_of (codes "end")) _ _ _
    _ (c.head_line.ensures ∙ ap (λ k. line_of (head_text k)) c.kind.ensures)
    _ _ (c.deref.ensures.0 ∙ c.set_line.ensures ∙ ap (λ x. line_of (set_text x)) c.set.ensures)
    c.from_residual-in_err-put_all-2.ensures.0 c.in_ok-put_all.ensures.puts.ok c.in_err-put_all-2.ensures.puts.err

pub returns-in_err-put_recipes-clause-puts : goal.returns-in_err-put_recipes-clause-puts
unfolding plan_text
returns-in_err-put_recipes-clause-puts g c =
    cut_in_third (line_of (head_text c.args.self.now.kind)) (line_of (set_text c.args.self.now.set)) (recipe_lines c.args.self.now.recipes) (line_of (codes "end")) _ _ _
    _ (c.head_line.ensures ∙ ap (λ k. line_of (head_text k)) c.kind.ensures)
    _ _ _ _ (c.deref.ensures.0 ∙ c.set_line.ensures ∙ ap (λ x. line_of (set_text x)) c.set.ensures)
    (ap recipe_lines c.recipes.ensures.all)
    c.from_residual-in_err-put_recipes.ensures.0 c.in_ok-put_all.ensures.puts.ok c.in_ok-put_all-2.ensures.puts.ok c.in_err-put_recipes.ensures.puts.err

pub returns-clause-puts : goal.returns-clause-puts
unfolding plan_text
returns-clause-puts g c =
    puts_last (line_of (head_text c.args.self.now.kind)) (line_of (set_text c.args.self.now.set)) (recipe_lines c.args.self.now.recipes) (line_of (codes "end")) _ _ _
    _ (c.head_line.ensures ∙ ap (λ k. line_of (head_text k)) c.kind.ensures)
    _ _ _ _ _ (c.deref.ensures.0 ∙ c.set_line.ensures ∙ ap (λ x. line_of (set_text x)) c.set.ensures)
    (ap recipe_lines c.recipes.ensures.all)
    c.in_ok-put_all.ensures.puts.ok c.in_ok-put_all-2.ensures.puts.ok c.in_ok-put_recipes.ensures.puts.ok c.put_all-3.ensures.puts
