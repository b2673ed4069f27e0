use Rattle.std.proofs.Common.{◌≤◌, sym, ◌∙◌, arith}
use Rattle.mr_model.proofs.SetLaws.{Within-le, true-within}
use Rattle.mr_plan.proofs.checking.check_recipe.Goals as goal

pub row_sum-requires : goal.row_sum-requires
row_sum-requires c =
    let le : c.sources-sources.result ≤ c.args.set = Within-le c.sources-sources.result c.args.set (true-within c.sources-sources.result c.args.set (sym c.within.ensures ∙ c.if-not-within.false)) in
    omega (arith, c.requires.set)
