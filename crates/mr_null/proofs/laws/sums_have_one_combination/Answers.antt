use Rattle.std.proofs.Common.{◌∙◌, sym}
use Rattle.mr_model.specs.Code.{row_sum}
use Rattle.mr_model.proofs.SetLaws.{within-true, true-within}
use Rattle.mr_model.proofs.Kept.{kept-spans, kept-same, combination-is}
use Rattle.mr_null.proofs.laws.sums_have_one_combination.Goals as goal

pub returns : goal.returns
returns c =
    let same = kept-spans c.args.matrix.now c.args.set c.args.symbols (true-within c.args.symbols c.args.set c.requires) in
    record {
      set = same.set;
      inside = within-true _ _ same.inside;
      sums = same.sums;
      found = combination-is c.args.matrix.now c.args.set (row_sum c.args.matrix.now c.args.symbols) same.set same.inside same.sums;
      only = λ x inside sums. kept-same c.args.matrix.now c.args.set x same.set (true-within _ _ inside) same.inside (sums ∙ sym same.sums);
    }
