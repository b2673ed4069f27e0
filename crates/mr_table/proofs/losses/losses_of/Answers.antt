use Rattle.std.proofs.Common.{rules, ◌≤◌, ◌≡◌, length, subst, sym}
use Rattle.mr_table.specs.Losses.{losses}
use Rattle.mr_table.proofs.LossLists.{few}
use Rattle.mr_table.proofs.losses.losses_of.Goals as goal

pub returns-clause-few : goal.returns-clause-few
returns-clause-few c =
    let is : c.push_pairs.new.list.items ≡ losses c.args.devices = search rules in
    subst (λ l. length l ≤ 8256) (sym is) (few c.args.devices c.requires)
