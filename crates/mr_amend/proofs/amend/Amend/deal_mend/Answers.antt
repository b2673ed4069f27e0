use Rattle.std.proofs.Common.{rules, ◌≡◌, [], length, ap, ◌∙◌}
use Rattle.std.proofs.lemmas.List.{nil_from_length}
use Rattle.mr_locks.specs.Rule.{Mine}
use Rattle.mr_amend.specs.Callers.{view}
use Rattle.mr_amend.proofs.Deals.{gave_mend, got_mend, got_no_mend, no_mend}
use Rattle.mr_amend.proofs.amend.Amend.deal_mend.Goals as goal

pub returns-in_default-clause-left : goal.returns-in_default-clause-left
returns-in_default-clause-left c =
    let v = view c.args.giver.now in
    let giver = c.args.giver.now in
    let empty : length giver.mends.items ≡ 0 = search rules in
    let none : v.mends ≡ [] = giver.mends_left ∙ nil_from_length giver.mends.items empty in no_mend v v none

pub returns-in_default-clause-dealt : goal.returns-in_default-clause-dealt
returns-in_default-clause-dealt c =
    let v = view c.args.giver.now in
    let giver = c.args.giver.now in
    let empty : length giver.mends.items ≡ 0 = search rules in
    let none : v.mends ≡ [] = giver.mends_left ∙ nil_from_length giver.mends.items empty in got_no_mend v (view c.args.taker.now) none

pub returns-clause-giver : goal.returns-clause-giver
returns-clause-giver c =
    gave_mend c.args.self.now c.args.giver.now _ c.requires.giver c.deal_mend.ensures.giver (ap (λ (m : Mine). m.0) c.deal_mend.ensures.left)

pub returns-clause-taker : goal.returns-clause-taker
returns-clause-taker c =
    got_mend c.args.self.now c.args.giver.now c.args.taker.now _ c.requires.giver c.requires.taker c.deal_mend.ensures.taker (ap (λ (m : Mine). m.0) c.deal_mend.ensures.dealt)
