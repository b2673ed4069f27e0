use Rattle.std.proofs.Common.{ℕ, List, sym, subst, arith}
use Rattle.std.specs.List.{Contains}
use Rattle.mr_front.specs.declared.cost_lists.CostLists.{CostLists}
use Rattle.mr_front.proofs.RowLaws.{less-at}
use Rattle.mr_front.proofs.JoinLaws.{IsRecalling, recalling-first, recalling-next}
use Rattle.mr_front.proofs.row.Row.recall.Goals as goal

pub loop-place-init : goal.loop-place-init
loop-place-init c =
    let old = c.args.self.now in
    let new = c.take_late-masks.new.self in
    subst (λ (vs : CostLists). IsRecalling c.args.equations.now c.args.level old.lists.map old.late.map vs.map new.late.map c.take_late-masks.result.items c.args.cost c.args.most 0) (sym c.take_late-masks.ensures.lists)
    (recalling-first c.args.equations.now c.args.level old.lists.map old.late.map new.late.map c.take_late-masks.result.items c.args.cost c.args.most (λ v. ((λ h. subst (λ (xs : List ℕ). Contains xs v) c.take_late-masks.ensures.taken h), (λ h. subst (λ (xs : List ℕ). Contains xs v) (sym c.take_late-masks.ensures.taken) h)))
    (less-at old.late.map new.late.map c.args.cost c.take_late-masks.ensures.rest))

pub loop-place-preserved : goal.loop-place-preserved
loop-place-preserved c =
    let old = c.args.self.now in
    let now = c.loop-place.self in
    let new = c.join.new.self in
    let masks = c.take_late-masks.result.items in
    recalling-next c.args.equations.now c.args.level old.lists.map old.late.map now.lists.map now.late.map masks c.args.cost c.args.most c.loop-place.place c.loop-place.invariant
    new.lists.map new.late.map c.index.result.now c.reach_of.result (omega (arith, c.loop-place-test.true)) c.index.ensures c.reach_of.ensures
    c.in_ok-join.ensures.stays c.in_ok-join.ensures.only c.in_ok-join.ensures.joins c.in_ok-join.ensures.late
