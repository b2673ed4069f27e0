use Rattle.std.proofs.Common.{◌≡◌, All, sym, ap, ◌∙◌, subst, arith}
use Rattle.std.proofs.lemmas.List.Elements.{All-push}
use Rattle.mr_locks.specs.Rule.{blank_view}
use Rattle.mr_amend.specs.declared.caller.Caller.{Caller}
use Rattle.mr_amend.specs.Callers.{IsCallerOf, view}
use Rattle.mr_amend.proofs.amend.Amend.blanks.Goals as goal

pub loop-caller-preserved : goal.loop-caller-preserved
loop-caller-preserved c =
    let b = c.args.self.now in
    let v = view c.args.first.now in
    let old = c.loop-caller.invariant in
    let len = c.push_reserved.ensures.len in
    let many = old.many in
    let kept = c.push_reserved.ensures.capacity in
    let room = old.room in record {
      first = c.blank.ensures.first;
      same = c.blank.ensures.view ∙ old.same;
      many = omega arith;
      room = omega arith;
      each = subst (All (IsCallerOf b)) (sym c.push_reserved.ensures.items)
          (All-push (IsCallerOf b) _ _ old.each c.blank.ensures.blank);
      views = subst (All (λ (x : Caller). view x ≡ blank_view v)) (sym c.push_reserved.ensures.items)
          (All-push (λ (x : Caller). view x ≡ blank_view v) _ _ old.views (c.blank.ensures.none ∙ ap blank_view old.same));
    }
