use Rattle.std.proofs.Common.{◌++◌, ◌∙◌, sym}
use Rattle.std.specs.Prelude.{option_copied}
use Rattle.std.proofs.lemmas.Result.{err_from_is_err_and}
use Rattle.mr_cache.proofs.Serving.{keeps-plan, right-promoted, adds-plan, right-put, lacks-memory, refuses, is_some-copied}
use Rattle.mr_cache.proofs.cache.PlanCache.get.Goals as goal

pub invariant_of-self : goal.invariant_of-self
invariant_of-self c = record { right = right-promoted c.args.self.now c.args.pattern c.get.follows.lender-at-none c.get.follows.holds-at-none }

pub returns-then-is_some-clause-serves : goal.returns-then-is_some-clause-serves
returns-then-is_some-clause-serves c =
    keeps-plan c.args.self.now c.args.pattern c.get.follows.lender-at-none c.get.follows.holds-at-none (option_copied c.get.result) c.get.ensures.value
    (is_some-copied c.get.result ∙ sym c.is_some.ensures ∙ c.if-is_some.true)

pub returns-then-is_some-clause-front : goal.returns-then-is_some-clause-front
returns-then-is_some-clause-front c =
    let k = keeps-plan c.args.self.now c.args.pattern c.get.follows.lender-at-none c.get.follows.holds-at-none (option_copied c.get.result) c.get.ensures.value
    (is_some-copied c.get.result ∙ sym c.is_some.ensures ∙ c.if-is_some.true) in
    record { plan = k.plan; rest = k.moved.before ++ k.moved.after; is = k.is; first = k.moved.stands }

pub invariant_of-self-in-Break-1 : goal.invariant_of-self-in-Break-1
invariant_of-self-in-Break-1 c = record { right = right-promoted c.args.self.now c.args.pattern c.get.follows.lender-at-none c.get.follows.holds-at-none }

pub returns-in_err-plan-clause-serves : goal.returns-in_err-plan-clause-serves
returns-in_err-plan-clause-serves c =
    let e = err_from_is_err_and c.from_residual.result c.from_residual.ensures.1 in
    rw (e.1, e.2) (refuses c.args.self.now c.args.pattern c.get.follows.lender-at-none c.get.follows.holds-at-none (option_copied c.get.result) c.get.ensures.value
    (is_some-copied c.get.result ∙ sym c.is_some.ensures ∙ c.if-is_some.false) _ c.in_err-plan.ensures)

pub invariant_of-self-2 : goal.invariant_of-self-2
invariant_of-self-2 c = record {
  right = right-put c.args.self.now c.args.pattern c.get.follows.lender-at-none c.get.follows.holds-at-none (option_copied c.get.result) c.get.ensures.value
      (is_some-copied c.get.result ∙ sym c.is_some.ensures ∙ c.if-is_some.false) c.put.result c.put.new.self c.in_ok-plan.plan c.in_ok-plan.ensures c.put.ensures.entries c.put.ensures.err;
}

pub returns-in-Ok-clause-serves : goal.returns-in-Ok-clause-serves
returns-in-Ok-clause-serves c =
    adds-plan c.args.self.now c.args.pattern c.get.follows.lender-at-none c.get.follows.holds-at-none (option_copied c.get.result) c.get.ensures.value
    (is_some-copied c.get.result ∙ sym c.is_some.ensures ∙ c.if-is_some.false) c.put.new.self c.in_ok-plan.plan c.in_ok-plan.ensures c.in-Ok.ensures.entries

pub returns-in-Ok-clause-front : goal.returns-in-Ok-clause-front
returns-in-Ok-clause-front c =
    let a = adds-plan c.args.self.now c.args.pattern c.get.follows.lender-at-none c.get.follows.holds-at-none (option_copied c.get.result) c.get.ensures.value
    (is_some-copied c.get.result ∙ sym c.is_some.ensures ∙ c.if-is_some.false) c.put.new.self c.in_ok-plan.plan c.in_ok-plan.ensures c.in-Ok.ensures.entries in
    record { plan = a.plan; rest = _; is = a.is; first = a.added }

pub returns-in-Err-clause-serves : goal.returns-in-Err-clause-serves
returns-in-Err-clause-serves c =
    lacks-memory c.args.self.now c.args.pattern c.get.follows.lender-at-none c.get.follows.holds-at-none (option_copied c.get.result) c.get.ensures.value
    (is_some-copied c.get.result ∙ sym c.is_some.ensures ∙ c.if-is_some.false) c.put.new.self c.in_ok-plan.plan c.in_ok-plan.ensures c.in-Err.ensures.err
