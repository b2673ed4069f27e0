use Rattle.std.proofs.Common.{ℕ, List, ◌∙◌, take, sym, subst, arith}
use Rattle.std.specs.Prelude.{slice_range}
use Rattle.std.proofs.lemmas.List.{take_all}
use Rattle.mr_eq.specs.Problems.{Loss}
use Rattle.mr_front.specs.Lists.{HasAdded, EndsWith}
use Rattle.mr_front.proofs.AddLaws.{added-trans, added-ends, same-ends, taken-back, take-run}
use Rattle.mr_front.proofs.waiting.Waiting.add.Goals as goal

pub take_back-requires : goal.take_back-requires
take_back-requires c =
    let p = c.args.self.now.problem in
    let done = take c.loop-start.start c.args.masks.now in
    subst (λ (q : Loss). EndsWith q c.append.new.self.lists c.args.level done) (sym (c.append.ensures.loss ∙ c.loop-start.invariant.loss))
    (same-ends p c.loop-start.self.lists c.append.new.self.lists c.args.level done c.in-Err.ensures.same
    (added-ends p c.args.self.now.lists c.loop-start.self.lists c.args.level done c.loop-start.invariant.added))

pub returns-in-Err-clause-same : goal.returns-in-Err-clause-same
returns-in-Err-clause-same c =
    let p = c.args.self.now.problem in
    let done = take c.loop-start.start c.args.masks.now in
    taken-back p c.args.self.now.lists c.loop-start.self.lists c.append.new.self.lists c.take_back.new.self.lists c.args.level done
    c.loop-start.invariant.added c.in-Err.ensures.same
    (subst (λ (q : Loss). HasAdded q c.take_back.new.self.lists c.append.new.self.lists c.args.level done) (c.append.ensures.loss ∙ c.loop-start.invariant.loss) c.take_back.ensures.added)

pub loop-start-preserved : goal.loop-start-preserved
loop-start-preserved c =
    let p = c.args.self.now.problem in
    let us = c.args.masks.now in
    let start = c.loop-start.start in
    let after = c.run_end-end.result in
    let added = subst (λ (q : Loss). HasAdded q c.loop-start.self.lists c.append.new.self.lists c.args.level (slice_range us start after)) c.loop-start.invariant.loss c.in_default.ensures.added in
    record {
      loss = c.append.ensures.loss ∙ c.loop-start.invariant.loss;
      in_range = c.run_end-end.ensures.within;
      added = subst (λ (vs : List ℕ). HasAdded p c.args.self.now.lists c.append.new.self.lists c.args.level vs) (sym (take-run us start after (omega (arith, c.run_end-end.ensures.after))))
          (added-trans p c.args.self.now.lists c.loop-start.self.lists c.append.new.self.lists c.args.level (take start us) (slice_range us start after) c.loop-start.invariant.added added);
    }

pub returns-clause-added : goal.returns-clause-added
returns-clause-added c =
    subst (λ (vs : List ℕ). HasAdded c.args.self.now.problem c.args.self.now.lists c.loop-start.self.lists c.args.level vs) (take_all c.loop-start.start c.args.masks.now (omega arith)) c.loop-start.invariant.added
