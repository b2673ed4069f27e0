use Rattle.std.proofs.Common.{◌≡◌, ℕ, suc, ◌-◌, ◌∷◌, [], drop, sym, subst, arith}
use Rattle.mr_eq.specs.Problems.{Loss}
use Rattle.mr_front.specs.Lists.{HasAdded, EndsWith}
use Rattle.mr_front.proofs.AddLaws.{ends-before}
use Rattle.mr_front.proofs.waiting.Waiting.take_back.Goals as goal

pub take_last-requires : goal.take_last-requires
take_last-requires c =
    let p = c.args.self.now.problem in
    let now = c.loop-left.self.lists in
    let k = c.loop-left.left - 1 in
    let next : c.loop-left.left ≡ suc k = omega arith in
    subst (λ (q : Loss). EndsWith q now c.args.level (c.index-masks-left.result ∷ [])) (sym c.loop-left.invariant.loss)
    (ends-before p c.args.self.now.lists now c.args.level c.args.masks.now k c.index-masks-left.result c.requires (omega arith) c.index-masks-left.is
    (subst (λ (n : ℕ). HasAdded p now c.args.self.now.lists c.args.level (drop n c.args.masks.now)) next c.loop-left.invariant.taken))

pub returns-clause-added : goal.returns-clause-added
returns-clause-added c =
    let none : c.loop-left.left ≡ 0 = omega arith in
    subst (λ (n : ℕ). HasAdded c.args.self.now.problem c.loop-left.self.lists c.args.self.now.lists c.args.level (drop n c.args.masks.now)) none c.loop-left.invariant.taken
