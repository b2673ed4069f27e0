use Rattle.std.proofs.Common.{◌≡◌, ◌∙◌, ℕ, ap, sym, subst, arith, length, Option}
use Rattle.mr_model.specs.Members.{members}
use Rattle.mr_model.specs.Code.{plain, cost}
use Rattle.mr_eq.specs.Problems.{Loss, search_for}
use Rattle.mr_eq.specs.declared.found.Found.TheVariants.{Least, Spent}
use Rattle.mr_model.specs.Choice.{choice_of}
use Rattle.mr_eq.specs.Choices.{found_of}
use Rattle.mr_front.specs.Rows.{InRows, LateIn}
use Rattle.mr_front.specs.Layers.{IsFirst}
use Rattle.mr_front.proofs.SearchSteps.{searched_first}
use Rattle.mr_front.proofs.LossSteps.{starts, plain-bound, lost-searched}
use Rattle.mr_front.proofs.SearchAnswers.{waits-some, last-answer, spent-answer, next-searched}
use Rattle.mr_front.proofs.search.search_layers.Goals as goal

pub loop-rows-init : goal.loop-rows-init
loop-rows-init c =
    let p = c.args.equations.now in
    let rows = c.in_ok-rows.rows in
    let set = c.plain-plain.result in
    let is : set ≡ plain p.code p.avail p.targets =
    subst (λ (x : Loss). set ≡ plain x.code x.avail x.targets) (sym c.requires) c.plain-plain.ensures.value in
    let priced : c.cost.result ≡ cost p.code set = subst (λ (x : Loss). c.cost.result ≡ cost x.code set) (sym c.requires) c.cost.ensures.cost in
    record {
      searched = searched_first (search_for p) (InRows p rows) (starts (InRows p rows) (c.in_ok-rows.ensures.start p));
      within = omega arith;
      high = plain-bound p c.width-width.ensures.loss c.from-most.result (c.from-most.ensures ∙ priced ∙ ap (cost p.code) is);
      count = c.in_ok-rows.ensures.count;
    }

pub first_key-requires-clause-levels : goal.first_key-requires-clause-levels
first_key-requires-clause-levels c = c.levels-levels.ensures ∙ sym (ap (λ (x : Loss). length (members x.targets)) c.requires)

pub take_layer-requires : goal.take_layer-requires
take_layer-requires c =
    let p = c.args.equations.now in
    let rows = c.first_key.new.self in
    subst (λ (o : Option (ℕ × ℕ)). IsFirst p (InRows p rows) (LateIn rows) o) c.in-Some.is c.in_ok-key.ensures.first

pub unreachable-requires : goal.unreachable-requires
unreachable-requires c =
    let p = c.args.equations.now in
    let loss = c.width-width.ensures.loss in
    let rows = c.first_key.new.self in
    let h = c.loop-rows.invariant in
    let searched = lost-searched p loss (InRows p c.loop-rows.rows) (InRows p rows) c.loop-rows.work c.from-most.result h.searched h.high c.in_ok-key.ensures.lost in
    waits-some p loss (InRows p rows) c.loop-rows.work searched
    (subst (λ (o : Option (ℕ × ℕ)). IsFirst p (InRows p rows) (LateIn rows) o) c.in_default.is c.in_ok-key.ensures.first).0

pub returns-then-layer-levels : goal.returns-then-layer-levels
returns-then-layer-levels c =
    let p = c.args.equations.now in
    let loss = c.width-width.ensures.loss in
    let rows = c.first_key.new.self in
    let h = c.loop-rows.invariant in
    let searched = lost-searched p loss (InRows p c.loop-rows.rows) (InRows p rows) c.loop-rows.work c.from-most.result h.searched h.high c.in_ok-key.ensures.lost in
    let count = c.levels-levels.ensures ∙ sym (ap (λ (x : Loss). length (members x.targets)) c.requires) in
    let same = last-answer p loss (InRows p rows) c.loop-rows.work searched c.in_ok-layer.layer c.in_ok-layer.ensures.layer c.args.budget c.get.result
    (omega (arith, count, c.if-layer-levels.true)) h.within c.get.ensures in
    subst (λ (x : Loss). Least c.get.result c.loop-rows.work ≡ found_of (choice_of x.code x.avail x.targets c.args.budget)) c.requires same

pub returns-in_default-work_with : goal.returns-in_default-work_with
returns-in_default-work_with c =
    let p = c.args.equations.now in
    let loss = c.width-width.ensures.loss in
    let rows = c.first_key.new.self in
    let h = c.loop-rows.invariant in
    let searched = lost-searched p loss (InRows p c.loop-rows.rows) (InRows p rows) c.loop-rows.work c.from-most.result h.searched h.high c.in_ok-key.ensures.lost in
    let count = c.levels-levels.ensures ∙ sym (ap (λ (x : Loss). length (members x.targets)) c.requires) in
    let is = c.plain-plain.ensures.value ∙ sym (ap (λ (x : Loss). plain x.code x.avail x.targets) c.requires) in
    let same = spent-answer p loss (InRows p rows) c.loop-rows.work searched c.in_ok-layer.layer c.in_ok-layer.ensures.layer
    c.len.result c.width-width.result c.len.ensures c.width-width.ensures.width (omega (arith, count, c.if-layer-levels.false))
    c.args.budget c.plain-plain.result is c.in_default-work_with.ensures in
    subst (λ (x : Loss). Spent c.plain-plain.result ≡ found_of (choice_of x.code x.avail x.targets c.args.budget)) c.requires same

pub expand_layer-requires-clause-level : goal.expand_layer-requires-clause-level
expand_layer-requires-clause-level c =
    let count = c.levels-levels.ensures ∙ sym (ap (λ (x : Loss). length (members x.targets)) c.requires) in
    omega (arith, count, c.if-layer-levels.false)

pub expand_layer-requires-clause-count : goal.expand_layer-requires-clause-count
expand_layer-requires-clause-count c =
    let count = c.levels-levels.ensures ∙ sym (ap (λ (x : Loss). length (members x.targets)) c.requires) in
    omega (arith, count, c.loop-rows.invariant.count, c.first_key.ensures.count, c.take_layer.ensures.count)

pub loop-rows-preserved : goal.loop-rows-preserved
loop-rows-preserved c =
    let p = c.args.equations.now in
    let loss = c.width-width.ensures.loss in
    let rows = c.first_key.new.self in
    let h = c.loop-rows.invariant in
    let searched = lost-searched p loss (InRows p c.loop-rows.rows) (InRows p rows) c.loop-rows.work c.from-most.result h.searched h.high c.in_ok-key.ensures.lost in
    let count = c.levels-levels.ensures ∙ sym (ap (λ (x : Loss). length (members x.targets)) c.requires) in
    let next = next-searched p loss (InRows p rows) c.loop-rows.work searched c.in_ok-layer.layer c.in_ok-layer.ensures.layer
    c.len.result c.width-width.result c.len.ensures c.width-width.ensures.width (omega (arith, count, c.if-layer-levels.false))
    (InRows p c.take_layer.new.rows) (InRows p c.expand_layer.new.rows) c.args.budget c.from-most.result c.in-Some-work_with.more
    h.high c.in_ok-layer.ensures.rest c.in_ok-expand_layer.ensures.joined c.in-Some-work_with.ensures in
    record {
      searched = next.0;
      within = next.1;
      high = h.high;
      count = c.expand_layer.ensures.count ∙ c.take_layer.ensures.count ∙ c.first_key.ensures.count ∙ h.count;
    }
