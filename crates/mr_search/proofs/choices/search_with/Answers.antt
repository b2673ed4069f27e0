use Rattle.std.proofs.Common.{◌≡◌, ◌<◌, ◌≤◌, ◌+◌, ◌∙◌, ℕ, ap, sym, subst, arith, length, Option}
use Rattle.mr_model.specs.Members.{members}
use Rattle.mr_model.specs.Code.{cost, plain}
use Rattle.mr_model.specs.Choice.{choice_of}
use Rattle.mr_eq.specs.Problems.{Loss, search_for}
use Rattle.mr_eq.specs.Choices.{found_of}
use Rattle.mr_eq.specs.declared.found.Found.TheVariants.{Least, Spent}
use Rattle.std.proofs.lemmas.Bool.{eqb-true}
use Rattle.mr_bound.specs.Cost.{least_cost}
use Rattle.mr_bound.specs.Seats.{problem_of}
use Rattle.mr_front.specs.Layers.{IsFirst}
use Rattle.mr_front.proofs.SearchSteps.{searched_first}
use Rattle.mr_front.proofs.LossSteps.{starts, plain-bound, lost-searched, child-floor}
use Rattle.mr_front.proofs.SearchAnswers.{waits-some, last-answer, spent-answer, next-searched}
use Rattle.mr_search.specs.Crew.{InCrew, LateWith}
use Rattle.mr_search.proofs.choices.search_with.Goals as goal

pub loop-key-init : goal.loop-key-init
loop-key-init g c =
    let p = c.args.inputs.now.equations.now in
    let set = c.plain-plain.result in
    let is : set ≡ plain p.code p.avail p.targets =
    subst (λ (x : Loss). set ≡ plain x.code x.avail x.targets) (sym c.requires.problem) c.plain-plain.ensures.value in
    let priced : c.cost.result ≡ cost p.code set =
    subst (λ (x : Loss). c.cost.result ≡ cost x.code set) (sym c.requires.problem) c.cost.ensures.cost in
    record {
      searched = searched_first (search_for p) (InCrew p c.args.crew.now) (starts (InCrew p c.args.crew.now) c.requires.waits);
      within = omega arith;
      least = plain-bound p c.width-width.ensures.loss c.from-least.result (c.from-least.ensures ∙ priced ∙ ap (cost p.code) is);
      idle = c.requires.idle;
    }

pub take_layer-requires-clause-first : goal.take_layer-requires-clause-first
take_layer-requires-clause-first g c =
    let p = c.args.inputs.now.equations.now in
    subst (λ (o : Option (ℕ × ℕ)). IsFirst p (InCrew p c.first_key.new.crew) (LateWith c.first_key.new.crew) o) c.in-Some.is c.in_ok-key.ensures.first

pub unreachable-requires : goal.unreachable-requires
unreachable-requires g c =
    let p = c.args.inputs.now.equations.now in
    let loss = c.width-width.ensures.loss in
    let crew = c.first_key.new.crew in
    let h = c.loop-key.invariant in
    let searched = lost-searched p loss (InCrew p c.loop-key.crew) (InCrew p crew) c.loop-key.work c.loop-key.least h.searched h.least c.in_ok-key.ensures.lost in
    waits-some p loss (InCrew p crew) c.loop-key.work searched
    (subst (λ (o : Option (ℕ × ℕ)). IsFirst p (InCrew p crew) (LateWith crew) o) c.in_default.is c.in_ok-key.ensures.first).0

pub returns-then-layer-levels : goal.returns-then-layer-levels
returns-then-layer-levels g c =
    let p = c.args.inputs.now.equations.now in
    let loss = c.width-width.ensures.loss in
    let crew = c.first_key.new.crew in
    let h = c.loop-key.invariant in
    let searched = lost-searched p loss (InCrew p c.loop-key.crew) (InCrew p crew) c.loop-key.work c.loop-key.least h.searched h.least c.in_ok-key.ensures.lost in
    let count = c.levels-levels.ensures ∙ sym (ap (λ (x : Loss). length (members x.targets)) c.requires.problem) in
    let same = last-answer p loss (InCrew p crew) c.loop-key.work searched c.in_ok-layer.layer c.in_ok-layer.ensures.layer c.args.budget c.get.result
    (omega (arith, count, c.if-layer-levels.true)) h.within c.get.ensures in
    subst (λ (x : Loss). Least c.get.result c.loop-key.work ≡ found_of (choice_of x.code x.avail x.targets c.args.budget)) c.requires.problem same

pub returns-in_default-work_with : goal.returns-in_default-work_with
returns-in_default-work_with g c =
    let p = c.args.inputs.now.equations.now in
    let loss = c.width-width.ensures.loss in
    let crew = c.first_key.new.crew in
    let h = c.loop-key.invariant in
    let searched = lost-searched p loss (InCrew p c.loop-key.crew) (InCrew p crew) c.loop-key.work c.loop-key.least h.searched h.least c.in_ok-key.ensures.lost in
    let count = c.levels-levels.ensures ∙ sym (ap (λ (x : Loss). length (members x.targets)) c.requires.problem) in
    let is : c.plain-plain.result ≡ plain p.code p.avail p.targets =
    subst (λ (x : Loss). c.plain-plain.result ≡ plain x.code x.avail x.targets) (sym c.requires.problem) c.plain-plain.ensures.value in
    let same = spent-answer p loss (InCrew p crew) c.loop-key.work searched c.in_ok-layer.layer c.in_ok-layer.ensures.layer
    c.len.result c.width-width.result c.len.ensures c.width-width.ensures.width (omega (arith, count, c.if-layer-levels.false))
    c.args.budget c.plain-plain.result is c.in_default-work_with.ensures in
    subst (λ (x : Loss). Spent c.plain-plain.result ≡ found_of (choice_of x.code x.avail x.targets c.args.budget)) c.requires.problem same

pub expand_layer-requires-clause-task : goal.expand_layer-requires-clause-task
expand_layer-requires-clause-task g c κs within =
    let p = c.args.inputs.now.equations.now in
    let loss = c.width-width.ensures.loss in
    let crew = c.first_key.new.crew in
    let h = c.loop-key.invariant in
    let searched = lost-searched p loss (InCrew p c.loop-key.crew) (InCrew p crew) c.loop-key.work c.loop-key.least h.searched h.least c.in_ok-key.ensures.lost in
    let l = c.in_ok-layer.layer in
    let count : c.levels-levels.result ≡ length (members p.targets) = c.levels-levels.ensures ∙ sym (ap (λ (x : Loss). length (members x.targets)) c.requires.problem) in
    let low : l.level < length (members p.targets) = omega (arith, count, c.if-layer-levels.false) in
    record {
      chunks = c.in_ok-bound.ensures.chunks ∙ c.len-chunks.ensures;
      problem = c.requires.problem ∙ sym c.in_ok-bound.ensures.problem;
      level = low;
      floor = λ last. child-floor p loss (InCrew p crew) c.loop-key.work searched l c.in_ok-layer.ensures.layer low
          (omega (arith, eqb-true (c.from.result + 1) c.from-in-Some.result last, c.from.ensures, c.from-in-Some.ensures, count));
    }

pub loop-key-preserved : goal.loop-key-preserved
loop-key-preserved g c =
    let p = c.args.inputs.now.equations.now in
    let loss = c.width-width.ensures.loss in
    let crew = c.first_key.new.crew in
    let h = c.loop-key.invariant in
    let searched = lost-searched p loss (InCrew p c.loop-key.crew) (InCrew p crew) c.loop-key.work c.loop-key.least h.searched h.least c.in_ok-key.ensures.lost in
    let l = c.in_ok-layer.layer in
    let count = c.levels-levels.ensures ∙ sym (ap (λ (x : Loss). length (members x.targets)) c.requires.problem) in
    let next = next-searched p loss (InCrew p crew) c.loop-key.work searched l c.in_ok-layer.ensures.layer
    c.len.result c.width-width.result c.len.ensures c.width-width.ensures.width (omega (arith, count, c.if-layer-levels.false))
    (InCrew p c.take_layer.new.crew) (InCrew p c.expand_layer.new.crew) c.args.budget (least_cost p) c.in-Some-work_with.more
    (omega arith) c.in_ok-layer.ensures.rest c.in_ok-expand_layer.ensures.joined c.in-Some-work_with.ensures in
    let known : least_cost (problem_of c.in_ok-bound.bound) ≤ c.read-least.result = c.read-least.ensures.least in
    record {
      searched = next.0;
      within = next.1;
      least = subst (λ (x : Loss). least_cost x ≤ c.read-least.result) (c.in_ok-bound.ensures.problem ∙ sym c.requires.problem) known;
      idle = c.in_ok-expand_layer.ensures.idle;
    }
