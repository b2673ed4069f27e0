use Rattle.std.proofs.Common.{ℕ, refl, subst}
use Rattle.mr_eq.specs.Problems.{Loss}
use Rattle.mr_front.specs.declared.layers.Layer.{Layer}
use Rattle.mr_front.specs.Waiting.{Queue, Waits, WaitsSame}
use Rattle.mr_front.specs.Lists.{IsTidy}
use Rattle.mr_front.specs.Layers.{IsFirstLayer, IsRest}
use Rattle.mr_front.proofs.FrontierLaws.{WaitsIn, if_none_from, none-waits, none-same, first-layer, first-rest}
use Rattle.mr_front.proofs.frontier.Frontier.take_layer.Goals as goal

pub returns-in_err-key-clause-nothing : goal.returns-in_err-key-clause-nothing
returns-in_err-key-clause-nothing c =
    let old = c.self.inside.waiting in
    if_none_from c.from_residual.result ((i u : ℕ) → Waits c.args.self.now i u → ⊥)
    (subst (λ (q : Queue). (i u : ℕ) → Waits q i u → ⊥) c.self.view_is (none-waits old.problem old.lists old.tidy c.in_err-key.ensures.nothing))

pub returns-in_err-key-clause-same : goal.returns-in_err-key-clause-same
returns-in_err-key-clause-same c =
    let old = c.self.inside.waiting in
    let new = c.take_first.new.self in
    if_none_from c.from_residual.result (WaitsSame (Waits c.args.self.now) (WaitsIn new.lists))
    (subst (λ (q : Queue). WaitsSame (Waits q) (WaitsIn new.lists)) c.self.view_is
    (none-same (WaitsIn old.lists) (WaitsIn new.lists) (none-waits old.problem old.lists old.tidy c.in_err-key.ensures.nothing) (none-waits new.problem new.lists new.tidy c.in_err-key.ensures.left)))

pub returns-clause-layer : goal.returns-clause-layer
returns-clause-layer c =
    let old = c.self.inside.waiting in
    let layer : Layer = record { cost = c.in_ok-key.key.0; level = c.in_ok-key.key.1; masks = c.distinct.result } in
    subst (λ (q : Queue). IsFirstLayer q.loss (Waits q) layer) c.self.view_is
    (first-layer old.problem old.lists old.tidy (c.in_ok-key.key.0, c.in_ok-key.key.1) c.in_ok-key.list.items c.in_ok-key.ensures.first
    layer refl refl c.distinct.ensures.rises c.distinct.ensures.same)

pub returns-clause-rest : goal.returns-clause-rest
returns-clause-rest c =
    let old = c.self.inside.waiting in
    let new = c.take_first.new.self in
    let layer : Layer = record { cost = c.in_ok-key.key.0; level = c.in_ok-key.key.1; masks = c.distinct.result } in
    subst (λ (q : Queue). IsRest q.loss (Waits q) (WaitsIn new.lists) layer) c.self.view_is
    (first-rest old.problem old.lists old.tidy (c.in_ok-key.key.0, c.in_ok-key.key.1) c.in_ok-key.list.items c.in_ok-key.ensures.first
    new.lists (subst (λ (p : Loss). IsTidy p new.lists) c.take_first.ensures.loss new.tidy) layer refl refl c.in_ok-key.ensures.rest)
