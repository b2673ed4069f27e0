use Rattle.std.proofs.Common.{ap, ◌∙◌, Err, Ok}
use Rattle.std.proofs.lemmas.Result.{err_from_is_err_and}
use Rattle.mr_eq.specs.Problems.{Loss}
use Rattle.mr_steps.specs.Losses.{determined_given, lost_given, symbols_of_devices, targets_given}
use Rattle.mr_steps.proofs.Chains.{gives_err, gives_named, gives_then}
use Rattle.mr_steps.proofs.LostSymbols.{loss-same}
use Rattle.mr_steps.proofs.loss.loss_in.Goals as goal

pub returns-in_err-devices-clause-given : goal.returns-in_err-devices-clause-given
unfolding targets_given
returns-in_err-devices-clause-given c =
    let p = err_from_is_err_and c.from_residual.result c.from_residual.ensures.1 in
    rw (p.1, p.2) (gives_err (λ set. set) (λ (problem : Loss). problem.targets) _ (lost_given c.args.matrix.now.devices c.args.lost.now)
    (λ devices. determined_given c.args.matrix.now (symbols_of_devices c.args.matrix.now devices))
    (gives_named (λ set. set) (Err c.in_err-devices.field-0.0) (λ count. lost_given count c.args.lost.now) (c.n.ensures ∙ ap (λ d. d.devices) c.shape.ensures.shape) c.in_err-devices.ensures.given))

pub problem_of-requires : goal.problem_of-requires
problem_of-requires c = c.symbols_of-targets.ensures.below

pub returns-clause-given : goal.returns-clause-given
unfolding targets_given
returns-clause-given c = gives_then (λ set. set) (λ (problem : Loss). problem.targets) c.in_ok-devices.devices c.problem_of.result (lost_given c.args.matrix.now.devices c.args.lost.now)
    (λ devices. determined_given c.args.matrix.now (symbols_of_devices c.args.matrix.now devices))
    (gives_named (λ set. set) (Ok c.in_ok-devices.devices) (λ count. lost_given count c.args.lost.now) (c.n.ensures ∙ ap (λ d. d.devices) c.shape.ensures.shape) c.in_ok-devices.ensures.given)
    (gives_named (λ (problem : Loss). problem.targets) c.problem_of.result (determined_given c.args.matrix.now) c.symbols_of-targets.ensures.symbols c.problem_of.ensures.given)

pub returns-clause-loss : goal.returns-clause-loss
returns-clause-loss c = loss-same c.args.matrix.now c.symbols_of-targets.result c.problem_of.result c.problem_of.ensures.loss
