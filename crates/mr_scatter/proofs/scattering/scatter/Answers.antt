use Rattle.std.proofs.Common.{◌≡◌, ◌<◌, ◌*◌, ◌∙◌, length, get_or, arith, ap, sym, subst, refl, Err}
use Rattle.std.proofs.lemmas.List.Elements.{All-get_or}
use Rattle.mr_image.specs.Images.{Layout}
use Rattle.mr_scatter.proofs.PartLaws.{scattered-open, scattered-short, scattered-turn, scattered-all}
use Rattle.mr_devices.specs.Places.{part_bytes}
use Rattle.mr_scatter.specs.Parts.{Stores, device_text}
use Rattle.mr_scatter.proofs.StopLaws.{scattered-kept, scattered-front, stopped-short, stopped-long, stripe-some}
use Rattle.mr_scatter.proofs.scattering.scatter.Goals as goal

pub scatter_next-requires-clause-there : goal.scatter_next-requires-clause-there
scatter_next-requires-clause-there g c = scattered-open _ _ _ _ _ _ _ _ _ _ _ _ c.loop-number.invariant c.requires.there

pub returns-in-Err-clause-wrong : goal.returns-in-Err-clause-wrong
returns-in-Err-clause-wrong g c h body told = (
  scattered-short c.args.scattering.now.head c.args.scattering.now.first c.args.scattering.now.lost.now c.loop-number.number _ _ _ _ _ _ _ _ (length c.loop-number.stripe) c.loop-number.invariant (omega arith)
      (c.loop-number.auto.stripe ∙ c.requires.stripe) (c.in-Err.ensures.wrong (ap Err h)) body told,
  stopped-short c.args.scattering.now.head c.args.scattering.now.first c.args.scattering.now.lost.now c.loop-number.number _ _ _ _ _ _ _ _ (length c.loop-number.stripe) c.loop-number.invariant (omega arith)
      (c.loop-number.auto.stripe ∙ c.requires.stripe) (c.in-Err.ensures.wrong (ap Err h)) body told,
)

pub returns-in-Err-clause-kept : goal.returns-in-Err-clause-kept
returns-in-Err-clause-kept g c other =
    scattered-kept c.args.scattering.now.head c.args.scattering.now.first c.args.scattering.now.lost.now c.loop-number.number _ _ _ _ _ _ _ _ c.loop-number.invariant c.requires.there
    (λ k low. All-get_or (λ d. d < c.args.scattering.now.head.devices) c.args.scattering.now.lost.now k 0 low c.requires.lost) _ (c.in-Err.ensures.kept c.in-Err.fault refl other)

pub returns-in-Err-clause-front : goal.returns-in-Err-clause-front
returns-in-Err-clause-front g c h =
    let front = c.in-Err.ensures.front (ap Err h) in
    scattered-front c.args.scattering.now.head c.args.scattering.now.first c.args.scattering.now.lost.now c.loop-number.number _ _ _ _ _ _ _ _ c.loop-number.invariant c.requires.there
    (λ k low. All-get_or (λ d. d < c.args.scattering.now.head.devices) c.args.scattering.now.lost.now k 0 low c.requires.lost) _ _ c.scatter_next.new.stripe front.0
    (c.scatter_next.auto.stripe ∙ c.loop-number.auto.stripe ∙ c.requires.stripe) front.1

pub returns-in-Err-end-clause-kept : goal.returns-in-Err-end-clause-kept
returns-in-Err-end-clause-kept g c other body told =
    let same : c.loop-number.number ≡ c.stripes.result = omega (arith, c.stripes.ensures.number, c.stripes-number-end.ensures.number) in
    subst (λ n. Stores (g.D.Devices.told c.args.devices.now) (g.D.Devices.told c.loop-number.devices) (λ k. c.args.scattering.now.first * part_bytes c.args.scattering.now.head)
    (λ k. device_text c.args.scattering.now.head body (get_or c.args.scattering.now.lost.now k 0) n)) same
    (scattered-kept c.args.scattering.now.head c.args.scattering.now.first c.args.scattering.now.lost.now c.loop-number.number _ _ _ _ _ _ _ _ c.loop-number.invariant c.requires.there
    (λ k low. All-get_or (λ d. d < c.args.scattering.now.head.devices) c.args.scattering.now.lost.now k 0 low c.requires.lost) _ refl body told)

pub returns-in-Err-end-clause-wrong : goal.returns-in-Err-end-clause-wrong
returns-in-Err-end-clause-wrong g c h body told =
    let all : c.loop-number.number ≡ c.args.scattering.now.head.stripes = omega (arith, c.stripes-number-end.ensures.number) in
    let long = stopped-long c.args.scattering.now.head c.args.scattering.now.first c.args.scattering.now.lost.now c.loop-number.number _ _ _ _ _ _ _ _ c.loop-number.invariant all
    (stripe-some c.args.scattering.now.head c.stripes.ensures.limits) (c.in-Err-end.ensures.wrong (ap Err h)) body told in
    (long.0, c.stripes.ensures.number ∙ sym all ∙ long.1)

pub loop-number-preserved : goal.loop-number-preserved
loop-number-preserved g c =
    let l : Layout = c.args.scattering.now.head in
    scattered-turn l c.args.scattering.now.first c.args.scattering.now.lost.now c.loop-number.number
    (g.S.Source.left c.args.source.now) (g.S.Source.left c.loop-number.source) (g.S.Source.left c.scatter_next.new.source)
    (g.D.Devices.told c.args.devices.now) (g.D.Devices.told c.loop-number.devices) (g.D.Devices.told c.scatter_next.new.devices)
    (g.S.Source.faults c.args.source.now) (g.S.Source.faults c.loop-number.source) (g.D.Devices.faults c.args.devices.now) (g.D.Devices.faults c.loop-number.devices)
    (g.S.Source.faults c.scatter_next.new.source) (g.D.Devices.faults c.scatter_next.new.devices) c.scatter_next.new.stripe
    c.loop-number.invariant c.in-Ok.ensures.next (c.scatter_next.auto.stripe ∙ c.loop-number.auto.stripe ∙ c.requires.stripe)
    c.in-Ok.ensures.stored c.in-Ok.ensures.untold c.requires.there (λ k low. All-get_or (λ d. d < l.devices) c.args.scattering.now.lost.now k 0 low c.requires.lost)
    c.in-Ok.ensures.source_quiet c.in-Ok.ensures.quiet

pub returns-in-Ok-end-clause-stored : goal.returns-in-Ok-end-clause-stored
returns-in-Ok-end-clause-stored g c =
    scattered-all c.args.scattering.now.head c.args.scattering.now.first c.args.scattering.now.lost.now c.loop-number.number _ _ _ _ _ _ _ _ c.loop-number.invariant (omega arith) c.in-Ok-end.ensures.ended
