use Rattle.std.proofs.Common.{rules, ◌≡◌, ℕ, ◌+◌, ◌-◌, ◌*◌, ◌≤◌, ◌∙◌, List, length, take, drop, get_or, ap, ap₂, subst, arith, length-take}
use Rattle.mr_image.specs.Images.{Layout}
use Rattle.mr_devices.specs.Places.{part_bytes}
use Rattle.mr_devices.specs.Writing.{Writes, WritesPart}
use Rattle.mr_scatter.specs.Parts.{part_in}
use Rattle.mr_scatter.proofs.PartLaws.{part-few, part-some, piece-end, piece-is, piece-some, some-turn, some-there, some-all}
use Rattle.mr_scatter.proofs.StopLaws.{on-err, some-part}
use Rattle.mr_scatter.proofs.stripes.scatter_stripe.Goals as goal

pub slice_bounds-write_at-end : goal.slice_bounds-write_at-end
slice_bounds-write_at-end g c =
    let l : Layout = c.args.scattering.now.head in
    let part : ℕ = c.w.result * c.bytes-size.result in
    let h : c.from.result * part + part ≤ length c.args.stripe.now =
    piece-end l c.args.scattering.now.lost.now c.args.stripe.now c.loop-k.k c.from.result part c.requires.lost (omega arith) c.from.ensures
    (ap₂ (λ a b. a * b) c.w.ensures c.bytes-size.ensures.number) c.requires.stripe in
    search rules

pub write_at-requires-clause-there : goal.write_at-requires-clause-there
write_at-requires-clause-there g c = some-there _ _ _ _ _ _ c.loop-k.invariant.0 c.requires.there (omega arith)

pub write_at-requires-clause-some : goal.write_at-requires-clause-some
write_at-requires-clause-some g c =
    let l : Layout = c.args.scattering.now.head in
    piece-some l c.args.scattering.now.lost.now c.args.stripe.now c.loop-k.k c.from.result (c.w.result * c.bytes-size.result) c.requires.lost (omega arith) c.from.ensures
    (ap₂ (λ a b. a * b) c.w.ensures c.bytes-size.ensures.number) c.requires.stripe (part-some l c.bytes-size.ensures.limits)

pub write_at-requires-clause-end : goal.write_at-requires-clause-end
write_at-requires-clause-end g c =
    let l : Layout = c.args.scattering.now.head in
    let part : ℕ = c.w.result * c.bytes-size.result in
    let width : part ≡ part_bytes l = ap₂ (λ a b. a * b) c.w.ensures c.bytes-size.ensures.number in
    omega (
      arith,
      width,
      part-few l c.bytes-size.ensures.limits,
      c.part_place-at.ensures.few,
      length-take (c.from.result * part + part - c.from.result * part) (drop (c.from.result * part) c.args.stripe.now),
    )

pub loop-k-preserved : goal.loop-k-preserved
loop-k-preserved g c =
    let l : Layout = c.args.scattering.now.head in
    let part : ℕ = c.w.result * c.bytes-size.result in
    let width : part ≡ part_bytes l = ap₂ (λ a b. a * b) c.w.ensures c.bytes-size.ensures.number in
    let piece : List ℕ = take (c.from.result * part + part - c.from.result * part) (drop (c.from.result * part) c.args.stripe.now) in
    let at : c.part_place-at.result ≡ (c.args.scattering.now.first + c.args.number) * part_bytes l = c.part_place-at.ensures.place ∙ ap (λ p. (c.args.scattering.now.first + c.args.number) * p) width in (
      some-turn c.loop-k.k (g.D.Devices.told c.args.devices.now) (g.D.Devices.told c.loop-k.devices) (g.D.Devices.told c.write_at.new.self)
          (λ k. (c.args.scattering.now.first + c.args.number) * part_bytes l) (λ k. part_in l c.args.stripe.now 0 (get_or c.args.scattering.now.lost.now k 0)) piece
          c.loop-k.invariant.0 (subst (λ x. Writes (g.D.Devices.told c.loop-k.devices) (g.D.Devices.told c.write_at.new.self) c.loop-k.k x piece) at c.in_ok-write_at.ensures.written)
          (piece-is l c.args.scattering.now.lost.now c.args.stripe.now c.loop-k.k c.from.result part c.requires.lost (omega arith) c.from.ensures width c.requires.stripe)
          c.in_ok-write_at.ensures.untold (length c.args.scattering.now.lost.now) c.requires.there (omega arith),
      c.in_ok-write_at.ensures.cause.quiet ∙ c.loop-k.invariant.1,
    )

pub returns-clause-stored : goal.returns-clause-stored
returns-clause-stored g c = some-all c.loop-k.k _ _ _ _ (length c.args.scattering.now.lost.now) c.loop-k.invariant.0 c.requires.there (omega arith)

pub returns-in_err-write_at-clause-front : goal.returns-in_err-write_at-clause-front
returns-in_err-write_at-clause-front g c =
    let l : Layout = c.args.scattering.now.head in
    let part : ℕ = c.w.result * c.bytes-size.result in
    let width : part ≡ part_bytes l = ap₂ (λ a b. a * b) c.w.ensures c.bytes-size.ensures.number in
    let piece : List ℕ = take (c.from.result * part + part - c.from.result * part) (drop (c.from.result * part) c.args.stripe.now) in
    let at : c.part_place-at.result ≡ (c.args.scattering.now.first + c.args.number) * part_bytes l = c.part_place-at.ensures.place ∙ ap (λ p. (c.args.scattering.now.first + c.args.number) * p) width in
    on-err c.from_residual.result
    (some-part c.loop-k.k (g.D.Devices.told c.args.devices.now) (g.D.Devices.told c.loop-k.devices) (g.D.Devices.told c.write_at.new.self)
    (λ k. (c.args.scattering.now.first + c.args.number) * part_bytes l) (λ k. part_in l c.args.stripe.now 0 (get_or c.args.scattering.now.lost.now k 0)) piece
    c.loop-k.invariant.0 (subst (λ x. WritesPart (g.D.Devices.told c.loop-k.devices) (g.D.Devices.told c.write_at.new.self) c.loop-k.k x piece) at c.in_err-write_at.ensures.part)
    (piece-is l c.args.scattering.now.lost.now c.args.stripe.now c.loop-k.k c.from.result part c.requires.lost (omega arith) c.from.ensures width c.requires.stripe)
    (length c.args.scattering.now.lost.now) c.requires.there (omega arith))
