use Rattle.std.proofs.Common.{◌≡◌, ℕ, ◌+◌, ◌/◌, ◌<◌, ◌≤◌, ◌∙◌, List, length, get_or, replicate, take, drop, sym, ap, ap₂, subst, arith}
use Rattle.std.specs.Prelude.{IsSome, None, true, false}
use Rattle.std.proofs.lemmas.Result.{on_ok_weaker, on_err_weaker}
use Rattle.mr_model.specs.Sets.{has}
use Rattle.mr_image.specs.Images.{Layout, IsLayout, stripe_symbols}
use Rattle.mr_devices.specs.Places.{device_place}
use Rattle.mr_gather.proofs.ArrayLaws.{device-low, place-end, gathered-none, gathered-read, slot-fits, slot-read}
use Rattle.mr_gather.proofs.SlotLaws.{fails-one, keeps-one}
use Rattle.mr_gather.proofs.stripes.gather_symbol.Goals as goal

pub returns-then-not-contains-clause-made : goal.returns-then-not-contains-clause-made
returns-then-not-contains-clause-made g c devices told =
    c.clear.ensures ∙ ap (λ n. replicate n 0) c.requires.bytes
    ∙ sym (gathered-none c.args.gathering.now.head devices c.args.gathering.now.set c.args.gathering.now.first c.args.number c.args.symbol (sym c.contains.ensures ∙ c.if-not-contains.true))

pub read_slot-requires : goal.read_slot-requires
read_slot-requires g c =
    let l : Layout = c.args.gathering.now.head in
    let device : c.from.result / c.w-w.result ≡ c.args.symbol / l.symbols_per_device = ap₂ (λ a b. a / b) c.from.ensures c.w-w.ensures in
    let low : c.args.symbol / l.symbols_per_device < l.devices = device-low l c.args.symbol c.symbols-within_limits.ensures.limits c.requires.symbol in
    slot-fits g.E.Eye.sight c.args.eyes.now (c.from.result / c.w-w.result) c.index-eyes-from.result c.place_on_device-at.result (length c.args.bytes.now) _ (omega (arith, device, low, c.requires.devices)) c.requires.long
    (omega (arith, c.place_on_device-at.ensures, c.requires.bytes, place-end l c.args.gathering.now.first c.args.number c.args.symbol c.symbols-within_limits.ensures.limits c.requires.number))

pub returns-clause-made : goal.returns-clause-made
returns-clause-made g c =
    let l : Layout = c.args.gathering.now.head in
    let device : c.from.result / c.w-w.result ≡ c.args.symbol / l.symbols_per_device = ap₂ (λ a b. a / b) c.from.ensures c.w-w.ensures in
    let low : c.args.symbol / l.symbols_per_device < l.devices = device-low l c.args.symbol c.symbols-within_limits.ensures.limits c.requires.symbol in
    let member : has c.args.gathering.now.set c.args.symbol ≡ true = sym c.contains.ensures ∙ c.if-not-contains.false in
    on_ok_weaker c.read_slot.result (λ read devices told.
    slot-read g.E.Eye.sight c.args.eyes.now (c.from.result / c.w-w.result) c.index-eyes-from.result devices c.read_slot.new.bytes (length c.args.bytes.now) c.place_on_device-at.result
    (omega (arith, device, low, c.requires.devices)) (subst (λ k. IsSome (get_or c.args.eyes.now k None)) (sym device) (c.requires.present c.args.symbol member)) told read
    ∙ ap₂ (λ n at. take n (drop at (devices (c.from.result / c.w-w.result)))) c.requires.bytes c.place_on_device-at.ensures
    ∙ ap (λ k. take l.symbol_bytes (drop (device_place l (c.args.gathering.now.first + c.args.number) c.args.symbol) (devices k))) device
    ∙ sym (gathered-read l devices c.args.gathering.now.set c.args.gathering.now.first c.args.number c.args.symbol member)) c.read_slot.ensures.read

pub returns-clause-kept : goal.returns-clause-kept
returns-clause-kept g c =
    let l : Layout = c.args.gathering.now.head in
    let device : c.from.result / c.w-w.result ≡ c.args.symbol / l.symbols_per_device = ap₂ (λ a b. a / b) c.from.ensures c.w-w.ensures in
    let low : c.args.symbol / l.symbols_per_device < l.devices = device-low l c.args.symbol c.symbols-within_limits.ensures.limits c.requires.symbol in
    keeps-one g.E.Eye.sight g.E.Eye.faults c.args.eyes.now (c.from.result / c.w-w.result) c.index-eyes-from.result c.read_slot.new.slot (omega (arith, device, low, c.requires.devices)) c.read_slot.ensures.kept

pub returns-clause-cause : goal.returns-clause-cause
returns-clause-cause g c =
    let l : Layout = c.args.gathering.now.head in
    let device : c.from.result / c.w-w.result ≡ c.args.symbol / l.symbols_per_device = ap₂ (λ a b. a / b) c.from.ensures c.w-w.ensures in
    let low : c.args.symbol / l.symbols_per_device < l.devices = device-low l c.args.symbol c.symbols-within_limits.ensures.limits c.requires.symbol in
    on_err_weaker c.read_slot.result (fails-one g.E.Eye.sight g.E.Eye.faults c.args.eyes.now (c.from.result / c.w-w.result) c.index-eyes-from.result c.read_slot.new.slot (omega (arith, device, low, c.requires.devices))) c.read_slot.ensures.cause
