use Rattle.std.proofs.Common.{rules, arith, ◌≡◌, ◌∙◌, sym, ap, lit<, Some, None, length, drop, filter_map}
use Rattle.std.proofs.lemmas.List.{length_push}
use Rattle.std.proofs.lemmas.Iterator.Consumers.{YieldsList-turn, YieldsList-end}
use Rattle.std.proofs.lemmas.Iterator.Splits.{YieldsList-from_str_split}
use Rattle.mr_text.specs.Numbers.{number_of}
use Rattle.mr_words.specs.Lost.{parts}
use Rattle.mr_words.proofs.LostDevices.{devices_are, devices_from, no_number, no_part, number_beyond, number_low}
use Rattle.mr_words.proofs.lost.lost_devices.Goals as goal

pub returns-then-number-devices : goal.returns-then-number-devices
returns-then-number-devices c =
    let t = YieldsList-turn (YieldsList-from_str_split {s = c.into_iter-part-iterator.result} 44 c.args.word.now (lit< tt) (search rules) (search rules) (search rules))
    c.loop-part.yielded _ c.loop-part.yielded_by _ _ c.in-Some.part c.in-Some.is c.next.ensures.steps in
    let is : number_of c.in-Some.part.now ≡ Some c.in-Some-read_number.number = sym (ap number_of c.as_bytes.ensures.value) ∙ sym c.read_number.ensures.value ∙ c.in-Some-read_number.is in
    sym (number_beyond c.args.devices c.loop-part.lost (parts c.args.word.now) (length c.loop-part.yielded) c.in-Some.part.now t.0 t.1 c.in-Some-read_number.number is c.if-number-devices.true)
    ∙ c.loop-part.invariant ∙ devices_are c.args.devices c.args.word.now

pub loop-part-preserved-in-Some-read_number : goal.loop-part-preserved-in-Some-read_number
loop-part-preserved-in-Some-read_number c =
    let t = YieldsList-turn (YieldsList-from_str_split {s = c.into_iter-part-iterator.result} 44 c.args.word.now (lit< tt) (search rules) (search rules) (search rules))
    c.loop-part.yielded _ c.loop-part.yielded_by _ _ c.in-Some.part c.in-Some.is c.next.ensures.steps in
    let is : number_of c.in-Some.part.now ≡ Some c.in-Some-read_number.number = sym (ap number_of c.as_bytes.ensures.value) ∙ sym c.read_number.ensures.value ∙ c.in-Some-read_number.is in
    (λ i. devices_from c.args.devices (c.with-lost.ensures i) (filter_map number_of (drop (length_push c.loop-part.yielded c.in-Some.part i) (parts c.args.word.now))))
    ∙ sym (number_low c.args.devices c.loop-part.lost (parts c.args.word.now) (length c.loop-part.yielded) c.in-Some.part.now t.0 t.1 c.in-Some-read_number.number is c.if-number-devices.false)
    ∙ c.loop-part.invariant

pub loop-part-preserved : goal.loop-part-preserved
loop-part-preserved c =
    let t = YieldsList-turn (YieldsList-from_str_split {s = c.into_iter-part-iterator.result} 44 c.args.word.now (lit< tt) (search rules) (search rules) (search rules))
    c.loop-part.yielded _ c.loop-part.yielded_by _ _ c.in-Some.part c.in-Some.is c.next.ensures.steps in
    let is : number_of c.in-Some.part.now ≡ None = sym (ap number_of c.as_bytes.ensures.value) ∙ sym c.read_number.ensures.value ∙ c.in_default.is in
    ap (λ k. devices_from c.args.devices c.loop-part.lost (filter_map number_of (drop k (parts c.args.word.now)))) (length_push c.loop-part.yielded c.in-Some.part)
    ∙ sym (no_number c.args.devices c.loop-part.lost (parts c.args.word.now) (length c.loop-part.yielded) c.in-Some.part.now t.0 t.1 is) ∙ c.loop-part.invariant

pub returns : goal.returns
returns c =
    let t = YieldsList-end (YieldsList-from_str_split {s = c.into_iter-part-iterator.result} 44 c.args.word.now (lit< tt) (search rules) (search rules) (search rules))
    c.loop-part.yielded _ c.loop-part.yielded_by _ _ c.in-None.is c.next.ensures.steps in
    sym (no_part c.args.devices c.loop-part.lost (parts c.args.word.now) (length c.loop-part.yielded) (omega (arith, t.1)))
    ∙ c.loop-part.invariant ∙ devices_are c.args.devices c.args.word.now
