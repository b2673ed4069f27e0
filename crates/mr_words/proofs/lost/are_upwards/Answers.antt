use Rattle.std.proofs.Common.{rules, arith, ◌≡◌, ◌∙◌, sym, ap, lit<, Some, None, length, ◌+◌, drop}
use Rattle.std.proofs.lemmas.List.{length_push}
use Rattle.std.proofs.lemmas.Iterator.Consumers.{YieldsList-turn, YieldsList-end}
use Rattle.std.proofs.lemmas.Iterator.Splits.{YieldsList-from_str_split}
use Rattle.mr_text.specs.Numbers.{number_of}
use Rattle.mr_words.specs.Lost.{parts}
use Rattle.mr_words.proofs.Upwards.{part_falls, part_is_none, part_rises, parts_end, rises_from, rises_is}
use Rattle.mr_words.proofs.lost.are_upwards.Goals as goal

pub loop-part-preserved : goal.loop-part-preserved
loop-part-preserved c =
    let t = YieldsList-turn (YieldsList-from_str_split {s = c.into_iter-part-iterator.result} 44 c.args.word.now (lit< tt) (search rules) (search rules) (search rules))
    c.loop-part.yielded _ c.loop-part.yielded_by _ _ c.in-Some.part c.in-Some.is c.next.ensures.steps in
    let is : number_of c.in-Some.part.now ≡ Some c.in-Some-read_number.number = sym (ap number_of c.as_bytes.ensures.value) ∙ sym c.read_number.ensures.value ∙ c.in-Some-read_number.is in
    ap (λ k. rises_from (c.in-Some-read_number.number + 1) (drop k (parts c.args.word.now))) (length_push c.loop-part.yielded c.in-Some.part)
    ∙ sym (part_rises (parts c.args.word.now) (length c.loop-part.yielded) c.loop-part.least c.in-Some.part.now t.0 t.1 c.in-Some-read_number.number is c.if-least-number.true)
    ∙ c.loop-part.invariant

pub returns-in_default : goal.returns-in_default
returns-in_default c =
    let t = YieldsList-turn (YieldsList-from_str_split {s = c.into_iter-part-iterator.result} 44 c.args.word.now (lit< tt) (search rules) (search rules) (search rules))
    c.loop-part.yielded _ c.loop-part.yielded_by _ _ c.in-Some.part c.in-Some.is c.next.ensures.steps in
    let is : number_of c.in-Some.part.now ≡ Some c.in-Some-read_number.number = sym (ap number_of c.as_bytes.ensures.value) ∙ sym c.read_number.ensures.value ∙ c.in-Some-read_number.is in
    sym (part_falls (parts c.args.word.now) (length c.loop-part.yielded) c.loop-part.least c.in-Some.part.now t.0 t.1 c.in-Some-read_number.number is c.if-least-number.false)
    ∙ c.loop-part.invariant ∙ rises_is c.args.word.now

pub returns-in_default-2 : goal.returns-in_default-2
returns-in_default-2 c =
    let t = YieldsList-turn (YieldsList-from_str_split {s = c.into_iter-part-iterator.result} 44 c.args.word.now (lit< tt) (search rules) (search rules) (search rules))
    c.loop-part.yielded _ c.loop-part.yielded_by _ _ c.in-Some.part c.in-Some.is c.next.ensures.steps in
    let is : number_of c.in-Some.part.now ≡ None = sym (ap number_of c.as_bytes.ensures.value) ∙ sym c.read_number.ensures.value ∙ c.in_default.is in
    sym (part_is_none (parts c.args.word.now) (length c.loop-part.yielded) c.loop-part.least c.in-Some.part.now t.0 t.1 is)
    ∙ c.loop-part.invariant ∙ rises_is c.args.word.now

pub returns : goal.returns
returns c =
    let t = YieldsList-end (YieldsList-from_str_split {s = c.into_iter-part-iterator.result} 44 c.args.word.now (lit< tt) (search rules) (search rules) (search rules))
    c.loop-part.yielded _ c.loop-part.yielded_by _ _ c.in-None.is c.next.ensures.steps in
    sym (parts_end (parts c.args.word.now) (length c.loop-part.yielded) c.loop-part.least (omega (arith, t.1)))
    ∙ c.loop-part.invariant ∙ rises_is c.args.word.now
