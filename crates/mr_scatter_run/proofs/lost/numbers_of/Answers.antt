use Rattle.std.proofs.Common.{rules, arith, ◌≡◌, ◌∙◌, ◌<◌, ◌++◌, sym, ap, ap₂, lit<, Some, None, length, drop, filter_map}
use Rattle.std.proofs.lemmas.List.{length_push}
use Rattle.std.proofs.lemmas.Iterator.Consumers.{YieldsList-turn, YieldsList-end}
use Rattle.std.proofs.lemmas.Iterator.Splits.{YieldsList-from_str_split}
use Rattle.mr_text.specs.Numbers.{number_of}
use Rattle.mr_words.specs.Lost.{lost_numbers, parts}
use Rattle.mr_scatter_run.proofs.LostLaws.{part-low, part-more, part-none, parts-all}
use Rattle.mr_scatter_run.proofs.lost.numbers_of.Goals as goal

pub overflow_cast-number : goal.overflow_cast-number
unfolding lost_numbers
overflow_cast-number c =
    let t = YieldsList-turn (YieldsList-from_str_split {s = c.into_iter-part-iterator.result} 44 c.args.word.now (lit< tt) (search rules) (search rules) (search rules))
    c.loop-part.yielded _ c.loop-part.yielded_by _ _ c.in-Some.part c.in-Some.is c.next.ensures.steps in
    let is : number_of c.in-Some.part.now ≡ Some c.in-Some-read_number.number = sym (ap number_of c.as_bytes.ensures.value) ∙ sym c.read_number.ensures.value ∙ c.in-Some-read_number.is in
    let low : c.in-Some-read_number.number < 128 = part-low (parts c.args.word.now) c.loop-part.list.items (length c.loop-part.yielded) c.loop-part.invariant c.in-Some.part.now t.0 t.1 c.in-Some-read_number.number 128 is c.requires in
    omega (arith, low)

pub loop-part-preserved-in-Continue-1 : goal.loop-part-preserved-in-Continue-1
loop-part-preserved-in-Continue-1 c =
    let t = YieldsList-turn (YieldsList-from_str_split {s = c.into_iter-part-iterator.result} 44 c.args.word.now (lit< tt) (search rules) (search rules) (search rules))
    c.loop-part.yielded _ c.loop-part.yielded_by _ _ c.in-Some.part c.in-Some.is c.next.ensures.steps in
    let is : number_of c.in-Some.part.now ≡ Some c.in-Some-read_number.number = sym (ap number_of c.as_bytes.ensures.value) ∙ sym c.read_number.ensures.value ∙ c.in-Some-read_number.is in
    ap₂ (λ xs k. xs ++ filter_map number_of (drop k (parts c.args.word.now))) c.in_ok-push.ensures.items (length_push c.loop-part.yielded c.in-Some.part)
    ∙ part-more (parts c.args.word.now) c.loop-part.list.items (length c.loop-part.yielded) c.loop-part.invariant c.in-Some.part.now t.0 t.1 c.in-Some-read_number.number is

pub loop-part-preserved : goal.loop-part-preserved
loop-part-preserved c =
    let t = YieldsList-turn (YieldsList-from_str_split {s = c.into_iter-part-iterator.result} 44 c.args.word.now (lit< tt) (search rules) (search rules) (search rules))
    c.loop-part.yielded _ c.loop-part.yielded_by _ _ c.in-Some.part c.in-Some.is c.next.ensures.steps in
    let is : number_of c.in-Some.part.now ≡ None = sym (ap number_of c.as_bytes.ensures.value) ∙ sym c.read_number.ensures.value ∙ c.in_default.is in
    ap (λ k. c.loop-part.list.items ++ filter_map number_of (drop k (parts c.args.word.now))) (length_push c.loop-part.yielded c.in-Some.part)
    ∙ part-none (parts c.args.word.now) c.loop-part.list.items (length c.loop-part.yielded) c.loop-part.invariant c.in-Some.part.now t.0 t.1 is

pub returns : goal.returns
unfolding lost_numbers
returns c =
    let t = YieldsList-end (YieldsList-from_str_split {s = c.into_iter-part-iterator.result} 44 c.args.word.now (lit< tt) (search rules) (search rules) (search rules))
    c.loop-part.yielded _ c.loop-part.yielded_by _ _ c.in-None.is c.next.ensures.steps in
    parts-all (parts c.args.word.now) c.loop-part.list.items (length c.loop-part.yielded) c.loop-part.invariant (omega (arith, t.1))
