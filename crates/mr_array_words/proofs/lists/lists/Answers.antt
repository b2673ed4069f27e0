use Rattle.std.proofs.Common.{rules, arith, ◌≡◌, ◌∙◌, ◌+◌, sym, ap, is_some, lit<, length, true, false}
use Rattle.std.proofs.lemmas.List.{length_push}
use Rattle.std.proofs.lemmas.Iterator.Consumers.{YieldsList-turn, YieldsList-end}
use Rattle.std.proofs.lemmas.Iterator.Splits.{YieldsList-from_str_split}
use Rattle.mr_text.specs.Numbers.{number_of}
use Rattle.mr_words.specs.Lost.{parts}
use Rattle.mr_array_words.proofs.Listing.{a_number, counted_all, no_number, none_left, numbers_left, one_too_many}
use Rattle.mr_array_words.proofs.lists.lists.Goals as goal

pub returns-then-left-eq0 : goal.returns-then-left-eq0
returns-then-left-eq0 c =
    let t = YieldsList-turn (YieldsList-from_str_split {s = c.into_iter-part-iterator.result} 44 c.args.word.now (lit< tt) (search rules) (search rules) (search rules))
    c.loop-part.yielded _ c.loop-part.yielded_by _ _ c.in-Some.part c.in-Some.is c.next.ensures.steps in
    let some : is_some (number_of c.in-Some.part.now) ≡ true = sym (ap (λ t. is_some (number_of t)) c.as_bytes.ensures.value)
    ∙ sym (ap is_some c.read_number.ensures.value) ∙ sym c.is_some.ensures ∙ c.if-is_some.true in
    one_too_many c.args.word.now c.args.count c.loop-part.left (numbers_left (parts c.args.word.now) (length c.loop-part.yielded + 1))
    (c.loop-part.invariant ∙ ap (λ n. c.args.count + n) (a_number (parts c.args.word.now) (length c.loop-part.yielded) c.in-Some.part.now t.0 t.1 some))
    (omega (arith, c.if-left-eq0.true))

pub loop-part-preserved-then-is_some : goal.loop-part-preserved-then-is_some
loop-part-preserved-then-is_some c =
    let t = YieldsList-turn (YieldsList-from_str_split {s = c.into_iter-part-iterator.result} 44 c.args.word.now (lit< tt) (search rules) (search rules) (search rules))
    c.loop-part.yielded _ c.loop-part.yielded_by _ _ c.in-Some.part c.in-Some.is c.next.ensures.steps in
    let some : is_some (number_of c.in-Some.part.now) ≡ true = sym (ap (λ t. is_some (number_of t)) c.as_bytes.ensures.value)
    ∙ sym (ap is_some c.read_number.ensures.value) ∙ sym c.is_some.ensures ∙ c.if-is_some.true in
    let one = a_number (parts c.args.word.now) (length c.loop-part.yielded) c.in-Some.part.now t.0 t.1 some in
    let next = ap (numbers_left (parts c.args.word.now)) (length_push c.loop-part.yielded c.in-Some.part) in
    omega (arith, c.loop-part.invariant, one, next, c.if-left-eq0.false)

pub loop-part-preserved : goal.loop-part-preserved
loop-part-preserved c =
    let t = YieldsList-turn (YieldsList-from_str_split {s = c.into_iter-part-iterator.result} 44 c.args.word.now (lit< tt) (search rules) (search rules) (search rules))
    c.loop-part.yielded _ c.loop-part.yielded_by _ _ c.in-Some.part c.in-Some.is c.next.ensures.steps in
    let none : is_some (number_of c.in-Some.part.now) ≡ false = sym (ap (λ t. is_some (number_of t)) c.as_bytes.ensures.value)
    ∙ sym (ap is_some c.read_number.ensures.value) ∙ sym c.is_some.ensures ∙ c.if-is_some.false in
    let same = no_number (parts c.args.word.now) (length c.loop-part.yielded) c.in-Some.part.now t.0 t.1 none in
    let next = ap (numbers_left (parts c.args.word.now)) (length_push c.loop-part.yielded c.in-Some.part) in
    omega (arith, c.loop-part.invariant, same, next)

pub returns : goal.returns
returns c =
    let t = YieldsList-end (YieldsList-from_str_split {s = c.into_iter-part-iterator.result} 44 c.args.word.now (lit< tt) (search rules) (search rules) (search rules))
    c.loop-part.yielded _ c.loop-part.yielded_by _ _ c.in-None.is c.next.ensures.steps in
    counted_all c.args.word.now c.args.count c.loop-part.left
    (c.loop-part.invariant ∙ ap (λ n. c.args.count + n) (none_left (parts c.args.word.now) (length c.loop-part.yielded) (omega (arith, t.1))))
