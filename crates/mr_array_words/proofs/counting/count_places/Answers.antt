use Rattle.std.proofs.Common.{arith, ◌∙◌, sym, ap, true, false}
use Rattle.mr_array_words.specs.Counting.{is_place, turn_after}
use Rattle.mr_array_words.proofs.Places.{counted_on, none_left}
use Rattle.mr_array_words.proofs.counting.count_places.Goals.{then-is_place, else-is_place}
use Rattle.mr_array_words.proofs.counting.count_places.Goals as goal

pub loop-word-preserved : goal.loop-word-preserved
loop-word-preserved c =
    let next = c.turn_after-turn.ensures ∙ ap (turn_after c.loop-word.turn) c.as_bytes-in-loop-word.ensures.value in
    elim c.if-is_place.branch [
      | then-is_place w ↦
          let on = counted_on c.args.words.now c.loop-word.turn c.loop-word.word-index c.word-item.result c.word-item.is c.loop-word-test.true
          true c.turn_after-turn.result c.loop-word.count _ (sym (ap (is_place c.loop-word.turn) c.as_bytes.ensures.value) ∙ sym c.is_place.ensures ∙ w.if-is_place.true)
          next c.loop-word.invariant.0 in
          (omega (arith, on, w.count-is), omega (arith, c.loop-word.invariant.1, w.count-is))
      | else-is_place w ↦
          let on = counted_on c.args.words.now c.loop-word.turn c.loop-word.word-index c.word-item.result c.word-item.is c.loop-word-test.true
          false c.turn_after-turn.result c.loop-word.count _ (sym (ap (is_place c.loop-word.turn) c.as_bytes.ensures.value) ∙ sym c.is_place.ensures ∙ w.if-is_place.false)
          next c.loop-word.invariant.0 in
          (omega (arith, on, w.count-is), omega (arith, c.loop-word.invariant.1, w.count-is))
    ]

pub returns-clause-count : goal.returns-clause-count
returns-clause-count c = let none = none_left c.args.words.now c.loop-word.turn c.loop-word.word-index (omega (arith, c.loop-word-test.false)) in
    omega (arith, none, c.loop-word.invariant.0)
