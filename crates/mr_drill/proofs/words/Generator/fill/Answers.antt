use Rattle.std.proofs.Common.{◌≡◌, ◌∙◌, ◌*◌, ◌/◌, ◌≤◌, length, sym, ap, refl, arith}
use Rattle.mr_encode.proofs.FrontLaws.{front-all}
use Rattle.mr_drill.specs.Words.{after_words, bytes_drawn, next_word}
use Rattle.mr_drill.proofs.WordLaws.{after-none, after-more, drawn_word, fill-more}
use Rattle.mr_drill.proofs.words.Generator.fill.Goals as goal

pub loop-number-init : goal.loop-number-init
loop-number-init c = record { front = refl; last = sym (after-none c.args.self.now) }

pub loop-number-preserved : goal.loop-number-preserved
loop-number-preserved c =
    let room : c.loop-number.number * 8 ≤ length c.loop-number.bytes = omega (arith, c.loop-number.auto.bytes) in
    record {
      front = fill-more c.args.self.now c.loop-number.self c.word.result c.loop-number.number c.loop-number.number _ c.loop-number.bytes c.copy_from_slice.new.self
          c.loop-number.invariant.front c.loop-number.invariant.last c.word.ensures.word refl room (c.copy_from_slice.ensures.after ∙ c.to_le_bytes.ensures);
      last = c.word.ensures.last ∙ c.word.ensures.word ∙ ap next_word c.loop-number.invariant.last ∙ sym (after-more c.args.self.now c.loop-number.number);
    }

pub returns-clause-drawn : goal.returns-clause-drawn
returns-clause-drawn c =
    let count : c.loop-number.number ≡ length c.args.bytes.now / 8 = omega (arith, c.loop-number-test.false, c.loop-number.auto.number-end) in
    let long : length c.loop-number.bytes ≡ c.loop-number.number * 8 = omega (arith, c.loop-number.auto.bytes, count, c.requires) in
    front-all (drawn_word c.args.self.now) 8 0 c.loop-number.number c.loop-number.bytes c.loop-number.invariant.front long
    ∙ ap (bytes_drawn c.args.self.now) count

pub returns-clause-last : goal.returns-clause-last
returns-clause-last c =
    let count : c.loop-number.number ≡ length c.args.bytes.now / 8 = omega (arith, c.loop-number-test.false, c.loop-number.auto.number-end) in
    c.loop-number.invariant.last ∙ ap (after_words c.args.self.now) count
