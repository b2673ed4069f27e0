use Rattle.std.proofs.Common.{◌≡◌, ◌∙◌, ◌+◌, ◌*◌, sym, ap, arith}
use Rattle.mr_drill.specs.Words.{after_words}
use Rattle.mr_drill.proofs.WordLaws.{after-none, after-add, asks-more}
use Rattle.mr_drill.proofs.asks.draw_asks.Goals as goal

pub loop-init : goal.loop-init
loop-init c = record { asks = c.in_ok-asks.ensures.items; last = sym (after-none c.args.generator.now) }

pub loop-preserved : goal.loop-preserved
loop-preserved c =
    let next : 2 * c.loop.counter + 2 ≡ 2 * (c.loop.counter + 1) = omega arith in
    record {
      asks = asks-more c.args.generator.now c.loop.generator c.loop.counter c.loop.asks.items c.push.new.self.items c.draw_ask.result
          c.loop.invariant.asks c.loop.invariant.last c.draw_ask.ensures.ask c.in_ok-push.ensures.items;
      last = c.draw_ask.ensures.last ∙ ap (λ h. after_words h 2) c.loop.invariant.last ∙ after-add c.args.generator.now (2 * c.loop.counter) 2
          ∙ ap (after_words c.args.generator.now) next;
    }
