use Rattle.std.proofs.Common.{◌+◌, ◌-◌, ◌*◌, List, ℕ, length, ap, refl, sym, subst, arith, drop, flat_map}
use borrow.Rule.Slice.PartMut.{put_mid}
use Rattle.mr_io.specs.Taking.{TakesPart, Puts}
use Rattle.mr_io.proofs.Taking.{puts_err}
use Rattle.mr_mend.specs.Replies.{replies_in}
use Rattle.mr_mend.proofs.Gathering.{IsGathering, gathering-turn, gathering-cut, gathering-end}
use Rattle.mr_mend.proofs.ReplyLines.{line_of, lines-split, lines-more, lines-all, read_part}
use Rattle.mr_mend.proofs.replies.print_replies.Goals as goal

pub returns-in_err-gathered-clause-puts : goal.returns-in_err-gathered-clause-puts
returns-in_err-gathered-clause-puts g c =
    puts_err _ _ _ _ c.from_residual.ensures.0
    (subst (λ (text : List ℕ). TakesPart (g.K.Sink.held c.args.out.now) (g.K.Sink.held c.put_where_full.new.out) text)
    (sym (lines-split c.args.head.now.symbol_bytes c.args.asks.now c.args.replies.now c.loop-k.k))
    (gathering-cut _ _ _ _ _ (g.K.Sink.faults c.put_where_full.new.out) c.loop-k.lines c.loop-k.gathered _ c.loop-k.invariant
    (flat_map line_of (drop c.loop-k.k (replies_in c.args.head.now.symbol_bytes c.args.asks.now c.args.replies.now))) c.in_err-gathered.ensures.cut))

pub loop-k-preserved : goal.loop-k-preserved
loop-k-preserved g c =
    subst (λ (text : List ℕ). IsGathering (g.K.Sink.held c.args.out.now) (g.K.Sink.held c.put_where_full.new.out) (g.K.Sink.faults c.args.out.now) (g.K.Sink.faults c.put_where_full.new.out)
    (put_mid c.in_ok-gathered.gathered (length c.loop-k.lines - c.in_ok-gathered.gathered) c.loop-k.lines c.write_line-gathered.new.line)
    (c.in_ok-gathered.gathered + c.write_line-gathered.result) text)
    (lines-more c.args.head.now.symbol_bytes c.args.asks.now c.args.replies.now c.loop-k.k _ _ _ (omega arith) refl
    (read_part c.loop-k.k c.args.head.now.symbol_bytes _ _ c.args.replies.now (omega (arith, c.bytes-size.ensures.number)) (ap (λ n. c.loop-k.k * n) c.bytes-size.ensures.number)))
    (gathering-turn _ _ _ _ _ _ c.loop-k.lines c.loop-k.gathered _ c.loop-k.invariant c.in_ok-gathered.gathered (length c.loop-k.lines - c.in_ok-gathered.gathered) c.write_line-gathered.result
    c.write_line-gathered.new.line _ c.in_ok-gathered.ensures.put c.in_ok-gathered.ensures.cause.quiet (omega (arith, c.in_ok-gathered.ensures.free)) c.write_line-gathered.ensures.within c.write_line-gathered.ensures.line)

pub returns-clause-puts : goal.returns-clause-puts
returns-clause-puts g c =
    subst (λ (text : List ℕ). Puts (g.K.Sink.held c.args.out.now) (g.K.Sink.held c.put_all.new.sink) c.put_all.result text)
    (lines-all c.args.head.now.symbol_bytes c.args.asks.now c.args.replies.now c.loop-k.k (omega arith))
    (gathering-end _ _ _ _ _ (g.K.Sink.faults c.put_all.new.sink) c.loop-k.lines c.loop-k.gathered _ c.loop-k.invariant c.put_all.result c.put_all.ensures.puts)
