use Rattle.mr_mend.proofs.Gathering.{IsGathering}
use Rattle.mr_mend.proofs.ReplyLines.{lines_before}
use Rattle.mr_mend.proofs.replies.print_replies.Given as goal

-- the lines of the first k replies are made
abbrev pub invariant-loop-k : goal.invariant-loop-k
invariant-loop-k g l = IsGathering (g.K.Sink.held l.initial.out) (g.K.Sink.held l.out) (g.K.Sink.faults l.initial.out) (g.K.Sink.faults l.out)
    l.lines l.gathered (lines_before l.head.symbol_bytes l.k l.asks l.replies)
