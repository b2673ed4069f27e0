use Rattle.std.proofs.Common.{List, ℕ, ◌∙◌, subst}
use Rattle.mr_io.specs.Taking.{Takes, TakesPart}
use Rattle.mr_io.proofs.Taking.{part_piece, puts_err, takes_piece}
use Rattle.mr_account.specs.Lines.{entry_text}
use Rattle.mr_account.proofs.lines.put_entries.Goals as goal

pub returns-in_err-put_all-clause-puts : goal.returns-in_err-put_all-clause-puts
returns-in_err-put_all-clause-puts g c =
    puts_err _ _ _ _ c.from_residual.ensures.0
    (part_piece entry_text _ _ _ c.args.history.now c.loop-entry.entry-index _ c.loop-entry-test.true c.loop-entry.invariant.taken
    (subst (λ (b : List ℕ). TakesPart (g.K.Sink.held c.loop-entry.out) (g.K.Sink.held c.put_all.new.sink) b) (c.deref.ensures.0 ∙ c.entry_text.ensures) c.in_err-put_all.ensures.puts.err))

pub loop-entry-preserved : goal.loop-entry-preserved
loop-entry-preserved g c =
    record {
      taken = takes_piece entry_text _ _ _ c.args.history.now c.loop-entry.entry-index _ c.loop-entry-test.true c.loop-entry.invariant.taken
          (subst (λ (b : List ℕ). Takes (g.K.Sink.held c.loop-entry.out) (g.K.Sink.held c.put_all.new.sink) b) (c.deref.ensures.0 ∙ c.entry_text.ensures) c.in_ok-put_all.ensures.puts.ok);
      quiet = c.in_ok-put_all.ensures.cause.quiet ∙ c.loop-entry.invariant.quiet;
    }
