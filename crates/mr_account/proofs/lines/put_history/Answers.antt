use Rattle.std.proofs.Common.{List, ℕ, ◌++◌, ◌∙◌, codes, flat_map, subst}
use Rattle.mr_io.specs.Taking.{Takes, TakesPart}
use Rattle.mr_io.proofs.Taking.{part_after, part_more, puts_err, puts_then, takes_more}
use Rattle.mr_account.specs.Lines.{entry_text, history_front}
use Rattle.mr_account.proofs.lines.put_history.Goals as goal

pub returns-in_err-put_all-clause-puts : goal.returns-in_err-put_all-clause-puts
returns-in_err-put_all-clause-puts g c =
    puts_err _ _ _ _ c.from_residual.ensures.0
    (part_after _ _ (history_front c.args.stripe ++ flat_map entry_text c.args.history.now) (codes "\n")
    (part_after _ _ (history_front c.args.stripe) (flat_map entry_text c.args.history.now)
    (subst (λ (b : List ℕ). TakesPart (g.K.Sink.held c.args.out.now) (g.K.Sink.held c.put_all.new.sink) b) (c.deref.ensures.0 ∙ c.history_front.ensures) c.in_err-put_all.ensures.puts.err)))

pub returns-in_err-put_entries-clause-puts : goal.returns-in_err-put_entries-clause-puts
returns-in_err-put_entries-clause-puts g c =
    puts_err _ _ _ _ c.from_residual-in_err-put_entries.ensures.0
    (part_after _ _ (history_front c.args.stripe ++ flat_map entry_text c.args.history.now) (codes "\n")
    (part_more _ _ _ (history_front c.args.stripe) (flat_map entry_text c.args.history.now)
    (subst (λ (b : List ℕ). Takes (g.K.Sink.held c.args.out.now) (g.K.Sink.held c.put_all.new.sink) b) (c.deref.ensures.0 ∙ c.history_front.ensures) c.in_ok-put_all.ensures.puts.ok)
    c.in_err-put_entries.ensures.puts.err))

pub returns-clause-puts : goal.returns-clause-puts
returns-clause-puts g c =
    puts_then _ _ _ _ (history_front c.args.stripe ++ flat_map entry_text c.args.history.now) (codes "\n")
    (takes_more _ _ _ (history_front c.args.stripe) (flat_map entry_text c.args.history.now)
    (subst (λ (b : List ℕ). Takes (g.K.Sink.held c.args.out.now) (g.K.Sink.held c.put_all.new.sink) b) (c.deref.ensures.0 ∙ c.history_front.ensures) c.in_ok-put_all.ensures.puts.ok)
    c.in_ok-put_entries.ensures.puts.ok)
    c.put_all-2.ensures.puts
