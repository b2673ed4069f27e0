use Rattle.std.proofs.Common.{◌++◌, ◌∙◌, flat_map, subst}
use Rattle.mr_io.specs.Taking.{Puts}
use Rattle.mr_io.proofs.Taking.{puts_then}
use Rattle.mr_scrub.specs.Scrubs.{broken_line}
use Rattle.mr_scrub.proofs.printing.print_scrub.Goals as goal

pub returns-clause-puts : goal.returns-clause-puts
returns-clause-puts g c =
    subst (λ last. Puts (g.K.Sink.held c.args.out.now) (g.K.Sink.held c.put_all.new.sink) c.put_all.result (flat_map broken_line c.args.broken.now ++ last))
    (c.deref.ensures.0 ∙ c.last_line.ensures)
    (puts_then _ _ _ _ _ _ c.in_ok-put_broken.ensures.puts.ok c.put_all.ensures.puts)
