use Rattle.std.proofs.Common.{ℕ, List, flat_map, subst}
use Rattle.mr_io.specs.Taking.{Takes}
use Rattle.mr_io.proofs.Taking.{puts_then}
use Rattle.mr_form.specs.MatrixText.{ended, price_lines}
use Rattle.mr_form.proofs.printing.print_body.Goals as goal

pub returns-clause-puts : goal.returns-clause-puts
returns-clause-puts g c =
    puts_then _ _ _ _ _ _
    (subst (λ (ps : List ℕ). Takes (g.K.Sink.held c.args.out.now) (g.K.Sink.held c.print_prices.new.out) (flat_map ended (price_lines ps)))
    c.prices.ensures c.in_ok-print_prices.ensures.puts.ok)
    c.print_rows.ensures.puts
