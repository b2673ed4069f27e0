use Rattle.std.proofs.Common.{ℕ, List, sym, subst}
use Rattle.mr_io.specs.Taking.{Puts}
use Rattle.mr_io.proofs.Taking.{part_after, part_more, puts_err, puts_then}
use Rattle.mr_form.proofs.PriceTexts.{price-parts}
use Rattle.mr_form.proofs.printing.print_prices.Goals as goal

pub returns-in_err-put_all-clause-puts : goal.returns-in_err-put_all-clause-puts
returns-in_err-put_all-clause-puts g c =
    subst (λ (bytes : List ℕ). Puts (g.K.Sink.held c.args.out.now) (g.K.Sink.held c.put_all.new.sink) c.from_residual.result bytes)
    (price-parts c.args.prices.now (sym c.if-are_ones.ensures))
    (puts_err _ _ _ _ c.from_residual.ensures.0 (part_after _ _ _ _ c.in_err-put_all.ensures.puts.err))

pub returns-in_err-print_numbers-clause-puts : goal.returns-in_err-print_numbers-clause-puts
returns-in_err-print_numbers-clause-puts g c =
    subst (λ (bytes : List ℕ). Puts (g.K.Sink.held c.args.out.now) (g.K.Sink.held c.print_numbers.new.out) c.from_residual-in_err-print_numbers.result bytes)
    (price-parts c.args.prices.now (sym c.if-are_ones.ensures))
    (puts_err _ _ _ _ c.from_residual-in_err-print_numbers.ensures.0
    (part_more _ _ _ _ _ c.in_ok-put_all.ensures.puts.ok (part_after _ _ _ _ c.in_err-print_numbers.ensures.puts.err)))

pub returns-clause-puts : goal.returns-clause-puts
returns-clause-puts g c =
    subst (λ (bytes : List ℕ). Puts (g.K.Sink.held c.args.out.now) (g.K.Sink.held c.put_all-2.new.sink) c.put_all-2.result bytes)
    (price-parts c.args.prices.now (sym c.if-are_ones.ensures))
    (puts_then _ _ _ _ _ _ c.in_ok-put_all.ensures.puts.ok (puts_then _ _ _ _ _ _ c.in_ok-print_numbers.ensures.puts.ok c.put_all-2.ensures.puts))
