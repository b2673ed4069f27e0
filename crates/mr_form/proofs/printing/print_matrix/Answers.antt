use Rattle.std.proofs.Common.{◌≡◌, ℕ, List, ap, ◌∙◌, subst}
use Rattle.mr_io.specs.Taking.{Takes, TakesPart}
use Rattle.mr_io.proofs.Taking.{part_after, puts_err, puts_then}
use Rattle.mr_form.specs.MatrixText.{ended, head_text, version_for, matrix_text}
use Rattle.mr_form.proofs.printing.print_matrix.Goals as goal

pub returns-in_err-print_head-clause-puts : goal.returns-in_err-print_head-clause-puts
unfolding matrix_text
returns-in_err-print_head-clause-puts g c =
    let version : c.version_for.result ≡ version_for c.args.matrix.now.prices = c.version_for.ensures ∙ ap version_for c.prices.ensures in
    puts_err _ _ _ _ c.from_residual.ensures.0 (part_after (g.K.Sink.held c.args.out.now) (g.K.Sink.held c.print_head.new.out) _ _
    (subst (λ (bytes : List ℕ). TakesPart (g.K.Sink.held c.args.out.now) (g.K.Sink.held c.print_head.new.out) bytes)
    (λ i. ended (head_text (version i) (c.shape.ensures.shape i).devices (c.shape.ensures.shape i).symbols_per_device (c.shape.ensures.shape i).columns))
    c.in_err-print_head.ensures.puts.err))

pub returns-clause-puts : goal.returns-clause-puts
unfolding matrix_text
returns-clause-puts g c =
    let version : c.version_for.result ≡ version_for c.args.matrix.now.prices = c.version_for.ensures ∙ ap version_for c.prices.ensures in
    puts_then _ _ _ _ _ _
    (subst (λ (bytes : List ℕ). Takes (g.K.Sink.held c.args.out.now) (g.K.Sink.held c.print_head.new.out) bytes)
    (λ i. ended (head_text (version i) (c.shape.ensures.shape i).devices (c.shape.ensures.shape i).symbols_per_device (c.shape.ensures.shape i).columns))
    c.in_ok-print_head.ensures.puts.ok) c.print_body.ensures.puts
