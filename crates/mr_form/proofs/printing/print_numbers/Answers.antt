use Rattle.std.proofs.Common.{◌≡◌, ◌∷◌, ◌++◌, [], ℕ, List, get_or, decimal, subst, ◌∙◌}
use Rattle.std.proofs.lemmas.List.{append-nil}
use Rattle.mr_io.specs.Taking.{Takes, TakesPart}
use Rattle.mr_io.proofs.Taking.{part_piece, puts_err, takes_piece}
use Rattle.mr_form.specs.MatrixText.{space}
use Rattle.mr_form.proofs.printing.print_numbers.Goals as goal

pub returns-in_err-put_pieces-clause-puts : goal.returns-in_err-put_pieces-clause-puts
returns-in_err-put_pieces-clause-puts g c =
    let number : c.as_bytes.result.now ++ [] ≡ decimal (get_or c.args.prices.now c.loop-price.price-index 0) = append-nil c.as_bytes.result.now ∙ c.as_bytes.ensures.value ∙ c.format.ensures.text in
    puts_err _ _ _ _ c.from_residual.ensures.0
    (part_piece (λ price. space ∷ decimal price) _ _ _ c.args.prices.now _ 0 c.loop-price-test.true c.loop-price.invariant.taken
    (subst (λ (b : List ℕ). TakesPart (g.K.Sink.held c.loop-price.out) (g.K.Sink.held c.put_pieces.new.sink) b)
    (λ i. c.as_slice.ensures i ++ number i) c.in_err-put_pieces.ensures.puts.err))

pub loop-price-preserved : goal.loop-price-preserved
loop-price-preserved g c =
    let number : c.as_bytes.result.now ++ [] ≡ decimal (get_or c.args.prices.now c.loop-price.price-index 0) = append-nil c.as_bytes.result.now ∙ c.as_bytes.ensures.value ∙ c.format.ensures.text in
    record {
      taken = takes_piece (λ price. space ∷ decimal price) _ _ _ c.args.prices.now _ 0 c.loop-price-test.true c.loop-price.invariant.taken
          (subst (λ (b : List ℕ). Takes (g.K.Sink.held c.loop-price.out) (g.K.Sink.held c.put_pieces.new.sink) b)
          (λ i. c.as_slice.ensures i ++ number i) c.in_ok-put_pieces.ensures.puts.ok);
      quiet = c.in_ok-put_pieces.ensures.cause.quiet ∙ c.loop-price.invariant.quiet;
    }
