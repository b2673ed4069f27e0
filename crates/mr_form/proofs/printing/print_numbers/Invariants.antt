use Rattle.std.proofs.Common.{◌∷◌, flat_map, take, decimal}
use Rattle.mr_io.proofs.Fronts.{TakenSoFar}
use Rattle.mr_form.specs.MatrixText.{space}
use Rattle.mr_form.proofs.printing.print_numbers.Given as goal

-- the numbers so far are taken
abbrev pub invariant-loop-price : goal.invariant-loop-price
invariant-loop-price g l = TakenSoFar (g.K.Sink.held l.initial.out) (g.K.Sink.held l.out) (g.K.Sink.faults l.initial.out) (g.K.Sink.faults l.out)
    (flat_map (λ price. space ∷ decimal price) (take l.price-index l.prices))
