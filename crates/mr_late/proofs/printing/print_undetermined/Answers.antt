use Rattle.std.proofs.Common.{ap, ◌∙◌, [], ◌∷◌, codes}
use Rattle.mr_steps.specs.Faults.{joined}
use Rattle.mr_steps.proofs.Sinks.{puts_same}
use Rattle.mr_late.proofs.printing.print_undetermined.Goals as goal

pub returns-clause-puts : goal.returns-clause-puts
returns-clause-puts g c = puts_same (ap (λ digits. joined (codes "undetermined symbol " ∷ digits ∷ codes "\n" ∷ []))
    (c.as_bytes-symbol.ensures.value ∙ c.format.ensures.text)) c.put_pieces.ensures.puts
