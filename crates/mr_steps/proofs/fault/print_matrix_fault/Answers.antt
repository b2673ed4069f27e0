use Rattle.std.proofs.Common.{◌∙◌, [], ◌∷◌, codes}
use Rattle.mr_steps.specs.Faults.{joined}
use Rattle.mr_steps.proofs.Sinks.{puts_same}
use Rattle.mr_steps.proofs.fault.print_matrix_fault.Goals as goal

pub returns-clause-puts : goal.returns-clause-puts
returns-clause-puts g c = puts_same (λ j. joined (codes "status 2 matrix line " ∷ (c.as_bytes.ensures.value ∙ c.format.ensures.text) j
    ∷ codes " " ∷ c.kind_text.ensures j ∷ codes "\n" ∷ [])) c.put_pieces.ensures.puts
