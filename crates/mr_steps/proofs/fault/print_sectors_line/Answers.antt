use Rattle.std.proofs.Common.{ap, ◌∙◌, [], ◌∷◌, codes}
use Rattle.mr_steps.specs.Faults.{joined}
use Rattle.mr_steps.proofs.Sinks.{puts_same}
use Rattle.mr_steps.proofs.fault.print_sectors_line.Goals as goal

pub returns-clause-puts : goal.returns-clause-puts
returns-clause-puts g c = puts_same (ap (λ digits. joined (codes "status 12 sectors line " ∷ digits ∷ codes "\n" ∷ []))
    (c.as_bytes.ensures.value ∙ c.format.ensures.text)) c.put_pieces.ensures.puts
