use Rattle.std.proofs.Common.{◌∙◌, [], ◌∷◌, codes}
use Rattle.mr_steps.specs.Faults.{joined}
use Rattle.mr_steps.proofs.Sinks.{puts_same}
use Rattle.mr_steps.proofs.fault.print_stripe.Goals as goal

pub returns-clause-puts : goal.returns-clause-puts
returns-clause-puts g c = puts_same (λ j. joined (codes "status 7 undetermined stripe " ∷ (c.as_bytes-stripe.ensures.value ∙ c.format.ensures.text) j
    ∷ codes " symbol " ∷ (c.as_bytes-symbol.ensures.value ∙ c.format-2.ensures.text) j ∷ codes "\n" ∷ [])) c.put_pieces.ensures.puts
