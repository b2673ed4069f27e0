use Rattle.std.proofs.Common.{ap, [], ◌∷◌, codes}
use Rattle.mr_steps.specs.Faults.{joined}
use Rattle.mr_steps.proofs.Sinks.{puts_same}
use Rattle.mr_steps.proofs.fault.print_image_fault.Goals as goal

pub returns-clause-puts : goal.returns-clause-puts
returns-clause-puts g c = puts_same (ap (λ name. joined (codes "status 5 image " ∷ name ∷ codes "\n" ∷ [])) c.image_text.ensures) c.put_pieces.ensures.puts
