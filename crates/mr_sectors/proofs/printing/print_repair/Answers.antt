use Rattle.std.proofs.Common.{◌∙◌, [], ◌∷◌, codes}
use Rattle.mr_steps.specs.Faults.{joined}
use Rattle.mr_steps.proofs.Sinks.{puts_same}
use Rattle.mr_sectors.specs.Repairs.{report_text}
use Rattle.mr_sectors.proofs.printing.print_repair.Goals as goal

pub returns-clause-puts : goal.returns-clause-puts
unfolding report_text
returns-clause-puts g c = puts_same (λ j. joined (codes "patterns " ∷ (c.as_bytes-patterns.ensures.value ∙ c.format.ensures.text) j
    ∷ codes "\nmended " ∷ (c.as_bytes-mended.ensures.value ∙ c.format-2.ensures.text) j
    ∷ codes "\nreads " ∷ (c.as_bytes-reads.ensures.value ∙ c.format-3.ensures.text) j ∷ codes "\n" ∷ [])) c.put_pieces.ensures.puts
