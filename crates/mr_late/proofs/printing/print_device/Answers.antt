use Rattle.std.proofs.Common.{[], ◌∷◌, ◌++◌, ◌∙◌, ap}
use Rattle.std.specs.Prelude.{decimal}
use Rattle.std.proofs.lemmas.List.{append-nil}
use Rattle.mr_steps.proofs.Sinks.{puts_same}
use Rattle.mr_late.proofs.printing.print_device.Goals as goal

pub returns-clause-puts : goal.returns-clause-puts
returns-clause-puts g c = puts_same (ap (λ digits. c.args.before ∷ (digits ++ [])) (c.as_bytes.ensures.value ∙ c.format.ensures.text)
    ∙ ap (λ digits. c.args.before ∷ digits) (append-nil (decimal c.args.device))) c.put_pieces.ensures.puts
