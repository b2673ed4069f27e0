use Rattle.std.proofs.Common.{◌∙◌, Some, None, cond, option_map, sym, ap}
use Rattle.std.specs.Str.{bytes_eq}
use Rattle.mr_array_words.specs.Gather.{kept_file}
use Rattle.mr_array_words.proofs.Hyphen.{hyphen_is}
use Rattle.mr_array_words.proofs.devices.gather_device.Goals as goal

pub returns-then-is : goal.returns-then-is
returns-then-is c = ap (option_map kept_file) c.in_ok-name.ensures
    ∙ ap (λ b. Some (cond b None (Some c.in_ok-name.name))) (ap (bytes_eq c.in_ok-name.name) (sym hyphen_is) ∙ sym c.is.ensures ∙ c.if-is.true)

pub returns-else-is : goal.returns-else-is
returns-else-is c = ap (option_map kept_file) c.in_ok-name.ensures
    ∙ ap (λ b. Some (cond b None (Some c.in_ok-name.name))) (ap (bytes_eq c.in_ok-name.name) (sym hyphen_is) ∙ sym c.is.ensures ∙ c.if-is.false)
