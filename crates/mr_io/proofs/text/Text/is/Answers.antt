use Rattle.std.proofs.Common.{◌∙◌, ap}
use Rattle.std.specs.Prelude.{bytes_eq, chars}
use Rattle.std.proofs.lemmas.Str.{IsUtf8-string_bytes}
use Rattle.mr_io.proofs.Texts.{bytes_eq-chars}
use Rattle.mr_io.proofs.text.Text.is.Goals as goal

pub returns : goal.returns
returns c =
    c.eq.ensures ∙ ap (λ bytes. bytes_eq bytes c.args.other.now) c.as_str.ensures.value
    ∙ bytes_eq-chars _ _ (IsUtf8-string_bytes c.self.inside.string) c.utf8.other
    ∙ ap (λ text. bytes_eq text (chars c.args.other.now)) c.self.view_is
