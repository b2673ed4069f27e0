use Rattle.std.proofs.Common.{ap, sym, ◌∙◌, ◌≡◌, Some, None, cond, true}
use Rattle.mr_words.specs.Lost.{is_lost_word}
use Rattle.mr_words.specs.Texts.{lost_of}
use Rattle.mr_words.proofs.LostLaws.{lost_chars}
use Rattle.mr_words.proofs.values.lost.Goals as goal

pub returns-in_ok-text_of-in-Some : goal.returns-in_ok-text_of-in-Some
returns-in_ok-text_of-in-Some c =
    let is : is_lost_word c.in-Some.text.now ≡ true = sym c.is_lost.ensures ∙ c.if-is_lost.true in
    ap lost_of (sym c.in-Some.ensures) ∙ ap (λ b. cond b (Some c.in-Some.text.now) None) is
    ∙ ap Some (sym (c.in_ok-text_of-in-Some.ensures ∙ lost_chars c.in-Some.text.now is))
