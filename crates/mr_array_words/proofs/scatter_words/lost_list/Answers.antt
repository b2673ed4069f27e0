use Rattle.std.proofs.Common.{◌∙◌, ◌==◌, cond, Some, None, length, sym, ap}
use Rattle.mr_words.specs.Grammar.{◌>>=◌}
use Rattle.mr_words.specs.Lost.{lost_numbers}
use Rattle.mr_words.proofs.LostCharacters.{lost_numbers_encoded}
use Rattle.mr_array_words.specs.Scatter.{lost_with}
use Rattle.mr_array_words.proofs.scatter_words.lost_list.Goals as goal

pub returns-then-lists : goal.returns-then-lists
returns-then-lists c = ap (λ o. o >>= lost_with c.args.count) c.in_ok-lost.ensures
    ∙ ap (λ b. cond b (Some c.in_ok-lost.lost) None) (ap (λ ns. length ns == c.args.count)
    (sym (lost_numbers_encoded c.in_ok-lost.lost) ∙ sym (ap lost_numbers c.as_str.ensures.bytes)) ∙ sym c.lists.ensures ∙ c.if-lists.true)

pub returns-else-lists : goal.returns-else-lists
returns-else-lists c = ap (λ o. o >>= lost_with c.args.count) c.in_ok-lost.ensures
    ∙ ap (λ b. cond b (Some c.in_ok-lost.lost) None) (ap (λ ns. length ns == c.args.count)
    (sym (lost_numbers_encoded c.in_ok-lost.lost) ∙ sym (ap lost_numbers c.as_str.ensures.bytes)) ∙ sym c.lists.ensures ∙ c.if-lists.false)
