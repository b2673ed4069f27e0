use Rattle.std.proofs.Common.{sym, ◌∙◌, ap, Some}
use Rattle.mr_text.proofs.NumberLaws.{number_text, number_of-some, number_of-none, spelled, read}
use Rattle.mr_text.proofs.read_number.Goals as goal

pub digits_number-requires-clause-few : goal.digits_number-requires-clause-few
digits_number-requires-clause-few c = (number_text _ (sym c.is_number_text.ensures ∙ c.if-is_number_text.true)).few

pub digits_number-requires-clause-all_digits : goal.digits_number-requires-clause-all_digits
digits_number-requires-clause-all_digits c = (number_text _ (sym c.is_number_text.ensures ∙ c.if-is_number_text.true)).digits

pub returns-then-is_number_text-clause-spelled : goal.returns-then-is_number_text-clause-spelled
returns-then-is_number_text-clause-spelled c =
    spelled _ _ (number_of-some _ (sym c.is_number_text.ensures ∙ c.if-is_number_text.true) ∙ ap Some (sym c.digits_number.ensures))

pub returns-then-is_number_text-clause-read : goal.returns-then-is_number_text-clause-read
returns-then-is_number_text-clause-read c =
    read _ _ (number_of-some _ (sym c.is_number_text.ensures ∙ c.if-is_number_text.true) ∙ ap Some (sym c.digits_number.ensures))

pub returns-else-is_number_text-clause-spelled : goal.returns-else-is_number_text-clause-spelled
returns-else-is_number_text-clause-spelled c =
    spelled _ _ (number_of-none _ (sym c.is_number_text.ensures ∙ c.if-is_number_text.false))
