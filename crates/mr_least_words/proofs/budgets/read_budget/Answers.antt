use Rattle.std.proofs.Common.{arith, ◌∙◌, sym}
use Rattle.mr_least_words.proofs.BudgetLaws.{is-printed, no-number, other-text, printed}
use Rattle.mr_least_words.proofs.budgets.read_budget.Goals as goal

pub returns-in-Ok-clause-value : goal.returns-in-Ok-clause-value
returns-in-Ok-clause-value c = sym (is-printed c.args.text.now c.in-Ok.number (omega arith) (sym c.is_printed.ensures ∙ c.if-is_printed.true))

pub returns-in-Ok-clause-spelled : goal.returns-in-Ok-clause-spelled
returns-in-Ok-clause-spelled c = λ n low e.
    sym (is-printed c.args.text.now c.in-Ok.number (omega arith) (sym c.is_printed.ensures ∙ c.if-is_printed.true)) ∙ printed c.args.text.now n low e

pub returns-in_default-clause-value : goal.returns-in_default-clause-value
returns-in_default-clause-value c =
    sym (other-text c.args.text.now c.parse.result c.in-Ok.number c.parse.ensures.value.0 c.in-Ok.is (sym c.is_printed.ensures ∙ c.if-is_printed.false))

pub returns-in_default-clause-spelled : goal.returns-in_default-clause-spelled
returns-in_default-clause-spelled c = λ n low e.
    sym (other-text c.args.text.now c.parse.result c.in-Ok.number c.parse.ensures.value.0 c.in-Ok.is (sym c.is_printed.ensures ∙ c.if-is_printed.false))
    ∙ printed c.args.text.now n low e

pub returns-in_default-2-clause-value : goal.returns-in_default-2-clause-value
returns-in_default-2-clause-value c =
    sym (no-number c.args.text.now c.parse.result c.in_default.field-0 c.parse.ensures.value.0 c.in_default.is)

pub returns-in_default-2-clause-spelled : goal.returns-in_default-2-clause-spelled
returns-in_default-2-clause-spelled c = λ n low e.
    sym (no-number c.args.text.now c.parse.result c.in_default.field-0 c.parse.ensures.value.0 c.in_default.is) ∙ printed c.args.text.now n low e
