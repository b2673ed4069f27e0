use Rattle.std.proofs.Common.{Ok, Err, ap, ◌∙◌, sym}
use Rattle.std.specs.Option.{ok_or}
use Rattle.std.proofs.lemmas.Result.{err_from_is_err_and}
use Rattle.mr_plan.specs.Readings.{bad_line}
use Rattle.mr_plan.proofs.ReadLaws.{no_head, no_kind, no_second, no_set, no_recipes, all_read, some_answer}
use Rattle.mr_plan.proofs.LineLaws.{set_of-read}
use Rattle.mr_plan.proofs.PlanReadLaws.{read_recipes-read}
use Rattle.mr_plan.proofs.reading.read_lines.Goals as goal

pub returns-in_err-head : goal.returns-in_err-head
returns-in_err-head c =
    let p = err_from_is_err_and c.from_residual.result c.from_residual.ensures.1 in
    p.1 ∙ ap Err p.2 ∙ sym (no_head c.args.bytes.now _ c.in_err-head.ensures.value)

pub returns-in_err-kind : goal.returns-in_err-kind
returns-in_err-kind c =
    let p = err_from_is_err_and c.from_residual-in_err-kind.result c.from_residual-in_err-kind.ensures.1 in
    p.1 ∙ ap Err p.2 ∙ sym (no_kind c.args.bytes.now c.in_ok-head.head.now _ c.in_ok-head.ensures.value _
    (ap (λ o. ok_or o (bad_line 1)) (sym c.read_kind.ensures) ∙ sym c.in_err-kind.ensures.value))

pub returns-in_err-text : goal.returns-in_err-text
returns-in_err-text c =
    let p = err_from_is_err_and c.from_residual-in_err-text.result c.from_residual-in_err-text.ensures.1 in
    p.1 ∙ ap Err p.2 ∙ sym (no_second c.args.bytes.now c.in_ok-head.head.now _ c.in_ok-head.ensures.value c.in_ok-kind.kind
    (ap (λ o. ok_or o (bad_line 1)) (sym c.read_kind.ensures) ∙ sym c.in_ok-kind.ensures.value) _ c.in_err-text.ensures.value)

pub returns-in_err-set : goal.returns-in_err-set
returns-in_err-set c =
    let p = err_from_is_err_and c.from_residual-in_err-set.result c.from_residual-in_err-set.ensures.1 in
    p.1 ∙ ap Err p.2 ∙ sym (no_set c.args.bytes.now c.in_ok-head.head.now _ c.in_ok-head.ensures.value c.in_ok-kind.kind
    (ap (λ o. ok_or o (bad_line 1)) (sym c.read_kind.ensures) ∙ sym c.in_ok-kind.ensures.value) c.in_ok-text.text.now _ c.in_ok-text.ensures.value _
    (ap (λ o. ok_or o (bad_line 2)) (sym c.read_set.ensures) ∙ sym c.in_err-set.ensures.value))

pub returns-in_err-recipes : goal.returns-in_err-recipes
returns-in_err-recipes c =
    let p = err_from_is_err_and c.from_residual-in_err-recipes.result c.from_residual-in_err-recipes.ensures.1 in
    p.1 ∙ ap Err p.2 ∙ sym (no_recipes c.args.bytes.now c.in_ok-head.head.now _ c.in_ok-head.ensures.value c.in_ok-kind.kind
    (ap (λ o. ok_or o (bad_line 1)) (sym c.read_kind.ensures) ∙ sym c.in_ok-kind.ensures.value) c.in_ok-text.text.now _ c.in_ok-text.ensures.value c.in_ok-set.set
    (ap (λ o. ok_or o (bad_line 2)) (sym c.read_set.ensures) ∙ sym c.in_ok-set.ensures.value) _ c.in_err-recipes.ensures)

pub of_parts-requires : goal.of_parts-requires
of_parts-requires c = record {
  set = (set_of-read c.in_ok-text.text.now c.in_ok-set.set (sym c.read_set.ensures ∙ sym (some_answer c.read_set.result _ c.in_ok-set.set c.in_ok-set.ensures.value))).low;
  recipes = (read_recipes-read 3 0 _ _ c.in_ok-recipes.ensures).upward;
}

pub returns : goal.returns
returns c = ap Ok c.of_parts.ensures
    ∙ sym (all_read c.args.bytes.now c.in_ok-head.head.now _ c.in_ok-head.ensures.value c.in_ok-kind.kind
    (ap (λ o. ok_or o (bad_line 1)) (sym c.read_kind.ensures) ∙ sym c.in_ok-kind.ensures.value) c.in_ok-text.text.now _ c.in_ok-text.ensures.value c.in_ok-set.set
    (ap (λ o. ok_or o (bad_line 2)) (sym c.read_set.ensures) ∙ sym c.in_ok-set.ensures.value) c.in_ok-recipes.recipes.items c.in_ok-recipes.ensures)
