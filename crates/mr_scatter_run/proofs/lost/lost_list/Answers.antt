use Rattle.std.proofs.Common.{◌∙◌, ◌<◌, ℕ, List, Vec, Global, Ok, sym, ap, subst}
use Rattle.std.specs.Prelude.{All}
use Rattle.std.proofs.lemmas.Result.{err_from_is_err_and}
use Rattle.mr_words.specs.Lost.{lost_numbers}
use Rattle.mr_steps.specs.Losses.{lost_symbols_given}
use Rattle.mr_steps.proofs.Chains.{gives_err, gives_then}
use Rattle.mr_scatter_run.specs.Tasks.{lost_given, numbers_in}
use Rattle.mr_model.specs.Code.{dimensions}
use Rattle.mr_scatter_run.proofs.LostLaws.{all-below, few-devices, lost-low}
use Rattle.mr_scatter_run.proofs.lost.lost_list.Goals as goal

pub returns-in_err-_symbols-clause-given : goal.returns-in_err-_symbols-clause-given
unfolding lost_given
returns-in_err-_symbols-clause-given c =
    let p = err_from_is_err_and c.from_residual.result c.from_residual.ensures.1 in
    rw (p.1, p.2) (gives_err (λ (symbols : ℕ). symbols) (λ (list : Vec ℕ Global). list.items) _ (lost_symbols_given c.args.matrix.now c.args.lost.now) (λ _. Ok (numbers_in c.args.lost.now)) c.in_err-_symbols.ensures.given)

pub numbers_of-requires : goal.numbers_of-requires
numbers_of-requires c =
    subst (λ word. All (λ number. number < 128) (lost_numbers word)) (sym c.as_str.ensures.bytes)
    (all-below c.args.matrix.now.devices 128 (numbers_in c.args.lost.now) (few-devices (dimensions c.args.matrix.now) c.shape-few.ensures.code.shape)
    (lost-low c.args.matrix.now c.args.lost.now c.in_ok-_symbols._symbols c.in_ok-_symbols.ensures.given))

pub returns-clause-given : goal.returns-clause-given
unfolding lost_given
returns-clause-given c = gives_then (λ (symbols : ℕ). symbols) (λ (list : Vec ℕ Global). list.items) c.in_ok-_symbols._symbols (Ok c.in_ok-list.list) (lost_symbols_given c.args.matrix.now c.args.lost.now) (λ _. Ok (numbers_in c.args.lost.now))
    c.in_ok-_symbols.ensures.given (ap (λ (xs : List ℕ). Ok xs) (sym (c.in_ok-list.ensures ∙ ap lost_numbers c.as_str.ensures.bytes)))

pub returns-clause-low : goal.returns-clause-low
returns-clause-low c =
    subst (λ xs. All (λ number. number < c.args.matrix.now.devices) xs) (sym (c.in_ok-list.ensures ∙ ap lost_numbers c.as_str.ensures.bytes))
    (lost-low c.args.matrix.now c.args.lost.now c.in_ok-_symbols._symbols c.in_ok-_symbols.ensures.given)
