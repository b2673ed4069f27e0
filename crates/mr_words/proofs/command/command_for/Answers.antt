use Rattle.std.proofs.Common.{ap, ◌∙◌, ◌≡◌, map, true}
use Rattle.std.proofs.lemmas.Result.{IfOk-weaker}
use Rattle.clap.specs.Words.{app_of}
use Rattle.clap.specs.Simple.{App, app_of_fields}
use Rattle.mr_words.specs.Clap.{new_flag, new_valued, with_rules}
use Rattle.mr_words.proofs.RulesAdded.{bare_app, command_is}
use Rattle.mr_words.proofs.command.command_for.Goals as goal

pub returns : goal.returns
returns c =
    let bare_is : app_of c.disable_help_flag-bare.result ≡ bare_app c.args.title.now = ap app_of_fields c.disable_help_flag-bare.ensures
    ∙ ap (λ (a : App). record a { top = record a.top { disable_help_flag = true } }) c.new.ensures.app in
    IfOk-weaker c.add_flags.result _ _ (λ command is. is
    ∙ ap (λ a. with_rules a (map (λ name. new_flag name.now) c.args.flags.now)) (c.in_ok-with_valued.ensures
    ∙ ap (λ a. with_rules a (map (λ name. new_valued name.now) c.args.valued.now)) c.in_ok-with_places.ensures)
    ∙ command_is c.args.title.now (app_of c.disable_help_flag-bare.result) c.args.places.now c.args.valued.now c.args.flags.now bare_is) c.add_flags.ensures
