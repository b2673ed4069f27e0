use Rattle.std.proofs.Common.{ap, ◌∙◌}
use Rattle.clap.specs.Simple.{with_rule}
use Rattle.clap.specs.Words.{app_of}
use Rattle.mr_words.specs.Clap.{new_place}
use Rattle.mr_words.proofs.RulesAdded.{one_added}
use Rattle.mr_words.proofs.command.add_places.Goals as goal

pub loop-name-preserved : goal.loop-name-preserved
loop-name-preserved c = one_added new_place c.args.names.now (app_of c.loop-name.command) (app_of c.in_ok-command.command) c.loop-name.name-index _ c.loop-name-test.true
    (c.in_ok-command.ensures.shape c.place.ensures.own ∙ ap (with_rule (app_of c.loop-name.command)) c.place.ensures.rule)
    ∙ c.loop-name.invariant
