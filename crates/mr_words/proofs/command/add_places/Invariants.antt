use Rattle.std.proofs.Common.{◌≡◌}
use Rattle.clap.specs.Words.{app_of}
use Rattle.mr_words.specs.Clap.{new_place}
use Rattle.mr_words.proofs.RulesAdded.{when_added}
use Rattle.mr_words.proofs.command.add_places.Given as goal

abbrev pub invariant-loop-name : goal.invariant-loop-name
invariant-loop-name l = when_added new_place l.names (app_of l.command) l.name-index ≡ when_added new_place l.names (app_of l.initial.command) 0
