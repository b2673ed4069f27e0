use Rattle.std.proofs.Common.{◌≡◌}
use Rattle.clap.specs.Words.{app_of}
use Rattle.mr_words.specs.Clap.{new_valued}
use Rattle.mr_words.proofs.RulesAdded.{when_added}
use Rattle.mr_words.proofs.command.add_valued.Given as goal

abbrev pub invariant-loop-name : goal.invariant-loop-name
invariant-loop-name l = when_added new_valued l.names (app_of l.command) l.name-index ≡ when_added new_valued l.names (app_of l.initial.command) 0
