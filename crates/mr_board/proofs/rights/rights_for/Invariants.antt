use Rattle.mr_board.specs.Rights.{rights_of}
use Rattle.mr_board.proofs.rights.rights_for.Given as goal

abbrev pub ghost-named : goal.ghost-named
ghost-named g a =
    rights_of a.about.now.1 a.about.now.2.value (g.E.Eye.sight a.about.now.0.value).bytes
