use Rattle.std.proofs.Common.{◌+◌, length, arith}
use Rattle.mr_model.specs.Members.{members}
use Rattle.mr_search.proofs.CrewLaws.{found-idle, found-lost, found-first}
use Rattle.mr_search.proofs.crew.first_key.Goals as goal

pub returns-clause-idle : goal.returns-clause-idle
returns-clause-idle g c =
    let p = c.args.inputs.now.equations.now in
    found-idle p (length (members p.targets) + 1) c.args.most c.args.crew.now c.find_keys.new.crew (omega (arith, c.find_keys.auto.crew)) c.requires.idle c.find_keys.ensures c.in_ok-have_memory.ensures

pub returns-clause-lost : goal.returns-clause-lost
returns-clause-lost g c =
    let p = c.args.inputs.now.equations.now in
    found-lost p (length (members p.targets) + 1) c.args.most c.args.crew.now c.find_keys.new.crew (omega (arith, c.find_keys.auto.crew)) c.requires.idle c.find_keys.ensures c.in_ok-have_memory.ensures

pub returns-clause-first : goal.returns-clause-first
returns-clause-first g c =
    let p = c.args.inputs.now.equations.now in
    found-first p (length (members p.targets) + 1) c.args.most c.args.crew.now c.find_keys.new.crew (omega (arith, c.find_keys.auto.crew)) c.requires.idle c.find_keys.ensures c.in_ok-have_memory.ensures
    c.least_key.result c.least_key.ensures.lower c.least_key.ensures.one
