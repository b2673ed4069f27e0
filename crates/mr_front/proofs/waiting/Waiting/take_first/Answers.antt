use Rattle.mr_front.proofs.FirstLaws.{first-tidy, first-list}
use Rattle.mr_front.proofs.waiting.Waiting.take_first.Goals as goal

pub invariant_of-self : goal.invariant_of-self
invariant_of-self c = record { tidy = first-tidy c.args.self.now.problem c.args.self.now.lists c.pop_first.new.self c.pop_first.result c.args.self.now.tidy c.pop_first.ensures.updates c.pop_first.ensures.unchanged c.pop_first.ensures.ordered }

pub returns-clause-first : goal.returns-clause-first
returns-clause-first c = first-list c.args.self.now.problem c.args.self.now.lists c.pop_first.result c.args.self.now.tidy c.pop_first.ensures.value c.pop_first.ensures.least
