use Rattle.mr_front.specs.Waiting.{mask_cost}
use Rattle.mr_front.proofs.RowLaws.{empty-list}
use Rattle.mr_front.proofs.row.Row.new.Goals as goal

pub returns-clause-lists : goal.returns-clause-lists
returns-clause-lists c p u h = empty-list c.new.result.map (mask_cost p u) u c.new.ensures h

pub returns-clause-late : goal.returns-clause-late
returns-clause-late c k v h = empty-list c.new-2.result.map k v c.new-2.ensures h
