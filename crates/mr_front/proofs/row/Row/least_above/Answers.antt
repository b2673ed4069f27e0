use Rattle.mr_front.proofs.row.Row.least_above.Goals as goal

pub returns-clause-lists : goal.returns-clause-lists
returns-clause-lists c k u h more = c.lesser.ensures.first k (c.least_above.ensures.least k u h more)

pub returns-clause-late : goal.returns-clause-late
returns-clause-late c k u h more = c.lesser.ensures.second k (c.least_above-2.ensures.least k u h more)
