use Rattle.mr_drill.specs.Words.{after_words}
use Rattle.mr_drill.proofs.asks.draw_ask.Goals as goal

pub returns-clause-ask : goal.returns-clause-ask
unfolding after_words
returns-clause-ask c = cc

pub returns-clause-last : goal.returns-clause-last
unfolding after_words
returns-clause-last c = cc
