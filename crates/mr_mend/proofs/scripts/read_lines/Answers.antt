use Rattle.std.proofs.Common.{sym, ◌∙◌, eqb-true}
use Rattle.mr_mend.proofs.ScriptLines.{reading-end}
use Rattle.mr_mend.proofs.scripts.read_lines.Goals as goal

pub returns-clause-asks : goal.returns-clause-asks
returns-clause-asks c = reading-end c.args.head.now c.args.bytes.now c.loop-left.asks.items c.loop-left.left.now c.loop-left.invariant (eqb-true _ _ (sym c.is_empty.ensures ∙ c.loop-left-test.false))
