use Rattle.std.proofs.Common.{rules, arith}
use Rattle.mr_sector.proofs.SectorLaws.{reading-end}
use Rattle.mr_sector.proofs.SectorTexts.{text-read, bad-read}
use Rattle.mr_sector.proofs.sectors.read_sectors.Goals as goal

pub returns-in_err-sector-clause-bad_line : goal.returns-in_err-sector-clause-bad_line
returns-in_err-sector-clause-bad_line c = search rules

pub returns-in_err-sector-clause-refuses : goal.returns-in_err-sector-clause-refuses
returns-in_err-sector-clause-refuses c = λ line is.
    bad-read c.args.head.now c.args.lost c.bytes-within_the_limits.ensures.limits c.args.bytes.now line (returns-in_err-sector-clause-bad_line c line is)

pub returns-clause-text : goal.returns-clause-text
returns-clause-text c =
    reading-end c.args.head.now c.args.lost c.args.bytes.now c.loop-left.left.now c.loop-left.sectors.items c.loop-left.invariant
    (grind (arith, c.is_empty.ensures, c.loop-left-test.false))

pub returns-clause-reads : goal.returns-clause-reads
returns-clause-reads c =
    text-read c.args.head.now c.args.lost c.bytes-within_the_limits.ensures.limits c.args.bytes.now c.loop-left.sectors.items
    (returns-clause-text c) c.loop-left.invariant.are
